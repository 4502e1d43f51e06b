use Rattle.saa_core.proofs.WakesLemmas.{pending_after-there, pending_after-kept}
use Rattle.saa_core.proofs.line.laws.wakes.Goals as goal

pub returns-clause-answered : goal.returns-clause-answered
returns-clause-answered c = λ waiters pending_wakes slot. pending_after-there waiters slot pending_wakes

pub returns-clause-kept : goal.returns-clause-kept
returns-clause-kept c = λ waiters pending_wakes slot. pending_after-kept waiters slot pending_wakes

use Rattle.saa_core.proofs.TicketLemmas.Waking.{wakes-same, wakes-all}
use Rattle.saa_core.proofs.barrier.BarrierCore.resize.Goals as goal

pub returns-then-not-is_complete-clause-wakes : goal.returns-then-not-is_complete-clause-wakes
returns-then-not-is_complete-clause-wakes c = rw (← c.self.view_is) (wakes-same c.self.inside.line c.self.invariant.sound)

pub returns-clause-wakes : goal.returns-clause-wakes
returns-clause-wakes c = rw (c.answer_all.ensures.answered, ← c.self.view_is) (wakes-all _ c.self.inside.line c.self.invariant.sound)

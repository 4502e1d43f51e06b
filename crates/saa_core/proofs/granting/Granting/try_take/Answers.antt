use Rattle.saa_core.proofs.TicketLemmas.Waking.{wakes-same}
use Rattle.saa_core.proofs.granting.Granting.try_take.Goals as goal

pub returns-then-not-takes_now-clause-wakes : goal.returns-then-not-takes_now-clause-wakes
returns-then-not-takes_now-clause-wakes g c = rw (← c.self.view_is) (wakes-same c.self.inside.line c.self.invariant.sound)

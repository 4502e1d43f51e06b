use Rattle.saa_core.proofs.TicketLemmas.Waking.{wakes-same}
use Rattle.saa_core.proofs.barrier.BarrierCorePrimitive.call.Goals as goal

pub returns-in-Count-clause-wakes : goal.returns-in-Count-clause-wakes
returns-in-Count-clause-wakes c = rw (← c.self.view_is) (wakes-same c.self.inside.line c.self.invariant.sound)

pub returns-in-Round-clause-wakes : goal.returns-in-Round-clause-wakes
returns-in-Round-clause-wakes c = rw (← c.self.view_is) (wakes-same c.self.inside.line c.self.invariant.sound)

use Rattle.saa_core.proofs.TicketLemmas.Waking.{wakes-same}
use Rattle.saa_core.proofs.gate.GateCorePrimitive.call.Goals as goal

pub returns-in-State-clause-wakes : goal.returns-in-State-clause-wakes
returns-in-State-clause-wakes c = rw (← c.self.view_is) (wakes-same c.self.inside.line c.self.invariant.sound)

use Rattle.saa_core.proofs.TicketLemmas.Waking.{wakes-same}
use Rattle.saa_core.proofs.gate.GateCore.reset.Goals as goal

pub returns-in-Controlled-clause-wakes : goal.returns-in-Controlled-clause-wakes
returns-in-Controlled-clause-wakes c = rw (← c.self.view_is) (wakes-same c.self.inside.line c.self.invariant.sound)

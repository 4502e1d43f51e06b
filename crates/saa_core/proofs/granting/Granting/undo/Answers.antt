use Rattle.saa_core.proofs.TicketLemmas.Waking.{wakes-same}
use Rattle.saa_core.proofs.granting.Granting.undo.Goals as goal

pub returns-then-value-ne0-clause-wakes : goal.returns-then-value-ne0-clause-wakes
returns-then-value-ne0-clause-wakes g c = rw (← c.self.view_is) (wakes-same c.self.inside.line c.self.invariant.sound)

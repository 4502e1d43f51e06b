use Rattle.saa_core.proofs.TicketLemmas.Waking.{wakes-all}
use Rattle.saa_core.proofs.granting.Granting.answer_all.Goals as goal

pub returns-clause-wakes : goal.returns-clause-wakes
returns-clause-wakes g c = rw (c.answer_all.ensures.answered, ← c.self.view_is) (wakes-all c.args.value c.self.inside.line c.self.invariant.sound)

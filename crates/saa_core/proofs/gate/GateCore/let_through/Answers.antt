use Rattle.saa_core.proofs.GatheringLemmas.Entering.{let_through_calls}
use Rattle.saa_core.proofs.gate.GateCore.let_through.Goals as goal

pub returns-in-Controlled-clause-calls : goal.returns-in-Controlled-clause-calls
returns-in-Controlled-clause-calls c =
    rw (c.answer_all.ensures.count, c.answer_all.ensures.answered, ← c.self.view_is, c.in-Controlled.is) (let_through_calls c.args.value c.self.inside.line c.self.invariant.sound)

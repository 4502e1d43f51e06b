use Rattle.saa_core.proofs.GatheringLemmas.Entering.{let_front_through_calls}
use Rattle.saa_core.proofs.gate.GateCore.permit_many.Goals as goal

pub returns-in-Controlled-clause-calls : goal.returns-in-Controlled-clause-calls
returns-in-Controlled-clause-calls c =
    rw (c.permit_front.ensures.permitted, c.permit_front.ensures.count, ← c.self.view_is, c.in-Controlled.is) (let_front_through_calls c.args.n c.self.inside.line c.self.invariant.sound)

use Rattle.std.proofs.Common.{◌≡◌, ap, ◌∙◌}
use Rattle.saa_core.specs.Slots.{all_slots_answered}
use Rattle.saa_core.specs.Tickets.{Core}
use Rattle.saa_core.proofs.GatheringLemmas.Entering.{moved_calls}
use Rattle.saa_core.proofs.gate.GateCore.move_to.Goals as goal

pub returns-clause-calls : goal.returns-clause-calls
returns-clause-calls c =
    let line : c.self-2.inside.line ≡ all_slots_answered c.args.value c.args.self.now.slots = ap (λ (k : Core). k.slots) (c.self-2.view_is ∙ c.answer_all-answered.ensures.answered) in
    rw (line, c.answer_all-answered.ensures.count, ← c.self.view_is) (moved_calls c.self.inside.state c.args.state c.args.value c.self.inside.line c.self.invariant.sound)

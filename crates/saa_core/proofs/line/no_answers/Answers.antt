-- One more slot has no answer.
use Rattle.std.proofs.Common.{◌≡◌, ◌++◌, ◌∷◌, [], None, Option, ℕ, length, ap, ◌∙◌, arith}
use Rattle.std.proofs.lemmas.List.{length-replicate}
use Rattle.saa_core.proofs.WakesLemmas.{replicate-pushed}
use Rattle.saa_core.proofs.line.no_answers.Goals as goal

pub push_reserved-requires : goal.push_reserved-requires
push_reserved-requires c =
    let unanswered : Option ℕ = None in
    let size : length c.loop-slot.answers.items ≡ c.loop-slot._slot = ap length c.loop-slot.invariant.answers ∙ length-replicate c.loop-slot._slot unanswered in
    omega (arith, c.loop-slot.invariant.capacity)

pub loop-slot-preserved : goal.loop-slot-preserved
loop-slot-preserved c = record {
  answers = replicate-pushed _ _ c.loop-slot._slot None c.loop-slot.invariant.answers (c.push_reserved.ensures.items ∙ ap (λ (answer : Option ℕ). c.loop-slot.answers.items ++ answer ∷ []) c.new.ensures);
  capacity = c.push_reserved.ensures.capacity ∙ c.loop-slot.invariant.capacity;
}

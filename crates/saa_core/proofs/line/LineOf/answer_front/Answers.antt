-- The oldest of what is left is answered, and the rest stays to be answered.
use Rattle.std.proofs.Common.{◌≡◌, ℕ, suc, ◌-◌, ◌+◌, take, drop, ap, ◌∙◌, arith}
use Rattle.saa_core.specs.Slots.{answered_slots, pending_after}
use Rattle.saa_core.proofs.LineLemmas.{answered-step}
use Rattle.saa_core.proofs.line.LineOf.answer_front.Goals as goal

pub loop-turn-preserved : goal.loop-turn-preserved
loop-turn-preserved g c =
    let was = c.loop-turn.self in
    let left = c.args.k - (c.loop-turn._turn + 1) in
    let more : suc left ≡ c.args.k - c.loop-turn._turn = omega arith in
    let step = answered-step c.args.value left was.line was.answers was.pending_wakes (omega (arith, more, c.loop-turn.invariant.enough)) in
    rw c.answer_oldest.ensures (record {
      enough = step.0;
      rest = step.1 ∙ ap (λ (n : ℕ). drop n was.line) more ∙ c.loop-turn.invariant.rest;
      answers = step.2 ∙ ap (λ (n : ℕ). answered_slots c.args.value (take n was.line) was.answers) more ∙ c.loop-turn.invariant.answers;
      pending_wakes = step.3 ∙ ap (λ (n : ℕ). pending_after (take n was.line) was.pending_wakes) more ∙ c.loop-turn.invariant.pending_wakes;
    })

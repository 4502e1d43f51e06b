-- In the end all of the room is free, with no answer and no mark.
use Rattle.std.proofs.Common.{None, Option, ℕ, length, ap, ◌≡◌, ◌∙◌, arith}
use Rattle.std.proofs.lemmas.List.{length-replicate}
use Rattle.saa_core_words.specs.Links.{Waiters}
use Rattle.saa_core.specs.LineParts.{PendingWakes}
use Rattle.saa_core.proofs.WakesLemmas.{ArePending-none}
use Rattle.saa_core.proofs.LineLemmas.{IsLine-made, IsSound-from_line}
use Rattle.saa_core.proofs.line.LineOf.with_room.Goals as goal

pub invariant_of-result : goal.invariant_of-result
invariant_of-result g c =
    let room = c.args.room in
    let unanswered : Option ℕ = None in
    let size : length c.in_ok-answers.answers.items ≡ room = ap length c.in_ok-answers.ensures.made ∙ length-replicate room unanswered in
    let wakes : c.in_ok-wakes.wakes.room ≡ room = ap (λ (w : PendingWakes). w.room) c.in_ok-wakes.ensures.made in
    record {
      agrees = rw (c.in_ok-order.ensures.made, c.in_ok-answers.ensures.made, c.in_ok-waiting.ensures.made) (IsLine-made room _ (omega arith) c.in_ok-free.ensures.each c.in_ok-free.ensures.total);
      order_room = omega (arith, size, ap (λ (w : Waiters). w.room) c.in_ok-order.ensures.made);
      free_reserved = omega (arith, size, c.in_ok-free.ensures.reserved);
      wakes_room = omega (arith, size, wakes);
      pending_wakes = rw c.in_ok-wakes.ensures.made (ArePending-none _);
    }

pub returns-clause-made : goal.returns-clause-made
returns-clause-made g c = rw (c.in_ok-order.ensures.made, c.in_ok-answers.ensures.made, c.in_ok-wakes.ensures.made)

pub returns-clause-sound : goal.returns-clause-sound
returns-clause-sound g c =
    let room = c.args.room in
    rw (c.in_ok-order.ensures.made, c.in_ok-answers.ensures.made, c.in_ok-wakes.ensures.made) (IsSound-from_line _ _ _ _ _ (IsLine-made room _ (omega arith) c.in_ok-free.ensures.each c.in_ok-free.ensures.total) (ArePending-none _))

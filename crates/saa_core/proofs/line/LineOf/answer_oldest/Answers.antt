-- The oldest leaves the line as its answer is written; its wake is within the room.
use Rattle.std.proofs.Common.{◌≡◌, Some, Option, ℕ, length, ap, ◌∙◌, arith}
use Rattle.std.proofs.lemmas.List.{length-set}
use Rattle.saa_core_words.specs.Links.{Waiters}
use Rattle.saa_core.specs.LineParts.{PendingWakes}
use Rattle.saa_core.proofs.WakesLemmas.{ArePending-owing}
use Rattle.saa_core.proofs.LineLemmas.{line-front, IsLine-answered, IsLine-oldest}
use Rattle.saa_core.proofs.line.LineOf.answer_oldest.Goals as goal

pub index_mut-requires : goal.index_mut-requires
index_mut-requires g c =
    let within = IsLine-oldest _ _ _ _ _ _ _ (line-front _ _ c.in-Some.ensures.oldest) c.self.invariant.agrees in
    omega (arith, within, c.from.ensures, c.self.invariant.agrees.marks)

pub invariant_of-self-2 : goal.invariant_of-self-2
invariant_of-self-2 g c =
    let answer : Option ℕ = Some c.args.value in
    let size : length c.give.new.answers.items ≡ length c.self.inside.answers.items =
    ap length c.give.ensures.given ∙ length-set c.self.inside.answers.items c.in-Some.slot answer in
    let room : c.give.new.wakes.room ≡ c.self.inside.wakes.room = ap (λ (w : PendingWakes). w.room) c.give.ensures.pending_wakes in
    record {
      agrees = rw (c.pop.ensures.left, c.give.ensures.given, c.from.ensures) (IsLine-answered _ _ _ _ _ _ _ _ (line-front _ _ c.in-Some.ensures.oldest) c.self.invariant.agrees);
      order_room = omega (arith, size, ap (λ (w : Waiters). w.room) c.pop.ensures.left, c.self.invariant.order_room);
      free_reserved = omega (arith, size, c.self.invariant.free_reserved);
      wakes_room = omega (arith, size, room, c.self.invariant.wakes_room);
      pending_wakes = rw (size, c.give.ensures.pending_wakes) (ArePending-owing _ _ _ (IsLine-oldest _ _ _ _ _ _ _ (line-front _ _ c.in-Some.ensures.oldest) c.self.invariant.agrees) c.self.invariant.pending_wakes);
    }

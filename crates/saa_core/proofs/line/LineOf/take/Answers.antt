-- The slot has an answer, so it isn't free, and the free slots leave a place in what is reserved.
use Rattle.std.proofs.Common.{◌≡◌, ℕ, Option, None, Some, length, slice_set, sym, ap, ◌∙◌, arith}
use Rattle.std.proofs.lemmas.List.{length-set}
use Rattle.saa_core.specs.LineParts.{ArePending}
use Rattle.saa_core.specs.Slots.{Slots, answer_in}
use Rattle.saa_core.proofs.LineLemmas.{IsLine-taken, IsLine-not_free, IsSound-from_line}
use Rattle.saa_core.proofs.line.LineOf.take.Goals as goal

pub push_reserved-requires : goal.push_reserved-requires
push_reserved-requires g c =
    let there : answer_in c.self.inside.answers.items c.args.slot ≡ Some c.in_ok-value.value =
    ap (λ (s : Slots). answer_in s.answers c.args.slot) c.self.view_is ∙ sym c.in_ok-value.ensures.answer in
    let fewer = IsLine-not_free _ _ _ _ _ _ there c.self.invariant.agrees in
    omega (arith, fewer, c.self.invariant.free_reserved)

pub invariant_of-self : goal.invariant_of-self
invariant_of-self g c =
    let there : answer_in c.self.inside.answers.items c.args.slot ≡ Some c.in_ok-value.value =
    ap (λ (s : Slots). answer_in s.answers c.args.slot) c.self.view_is ∙ sym c.in_ok-value.ensures.answer in
    let size = length-set c.self.inside.answers.items c.from.result c.new.result in
    record {
      agrees = rw (c.from.ensures, c.new.ensures, c.push_reserved.ensures.items) (IsLine-taken _ _ _ _ _ _ there c.self.invariant.agrees);
      order_room = omega (arith, size, c.self.invariant.order_room);
      free_reserved = omega (arith, size, c.push_reserved.ensures.capacity, c.self.invariant.free_reserved);
      wakes_room = omega (arith, size, c.self.invariant.wakes_room);
      pending_wakes = rw size c.self.invariant.pending_wakes;
    }

pub returns-clause-sound : goal.returns-clause-sound
returns-clause-sound g c =
    let none : Option ℕ = None in
    let there : answer_in c.self.inside.answers.items c.args.slot ≡ Some c.in_ok-value.value =
    ap (λ (s : Slots). answer_in s.answers c.args.slot) c.self.view_is ∙ sym c.in_ok-value.ensures.answer in
    let pending_wakes : ArePending c.self.inside.wakes.slots (length (slice_set c.self.inside.answers.items c.args.slot none)) =
    rw (length-set c.self.inside.answers.items c.args.slot none) c.self.invariant.pending_wakes in
    rw (c.from.ensures, c.new.ensures) (IsSound-from_line _ _ _ _ _ (IsLine-taken _ _ _ _ _ _ there c.self.invariant.agrees) pending_wakes)

pub returns-clause-taken : goal.returns-clause-taken
returns-clause-taken g c = rw (c.from.ensures, c.new.ensures, ← c.self.view_is)

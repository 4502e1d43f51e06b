-- The slot is the last free one: it isn't held, and joining moves it from the free slots into the line.
use Rattle.std.proofs.Common.{ap, ◌∙◌, arith}
use Rattle.saa_core_words.specs.Links.{Waiters}
use Rattle.saa_core.proofs.LineLemmas.{IsLine-free, IsLine-joined, IsSound-from_line}
use Rattle.saa_core.proofs.line.LineOf.join.Goals as goal

pub index_mut-requires : goal.index_mut-requires
index_mut-requires g c =
    let free = IsLine-free _ _ _ _ _ _ c.in_ok-slot.ensures.items c.self.invariant.agrees in
    omega (arith, free.1, c.from.ensures, c.self.invariant.agrees.marks)

pub invariant_of-self-2 : goal.invariant_of-self-2
invariant_of-self-2 g c = record {
  agrees =
      rw (c.push.ensures, c.from.ensures)
      (IsLine-joined _ _ _ _ _ _ _ c.in_ok-slot.ensures.items c.self.invariant.agrees);
  order_room = ap (λ (w : Waiters). w.room) c.push.ensures ∙ c.self.invariant.order_room;
  free_reserved = omega (arith, c.pop.ensures.capacity, c.self.invariant.free_reserved);
  wakes_room = c.self.invariant.wakes_room;
  pending_wakes = c.self.invariant.pending_wakes;
}

pub returns-clause-was_free : goal.returns-clause-was_free
returns-clause-was_free g c =
    rw (← c.self.view_is)
    (IsLine-free _ _ _ _ _ _ c.in_ok-slot.ensures.items c.self.invariant.agrees).0

pub returns-clause-within : goal.returns-clause-within
returns-clause-within g c =
    rw (← c.self.view_is)
    (IsLine-free _ _ _ _ _ _ c.in_ok-slot.ensures.items c.self.invariant.agrees).1

pub returns-clause-sound : goal.returns-clause-sound
returns-clause-sound g c =
    rw c.push.ensures
    (IsSound-from_line _ _ _ _ _ (IsLine-joined _ _ _ _ _ _ _ c.in_ok-slot.ensures.items c.self.invariant.agrees) c.self.invariant.pending_wakes)

pub push-requires-clause-within : goal.push-requires-clause-within
push-requires-clause-within g c =
    let free = IsLine-free _ _ _ _ _ _ c.in_ok-slot.ensures.items c.self.invariant.agrees in
    omega (arith, free.1, c.self.invariant.order_room)

pub push-requires-clause-absent : goal.push-requires-clause-absent
push-requires-clause-absent g c =
    let free = IsLine-free _ _ _ _ _ _ c.in_ok-slot.ensures.items c.self.invariant.agrees in
    omega (arith, free.0)

-- The slot that leaves the list was marked, so it is within the marks; its mark goes with it.
use Rattle.std.proofs.Common.{◌≡◌, false, length, arith, ap}
use Rattle.std.proofs.lemmas.List.{length-set}
use Rattle.saa_core.specs.LineParts.{PendingWakes}
use Rattle.saa_core.proofs.WakesLemmas.{IsListed-within, IsListed-pop}
use Rattle.saa_core.proofs.line.wakes.Wakes.next.Goals as goal

pub index_mut-requires : goal.index_mut-requires
index_mut-requires c =
    omega (arith, IsListed-within _ _ _ _ c.in_ok-slot.ensures.items c.self.invariant.agrees, c.from.ensures)

pub invariant_of-self-2 : goal.invariant_of-self-2
invariant_of-self-2 c = record {
  agrees = rw c.from.ensures (IsListed-pop _ _ _ _ c.in_ok-slot.ensures.items c.self.invariant.agrees);
  reserved =
      omega (arith, length-set c.self.inside.listed.items c.from.result false, c.self.invariant.reserved, c.pop_front.ensures.capacity);
}

pub returns-clause-within : goal.returns-clause-within
returns-clause-within c =
    let room : length c.self.inside.listed.items ≡ c.args.self.now.room = ap (λ (w : PendingWakes). w.room) c.self.view_is in
    omega (arith, IsListed-within _ _ _ _ c.in_ok-slot.ensures.items c.self.invariant.agrees, room)

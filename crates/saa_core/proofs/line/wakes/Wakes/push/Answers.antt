-- A slot that isn't marked leaves a place in what is reserved; it is listed with its mark.
use Rattle.std.proofs.Common.{◌≡◌, true, false, get_or, length, arith, ap}
use Rattle.std.proofs.lemmas.List.{length-set}
use Rattle.saa_core.specs.LineParts.{PendingWakes}
use Rattle.saa_core.proofs.WakesLemmas.{IsListed-push, mark_count-below}
use Rattle.saa_core.proofs.line.wakes.Wakes.push.Goals as goal

pub push_back_reserved-requires : goal.push_back_reserved-requires
push_back_reserved-requires c =
    let listed = c.self.inside.listed.items in
    let room : length listed ≡ c.args.self.now.room = ap (λ (w : PendingWakes). w.room) c.self.view_is in
    let unset : get_or listed c.args.slot false ≡ false = cc in
    omega (arith, room, mark_count-below listed c.args.slot (omega (arith, room)) unset, c.self.invariant.agrees.total, c.self.invariant.reserved)

pub invariant_of-self : goal.invariant_of-self
invariant_of-self c =
    let listed = c.self.inside.listed.items in
    let room : length listed ≡ c.args.self.now.room = ap (λ (w : PendingWakes). w.room) c.self.view_is in
    let unset : get_or listed c.args.slot false ≡ false = cc in
    record {
      agrees =
          rw (c.push_back_reserved.ensures.items, c.from-place.ensures)
          (IsListed-push _ _ _ (omega (arith, room)) unset c.self.invariant.agrees);
      reserved =
          omega (arith, length-set listed c.from-place.result true, c.self.invariant.reserved, c.push_back_reserved.ensures.capacity);
    }

-- There are as many marks as slots, none of which is set.
use Rattle.std.proofs.Common.{◌≡◌, [], false, length, arith, ap, ◌∙◌}
use Rattle.std.proofs.lemmas.List.{length-replicate}
use Rattle.saa_core.proofs.WakesLemmas.{IsListed-none}
use Rattle.saa_core.proofs.line.wakes.Wakes.with_room.Goals as goal

pub invariant_of-result : goal.invariant_of-result
invariant_of-result c =
    let marks : length c.in_ok-listed.listed.items ≡ c.args.room = ap length c.in_ok-listed.ensures.made ∙ length-replicate c.args.room false in
    record {
      agrees = rw c.in_ok-order.ensures.items (IsListed-none _ _ c.in_ok-listed.ensures.made);
      reserved = omega (arith, marks, c.in_ok-order.ensures.exact, c.from.ensures);
    }

pub returns-clause-made : goal.returns-clause-made
returns-clause-made c =
    let marks : length c.in_ok-listed.listed.items ≡ c.args.room = ap length c.in_ok-listed.ensures.made ∙ length-replicate c.args.room false in
    let none : c.in_ok-order.order.items ≡ [] = c.in_ok-order.ensures.items in
    cc

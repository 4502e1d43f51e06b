-- The slot stands once in the line, so the first place where it is found is the only one.
use Rattle.std.proofs.Common.{◌≡◌, ◌<◌, List, length, refl, ap, ◌∙◌, arith}
use Rattle.std.specs.Bool.{⊤}
use Rattle.std.specs.List.{remove}
use Rattle.std.proofs.lemmas.Option.{MatchOption-at_some, slice_get_read}
use Rattle.saa_core_spec.specs.Object.{Waiter, times, without}
use Rattle.saa_core.proofs.LineLemmas.{remove-without, times-more}
use Rattle.saa_core.proofs.line.order.remove_slot.Goals as goal

pub returns-then-index-slot-clause-removed : goal.returns-then-index-slot-clause-removed
returns-then-index-slot-clause-removed c =
    let line : List Waiter = c.loop-place.waiters.items in
    let place = c.loop-place.place in
    let size : length line ≡ length c.args.waiters.now.items = ap length c.loop-place.invariant.unchanged in
    let within : place < length line = omega (arith, size) in
    let once : times c.args.slot line ≡ 1 = ap (times c.args.slot) c.loop-place.invariant.unchanged ∙ c.requires in
    let at_place = slice_get_read line (length line) place c.index.result.now refl within c.index.ensures in
    let items : c.remove-waiter.new.self.items ≡ remove line place =
    MatchOption-at_some ⊤ (λ (w : Waiter). c.remove-waiter.new.self.items ≡ remove line place) _ (c.remove-waiter.ensures.succeeds c.index.result.now (omega arith)) c.remove-waiter.ensures.items in
    items ∙ remove-without c.args.slot line place c.index.result.now at_place c.if-index-slot.true once ∙ ap (without c.args.slot) c.loop-place.invariant.unchanged

pub loop-place-preserved : goal.loop-place-preserved
loop-place-preserved c =
    let line : List Waiter = c.loop-place.waiters.items in
    let place = c.loop-place.place in
    let size : length line ≡ length c.args.waiters.now.items = ap length c.loop-place.invariant.unchanged in
    let within : place < length line = omega (arith, size) in
    record {
      unchanged = c.loop-place.invariant.unchanged;
      reserved = c.loop-place.invariant.reserved;
      passed = times-more c.args.slot line place c.index.result.now within c.index.ensures c.if-index-slot.false c.loop-place.invariant.passed;
    }

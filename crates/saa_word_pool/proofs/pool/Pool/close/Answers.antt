use Rattle.std.proofs.Common.{◌≡◌, ℕ, ◌+◌, ◌<◌, ◌≤◌, true, ◌++◌, ◌∷◌, [], Bool, false, List, Some, ap, get_or, rules, subst, sym, ◌∙◌}
use Rattle.std.proofs.Math.ListN.{set}
use Rattle.std.specs.Prelude.{All}
use Rattle.std.specs.Slots.{slots_filled, slots_items}
use Rattle.std.proofs.lemmas.List.Elements.{All-push}
use mathlib.Core.Option.{some}
use lib.ListN.{get_elem?}
use Rattle.saa_word_pool.proofs.Ending.{emptied-below, full-above, rest-belongs}
use Rattle.saa_word_pool.proofs.Totals.{found-within}
use Rattle.saa_word_pool.proofs.pool.Pool.close.Goals as goal
use Rattle.saa_word_pool.proofs.pool.Pool.close.Goals.{in-Some, in_default}

pub loop-index-preserved : goal.loop-index-preserved
loop-index-preserved g c =
    let filled : ◌≡◌ {A = List Bool} (slots_filled c.take_rest.new.closed.slots) (set (slots_filled c.loop-index.closed.slots) c.loop-index.index false) =
    search rules in
    let below : (k : ℕ) → k < c.loop-index.index + 1 → get_or (slots_filled c.take_rest.new.closed.slots) k false ≡ false = λ k under. ap (λ (l : List Bool). get_or l k false) filled
    ∙ emptied-below (slots_filled c.loop-index.closed.slots) c.loop-index.index c.loop-index.invariant.3 k under in
    let above : (k : ℕ) → c.loop-index.index + 1 ≤ k → k < c.args.self.places → get_or (slots_filled c.take_rest.new.closed.slots) k false ≡ true = λ k over within. ap (λ (l : List Bool). get_or l k false) filled
    ∙ full-above (slots_filled c.loop-index.closed.slots) c.loop-index.index c.args.self.places c.loop-index.invariant.4 k over within in
    elim c.match-take_rest.branch [
      | in-Some w ↦
          (let same : ◌≡◌ {A = List g.row.T.Denot} c.match-take_rest.values.items (c.loop-index.values.items ++ w.in-Some.value ∷ []) = search rules in
          let one : get_elem? (slots_items c.close-closed.result.words) c.loop-index.index ≡ some 1 = search rules in
          let inside : get_elem? (slots_items c.close-closed.result.slots) c.loop-index.index ≡ some (Some w.in-Some.value) = search rules in (
            search rules,
            search rules,
            search rules,
            below,
            above,
            subst (All (g.P.PoolRule.belongs c.args.self.table.shared.key)) (sym {A = List g.row.T.Denot} same)
                (All-push (g.P.PoolRule.belongs c.args.self.table.shared.key) c.loop-index.values.items w.in-Some.value c.loop-index.invariant.5
                (rest-belongs (g.P.PoolRule.belongs c.args.self.table.shared.key) (slots_items c.close-closed.result.words)
                (slots_items c.close-closed.result.slots) c.close-closed.ensures.values.2 c.loop-index.index
                (found-within (slots_items c.close-closed.result.slots) c.loop-index.index (Some w.in-Some.value) inside) w.in-Some.value one inside)),
            search rules,
            search rules,
          ))
      | in_default w ↦ (search rules, search rules, search rules, below, above, search rules, search rules, search rules)
    ]

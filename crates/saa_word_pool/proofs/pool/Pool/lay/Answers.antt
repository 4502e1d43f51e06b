use Rattle.std.proofs.Common.{List, Option, Some, rules, subst, sym, refl}
use Rattle.std.specs.Prelude.{All, IfSome}
use Rattle.std.proofs.lemmas.List.Elements.{All-pop, All-push}
use Rattle.saa_word_pool.specs.Kept.{IsRest}
use Rattle.saa_word_pool.proofs.pool.Pool.lay.Goals as goal

pub loop-value-preserved : goal.loop-value-preserved
loop-value-preserved g c =
    let split = All-pop (g.P.PoolRule.belongs c.args.about.now) c.loop-value.values.items c.pop.new.self.items c.pop.result c.pop.ensures.items
    c.loop-value.invariant.3 in
    let fits : g.P.PoolRule.belongs c.args.about.now c.in-Some.value =
    subst (λ (r : Option g.row.T.Denot). IfSome r (g.P.PoolRule.belongs c.args.about.now)) c.in-Some.is split.1 in (
      search rules,
      search rules,
      subst (λ (l : List (Option g.row.T.Denot)). All (IsRest (g.P.PoolRule.belongs c.args.about.now)) l) (sym {A = List (Option g.row.T.Denot)} c.push_reserved.ensures.items)
          (All-push (IsRest (g.P.PoolRule.belongs c.args.about.now)) c.loop-value.slots.items (Some c.in-Some.value) c.loop-value.invariant.2
          (c.in-Some.value, refl, fits)),
      split.0,
    )

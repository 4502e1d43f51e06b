use Rattle.std.proofs.Common.{rules, arith, ◌≡◌, List, length, subst, sym}
use Rattle.saa_word_threads.specs.declared.place.Place.{Place}
use Rattle.saa_word_threads.specs.Dealt.{AreNew, IsNew}
use Rattle.saa_word_threads.proofs.Opening.{new-more}
use Rattle.saa_word_threads.proofs.form.Form.deal.Goals as goal

pub loop-number-preserved : goal.loop-number-preserved
loop-number-preserved c = record {
  table = search rules;
  dealer = search rules;
  count = search rules;
  dealt =
      let long : c.loop-number.number ≡ length c.loop-number.dealt.items = search rules in
      subst (λ (l : List Place). AreNew c.args.self.now.table.shared.table_id 0 l) (sym c.push_reserved.ensures.items)
      (new-more c.args.self.now.table.shared.table_id 0 c.loop-number.dealt.items c.deal_one-place.result c.loop-number.invariant.dealt
      (subst (λ n. IsNew c.args.self.now.table.shared.table_id n c.deal_one-place.result) (omega arith) c.deal_one-place.ensures.dealt));
  room = search rules;
}

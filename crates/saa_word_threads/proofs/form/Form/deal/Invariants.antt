use Rattle.std.proofs.Common.{◌≡◌, ◌≤◌, vec_capacity, vec_len}
use Rattle.saa_word_threads.specs.Kept.{dealer}
use Rattle.saa_word_threads.specs.Dealt.{AreNew}
use Rattle.saa_word_threads.proofs.form.Form.deal.Given as goal

abbrev pub invariant-loop-number : goal.invariant-loop-number
invariant-loop-number l = record {
  table : l.seat.table_id ≡ l.self.table.shared.table_id;
  dealer : l.seat.me.0 ≡ dealer l.number;
  count : vec_len l.dealt ≡ l.number;
  dealt : AreNew l.self.table.shared.table_id 0 l.dealt.items;
  room : l.self.places ≤ vec_capacity l.dealt;
}

use Rattle.std.proofs.Common.{arith}
use Rattle.saa_word_threads.proofs.Opening.{witnesses}
use Rattle.saa_word_threads.proofs.form.Form.receipt.Goals as goal

pub split_seat-seat-requires : goal.split_seat-seat-requires
split_seat-seat-requires c = (
  c.requires.table,
  (let words = c.args.self.now.words in omega arith),
  witnesses c.args.self.now.table.shared.key c.args.seat.now.id c.args.seat.now.me.0 c.requires.acting,
)

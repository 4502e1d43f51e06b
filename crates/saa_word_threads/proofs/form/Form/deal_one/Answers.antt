use Rattle.std.proofs.Common.{arith}
use Rattle.saa_word_threads.proofs.Opening.{deals}
use Rattle.saa_word_threads.proofs.form.Form.deal_one.Goals as goal

pub split_seat-seat-requires : goal.split_seat-seat-requires
split_seat-seat-requires c = (
  c.requires.table,
  (let words = c.args.self.now.words in omega arith),
  deals c.args.self.now.table.shared.key c.args.number c.args.dealing.now.id c.args.dealing.now.me.0 c.requires.dealer
      (let w = c.requires.within in let k = c.args.self.now.key.1 in omega (arith, k)),
)

use Rattle.std.proofs.Common.{arith}
use Rattle.saa_word_threads.proofs.Receiving.{receives}
use Rattle.saa_word_threads.proofs.form.Form.join_received.Goals as goal

pub join_seat-requires : goal.join_seat-requires
join_seat-requires g c = (
  c.requires.table.0,
  c.requires.table.1,
  c.args.other.receipt.1,
  (let words = c.args.self.now.words in omega arith),
  receives c.args.self.now.table.shared.key c.args.receipt.now.seat.id c.args.other.seat.id c.args.receipt.now.seat.me.0 c.args.other.seat.me.0
      g.M.Received.view c.args.receipt.now.receipt.0 c.args.other.receipt.0 c.requires.received,
)

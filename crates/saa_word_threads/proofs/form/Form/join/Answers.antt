use Rattle.std.proofs.Common.{arith}
use Rattle.saa_word_threads.proofs.Leaving.{joins}
use Rattle.saa_word_threads.proofs.form.Form.join.Goals as goal

pub join_seat-requires : goal.join_seat-requires
join_seat-requires g c = (
  c.requires.table.0,
  c.requires.table.1,
  c.requires.empty,
  (let words = c.args.self.now.words in omega arith),
  joins c.args.self.now.table.shared.key c.args.seat.now.id c.args.other.id c.args.seat.now.me.0 c.args.other.me.0 g.M.Leaver.view c.requires.acting.0
      c.requires.acting.1 c.requires.out c.requires.gone,
)

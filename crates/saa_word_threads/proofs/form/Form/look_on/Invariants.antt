use Rattle.saa_word_threads.specs.Pending.{IsPending, IsSameSeat}
use Rattle.saa_word_threads.proofs.form.Form.look_on.Given as goal

-- each look is of the place's stage
abbrev pub ghosts-seek : goal.ghosts-seek
ghosts-seek g a = record { about = a.self.now.table.shared.key; place = a.place; me = a.pending.now.me }

abbrev pub invariant-loop-turn : goal.invariant-loop-turn
invariant-loop-turn g l = record {
  same : IsSameSeat l.fn.seat l.seat;
  pending : IsPending l.self l.pending l.place l.seat;
}

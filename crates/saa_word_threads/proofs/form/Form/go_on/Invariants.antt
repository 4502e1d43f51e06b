use Rattle.saa_word_threads.specs.Pending.{IsPending, IsSameSeat}
use Rattle.saa_word_threads.proofs.form.Form.go_on.Given as goal

abbrev pub invariant-loop : goal.invariant-loop
invariant-loop g l = record {
  same : IsSameSeat l.fn.seat l.seat;
  pending : IsPending l.self l.pending l.place l.seat;
}

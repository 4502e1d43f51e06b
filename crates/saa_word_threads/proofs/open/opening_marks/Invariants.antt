use Rattle.std.proofs.Common.{◌≡◌, ◌≤◌, vec_capacity, vec_len}
use Rattle.saa_word_threads.proofs.open.opening_marks.Given as goal

abbrev pub invariant-loop-place : goal.invariant-loop-place
invariant-loop-place l = record {
  count : vec_len l.marks ≡ l._place;
  room : l.places ≤ vec_capacity l.marks;
}

use Rattle.std.proofs.Common.{◌≡◌, ◌≤◌, vec_capacity, vec_len}
use Rattle.saa_word_threads.proofs.wakers.Wakers.with_room.Given as goal

abbrev pub invariant-loop-place : goal.invariant-loop-place
invariant-loop-place l = record {
  count : vec_len l.slots ≡ l._place;
  room : l.places ≤ vec_capacity l.slots;
}

use Rattle.std.proofs.Common.{◌≡◌, ◌+◌, ◌≤◌, ◌++◌, vec_len, vec_capacity}
use Rattle.std.specs.Vec.Iter.{into_iter_items, into_iter_len}
use Rattle.saa_word_threads.specs.Locks.{inners}
use Rattle.saa_word_threads.proofs.lock.Place.of_all.Given as goal

abbrev pub invariant-loop-inner : goal.invariant-loop-inner
invariant-loop-inner l = record {
  items : inners l.places.items ++ into_iter_items l.inner-iterator ≡ l.fn.dealt.items;
  count : vec_len l.places + into_iter_len l.inner-iterator ≡ vec_len l.fn.dealt;
  room : vec_len l.fn.dealt ≤ vec_capacity l.places;
}

-- So many words as places so far, within what is reserved.
use Rattle.std.proofs.Common.{◌≡◌, length, vec_capacity}
use Rattle.saa_core_words.proofs.links.Links.with_room.Given as goal

abbrev pub invariant-loop-place : goal.invariant-loop-place
invariant-loop-place g l = record {
  words : length l.words.items ≡ l._place;
  capacity : vec_capacity l.words ≡ l.room;
}

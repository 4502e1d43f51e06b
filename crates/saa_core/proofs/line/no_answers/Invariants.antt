-- So many empty answers as slots so far, within what is reserved.
use Rattle.std.proofs.Common.{◌≡◌, None, replicate, vec_capacity}
use Rattle.saa_core.proofs.line.no_answers.Given as goal

abbrev pub invariant-loop-slot : goal.invariant-loop-slot
invariant-loop-slot l = record {
  answers : l.answers.items ≡ replicate l._slot None;
  capacity : vec_capacity l.answers ≡ l.room;
}

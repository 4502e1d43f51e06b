-- So many unset marks as slots so far, within what is reserved.
use Rattle.std.proofs.Common.{◌≡◌, false, replicate, vec_capacity}
use Rattle.saa_core.proofs.line.no_marks.Given as goal

abbrev pub invariant-loop-slot : goal.invariant-loop-slot
invariant-loop-slot l = record {
  marks : l.marks.items ≡ replicate l._slot false;
  capacity : vec_capacity l.marks ≡ l.room;
}

-- As many parkers as slots so far, within what is reserved.
use Rattle.std.proofs.Common.{◌≡◌, ◌≤◌, length, vec_capacity}
use Rattle.saa_sync.proofs.form.Form.of_core.Given as goal

abbrev pub invariant-loop-slot : goal.invariant-loop-slot
invariant-loop-slot g l = record {
  made : length l.parkers.items ≡ l._slot;
  reserved : l.room ≤ vec_capacity l.parkers;
}

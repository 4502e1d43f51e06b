-- Each slot so far stands once in the list, within what is reserved.
use Rattle.std.proofs.Common.{◌≡◌, ℕ, length, nat_lt, vec_capacity}
use Rattle.saa_core_spec.specs.Object.{one_if}
use Rattle.saa_core.specs.Slots.{count_of}
use Rattle.saa_core.proofs.line.free_slots.Given as goal

abbrev pub invariant-loop-slot : goal.invariant-loop-slot
invariant-loop-slot l = record {
  each : (q : ℕ) → count_of q l.free.items ≡ one_if (nat_lt q l.slot);
  total : length l.free.items ≡ l.slot;
  capacity : vec_capacity l.free ≡ l.room;
}

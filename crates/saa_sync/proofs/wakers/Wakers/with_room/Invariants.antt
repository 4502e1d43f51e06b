-- As many places as slots so far, within what is reserved.
use Rattle.std.proofs.Common.{◌≡◌, ◌≤◌, length, vec_capacity}
use Rattle.saa_sync.proofs.wakers.Wakers.with_room.Given as goal

abbrev pub invariant-loop-slot : goal.invariant-loop-slot
invariant-loop-slot l = record {
  made : length l.places.items ≡ l._slot;
  reserved : l.room ≤ vec_capacity l.places;
}

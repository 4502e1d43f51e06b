-- The slot is not among the waiters that were passed; nothing is changed before it is found.
use Rattle.std.proofs.Common.{◌≡◌, take, deque_capacity}
use Rattle.saa_core_spec.specs.Object.{times}
use Rattle.saa_core.proofs.line.order.remove_slot.Given as goal

abbrev pub invariant-loop-place : goal.invariant-loop-place
invariant-loop-place l = record {
  unchanged : l.waiters.items ≡ l.initial.waiters.items;
  reserved : deque_capacity l.waiters ≡ deque_capacity l.initial.waiters;
  passed : times l.slot (take l.place l.waiters.items) ≡ 0;
}

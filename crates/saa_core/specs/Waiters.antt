-- A ticket that waits, and the line that it leaves.
use Rattle.std.specs.Prelude.{◌<◌}
use Rattle.saa_core_spec.specs.Object.{times, without}
use Rattle.saa_core.specs.Slots.{Slots}
use Rattle.saa_core.specs.declared.ticket.Registration.{Registration}
use Rattle.saa_core.specs.declared.ticket.Registration.TheVariants.{Unregistered, AtOnce, InSlot}

-- the ticket's slot is in the line
abbrev pub IsWaiting : Slots → Registration → Type 0
IsWaiting slots Unregistered = ⊥
IsWaiting slots (AtOnce value request is_sync) = ⊥
IsWaiting slots (InSlot slot request is_sync) = 0 < times slot slots.line

-- the ticket's slot is taken out of the line, and all others stay where they are
abbrev pub left_by : Registration → Slots → Slots
left_by Unregistered slots = slots
left_by (AtOnce value request is_sync) slots = slots
left_by (InSlot slot request is_sync) slots = record slots { line = without slot slots.line }

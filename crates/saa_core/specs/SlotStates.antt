-- What one slot of a line is, as the poll of a ticket finds it, and what a poll takes.
use Rattle.std.specs.Prelude.{◌≡◌, ℕ, ◌<◌, Some, None, slice_set}
use Rattle.saa_core.specs.declared.ticket.Registration.{Registration}
use Rattle.saa_core.specs.declared.ticket.Registration.TheVariants.{Unregistered, AtOnce, InSlot}
use Rattle.saa_core.specs.declared.ticket.SlotState.{SlotState}
use Rattle.saa_core.specs.declared.ticket.SlotState.TheVariants.{Free, Waiting, Answered}
use Rattle.saa_core_spec.specs.Object.{times}
use Rattle.saa_core.specs.Slots.{Slots, answer_in, held_times}

-- it is free, or waits without an answer, or has this answer
abbrev pub IsSlotState : Slots → ℕ → SlotState → Type 0
IsSlotState slots slot Free = held_times slots slot ≡ 0
IsSlotState slots slot Waiting = (0 < times slot slots.line) × (answer_in slots.answers slot ≡ None)
IsSlotState slots slot (Answered value) = answer_in slots.answers slot ≡ Some value

-- A poll that has an answer took this one: what the ticket had with it, or what its slot had, which is free now
abbrev pub IsTakenFrom : Registration → (old new : Slots) → ℕ → Type 0
IsTakenFrom Unregistered old new value = ⊥
IsTakenFrom (AtOnce kept request is_sync) old new value = (value ≡ kept) × (new ≡ old)
IsTakenFrom (InSlot slot request is_sync) old new value =
    (answer_in old.answers slot ≡ Some value) × (new ≡ record old { answers = slice_set old.answers slot None })

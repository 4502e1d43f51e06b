-- What the private steps of a core where tasks gather do to its line. No user must believe this: the public contracts of
-- the gate and the barrier speak of the object, and the proofs show that these are its steps.
use Rattle.std.specs.Prelude.{ℕ, Bool, true, false, Option, Some, None, nat_lt, slice_set}
use Rattle.saa_core_spec.specs.Object.{times, without}
use Rattle.saa_core.specs.Slots.{Slots, answer_in}

-- a line that a slot leaves, by its answer and whether it waits: an answer is only taken; after a waiter left,
-- `close` happens to the others; a slot that isn't held is nothing
abbrev pub vacated_by : (Slots → Slots) → Slots → ℕ → Option ℕ → Bool → Slots
vacated_by close slots slot (Some value) waits = record slots { answers = slice_set slots.answers slot None }
vacated_by close slots slot None true = close (record slots { line = without slot slots.line })
vacated_by close slots slot None false = slots

abbrev pub vacated : (Slots → Slots) → Slots → ℕ → Slots
vacated close slots slot = vacated_by close slots slot (answer_in slots.answers slot) (nat_lt 0 (times slot slots.line))

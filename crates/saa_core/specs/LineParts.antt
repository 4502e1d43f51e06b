-- How a `Line` keeps its slots, and its pending wakes: which of its parts agree.
-- No user must believe this. It is what the code is proved to keep, so that a call finds a free slot where there is
-- one, answers a waiter without a search, and never needs memory for a wake.
use Rattle.std.specs.Prelude.{◌≡◌, ℕ, ◌+◌, ◌<◌, ◌≤◌, Bool, false, List, [], ◌∷◌, length, nat_lt, slice_index_or, Option, is_some}
use Rattle.saa_core_spec.specs.Object.{Waiter, one_if, times}
use Rattle.saa_core.specs.Slots.{answer_in, answer_count, count_of, pending_with}

-- the mark of a slot; past the end there is none
abbrev pub mark_of : List Bool → ℕ → Bool
mark_of marks slot = slice_index_or marks slot false

-- how many slots are marked
abbrev pub mark_count : List Bool → ℕ
mark_count [] = 0
mark_count (mark ∷ marks) = one_if mark + mark_count marks

-- the slots whose wake is pending, oldest first, out of so many slots
pub record PendingWakes : Type 0 where
  pub slots : List ℕ
  pub room : ℕ

-- one more wake is pending
abbrev pub with_pending : ℕ → PendingWakes → PendingWakes
with_pending slot pending_wakes = record pending_wakes { slots = pending_with slot pending_wakes.slots }

-- the marks say which slots are in the list of wakes, each of them once
pub record IsListed (slots : List ℕ) (listed : List Bool) : Type 0 where
  pub each : (slot : ℕ) → count_of slot slots ≡ one_if (mark_of listed slot)
  pub total : length slots ≡ mark_count listed

-- each slot below the room is counted once: it waits, or has an answer, or is free. The marks say which wait
pub record IsLine (line : List Waiter) (answers : List (Option ℕ)) (free : List ℕ) (waiting : List Bool) : Type 0 where
  pub each : (slot : ℕ) → times slot line + one_if (is_some (answer_in answers slot)) + count_of slot free ≡ one_if (nat_lt slot (length answers))
  pub total : length line + answer_count answers + length free ≡ length answers
  pub small : length answers < 65536
  pub marked : (slot : ℕ) → times slot line ≡ one_if (mark_of waiting slot)
  pub marks : length waiting ≡ length answers

-- each wake is pending at most once, and of a slot below the room
pub record ArePending (pending_wakes : List ℕ) (room : ℕ) : Type 0 where
  pub each : (slot : ℕ) → count_of slot pending_wakes ≤ one_if (nat_lt slot room)

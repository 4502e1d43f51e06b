-- What contracts see of a `Line`: the slots that wait, with what each asks, the answers that are there, and the pending
-- wakes.
use Rattle.std.specs.Prelude.{◌≡◌, ℕ, ◌+◌, ◌≤◌, ◌<◌, List, [], ◌∷◌, ◌++◌, length, Option, Some, None, is_some, nat_lt, ◌==◌, if◌then◌else◌, slice_index_or, slice_set, replicate, take, drop}
use Rattle.saa_core_spec.specs.Object.{Waiter, one_if, times}

-- The line, oldest first: a slot and what it asks. The answer of each slot, by its number, where one is there; there are
-- as many slots as there is room. The slots whose wake is pending, oldest first: they were answered, and no wake was handed out yet
pub record Slots : Type 0 where
  pub line : List Waiter
  pub answers : List (Option ℕ)
  pub pending_wakes : List ℕ

-- a line with so many slots, of which none is held
abbrev pub empty_slots : ℕ → Slots
empty_slots room = record { line = []; answers = replicate room None; pending_wakes = [] }

-- how many slots there are
abbrev pub room_of : Slots → ℕ
room_of slots = length slots.answers

-- the answer of a slot, if one is there
abbrev pub answer_in : List (Option ℕ) → ℕ → Option ℕ
answer_in answers slot = slice_index_or answers slot None

-- how many slots have an answer
abbrev pub answer_count : List (Option ℕ) → ℕ
answer_count [] = 0
answer_count (answer ∷ answers) = one_if (is_some answer) + answer_count answers

-- how many slots are held: those that wait, and those whose answer isn't taken yet
abbrev pub held_slots : Slots → ℕ
held_slots slots = length slots.line + answer_count slots.answers

-- how often a slot is held: once where it waits or has an answer, and else not at all
abbrev pub held_times : Slots → ℕ → ℕ
held_times slots slot = times slot slots.line + one_if (is_some (answer_in slots.answers slot))

-- how often a slot is in a list of slots
abbrev pub count_of : ℕ → List ℕ → ℕ
count_of slot [] = 0
count_of slot (first ∷ rest) = one_if (first == slot) + count_of slot rest

-- each slot waits at most once, and doesn't wait where it has an answer; its wake is pending at most once; all are below the
-- room, which fits a u16
pub record IsSound (slots : Slots) : Type 0 where
  pub each : (slot : ℕ) → held_times slots slot ≤ one_if (nat_lt slot (room_of slots))
  pub pending_once : (slot : ℕ) → count_of slot slots.pending_wakes ≤ one_if (nat_lt slot (room_of slots))
  pub small : room_of slots < 65536

-- the answers once these slots are answered with a value
abbrev pub answered_slots : ℕ → List Waiter → List (Option ℕ) → List (Option ℕ)
answered_slots value [] answers = answers
answered_slots value (waiter ∷ waiters) answers =
    answered_slots value waiters (slice_set answers waiter.0 (Some value))

-- a slot's wake is pending from now on: it is last in the list, unless it is there already
abbrev pub pending_with : ℕ → List ℕ → List ℕ
pending_with slot pending_wakes = if nat_lt 0 (count_of slot pending_wakes) then pending_wakes else pending_wakes ++ slot ∷ []

-- the pending wakes once these slots are answered
abbrev pub pending_after : List Waiter → List ℕ → List ℕ
pending_after [] pending_wakes = pending_wakes
pending_after (waiter ∷ waiters) pending_wakes = pending_after waiters (pending_with waiter.0 pending_wakes)

-- the k oldest are answered with a value: they leave the line, hold their slots still, and their wakes are pending
abbrev pub slots_answered : ℕ → ℕ → Slots → Slots
slots_answered value k slots = record {
  line = drop k slots.line;
  answers = answered_slots value (take k slots.line) slots.answers;
  pending_wakes = pending_after (take k slots.line) slots.pending_wakes;
}

-- all waiters are answered with a value
abbrev pub all_slots_answered : ℕ → Slots → Slots
all_slots_answered value slots = record {
  line = [];
  answers = answered_slots value slots.line slots.answers;
  pending_wakes = pending_after slots.line slots.pending_wakes;
}

-- the oldest pending wake was taken out
abbrev pub wake_taken : Slots → Slots
wake_taken slots = record slots { pending_wakes = drop 1 slots.pending_wakes }

-- those of a line who have an answer
abbrev pub answered_of : List Waiter → List (Option ℕ) → List Waiter
answered_of [] answers = []
answered_of (waiter ∷ waiters) answers =
    if is_some (answer_in answers waiter.0) then (waiter ∷ answered_of waiters answers) else answered_of waiters answers

-- What a call does to the pending wakes: a waiter before it that has an answer after it has one pending, in the
-- order of the line and after those that were pending before; no other wake comes, and none goes
pub record WakesAnswered (old new : Slots) : Type 0 where
  pub exact : new.pending_wakes ≡ pending_after (answered_of old.line new.answers) old.pending_wakes

-- The sequential object: what is held, the queue of waiters, what is known of each name, and how much room there is.
-- A name is a task's ticket: the number of a pager of a bench, or a ticket that is used with a core alone.
use Rattle.std.specs.Prelude.{ℕ, ◌+◌, Bool, true, false, List, [], ◌∷◌, if◌then◌else◌, ◌==◌, slice_index_or, slice_set, replicate}
use Rattle.saa_core_spec.specs.declared.request.Request.{Request}
use Rattle.saa_core_spec.specs.Held.{Held}

-- what is known of a name: it is idle, or its request waits, or its request was answered with a value
-- and the answer isn't consumed yet. `is_sync` says how it was registered, and `slotted` whether
-- it was answered out of the line, and so still holds a slot
pub data Entry : Type 0 where
  Idle : Entry
  Waiting : (request : Request) (is_sync : Bool) → Entry
  Answered : (value : ℕ) (request : Request) (is_sync slotted : Bool) → Entry

-- a name in the line, and what it asks
abbrev pub Waiter : Type 0
Waiter = ℕ × Request

-- The state of the object. The line stands oldest first, and keeps beside each name what it asks.
-- The book has an entry for each name that a command may speak of, by its number; `outside` is the number of
-- slots that tickets hold which no command speaks of. At most `room` slots are held.
pub record Object : Type 0 where
  pub held : Held
  pub line : List Waiter
  pub book : List Entry
  pub outside : ℕ
  pub room : ℕ

-- a newly made primitive: nobody waits, and all names are idle
abbrev pub newly_made : Held → ℕ → ℕ → Object
newly_made held room names = record { held = held; line = []; book = replicate names Idle; outside = 0; room = room }

-- the entry of a name; a name that isn't in the book is idle
abbrev pub entry_at : List Entry → ℕ → Entry
entry_at book name = slice_index_or book name Idle

-- the object with another entry for a name
abbrev pub with_entry : Object → ℕ → Entry → Object
with_entry s name entry = record s { book = slice_set s.book name entry }

-- whether an entry holds a slot
abbrev pub holds_slot : Entry → Bool
holds_slot Idle = false
holds_slot (Waiting request is_sync) = true
holds_slot (Answered value request is_sync slotted) = slotted

-- 1 where it is so, else 0
abbrev pub one_if : Bool → ℕ
one_if true = 1
one_if false = 0

-- how many entries hold a slot
abbrev pub slots_in : List Entry → ℕ
slots_in [] = 0
slots_in (entry ∷ entries) = one_if (holds_slot entry) + slots_in entries

-- the slots held: one by each name that waits or was answered out of the line
abbrev pub used : Object → ℕ
used s = slots_in s.book + s.outside

-- whether the line is empty
abbrev pub is_nobody : List Waiter → Bool
is_nobody [] = true
is_nobody (waiter ∷ waiters) = false

-- lines of any waiters: each is a name and what else is known of it
module _ {A : Type 0} where
  -- how often a name stands in the line
  abbrev pub times : ℕ → List (ℕ × A) → ℕ
  times name [] = 0
  times name (waiter ∷ waiters) = one_if (waiter.0 == name) + times name waiters

  -- the line without a name
  abbrev pub without : ℕ → List (ℕ × A) → List (ℕ × A)
  without name [] = []
  without name (waiter ∷ waiters) = if waiter.0 == name then without name waiters else (waiter ∷ without name waiters)

-- what a step of the object leaves, and what it answers
pub record After (A : Type 0) : Type 0 where
  pub state : Object
  pub reply : A

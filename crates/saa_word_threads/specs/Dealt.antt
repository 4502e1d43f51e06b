-- What a form deals as it is made, and what it gives as it is closed.
use Rattle.std.specs.Prelude.{◌≡◌, ℕ, ◌+◌, ◌<◌, ◌≤◌, Bool, true, false, ◌||◌, ◌==◌, nat_lt, if◌then◌else◌, All, List, [], ◌∷◌, Option, Some, None}
use Rattle.std.specs.Slots.{slots_items}
use Rattle.atomic_table.specs.Seated.{TableId}
use Rattle.saa_word_steps.specs.declared.event.Event.{Event}
use Rattle.saa_word_steps.specs.Needs.{needs_of}
use Rattle.saa_word_proofs.specs.History.{BeginsWith, LeadsTo, never_waits, part_of, seen_by}
use Rattle.saa_word_proofs.specs.Promises.{WordsAreQuiescent, idle_place}
use Rattle.saa_word_threads.specs.declared.table.About.{About}
use Rattle.saa_word_threads.specs.declared.table.View.{View}
use Rattle.saa_word_threads.specs.declared.place.Place.{Place}
use Rattle.saa_word_threads.specs.declared.words.Words.{Words}
use Rattle.saa_word_threads.specs.Kept.{fresh_view}
use Rattle.saa_word_threads.specs.Cells.{row_of}

-- a place of a table that has this number, is idle, and has done nothing yet
abbrev pub IsNew : TableId → ℕ → Place → Type 0
IsNew table number place =
    (place.seat.table_id ≡ table) × (place.number ≡ number) × (place.position ≡ idle_place) × (place.seat.me.0 ≡ fresh_view number)

-- new places of a table, numbered in order from a number on
abbrev pub AreNew : TableId → ℕ → List Place → Type 0
AreNew table number [] = Unit {0}
AreNew table number (place ∷ rest) = IsNew table number place × AreNew table (number + 1) rest

-- There is a legal history that leads to these words. It begins with what the place of this view has seen, which is all of it up to the place's
-- last event, and its part at that place is just the place's events
pub record IsLedTo (about : About) (words : List ℕ) (v : View) : Type 0 where
  pub history : List (ℕ × Event)
  pub leads : LeadsTo (needs_of about.rules) about.places about.withheld history (row_of about.places words)
  pub begins : BeginsWith history v.seen
  pub latest : v.seen ≡ seen_by v.number history
  pub part : v.part ≡ part_of v.number history

-- A place's view is of a history: that begins with what the place has seen, which is all of it up to the place's last event, and its part at
-- that place is just the place's events
abbrev pub IsOf : List (ℕ × Event) → View → Type 0
IsOf history v = BeginsWith history v.seen × (v.seen ≡ seen_by v.number history) × (v.part ≡ part_of v.number history)

-- whether a view of the place of this number is among these
abbrev pub has_number : ℕ → List View → Bool
has_number number [] = false
has_number number (v ∷ rest) = (v.number == number) || has_number number rest

-- There is one legal history that leads to these words, and each of these views is of it. Only places wait: the other numbers are those of visitors.
-- Where views of all places are here, nothing is left to do at the end: the flag is clear, each answer that was granted is shown, and the queue is settled
pub record AreLedTo (about : About) (words : List ℕ) (views : List View) : Type 0 where
  pub history : List (ℕ × Event)
  pub leads : LeadsTo (needs_of about.rules) about.places about.withheld history (row_of about.places words)
  pub each : All (IsOf history) views
  pub others : (number : ℕ) → about.places ≤ number → never_waits (part_of number history) ≡ true
  pub settled : ((number : ℕ) → number < about.places → has_number number views ≡ true) → WordsAreQuiescent (needs_of about.rules) (row_of about.places words) leads.last

-- the numbers of the words at the end
abbrev pub numbers : Words → List ℕ
numbers words = slots_items words.closed.words

-- the number of a place's word, at its index
abbrev pub number_at : Words → ℕ → ℕ → Option ℕ
number_at words place index = if nat_lt place words.places then Some (row_of words.places (numbers words) index) else None

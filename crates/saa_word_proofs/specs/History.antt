-- Histories: lists of events, each with its place, and what they say of words and of each place. A reader of the clauses has to believe this.
use Rattle.std.specs.Prelude.{◌≡◌, ℕ, Bool, true, false, not, ◌&&◌, ◌||◌, ◌==◌, if◌then◌else◌, List, [], ◌∷◌, ◌++◌}
use Rattle.saa_word_steps.specs.declared.event.Event.{Event}
use Rattle.saa_word_steps.specs.declared.event.Event.TheVariants.{Granted, Closed, Showed, Joined, Cancelled, NotReady, AnswerTaken}
use Rattle.saa_word_steps.specs.Needs.{Needs}
use Rattle.saa_word_steps.specs.AbstractState.{AbstractState, IsRun, opening}
use Rattle.saa_word_proofs.specs.Promises.{WordsShow}

-- the events of one place
abbrev pub of_place : ℕ → List Event → List (ℕ × Event)
of_place place [] = []
of_place place (event ∷ rest) = (place, event) ∷ of_place place rest

-- whether an answer names an event; none names what the holder of the flag does for others
abbrev pub is_named : Event → Bool
is_named (Granted askers) = false
is_named Closed = false
is_named (Showed shown_place) = false
is_named _ = true

abbrev pub named : List Event → List Event
named [] = []
named (event ∷ rest) = if is_named event then (event ∷ named rest) else named rest

-- whether an event is a waiter's: it joins the queue, takes its answer or finds that it isn't there yet, or leaves
abbrev pub is_waiters : Event → Bool
is_waiters (Joined request) = true
is_waiters (AnswerTaken value) = true
is_waiters NotReady = true
is_waiters Cancelled = true
is_waiters _ = false

abbrev pub never_waits : List Event → Bool
never_waits [] = true
never_waits (event ∷ rest) = not (is_waiters event) && never_waits rest

-- A place's part of a history: its events, in their order
abbrev pub part_of : ℕ → List (ℕ × Event) → List Event
part_of place [] = []
part_of place (entry ∷ rest) = if entry.0 == place then (entry.1 ∷ part_of place rest) else part_of place rest

-- whether a place has an event in a history
abbrev pub has_part : ℕ → List (ℕ × Event) → Bool
has_part place [] = false
has_part place (entry ∷ rest) = (entry.0 == place) || has_part place rest

-- What a place has seen of a history: the history as it was at the place's last event, with that event
abbrev pub seen_by : ℕ → List (ℕ × Event) → List (ℕ × Event)
seen_by place [] = []
seen_by place (entry ∷ rest) = if has_part place (entry ∷ rest) then (entry ∷ seen_by place rest) else []

-- a history begins with another one
abbrev pub BeginsWith : List (ℕ × Event) → List (ℕ × Event) → Type 0
BeginsWith history seen = (rest : List (ℕ × Event)) × (history ≡ seen ++ rest)

-- A history leads to these words of so many places: from the moment on when so much is held and nobody waits, each of its events is enabled
-- where it comes, and the words show what the last one leaves
pub record LeadsTo (needs : Needs) (places withheld : ℕ) (history : List (ℕ × Event)) (row : ℕ → ℕ) : Type 0 where
  pub last : AbstractState
  pub run : IsRun needs (opening withheld) history last
  pub shown : WordsShow needs places row last

-- What is counted along the events of the abstract state: what was got, what was given back, and what is granted and not taken yet. A reader of
-- the clauses has to believe this.
use Rattle.std.specs.Prelude.{◌≡◌, ℕ, ◌+◌, ◌⊎◌, ◌==◌, Bool, true, false, not, ◌&&◌, ◌||◌, if◌then◌else◌, List, [], ◌∷◌, ◌++◌, take, Option, Some, None}
use Rattle.saa_core_spec.specs.Values.{closed_value, granted_value}
use Rattle.saa_core_spec.specs.Object.{without}
use Rattle.saa_word_steps.specs.Needs.{Needs}
use Rattle.saa_word_steps.specs.declared.event.Event.{Event}
use Rattle.saa_word_steps.specs.declared.event.Event.TheVariants.{Acquired, AskedPoisoned, Released, Lowered, Granted, Poisoned, Cleared, AnswerTaken}
use Rattle.saa_word_steps.specs.AbstractState.{AbstractState, after_event, opening, takes_of}

-- What asks that were granted at once took, and what grants took whose answers were taken, which those are that say so; what was given back; and the grants that
-- aren't taken yet: each place that was granted, with the number of what it asked, oldest first
pub record Tally : Type 0 where
  pub got : ℕ
  pub given : ℕ
  pub pending : List (ℕ × ℕ)

-- nothing happened yet
abbrev pub nothing_yet : Tally
nothing_yet = record { got = 0; given = 0; pending = [] }

-- those of a line that are of one place
abbrev pub line_of_place : ℕ → List (ℕ × ℕ) → List (ℕ × ℕ)
line_of_place place [] = []
line_of_place place (asker ∷ rest) = if asker.0 == place then (asker ∷ line_of_place place rest) else line_of_place place rest

-- the tally behind an event of a place, which happens to the object in this state
abbrev pub after_counting : Needs → AbstractState → Tally → ℕ → Event → Tally
after_counting needs state tally place (Acquired request) = record tally { got = tally.got + needs.takes request }
after_counting needs state tally place (Released request) = record tally { given = tally.given + needs.takes request }
after_counting needs state tally place (Granted askers) = record tally { pending = tally.pending ++ take askers state.line }
after_counting needs state tally place (AnswerTaken value) =
    if value == granted_value
    then record tally { got = tally.got + takes_of needs (line_of_place place tally.pending); pending = without place tally.pending }
    else tally
after_counting needs state tally place _ = tally

-- the tally behind a list of events, from a state of the object and a tally on
abbrev pub tallied : Needs → AbstractState → Tally → List (ℕ × Event) → Tally
tallied needs state tally [] = tally
tallied needs state tally (event ∷ events) =
    tallied needs (after_event needs state event.0 event.1) (after_counting needs state tally event.0 event.1) events

-- the tally of a list of events from the moment on when so much is held and nobody waits
abbrev pub tally_of : Needs → ℕ → List (ℕ × Event) → Tally
tally_of needs withheld events = tallied needs (opening withheld) nothing_yet events

-- what is held and what was given back are what was withheld, what was got, and what is granted and not taken yet
abbrev pub ConservesPermits : Needs → ℕ → AbstractState → Tally → Type 0
ConservesPermits needs withheld state tally = state.count + tally.given ≡ withheld + tally.got + takes_of needs tally.pending

-- whether an event shuts a semaphore
abbrev pub shuts : Event → Bool
shuts Poisoned = true
shuts _ = false

-- whether an answer says that a place was granted
abbrev pub is_grant : Option ℕ → Bool
is_grant None = false
is_grant (Some value) = value == granted_value

-- an answer says that a place was granted, or, where the semaphore is shut, that it is
abbrev pub MayAnswer : Bool → ℕ → Type 0
MayAnswer poisoned value = (value ≡ granted_value) ⊎ ((poisoned ≡ true) × (value ≡ closed_value))

-- Whether an event may be one of a semaphore that was shut before it, or not. It is shut once, and never opened again. Only where it was shut does an
-- ask find it so, and is an answer taken that is no grant, but says so. No event lowers it to a share
abbrev pub is_of_permits : Bool → Event → Bool
is_of_permits was_shut Poisoned = not was_shut
is_of_permits was_shut AskedPoisoned = was_shut
is_of_permits was_shut Cleared = false
is_of_permits was_shut Lowered = false
is_of_permits was_shut (AnswerTaken value) = (value == granted_value) || (was_shut && (value == closed_value))
is_of_permits was_shut _ = true

-- each of these events may be one of a semaphore that was shut before them, or not
abbrev pub AreOfPermitsFrom : Bool → List (ℕ × Event) → Type 0
AreOfPermitsFrom was_shut [] = Unit {0}
AreOfPermitsFrom was_shut (event ∷ events) = (is_of_permits was_shut event.1 ≡ true) × AreOfPermitsFrom (was_shut || shuts event.1) events

-- each of these events may be one of a semaphore, from its opening on
abbrev pub AreOfPermits : List (ℕ × Event) → Type 0
AreOfPermits events = AreOfPermitsFrom false events

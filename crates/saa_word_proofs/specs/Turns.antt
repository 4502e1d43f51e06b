-- Turns at what is asked for whole, as the events of a history show them: a turn begins where it is got at once, or where the answer is taken that grants
-- it, and ends where it is given back. No definition here names the abstract state. A reader of the clauses has to believe this.
use Rattle.std.specs.Prelude.{◌≡◌, ◌≢◌, ℕ, Bool, true, false, ◌||◌, ◌==◌, List, [], ◌∷◌, Some, None}
use Rattle.saa_core_spec.specs.Values.{granted_value}
use Rattle.saa_word_steps.specs.declared.event.Event.{Event}
use Rattle.saa_word_steps.specs.declared.event.Event.TheVariants.{Acquired, Joined, Released, Lowered, Poisoned, AnswerTaken}
use Rattle.saa_word_steps.specs.Needs.{Needs, fits_count, left_count}
use Rattle.saa_word_steps.specs.AbstractState.{AbstractState}

-- a request for all there is: it fits only where nothing is held, it takes something, and nothing is held once that is given back
pub record IsWhole (needs : Needs) (whole : ℕ) : Type 0 where
  pub alone : (count : ℕ) → fits_count needs count whole ≡ true → count ≡ 0
  pub takes : needs.takes whole ≢ 0
  pub back : left_count needs (needs.takes whole) whole ≡ Some 0

-- whether an event begins a turn
abbrev pub begins_turn : Event → Bool
begins_turn (Acquired request) = true
begins_turn (AnswerTaken value) = value == granted_value
begins_turn _ = false

-- whether a turn is taken after an event, by what was before it
abbrev pub is_taken_after : Bool → Event → Bool
is_taken_after taken (Released request) = false
is_taken_after taken event = begins_turn event || taken

-- whether a turn is taken after a list of events
abbrev pub is_taken_from : Bool → List (ℕ × Event) → Bool
is_taken_from taken [] = taken
is_taken_from taken (entry ∷ rest) = is_taken_from (is_taken_after taken entry.1) rest

abbrev pub is_taken : List (ℕ × Event) → Bool
is_taken history = is_taken_from false history

-- an event of those who take turns: each asks for the whole, what is given back is a turn that is taken, and none is lowered to a share or poisoned
abbrev pub IsOfTurns : ℕ → Bool → Event → Type 0
IsOfTurns whole taken (Acquired request) = request ≡ whole
IsOfTurns whole taken (Joined request) = request ≡ whole
IsOfTurns whole taken (Released request) = (request ≡ whole) × (taken ≡ true)
IsOfTurns whole taken Lowered = ⊥
IsOfTurns whole taken Poisoned = ⊥
IsOfTurns whole taken _ = Unit {0}

abbrev pub AreTurnsFrom : ℕ → Bool → List (ℕ × Event) → Type 0
AreTurnsFrom whole taken [] = Unit {0}
AreTurnsFrom whole taken (entry ∷ rest) = IsOfTurns whole taken entry.1 × AreTurnsFrom whole (is_taken_after taken entry.1) rest

abbrev pub AreTurns : ℕ → List (ℕ × Event) → Type 0
AreTurns whole history = AreTurnsFrom whole false history

-- nobody has an answer that waits to be shown or taken
abbrev pub NobodyIsAnswered : AbstractState → Type 0
NobodyIsAnswered state = (place : ℕ) → (state.granted place ≡ None) × (state.answered place ≡ None)

-- A form in words as contracts see it: its rules, the row of words, the places, how many operations were made on the words, and the index of the word
-- that the last of them was made on. Each word is a cell that counts what is made on it, and `operations` is the sum (`specs/Cells.antt`). The row is
-- the main word, then the line word of each place, then the answer word of each. A reader of the clauses has to believe this.
use Rattle.std.specs.Prelude.{◌≡◌, ℕ, ◌+◌, ◌*◌, ◌<◌, Bool, true, List, ◌∷◌, replicate, slice_index, slice_index_or, slice_set}
use Rattle.saa_word_steps.specs.declared.rules.Rules.{Rules}
use Rattle.saa_word_steps.specs.declared.place.Place.{Place}
use Rattle.saa_word_steps.specs.Readings.{is_taken}
use Rattle.saa_word_steps.specs.Needs.{needs_of}
use Rattle.saa_word_proofs.specs.Promises.{idle_place}
use Rattle.saa_word.specs.declared.moves.Move.{Move}
use Rattle.saa_word.specs.declared.moves.Move.TheVariants.{Start, Go}
use Rattle.saa_word.specs.declared.moves.Step.{Step}
use Rattle.saa_word.specs.declared.moves.Step.TheVariants.{Idle, Busy}

pub record State : Type 0 where
  pub rules : Rules
  pub row : List ℕ
  pub places : List Place
  pub operations : ℕ
  pub last_word : ℕ

-- the place of this number
abbrev pub place_in : List Place → ℕ → Place
place_in places me = slice_index_or places me idle_place

abbrev pub place_of : State → ℕ → Place
place_of state me = place_in state.places me

-- a move of a place that there is, and of a call that is taken, by a lock or by a semaphore
abbrev pub IsMove : Bool → ℕ → Move → Type 0
IsMove is_lock places (Start me call) = (me < places) × (is_taken is_lock call ≡ true)
IsMove is_lock places (Go me) = me < places

-- what a move did, and the machine behind it
pub record Moved : Type 0 where
  pub step : Step
  pub machine : State

-- What a move that did this leaves of the machine before it: one that is Busy or Idle leaves all as it was; each other Start makes no operation, and
-- writes its own place at most; and each other Go makes exactly one operation, on the word of the last index, and writes that word and its own
-- place at most
abbrev pub IsOneStep : Move → Step → State → State → Type 0
IsOneStep (Start me call) Busy before after = after ≡ before
IsOneStep (Start me call) step before after = (place : Place) × (after ≡ record before { places = slice_set before.places me place })
IsOneStep (Go me) Idle before after = after ≡ before
IsOneStep (Go me) step before after =
    (place : Place) × (number : ℕ)
    × (after ≡ record before {
      row = slice_set before.row after.last_word number;
      places = slice_set before.places me place;
      operations = before.operations + 1;
      last_word = after.last_word;
    })

-- a form of these rules in which so much is held, with so many idle places: the words are 0, but for the main word's count
abbrev pub opened : Rules → ℕ → ℕ → State
opened rules count places = record {
  rules = rules;
  row = count ∷ replicate (2 * places) 0;
  places = replicate places idle_place;
  operations = 0;
  last_word = 0;
}

-- whether a machine is a lock
abbrev pub is_lock : State → Bool
is_lock state = (needs_of state.rules).is_lock

-- the row as a function of the index
abbrev pub row_of : State → ℕ → ℕ
row_of state index = slice_index state.row index

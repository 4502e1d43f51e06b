-- What stands in the words at every moment, said of the numbers alone. A reader of the clauses has to believe this.
use Rattle.std.specs.Prelude.{◌≡◌, ℕ, ◌+◌, ◌<◌, ◌≤◌, ◌==◌, ◌^◌, true, false, if◌then◌else◌, List, [], ◌∷◌, ◌++◌, None}
use Rattle.saa_core_words.specs.declared.line_word.LineWord.{LineWord}
use Rattle.saa_core_words.specs.Words.{answer_number, count_bits, word_number}
use Rattle.saa_word_steps.specs.declared.place.Place.{Place}
use Rattle.saa_word_steps.specs.declared.place.Registration.TheVariants.{Idle}
use Rattle.saa_word_steps.specs.declared.place.Stage.TheVariants.{Quiet}
use Rattle.saa_word_steps.specs.declared.place.AfterWalk.TheVariants.{Tells}
use Rattle.saa_word_steps.specs.Needs.{Needs}
use Rattle.saa_word_steps.specs.Readings.{refusing_word}
use Rattle.saa_word_steps.specs.AbstractState.{AbstractState, IsSettledAt, held_by}
use Rattle.saa_word_proofs.specs.Rows.{IsBehind, main_of, line_of}

-- a place in no call, that is registered as nothing
abbrev pub idle_place : Place
idle_place = record { registration = Idle; stage = Quiet; back = Tells }

-- a row in which so much is held, nobody waits and nobody has an answer
abbrev pub opening_row : ℕ → ℕ → ℕ
opening_row count index = if index == 0 then count else 0

-- these places are met along older neighbours from a link, and nobody behind them
abbrev pub IsChain : (ℕ → LineWord) → ℕ → List ℕ → Type 0
IsChain words link [] = link ≡ 0
IsChain words link (place ∷ rest) = (link ≡ place + 1) × IsChain words (words place).older rest

-- the places of a line, newest first
abbrev pub newest_first : List (ℕ × ℕ) → List ℕ
newest_first [] = []
newest_first (asker ∷ rest) = newest_first rest ++ asker.0 ∷ []

-- each of a line asks what its line word says
abbrev pub AreAsking : (ℕ → LineWord) → List (ℕ × ℕ) → Type 0
AreAsking words [] = Unit {0}
AreAsking words (asker ∷ rest) = ((words asker.0).request ≡ asker.1) × AreAsking words rest

-- The words show what the abstract state is: the count and poison at every moment, of each place the answer that it is shown, and of each
-- waiter what it asks. The main word has no bits beyond those of the tail, that of a poisoned lock is one number, and
-- that of a shut semaphore is one for each count. While the flag is
-- clear the places met along older neighbours from the tail are the line, newest first, the state isn't open, and its line is settled. No
-- more is held than there ever is, and no place waits twice, or waits and has an answer
pub record WordsShow (needs : Needs) (places : ℕ) (row : ℕ → ℕ) (state : AbstractState) : Type 0 where
  pub count : (main_of row).count ≡ state.count
  pub poisoned : (main_of row).is_poisoned ≡ state.poisoned
  pub whole : row 0 < 2 ^ (count_bits + 18)
  pub exact : state.poisoned ≡ true → row 0 ≡ word_number count_bits (refusing_word needs (main_of row))
  pub requests : AreAsking (line_of row) state.line
  pub answered : (place : ℕ) → place < places → row (places + place + 1) ≡ answer_number (state.answered place)
  pub line : (main_of row).is_flagged ≡ false → IsChain (line_of row) (main_of row).tail (newest_first state.line)
  pub closed : (main_of row).is_flagged ≡ false → state.unclosed ≡ false
  pub settled : (main_of row).is_flagged ≡ false → IsSettledAt needs state.count state.line
  pub bounded : state.count ≤ needs.top
  pub once : (place : ℕ) → held_by place state ≤ 1

-- The flag is clear, no answer is due, the object isn't open, its line is settled, and the line words link all waiters
pub record WordsAreQuiescent (needs : Needs) (row : ℕ → ℕ) (state : AbstractState) : Type 0 where
  pub clear : (main_of row).is_flagged ≡ false
  pub paid : (place : ℕ) → state.granted place ≡ None
  pub closed : state.unclosed ≡ false
  pub settled : IsSettledAt needs state.count state.line
  pub linked : IsBehind (line_of row) 0 state.line

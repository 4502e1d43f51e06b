-- What a step of a place is to the whole: events of the abstract state, after which words, places and object stand together again.
-- Internal: nobody has to believe this; what a move promises is said of words and events.
use Rattle.std.specs.Prelude.{◌≡◌, ℕ, ◌+◌, ◌%◌, ◌<◌, Bool, true, not, ◌||◌, ◌==◌, if◌then◌else◌, List, [], ◌∷◌, Option, Some, None}
use Rattle.saa_core_words.specs.declared.word.Word.{Word}
use Rattle.saa_core_words.specs.Words.{count_bits, word_number, word_of, answer_of}
use Rattle.saa_word_steps.specs.declared.place.Place.{Place}
use Rattle.saa_word_steps.specs.declared.place.ReleaseAmount.{ReleaseAmount}
use Rattle.saa_word_steps.specs.declared.place.ReleaseAmount.TheVariants.{Requested, AllButAShare}
use Rattle.saa_word_steps.specs.declared.place.PollMode.{PollMode}
use Rattle.saa_word_steps.specs.declared.place.PollMode.TheVariants.{Tries, Awaits, Gives}
use Rattle.saa_word_steps.specs.declared.place.Stage.{Stage}
use Rattle.saa_word_steps.specs.declared.place.Stage.TheVariants.{ReadLoad, AcquireLoad, AcquireExchange, Join, ReleaseLoad, ReleaseExchange, Take, Unlink, DropTail, PoisonLoad, PoisonExchange, Clear}
use Rattle.saa_word_steps.specs.declared.place.Next.{Next}
use Rattle.saa_word_steps.specs.declared.place.Next.TheVariants.{Going, Waits, Done}
use Rattle.saa_word_steps.specs.declared.operation.Operation.{Operation}
use Rattle.saa_word_steps.specs.Needs.{Needs, forgets, may_refuse}
use Rattle.saa_word_steps.specs.declared.event.Event.{Event}
use Rattle.saa_word_steps.specs.declared.event.Event.TheVariants.{Acquired, Refused, AskedPoisoned, Joined, Cancelled, Released, ReleasedNothing, Lowered, NotLowered, NotReady, Poisoned, NotPoisoned, Cleared, NotCleared, AnswerTaken, Read}
use Rattle.saa_word_steps.specs.AbstractState.{AbstractState, IsRun}
use Rattle.saa_word_steps.specs.Steps.{left_from, word_at, written_by, operation_of, next_of}
use Rattle.saa_word_steps.specs.Readings.{poisoned_word}
use Rattle.saa_word_proofs.specs.History.{named, of_place}
use Rattle.saa_word_proofs.specs.Refinement.{Invariant, waits_behind}
use Rattle.saa_word_proofs.specs.Rows.{updated}

-- what an answer names where an ask is decided by the main word that it saw
abbrev pub decided_events : Needs → ℕ → Bool → Word → List Event
decided_events needs request joins seen =
    if seen.is_poisoned
    then AskedPoisoned ∷ []
    else (if waits_behind needs seen request
    then (if joins then [] else Refused request ∷ [])
    else (if needs.takes request == 0 then Acquired request ∷ [] else []))

-- the event of a place that gives this back, and of one that doesn't hold it
abbrev pub gave : ReleaseAmount → Event
gave (Requested request) = Released request
gave AllButAShare = Lowered

abbrev pub gave_not : ReleaseAmount → Event
gave_not (Requested request) = ReleasedNothing request
gave_not AllButAShare = NotLowered

-- what an answer names where a place is to give something back, by what is left of it and by the main word that it saw
abbrev pub left_events : ReleaseAmount → Option ℕ → List Event
left_events what None = gave_not what ∷ []
left_events what (Some left) = []

abbrev pub given_events : Needs → ReleaseAmount → Word → List Event
given_events needs what seen = if forgets needs seen.is_poisoned then gave_not what ∷ [] else left_events what (left_from needs seen.count what)

-- the same of a place that takes its answer
abbrev pub taken_events : PollMode → Option ℕ → List Event
taken_events taking (Some value) = AnswerTaken value ∷ []
taken_events Tries None = NotReady ∷ []
taken_events Awaits None = []
taken_events (Gives request) None = []

-- the same of poison, and of a shut
abbrev pub poisoning_events : Needs → Word → List Event
poisoning_events needs seen = if seen.is_poisoned || not (may_refuse needs seen.count) then NotPoisoned ∷ [] else []

-- what answers name of the events of a step, from its stage and the number that it finds
abbrev pub named_at : Needs → Stage → ℕ → List Event
named_at needs (ReadLoad reading) found = Read (word_of count_bits found).count (word_of count_bits found).is_poisoned ∷ []
named_at needs (AcquireLoad ask) found = decided_events needs ask.request ask.joins (word_of count_bits found)
named_at needs (AcquireExchange ask seen) found =
    if found == word_number count_bits seen then Acquired ask.request ∷ [] else decided_events needs ask.request ask.joins (word_of count_bits found)
named_at needs (Join request seen) found =
    if found == word_number count_bits seen then Joined request ∷ [] else decided_events needs request true (word_of count_bits found)
named_at needs (ReleaseLoad given) found = given_events needs given (word_of count_bits found)
named_at needs (ReleaseExchange given seen) found =
    if found == word_number count_bits seen then gave given ∷ [] else given_events needs given (word_of count_bits found)
named_at needs (Take taking) found = taken_events taking (answer_of (found % 65536))
named_at needs (Unlink seen newer line older) found = Cancelled ∷ []
named_at needs (DropTail seen older) found = if found == word_number count_bits seen then Cancelled ∷ [] else []
named_at needs PoisonLoad found = poisoning_events needs (word_of count_bits found)
named_at needs (PoisonExchange seen) found =
    if found == word_number count_bits seen then Poisoned ∷ [] else poisoning_events needs (word_of count_bits found)
named_at needs Clear found = if found == word_number count_bits poisoned_word then Cleared ∷ [] else NotCleared ∷ []
named_at needs _ found = []

-- a place as it is behind a step
abbrev pub place_after : Place → Next → Place
place_after place (Going next) = next
place_after place Waits = place
place_after place (Done next answer) = next

-- a row once an operation was made on it
abbrev pub row_after : (ℕ → ℕ) → Operation → ℕ → ℕ
row_after row operation = updated row (word_at operation) (written_by operation (row (word_at operation)))

-- A place makes the operation of its stage and goes on with the number that it found: these events happen, in which what an answer
-- names is said by stage and number, and words, places and object stand together again
pub record StepRefines (needs : Needs) (places : ℕ) (row : ℕ → ℕ) (standing : ℕ → Place) (state : AbstractState) (me : ℕ) (stage : Stage) : Type 0 where
  pub events : List Event
  pub last : AbstractState
  pub run : IsRun needs state (of_place me events) last
  pub names : named events ≡ named_at needs stage (row (word_at (operation_of needs places me stage)))
  pub inside : word_at (operation_of needs places me stage) < places + places + 1
  pub invariant : Invariant needs places (row_after row (operation_of needs places me stage))
      (updated standing me (place_after (standing me) (next_of needs me (standing me) stage (row (word_at (operation_of needs places me stage))))))
      last

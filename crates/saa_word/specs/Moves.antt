-- What a move of a machine does.
-- Internal: nobody has to believe this; contracts say what moves simulate.
-- (Clauses that name `gone` say that two calls do the same.
-- That a move is one step is `IsOneStep` of `specs/Machine.antt`,
-- and what it means is what it simulates.)
-- (An edit that turns a step puts its imports in the place of these lines.)
use Rattle.std.specs.Prelude.{ℕ, ◌+◌, Bool, true, false, length, slice_index, slice_set, if◌then◌else◌}
use Rattle.saa_word_steps.specs.declared.call.WordCall.{WordCall}
use Rattle.saa_word_steps.specs.declared.place.Place.{Place}
use Rattle.saa_word_steps.specs.declared.place.Stage.{Stage}
use Rattle.saa_word_steps.specs.declared.place.Stage.TheVariants.{Quiet}
use Rattle.saa_word_steps.specs.declared.place.Next.{Next}
use Rattle.saa_word_steps.specs.declared.place.Next.TheVariants.{Going as GoesOn, Waits as HasToWait, Done as IsDone}
use Rattle.saa_word_steps.specs.declared.operation.Operation.{Operation}
use Rattle.saa_word_steps.specs.Needs.{Needs, needs_of}
use Rattle.saa_word_steps.specs.Steps.{next_of, operation_of, started, word_at, written_by}
use Rattle.saa_word_proofs.specs.StepRefinement.{place_after}
use Rattle.saa_word.specs.declared.moves.Move.{Move}
use Rattle.saa_word.specs.declared.moves.Move.TheVariants.{Start, Go}
use Rattle.saa_word.specs.declared.moves.Step.{Step}
use Rattle.saa_word.specs.declared.moves.Step.TheVariants.{Idle, Busy, Going, Waits, Done}
use Rattle.saa_word.specs.Machine.{Moved, State, place_of}

-- what a place did that goes on so
abbrev pub step_of : Next → Step
step_of (GoesOn place) = Going
step_of HasToWait = Waits
step_of (IsDone place answer) = Done answer

-- a place that goes on so
abbrev pub followed : State → ℕ → Next → Moved
followed state me next =
    record { step = step_of next; machine = record state { places = slice_set state.places me (place_after (place_of state me) next) } }

-- Whether a stage is that of a place in no call.
-- (An edit by which a place rests at another stage
-- says so in the place of these lines.)
abbrev pub is_quiet : Stage → Bool
is_quiet Quiet = true
is_quiet _ = false

-- the word that an operation is made on, and the machine with it made
abbrev pub found_by : State → Operation → ℕ
found_by state operation = slice_index state.row (word_at operation)

abbrev pub performed : State → Operation → State
performed state operation = record state {
  row = slice_set state.row (word_at operation) (written_by operation (found_by state operation));
  operations = state.operations + 1;
  last_word = word_at operation;
}

-- The steps of a place are stated here once for the machine,
-- and `src/machine.rt` has a function for each.
-- So a body and its line here can be changed together,
-- as if the code of a step and its line in the table were.
-- What refuses such a pair is what moves simulate,
-- and not the table: the contracts of those functions hold of it.
-- The edits that do so are named both_*;
-- each puts what it needs in the place of these lines.

-- the operation that a place makes next, out of so many places
abbrev pub operation_by : Needs → ℕ → ℕ → Place → Operation
operation_by needs places me place = operation_of needs places me place.stage

-- how a place goes on with the number that it found
abbrev pub next_by : Needs → ℕ → Place → ℕ → Next
next_by needs me place found = next_of needs me place place.stage found

-- how a call starts at a place
abbrev pub started_by : Needs → Place → WordCall → Next
started_by needs place call = started needs place call

-- the operation that a place makes next
abbrev pub operation_at : State → ℕ → Operation
operation_at state me = operation_by (needs_of state.rules) (length state.places) me (place_of state me)

-- a place in the middle of a call makes one operation, and goes on with the number that it found
abbrev pub worked_at : State → ℕ → Moved
worked_at state me =
    followed (performed state (operation_at state me)) me
    (next_by (needs_of state.rules) me (place_of state me) (found_by state (operation_at state me)))

-- a Go: nothing at a place in no call
abbrev pub stepped_at : State → ℕ → Moved
stepped_at state me = if is_quiet (place_of state me).stage then record { step = Idle; machine = state } else worked_at state me

-- a Start: nothing at a place in the middle of a call; it makes no operation
abbrev pub started_at : State → ℕ → WordCall → Moved
started_at state me call =
    if is_quiet (place_of state me).stage
    then followed state me (started_by (needs_of state.rules) (place_of state me) call)
    else record { step = Busy; machine = state }

-- a move
abbrev pub gone : State → Move → Moved
gone state (Start me call) = started_at state me call
gone state (Go me) = stepped_at state me

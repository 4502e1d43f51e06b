-- What the lines of a schedule do to a machine, and what they are answered.
use Rattle.std.specs.Prelude.{ℕ, zero, suc, ◌+◌, Bool, true, false, List, [], ◌∷◌, length, min, slice_index, Option, Some, None, if◌then◌else◌}
use Rattle.std.specs.Option.{option_map_or}
use Rattle.saa_core_spec.specs.Held.{max_permits}
use Rattle.saa_core_words.specs.Words.{count_bits, word_of}
use Rattle.saa_word_steps.specs.declared.rules.Rules.TheVariants.{Permits, Modes}
use Rattle.saa_word.specs.declared.kind.Kind.{Kind}
use Rattle.saa_word.specs.declared.kind.Kind.TheVariants.{Ask, Prepare, Join, Release, Walk, Publish, Show, Take, Flag, Unlink, Tail, Poison, Clear}
use Rattle.saa_word.specs.declared.moves.Move.TheVariants.{Start as Starts, Go as Goes}
use Rattle.saa_word.specs.declared.moves.Step.{Step}
use Rattle.saa_word.specs.declared.moves.Step.TheVariants.{Going}
use Rattle.saa_word.specs.Kinds.{kind_at}
use Rattle.saa_word.specs.Machine.{Moved, State, is_lock, opened, place_of}
use Rattle.saa_word.specs.Moves.{gone}
use Rattle.saa_run.specs.declared.schedule.reply.ScheduleReply.{ScheduleReply}
use Rattle.saa_run.specs.declared.schedule.reply.ScheduleReply.TheVariants.{Step as Did, At, Main}
use Rattle.saa_run.specs.declared.schedule.lines.FirstOfSchedule.{FirstOfSchedule}
use Rattle.saa_run.specs.declared.schedule.lines.FirstOfSchedule.TheVariants.{Semaphore, Bounded, Lock}
use Rattle.saa_run.specs.declared.schedule.lines.ScheduleLine.{ScheduleLine}
use Rattle.saa_run.specs.declared.schedule.lines.ScheduleLine.TheVariants.{Start, Go, End, Until, Word}
use Rattle.saa_run.specs.Schedules.{schedule_line_of}
use Rattle.saa_run.specs.ScheduleReplies.{schedule_words}
use Rattle.saa_run_text.specs.Text.{Answer, reply_line, with_front}
use Rattle.saa_run_text.specs.Steps.{bad_at, no_lines}

-- what a line is answered, and the machine behind it
pub record Replied : Type 0 where
  pub said : ScheduleReply
  pub machine : State

-- whether a place is in the middle of its call behind a step
abbrev pub goes_on : Step → Bool
goes_on Going = true
goes_on _ = false

-- steps of a place until one is another than Going, at most so many
unfoldable pub ended : ℕ → State → ℕ → Moved
ended zero state me = record { step = Going; machine = state }
ended (suc more) state me = if goes_on (gone state (Goes me)).step then ended more (gone state (Goes me)).machine me else gone state (Goes me)

-- whether a step is of this kind
abbrev pub is_of : Kind → Option Kind → Bool
is_of kind None = false
is_of Ask (Some Ask) = true
is_of Prepare (Some Prepare) = true
is_of Join (Some Join) = true
is_of Release (Some Release) = true
is_of Walk (Some Walk) = true
is_of Publish (Some Publish) = true
is_of Show (Some Show) = true
is_of Take (Some Take) = true
is_of Flag (Some Flag) = true
is_of Unlink (Some Unlink) = true
is_of Tail (Some Tail) = true
is_of Poison (Some Poison) = true
is_of Clear (Some Clear) = true
is_of _ (Some _) = false

-- whether the next step of a place is of this kind
abbrev pub is_at : State → ℕ → Kind → Bool
is_at state me kind = is_of kind (kind_at (place_of state me).stage)

-- what a move says: what it did, of a lock or of a semaphore
abbrev pub move_said : Moved → Replied
move_said moved = record { said = Did (is_lock moved.machine) moved.step; machine = moved.machine }

-- steps of a place until the next one is of this kind, at most so many
unfoldable pub until_at : ℕ → State → ℕ → Kind → Replied
until_at zero state me kind = record { said = if is_at state me kind then At kind else Did (is_lock state) Going; machine = state }
until_at (suc more) state me kind =
    if is_at state me kind
    then record { said = At kind; machine = state }
    else (if goes_on (gone state (Goes me)).step
    then until_at more (gone state (Goes me)).machine me kind
    else move_said (gone state (Goes me)))

-- so many steps does a line make at most
abbrev pub most_steps : ℕ
most_steps = 1000

-- what a line says, and does
abbrev pub line_said : State → ScheduleLine → Replied
line_said state (Start me call) = move_said (gone state (Starts me call))
line_said state (Go me) = move_said (gone state (Goes me))
line_said state (End me) = move_said (ended most_steps state me)
line_said state (Until me kind) = until_at most_steps state me kind
line_said state Word = record { said = Main (word_of count_bits (slice_index state.row 0)); machine = record state { operations = state.operations + 1; last_word = 0 } }

-- the answer to lines of which the first has this number, from a machine
unfoldable pub answer_schedule : ℕ → State → List (List ℕ) → Answer
answer_schedule number state [] = no_lines
answer_schedule number state (line ∷ lines) =
    option_map_or
    (λ good. with_front (reply_line (schedule_words (line_said state good).said)) (answer_schedule (number + 1) (line_said state good).machine lines))
    (schedule_line_of (is_lock state) (length state.places) line) (bad_at number)

-- the machine that a first line makes: a semaphore of which so many permits are withheld, all of them where that is more, or a free lock
abbrev pub machine_of : FirstOfSchedule → State
machine_of (Semaphore withheld places) = opened (Permits max_permits) (min withheld max_permits) places
machine_of (Bounded bound withheld places) = opened (Permits bound) (min withheld bound) places
machine_of (Lock places) = opened Modes 0 places

-- the answer to the lines behind a good first line
abbrev pub behind_schedule : FirstOfSchedule → List (List ℕ) → Answer
behind_schedule first lines = answer_schedule 2 (machine_of first) lines

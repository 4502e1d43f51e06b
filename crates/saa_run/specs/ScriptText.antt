-- The text of a script: the replies to its longest front of good lines, one a line, and the first bad line; and how a run of
-- it ends.
use Rattle.std.specs.Prelude.{ℕ, ◌+◌, List, [], ◌∷◌, ◌++◌, length, Option, Some, None, nat_lt, if◌then◌else◌}
use Rattle.std.specs.Option.{option_map_or}
use Rattle.saa_core_spec.specs.Object.{Object, After}
use Rattle.saa_core_spec.specs.Held.{max_permits}
use Rattle.saa_core_spec.specs.Semaphore.{new_semaphore}
use Rattle.saa_core_spec.specs.Lock.{new_lock}
use Rattle.saa_core_spec.specs.Gate.{new_gate}
use Rattle.saa_core_spec.specs.Barrier.{new_barrier}
use Rattle.saa_core_spec.specs.declared.run.CommandOf.{CommandOf}
use Rattle.saa_run_text.specs.Text.{Answer, answer_by, on_bytes, reply_line}
use Rattle.saa_run_text.specs.Outcome.{RunsWhole}
use Rattle.saa_run.specs.declared.script.command.FirstLine.{FirstLine}
use Rattle.saa_run.specs.declared.script.command.FirstLine.TheVariants.{Semaphore, Bounded, Lock, Gate, Barrier}
use Rattle.saa_run.specs.declared.script.command.ScriptLine.{ScriptLine}
use Rattle.saa_run.specs.declared.script.command.ScriptLine.TheVariants.{Do, Registered}
use Rattle.saa_run.specs.Language.{bound_number, first_line_of, line_of}
use Rattle.saa_run.specs.SemaphoreWords.{semaphore_readings, semaphore_does}
use Rattle.saa_run.specs.LockWords.{lock_readings, lock_does}
use Rattle.saa_run.specs.GateWords.{gate_readings, gate_does}
use Rattle.saa_run.specs.BarrierWords.{barrier_readings, barrier_does}

-- the longest front of good lines, each as what it means; a line is good where it means something
unfoldable pub good_front : {L : Type 0} → (List ℕ → Option L) → List (List ℕ) → List L
good_front meaning [] = []
good_front meaning (line ∷ lines) = option_map_or (λ good. good ∷ good_front meaning lines) (meaning line) []

-- the replies to such lines, one after another, from a state
abbrev pub replies_to : {L : Type 0} → (L → Object → After (List ℕ)) → Object → List L → List ℕ
replies_to does s [] = []
replies_to does s (line ∷ lines) = reply_line (does line s).reply ++ replies_to does (does line s).state lines

-- the state that such lines leave
abbrev pub state_behind : {L : Type 0} → (L → Object → After (List ℕ)) → Object → List L → Object
state_behind does s [] = s
state_behind does s (line ∷ lines) = state_behind does (does line s).state lines

-- the commands among such lines; a question after a pager is none
abbrev pub commands_in : {C K : Type 0} → List (ScriptLine C K) → List (CommandOf C K)
commands_in [] = []
commands_in (Do command ∷ lines) = command ∷ commands_in lines
commands_in (Registered pager ∷ lines) = commands_in lines

-- the number of the line behind a front of good ones, if there is one: it is bad
abbrev pub bad_behind : ℕ → ℕ → ℕ → Option ℕ
bad_behind number good all = if nat_lt good all then Some (number + good) else None

-- the answer to lines of which the first has this number, from a state
unfoldable pub answer_from : {L : Type 0} → (List ℕ → Option L) → (L → Object → After (List ℕ)) → ℕ → Object → List (List ℕ) → Answer
answer_from meaning does number s lines =
    let good = good_front meaning lines in
    record { replies = replies_to does s good; bad = bad_behind number (length good) (length lines) }

-- as many pagers as a line can name
abbrev pub pagers : ℕ
pagers = 100

-- the answer to the lines behind line 1, by what line 1 makes
abbrev pub answer_behind : FirstLine → List (List ℕ) → Answer
answer_behind (Semaphore permits room) lines =
    answer_from (line_of semaphore_readings) semaphore_does 2 (new_semaphore max_permits permits room pagers) lines
answer_behind (Bounded bound permits room) lines =
    answer_from (line_of semaphore_readings) semaphore_does 2 (new_semaphore (bound_number bound) permits room pagers) lines
answer_behind (Lock room) lines = answer_from (line_of lock_readings) lock_does 2 (new_lock room pagers) lines
answer_behind (Gate room) lines = answer_from (line_of gate_readings) gate_does 2 (new_gate room pagers) lines
answer_behind (Barrier size room) lines =
    answer_from (line_of barrier_readings) barrier_does 2 (new_barrier size room pagers) lines

-- the answer to the lines of a script
abbrev pub answer_in : List (List ℕ) → Answer
answer_in lines = answer_by first_line_of answer_behind lines

-- the answer to a script
abbrev pub answer_of : List ℕ → Answer
answer_of input = on_bytes answer_in input

-- a script was run
abbrev pub Scripts : ℕ → (old new held holds : Option (List ℕ)) → Type 0
Scripts status old new held holds = RunsWhole first_line_of answer_of status old new held holds

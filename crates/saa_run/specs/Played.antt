-- How a schedule ends: what was written of the text of what was read, and with which status.
use Rattle.std.specs.Prelude.{ℕ, List, Option}
use Rattle.saa_run.specs.Schedules.{first_schedule_of}
use Rattle.saa_run.specs.Scheduled.{behind_schedule}
use Rattle.saa_run_text.specs.Text.{Answer, answer_by, on_bytes}
use Rattle.saa_run_text.specs.Outcome.{RunsWhole}

-- the answer to a schedule
abbrev pub schedule_answer : List ℕ → Answer
schedule_answer input = on_bytes (answer_by first_schedule_of behind_schedule) input

-- a schedule was run
abbrev pub Plays : ℕ → (old new held holds : Option (List ℕ)) → Type 0
Plays status old new held holds = RunsWhole first_schedule_of schedule_answer status old new held holds

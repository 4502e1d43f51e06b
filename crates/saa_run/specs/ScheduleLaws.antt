-- What always holds of a schedule's lines. `header::Header` and `steps::Session` ask for these facts, and the impls name them:
-- so they stand here, though they are lemmas.
use Rattle.std.proofs.Common.{◌≡◌, ◌<◌, ℕ, ◌+◌, List, [], length, None, ap, refl}
use Rattle.std.specs.Prelude.{if◌then◌else◌}
use Rattle.std.specs.Option.{option_map_or}
use Rattle.std.proofs.lemmas.Bool.{lt-ltb}
use Rattle.saa_word.specs.Machine.{State, is_lock}
use Rattle.saa_run.specs.declared.schedule.lines.FirstOfSchedule.{FirstOfSchedule}
use Rattle.saa_run_text.specs.Fields.{fields_of}
use Rattle.saa_run.specs.Schedules.{first_schedule_in, first_schedule_of, schedule_line_in, schedule_line_of}
use Rattle.saa_run.specs.Scheduled.{answer_schedule, behind_schedule, line_said}
use Rattle.saa_run.specs.ScheduleReplies.{schedule_words}
use Rattle.saa_run_text.specs.Text.{reply_line, with_front}
use Rattle.saa_run_text.specs.Steps.{no_lines, bad_at, IsBadAt}

-- no line of more than 80 bytes is a first line
pub first-long : (line : List ℕ) → 80 < length line → first_schedule_of line ≡ None
unfolding first_schedule_of
first-long line long = ap (λ b. if b then None else first_schedule_in (fields_of line)) (lt-ltb 80 (length line) long)

-- the empty line is no first line
pub first-empty : first_schedule_of [] ≡ None
unfolding first_schedule_of
first-empty = refl

-- where no line is left there is no answer
pub schedule-end : (number : ℕ) (state : State) → answer_schedule number state [] ≡ no_lines
unfolding answer_schedule
schedule-end number state = refl

pub behind-nothing : (first : FirstOfSchedule) → behind_schedule first [] ≡ no_lines
unfolding answer_schedule
behind-nothing first = refl

-- a line that means nothing is bad
pub schedule-bad : (number : ℕ) (state : State) (line : List ℕ) → schedule_line_of (is_lock state) (length state.places) line ≡ None → IsBadAt number (answer_schedule number state) line
unfolding answer_schedule
schedule-bad number state line none = λ others.
    ap (λ found. option_map_or (λ good. with_front (reply_line (schedule_words (line_said state good).said)) (answer_schedule (number + 1) (line_said state good).machine others)) found (bad_at number)) none

-- so is one of more than 80 bytes
pub schedule-long : (number : ℕ) (state : State) (line : List ℕ) → 80 < length line → IsBadAt number (answer_schedule number state) line
unfolding schedule_line_of
schedule-long number state line long =
    schedule-bad number state line (ap (λ b. if b then None else schedule_line_in (is_lock state) (length state.places) (fields_of line)) (lt-ltb 80 (length line) long))

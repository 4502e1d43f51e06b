-- One line of a run: what it is answered, and what a step of a run leaves. No command is known here.
use Rattle.std.specs.Prelude.{◌≡◌, ◌≤◌, ℕ, length, List, [], ◌∷◌, ◌++◌, Option, Some, None}
use Rattle.std.specs.Io.KnownBytes.{Appends, Consumes}
use Rattle.saa_run_text.specs.declared.ended.Ended.{Ended}
use Rattle.saa_run_text.specs.declared.ended.Ended.TheVariants.{Done, BadLine, ReadFailed, WriteFailed, Endless}
use Rattle.saa_run_text.specs.Transfer.{IsProperBeginning}
use Rattle.saa_run_text.specs.Text.{Answer, text, with_front, bad_line, on_bytes}
use Rattle.saa_run_text.specs.Outcome.{Runs}

-- the answer where no line is left
abbrev pub no_lines : Answer
no_lines = record { replies = []; bad = None }

-- the answer at a bad line
abbrev pub bad_at : ℕ → Answer
bad_at number = record { replies = []; bad = Some number }

-- a line with this number is bad, whatever lines follow
abbrev pub IsBadAt : ℕ → (List (List ℕ) → Answer) → List ℕ → Type 0
IsBadAt number said line = (others : List (List ℕ)) → said (line ∷ others) ≡ bad_at number

-- the end that a bad line makes: the whole line that tells of it was written, or a write failed behind a part of it
abbrev pub EndsLine : Ended → Option (List ℕ) → Option (List ℕ) → List ℕ → Type 0
EndsLine BadLine held holds told = Appends held holds told
EndsLine WriteFailed held holds told = (sent : List ℕ) × IsProperBeginning sent told × Appends held holds sent
EndsLine Done held holds told = ⊥
EndsLine ReadFailed held holds told = ⊥
EndsLine Endless held holds told = ⊥

-- What answering one line does. `here` is the answer to the lines from this one on, `next` the one to the lines behind it.
-- The line is good: its reply was written, and the run goes on behind it. It is bad: that is told. Or a write failed
abbrev pub AnswersLine : Option Ended → (List (List ℕ) → Answer) → (List (List ℕ) → Answer) → ℕ → List ℕ → Option (List ℕ) → Option (List ℕ) → Type 0
AnswersLine None here next number line held holds =
    (sent : List ℕ) × Appends held holds sent × ((others : List (List ℕ)) → here (line ∷ others) ≡ with_front sent (next others))
AnswersLine (Some BadLine) here next number line held holds = Appends held holds (bad_line number) × IsBadAt number here line
AnswersLine (Some WriteFailed) here next number line held holds =
    (sent : List ℕ) × Appends held holds sent × ((others : List (List ℕ)) → IsProperBeginning sent (text (here (line ∷ others))))
AnswersLine (Some Done) here next number line held holds = ⊥
AnswersLine (Some ReadFailed) here next number line held holds = ⊥
AnswersLine (Some Endless) here next number line held holds = ⊥

-- a run that goes on: what it read and sent so far, at least so many bytes, and that the answer to all is what was sent and
-- the answer to what is left
pub record GoesOn (least : ℕ) (here next : List ℕ → Answer) (old new held holds : Option (List ℕ)) : Type 0 where
  pub read : List ℕ
  pub sent : List ℕ
  pub consumes : Consumes old new read
  pub appends : Appends held holds sent
  pub some : least ≤ length read
  pub law : (more : List ℕ) → here (read ++ more) ≡ with_front sent (next more)

-- what a step does: one line was read and answered, and the run goes on or has ended
abbrev pub TakesStep : Option Ended → (List (List ℕ) → Answer) → (List (List ℕ) → Answer) → (old new held holds : Option (List ℕ)) → Type 0
TakesStep None here next old new held holds = GoesOn 1 (on_bytes here) (on_bytes next) old new held holds
TakesStep (Some ended) here next old new held holds = Runs ended (on_bytes here) old new held holds

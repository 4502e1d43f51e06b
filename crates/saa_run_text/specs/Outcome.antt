-- How a run ends: what was written of the text of what was read, and with which status.
use Rattle.std.specs.Prelude.{◌≡◌, ◌≤◌, ◌⊎◌, ℕ, ◌-◌, ◌^◌, List, [], ◌∷◌, ◌++◌, length, Option, IsSome, IsNone, Result, Ok, Err, codes}
use Rattle.std.specs.declared.alloc.AllocError.{AllocError}
use Rattle.std.specs.Io.KnownBytes.{Appends, Consumes, IsAtEnd, Keeps}
use Rattle.saa_run_text.specs.declared.ended.Ended.{Ended}
use Rattle.saa_run_text.specs.declared.ended.Ended.TheVariants.{Done, BadLine, ReadFailed, WriteFailed, Endless}
use Rattle.saa_run_text.specs.Transfer.{IsBeginning, IsProperBeginning, IsUnbroken}
use Rattle.saa_run_text.specs.Text.{Answer, text, on_bytes}

-- All lines of what was read were answered: the text of these bytes is written, and they have no bad line.
-- Where nothing was read, nothing is written
abbrev pub AnswersAll : (List ℕ → Answer) → List ℕ → List ℕ → Type 0
AnswersAll said lines sent = ((lines ≡ []) × (sent ≡ [])) ⊎ ((sent ≡ text (said lines)) × IsNone (said lines).bad)

-- A run that a failed read stopped. What was read are lines, each answered, and at most 80 bytes of one more line, which
-- isn't judged: what is written is a beginning of the text of the input, whatever would have followed
pub record StopsReading (said : List ℕ → Answer) (read sent : List ℕ) : Type 0 where
  pub lines : List ℕ
  pub part : List ℕ
  pub cut : read ≡ lines ++ part
  pub unbroken : IsUnbroken part
  pub short : length part ≤ 80
  pub answered : AnswersAll said lines sent
  pub always : (more : List ℕ) → IsBeginning sent (text (said (read ++ more)))

-- A run that a failed write stopped: a beginning of the text of the input is written, and not all of it, whatever follows
-- what was read, or that is the whole input
abbrev pub StopsWriting : (List ℕ → Answer) → List ℕ → List ℕ → Option (List ℕ) → Type 0
StopsWriting said read sent left =
    ((more : List ℕ) → IsProperBeginning sent (text (said (read ++ more)))) ⊎ (IsAtEnd left × IsProperBeginning sent (text (said read)))

-- A run that came to no end in as many lines as can be counted: each was answered
pub record NeverEnds (said : List ℕ → Answer) (read sent : List ℕ) : Type 0 where
  pub many : 2 ^ 64 - 3 ≤ length read
  pub answered : AnswersAll said read sent
  pub always : (more : List ℕ) → IsBeginning sent (text (said (read ++ more)))

-- What was read and sent when a run ends, by how it ends. `said` gives the answer to an input, and left is what the
-- reader has still. Done: the input was read to its end, has no bad line, and its text is written.
-- A bad line: the text of what was read is written and ends with a bad line; the answer is the same whatever follows,
-- or the input was read to its end
abbrev pub IsEnd : Ended → (List ℕ → Answer) → List ℕ → List ℕ → Option (List ℕ) → Type 0
IsEnd Done said read sent left = (sent ≡ text (said read)) × IsNone (said read).bad × IsAtEnd left
IsEnd BadLine said read sent left = (sent ≡ text (said read)) × IsSome (said read).bad × (IsAtEnd left ⊎ ((more : List ℕ) → said (read ++ more) ≡ said read))
IsEnd ReadFailed said read sent left = StopsReading said read sent
IsEnd WriteFailed said read sent left = StopsWriting said read sent left
IsEnd Endless said read sent left = NeverEnds said read sent

-- A run that has ended: what it read and sent, and how that fits. old and new are what the reader had and has,
-- held and holds what the writer had and has
pub record Runs (ended : Ended) (said : List ℕ → Answer) (old new held holds : Option (List ℕ)) : Type 0 where
  pub read : List ℕ
  pub sent : List ℕ
  pub consumes : Consumes old new read
  pub appends : Appends held holds sent
  pub end : IsEnd ended said read sent new

-- what is said where memory is refused
abbrev pub no_memory : List ℕ
no_memory = codes "no memory\n"

-- Memory was refused: line 1 was read, with its newline and nothing behind it, it is good, and nothing is written but this
abbrev pub IsRefused : {F : Type 0} → (List ℕ → Option F) → List ℕ → List ℕ → List ℕ → Type 0
IsRefused reads read sent told = (line : List ℕ) × (read ≡ line ++ 10 ∷ []) × IsSome (reads line) × (sent ≡ told)

-- Why a run fails, each with what was read and sent: a read failed; a write failed; the input has no end; the whole text
-- is written, and a flush failed behind it; or memory was refused, and a write or a flush failed as that was told
abbrev pub IsFailure : {F : Type 0} → (List ℕ → Option F) → (List ℕ → Answer) → List ℕ → List ℕ → Option (List ℕ) → Type 0
IsFailure reads said read sent left =
    IsEnd ReadFailed said read sent left
    ⊎ IsEnd WriteFailed said read sent left
    ⊎ IsEnd Endless said read sent left
    ⊎ (IsEnd Done said read sent left ⊎ IsEnd BadLine said read sent left)
    ⊎ ((part : List ℕ) × IsBeginning part no_memory × IsRefused reads read sent part)

-- the status of a run. 0: done. 2: a bad line. 3: memory was refused, and that is told. 4: it failed
abbrev pub IsOutcome : {F : Type 0} → (List ℕ → Option F) → (List ℕ → Answer) → ℕ → List ℕ → List ℕ → Option (List ℕ) → Type 0
IsOutcome reads said status read sent left =
    ((status ≡ 0) × IsEnd Done said read sent left)
    ⊎ ((status ≡ 2) × IsEnd BadLine said read sent left)
    ⊎ ((status ≡ 3) × IsRefused reads read sent no_memory)
    ⊎ ((status ≡ 4) × IsFailure reads said read sent left)

-- An input was run, by which first lines are good and what answers it: what was read of it, what was written, and the status that
-- holds of both
pub record RunsWhole {F : Type 0} (reads : List ℕ → Option F) (said : List ℕ → Answer) (status : ℕ) (old new held holds : Option (List ℕ)) : Type 0 where
  pub read : List ℕ
  pub sent : List ℕ
  pub consumes : Consumes old new read
  pub appends : Appends held holds sent
  pub outcome : IsOutcome reads said status read sent new

-- what the lines behind the first do, by the answer to them: they are run, or memory is refused and nothing is read or written
abbrev pub OpensWith : Result Ended AllocError → (List (List ℕ) → Answer) → Option (List ℕ) → Option (List ℕ) → Option (List ℕ) → Option (List ℕ) → Type 0
OpensWith (Ok ended) said old new held holds = Runs ended (on_bytes said) old new held holds
OpensWith (Err refused) said old new held holds = Keeps old new × Keeps held holds

-- what a start does: a whole run, or memory is refused behind a good first line
abbrev pub Starts : {F : Type 0} → (List ℕ → Option F) → (List ℕ → Answer) → Result Ended AllocError → Option (List ℕ) → Option (List ℕ) → Option (List ℕ) → Option (List ℕ) → Type 0
Starts reads said (Ok ended) old new held holds = Runs ended said old new held holds
Starts reads said (Err refused) old new held holds = (line : List ℕ) × IsSome (reads line) × Consumes old new (line ++ 10 ∷ []) × Keeps held holds

-- A last text was written, and a status answered: the status is as wanted, or it is 4 and a beginning of the text was written
abbrev pub Tells : ℕ → ℕ → List ℕ → Option (List ℕ) → Option (List ℕ) → Type 0
Tells status wanted told held holds =
    ((status ≡ wanted) × Appends held holds told)
    ⊎ ((status ≡ 4) × ((part : List ℕ) × IsBeginning part told × Appends held holds part))

-- how a run that ended is finished: the status
abbrev pub Ends : Ended → ℕ → Type 0
Ends Done status = (status ≡ 0) ⊎ (status ≡ 4)
Ends BadLine status = (status ≡ 2) ⊎ (status ≡ 4)
Ends ReadFailed status = status ≡ 4
Ends WriteFailed status = status ≡ 4
Ends Endless status = status ≡ 4

-- how a run is finished: what is still written, and the status
abbrev pub Finishes : Result Ended AllocError → ℕ → Option (List ℕ) → Option (List ℕ) → Type 0
Finishes (Ok ended) status held holds = Keeps held holds × Ends ended status
Finishes (Err refused) status held holds = Tells status 3 no_memory held holds

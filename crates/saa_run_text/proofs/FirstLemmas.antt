-- The first line of an input, and the end of its run.
use Rattle.std.proofs.Common.{◌≡◌, ◌<◌, ℕ, ◌⊎◌, inl, inr, List, [], ◌∷◌, ◌++◌, length, Option, Some, None, Result, Ok, Err, sym, ap, subst, ◌∙◌, refl, arith}
use Rattle.std.specs.declared.alloc.AllocError.{AllocError}
use Rattle.std.specs.Prelude.{IsSome}
use Rattle.std.specs.Option.{option_map_or}
use Rattle.std.specs.Io.KnownBytes.{Consumes, IsAtEnd}
use Rattle.std.proofs.KnownBytes.{Appends-nil, Appends-kept, Consumes-kept}
use Rattle.std.specs.Io.KnownBytes.{Appends, Keeps}
use Rattle.saa_run_text.specs.declared.ended.Ended.{Ended}
use Rattle.saa_run_text.specs.declared.ended.Ended.TheVariants.{Done, BadLine, ReadFailed, WriteFailed, Endless}
use Rattle.saa_run_text.specs.Transfer.{IsProperBeginning, IsUnbroken}
use Rattle.saa_run_text.specs.Text.{Answer, text, with_front, bad_line, bad_first, on_bytes, answer_by}
use Rattle.saa_run_text.specs.Outcome.{Runs, RunsWhole, IsEnd, OpensWith, Starts, IsOutcome, Finishes, Ends, no_memory}
use Rattle.saa_run_text.specs.Steps.{no_lines, IsBadAt, EndsLine, AnswersLine}
use Rattle.saa_run_text.proofs.StepLemmas.{step-newline, step-last, step-last-ended, step-long}
use Rattle.saa_run_text.proofs.BehindLemmas.{runs-behind}

-- a bad line that was told is a line that was answered
answers-bad : (here next : List (List ℕ) → Answer) (number : ℕ) (line : List ℕ) (held holds : Option (List ℕ)) (ended : Ended) → IsBadAt number here line → EndsLine ended held holds (bad_line number)
    → AnswersLine (Some ended) here next number line held holds
answers-bad here next number line held holds BadLine bad told = (told, bad)
answers-bad here next number line held holds WriteFailed bad told = (told.0, told.2, λ others. subst (λ answer. IsProperBeginning told.0 (text answer)) (sym (bad others)) told.1)
answers-bad here next number line held holds Done bad told = absurd told
answers-bad here next number line held holds ReadFailed bad told = absurd told
answers-bad here next number line held holds Endless bad told = absurd told

-- a line has a byte or none
some_or_none : (line : List ℕ) → (line ≡ []) ⊎ (0 < length line)
some_or_none [] = inl refl
some_or_none (b ∷ bs) = inr (omega arith)

module _ {F : Type 0} (reads : List ℕ → Option F) (behind : F → List (List ℕ) → Answer) where
  -- the answer to an input
  abbrev answer : List ℕ → Answer
  answer input = on_bytes (answer_by reads behind) input

  -- a first line that means nothing is bad
  IsBadAt-first : (line : List ℕ) → reads line ≡ None → IsBadAt 1 (answer_by reads behind) line
  IsBadAt-first line none = λ others. ap (λ found. option_map_or (λ good. behind good others) found bad_first) none

  -- an empty input: line 1 is bad
  empty-bad : (ended : Ended) (read : List ℕ) (old new held holds : Option (List ℕ)) → Consumes old new read → read ≡ [] → IsAtEnd new → EndsLine ended held holds (bad_line 1) → Runs ended answer old new held holds
  empty-bad BadLine read old new held holds consumes empty end told =
      let said : answer read ≡ bad_first = ap answer empty in
      record { read = read; sent = bad_line 1; consumes = consumes; appends = told; end = (sym (ap text said), subst (λ answer. IsSome answer.bad) (sym said) refl, inl end) }
  empty-bad WriteFailed read old new held holds consumes empty end told =
      let said : answer read ≡ bad_first = ap answer empty in
      record { read = read; sent = told.0; consumes = consumes; appends = told.2; end = inr (end, subst (λ answer. IsProperBeginning told.0 (text answer)) (sym said) told.1) }
  empty-bad Done read old new held holds consumes empty end told = absurd told
  empty-bad ReadFailed read old new held holds consumes empty end told = absurd told
  empty-bad Endless read old new held holds consumes empty end told = absurd told

  -- what a good first line leaves to answer
  first-good : (line : List ℕ) (first : F) → reads line ≡ Some first → (others : List (List ℕ)) → answer_by reads behind (line ∷ others) ≡ with_front [] (behind first others)
  first-good line first good others = ap (λ found. option_map_or (λ good. behind good others) found bad_first) good

  -- a good first line has a byte
  first-some : reads [] ≡ None → (line : List ℕ) (first : F) → reads line ≡ Some first → 0 < length line
  first-some none [] first good = absurd (cc)
  first-some none (b ∷ bs) first good = omega arith

  module _ (line read : List ℕ) (old new : Option (List ℕ)) (consumes : Consumes old new read) (unbroken : IsUnbroken line) where
    -- a first line that ended with a newline and is bad
    pub first-newline-bad : (ended : Ended) (held holds : Option (List ℕ)) → read ≡ line ++ 10 ∷ [] → None ≡ reads line → EndsLine ended held holds (bad_line 1) → Runs ended answer old new held holds
    first-newline-bad ended held holds cut none told =
        step-newline (answer_by reads behind) (answer_by reads behind) 1 line read old new held holds consumes unbroken (Some ended) cut
        (answers-bad (answer_by reads behind) (answer_by reads behind) 1 line held holds ended (IsBadAt-first line (sym none)) told)

    -- a first line that the input ends with and that is bad
    pub first-last-bad : (ended : Ended) (held holds : Option (List ℕ)) → read ≡ line → IsAtEnd new → None ≡ reads line → EndsLine ended held holds (bad_line 1) → Runs ended answer old new held holds
    first-last-bad ended held holds cut end none told = elim (some_or_none line) [
      | inl empty ↦ empty-bad ended read old new held holds consumes (cut ∙ empty) end told
      | inr some ↦ step-last-ended (answer_by reads behind) (answer_by reads behind) 1 line read old new held holds consumes unbroken ended cut some end
          (answers-bad (answer_by reads behind) (answer_by reads behind) 1 line held holds ended (IsBadAt-first line (sym none)) told)
    ]

    -- a first line that is too long
    pub first-long-bad : ((longer : List ℕ) → 80 < length longer → reads longer ≡ None) → (ended : Ended) (held holds : Option (List ℕ)) → read ≡ line → 80 < length line → EndsLine ended held holds (bad_line 1) → Runs ended answer old new held holds
    first-long-bad none ended held holds cut long told =
        step-long (answer_by reads behind) (answer_by reads behind) 1 line read old new held holds consumes unbroken ended cut long (λ longer is_long. IsBadAt-first longer (none longer is_long)) told

    -- a good first line that the input ends with
    pub first-last-good : reads [] ≡ None → ((first : F) → behind first [] ≡ no_lines) → (first : F) (held : Option (List ℕ)) → read ≡ line → IsAtEnd new → Some first ≡ reads line → Runs Done answer old new held held
    first-last-good none at_end first held cut end good =
        step-last (answer_by reads behind) (behind first) 1 line read old new held held consumes unbroken cut (first-some none line first (sym good)) end (at_end first)
        ([], Appends-nil held, first-good line first (sym good))

    -- a good first line, and the run behind it
    first-newline-good : ((first : F) → behind first [] ≡ no_lines) → (first : F) (ended : Ended) (last held holds : Option (List ℕ)) → read ≡ line ++ 10 ∷ [] → Some first ≡ reads line
        → Runs ended (on_bytes (behind first)) new last held holds → Runs ended answer old last held holds
    first-newline-good at_end first ended last held holds cut good runs =
        runs-behind 1 ended answer (on_bytes (behind first)) old new last held held holds (at_end first)
        (step-newline (answer_by reads behind) (behind first) 1 line read old new held held consumes unbroken None cut ([], Appends-nil held, first-good line first (sym good))) runs

    -- a good first line that ended with a newline, and what it opens
    pub first-newline-opens : ((first : F) → behind first [] ≡ no_lines) → (first : F) (opened : Result Ended AllocError) (last held holds : Option (List ℕ)) → read ≡ line ++ 10 ∷ [] → Some first ≡ reads line
        → OpensWith opened (behind first) new last held holds → Starts reads answer opened old last held holds
    first-newline-opens at_end first (Ok ended) last held holds cut good runs = first-newline-good at_end first ended last held holds cut good runs
    first-newline-opens at_end first (Err refused) last held holds cut good (keeps_reader, keeps_writer) = (
      line,
      subst IsSome good refl,
      subst (Consumes old last) cut (Consumes-kept old new last read consumes keeps_reader),
      keeps_writer,
    )

-- what is written behind a writer that was kept as it was
Appends-behind : (old mid new : Option (List ℕ)) (bytes : List ℕ) → Keeps old mid → Appends mid new bytes → Appends old new bytes
Appends-behind None mid new bytes keeps appends = tt
Appends-behind (Some xs) None new bytes keeps appends = absurd keeps
Appends-behind (Some xs) (Some ys) None bytes keeps appends = absurd appends
Appends-behind (Some xs) (Some ys) (Some zs) bytes keeps appends = appends ∙ ap (λ held. held ++ bytes) keeps

module _ {F : Type 0} (reads : List ℕ → Option F) (said : List ℕ → Answer) where
  -- a run that ended well, or told of a bad line, with its status, or with 4 where the flush behind it failed; and a run that failed
  is_outcome : (ended : Ended) (status : ℕ) (read sent : List ℕ) (left : Option (List ℕ)) → Ends ended status → IsEnd ended said read sent left → IsOutcome reads said status read sent left
  is_outcome Done status read sent left (inl is) end = inl (is, end)
  is_outcome Done status read sent left (inr is) end = inr (inr (inr (is, inr (inr (inr (inl (inl end)))))))
  is_outcome BadLine status read sent left (inl is) end = inr (inl (is, end))
  is_outcome BadLine status read sent left (inr is) end = inr (inr (inr (is, inr (inr (inr (inl (inr end)))))))
  is_outcome ReadFailed status read sent left is end = inr (inr (inr (is, inl end)))
  is_outcome WriteFailed status read sent left is end = inr (inr (inr (is, inr (inl end))))
  is_outcome Endless status read sent left is end = inr (inr (inr (is, inr (inr (inl end)))))

  -- a start that was finished is a whole run
  pub runs_whole : (started : Result Ended AllocError) (status : ℕ) (old new held mid holds : Option (List ℕ)) → Starts reads said started old new held mid → Finishes started status mid holds → RunsWhole reads said status old new held holds
  runs_whole (Ok ended) status old new held mid holds runs (keeps, ends) = record {
    read = runs.read;
    sent = runs.sent;
    consumes = runs.consumes;
    appends = Appends-kept held mid holds runs.sent runs.appends keeps;
    outcome = is_outcome ended status runs.read runs.sent new ends runs.end;
  }
  runs_whole (Err refused) status old new held mid holds start (inl (is, appends)) = record {
    read = start.0 ++ 10 ∷ [];
    sent = no_memory;
    consumes = start.2;
    appends = Appends-behind held mid holds no_memory start.3 appends;
    outcome = inr (inr (inl (is, (start.0, refl, start.1, refl))));
  }
  runs_whole (Err refused) status old new held mid holds start (inr (is, part)) = record {
    read = start.0 ++ 10 ∷ [];
    sent = part.0;
    consumes = start.2;
    appends = Appends-behind held mid holds part.0 start.3 part.2;
    outcome = inr (inr (inr (is, inr (inr (inr (inr (part.0, part.1, (start.0, refl, start.1, refl))))))));
  }

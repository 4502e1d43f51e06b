-- One line that was cut off and answered is one step of a run. No command is known here.
use Rattle.std.proofs.Common.{◌≡◌, ◌<◌, ◌≤◌, ℕ, ◌⊎◌, inl, inr, List, [], ◌∷◌, ◌++◌, length, Option, Some, None, sym, ap, subst, ◌∙◌, refl, append_assoc, append-nil, arith, length-append}
use Rattle.std.specs.Prelude.{IsSome, IsNone}
use Rattle.std.specs.Option.{option_map_or}
use Rattle.std.specs.Io.KnownBytes.{Consumes, IsAtEnd}
use Rattle.std.proofs.KnownBytes.{Appends-nil}
use Rattle.saa_run_text.specs.declared.ended.Ended.{Ended}
use Rattle.saa_run_text.specs.declared.ended.Ended.TheVariants.{Done, BadLine, ReadFailed, WriteFailed, Endless}
use Rattle.saa_run_text.specs.Transfer.{IsBeginning, IsProperBeginning, IsUnbroken}
use Rattle.saa_run_text.specs.Text.{Answer, text, with_front, bad_line, on_bytes, lines_of}
use Rattle.saa_run_text.specs.Outcome.{Runs, IsEnd}
use Rattle.saa_run_text.specs.Steps.{no_lines, bad_at, IsBadAt, EndsLine, AnswersLine, TakesStep}
use Rattle.saa_run_text.proofs.TransferLemmas.{IsProperBeginning-more}
use Rattle.saa_run_text.proofs.LineLemmas.{lines_of-newline, lines_of-last, lines_of-begins}

-- nothing is a beginning of everything
pub IsBeginning-nil : (whole : List ℕ) → IsBeginning [] whole
IsBeginning-nil whole = (whole, refl)

-- a beginning of the replies in front is one of the whole text
pub IsProperBeginning-answer : (here next : Answer) (told front : List ℕ) → here ≡ with_front told next → IsProperBeginning front told → IsProperBeginning front (text here)
IsProperBeginning-answer here next told front same begins =
    subst (λ answer. IsProperBeginning front (text answer)) (sym same)
    (subst (IsProperBeginning front) (sym (append_assoc told next.replies (option_map_or bad_line next.bad []))) (IsProperBeginning-more front told (next.replies ++ option_map_or bad_line next.bad []) begins))

-- a bad line ends a run: what is said is its number's line, whatever follows
ends_bad : (said : List ℕ → Answer) (number : ℕ) (read sent : List ℕ) (left : Option (List ℕ)) → sent ≡ bad_line number → said read ≡ bad_at number
    → (IsAtEnd left ⊎ ((more : List ℕ) → said (read ++ more) ≡ bad_at number)) → IsEnd BadLine said read sent left
ends_bad said number read sent left told bad (inl end) = (told ∙ sym (ap text bad), subst (λ answer. IsSome answer.bad) (sym bad) refl, inl end)
ends_bad said number read sent left told bad (inr always) = (told ∙ sym (ap text bad), subst (λ answer. IsSome answer.bad) (sym bad) refl, inr (λ more. always more ∙ sym bad))

module _ (here next : List (List ℕ) → Answer) (number : ℕ) (line read : List ℕ) (old new held holds : Option (List ℕ)) (consumes : Consumes old new read) (unbroken : IsUnbroken line) where
  -- what is said of a line that ended with a newline
  said_newline : read ≡ line ++ 10 ∷ [] → (more : List ℕ) → on_bytes here (read ++ more) ≡ here (line ∷ lines_of more)
  said_newline cut more = ap here (ap (λ bytes. lines_of (bytes ++ more)) cut ∙ lines_of-newline line more unbroken)

  -- the same where nothing follows
  said_alone : read ≡ line ++ 10 ∷ [] → on_bytes here read ≡ here (line ∷ [])
  said_alone cut = ap (on_bytes here) (sym (append-nil read)) ∙ said_newline cut []

  -- a line that ended with a newline, and was answered
  pub step-newline : (result : Option Ended) → read ≡ line ++ 10 ∷ [] → AnswersLine result here next number line held holds → TakesStep result here next old new held holds
  step-newline None cut answered = record {
    read = read;
    sent = answered.0;
    consumes = consumes;
    appends = answered.1;
    some = omega (arith, length-append line (10 ∷ []), ap length cut);
    law = λ more. said_newline cut more ∙ answered.2 (lines_of more);
  }
  step-newline (Some BadLine) cut answered = record {
    read = read;
    sent = bad_line number;
    consumes = consumes;
    appends = answered.0;
    end = ends_bad (on_bytes here) number read (bad_line number) new refl (said_alone cut ∙ answered.1 []) (inr (λ more. said_newline cut more ∙ answered.1 (lines_of more)));
  }
  step-newline (Some WriteFailed) cut answered = record {
    read = read;
    sent = answered.0;
    consumes = consumes;
    appends = answered.1;
    end = inl (λ more. subst (λ answer. IsProperBeginning answered.0 (text answer)) (sym (said_newline cut more)) (answered.2 (lines_of more)));
  }
  step-newline (Some Done) cut answered = absurd answered
  step-newline (Some ReadFailed) cut answered = absurd answered
  step-newline (Some Endless) cut answered = absurd answered

  -- what is said of a last line
  said_last : read ≡ line → 0 < length line → on_bytes here read ≡ here (line ∷ [])
  said_last cut some = ap here (ap lines_of cut ∙ lines_of-last line unbroken some)

  -- a last line that no newline ends, and was good
  pub step-last : read ≡ line → 0 < length line → IsAtEnd new → next [] ≡ no_lines → AnswersLine None here next number line held holds → Runs Done (on_bytes here) old new held holds
  step-last cut some end nothing answered =
      let said : on_bytes here read ≡ with_front answered.0 no_lines = said_last cut some ∙ answered.2 [] ∙ ap (with_front answered.0) nothing in
      let sent : answered.0 ≡ text (with_front answered.0 no_lines) = sym (append-nil (answered.0 ++ []) ∙ append-nil answered.0) in
      record {
        read = read;
        sent = answered.0;
        consumes = consumes;
        appends = answered.1;
        end = (sent ∙ sym (ap text said), subst (λ answer. IsNone answer.bad) (sym said) refl, end);
      }

  -- a last line that no newline ends, and was bad, or a write failed
  pub step-last-ended : (ended : Ended) → read ≡ line → 0 < length line → IsAtEnd new → AnswersLine (Some ended) here next number line held holds → Runs ended (on_bytes here) old new held holds
  step-last-ended BadLine cut some end answered = record {
    read = read;
    sent = bad_line number;
    consumes = consumes;
    appends = answered.0;
    end = ends_bad (on_bytes here) number read (bad_line number) new refl (said_last cut some ∙ answered.1 []) (inl end);
  }
  step-last-ended WriteFailed cut some end answered = record {
    read = read;
    sent = answered.0;
    consumes = consumes;
    appends = answered.1;
    end = inr (end, subst (λ answer. IsProperBeginning answered.0 (text answer)) (sym (said_last cut some)) (answered.2 []));
  }
  step-last-ended Done cut some end answered = absurd answered
  step-last-ended ReadFailed cut some end answered = absurd answered
  step-last-ended Endless cut some end answered = absurd answered

  -- what is said of a line that is too long, whatever follows
  said_long : read ≡ line → 80 < length line → ((long : List ℕ) → 80 < length long → IsBadAt number here long) → (more : List ℕ) → on_bytes here (read ++ more) ≡ bad_at number
  said_long cut long bad more =
      let begins = lines_of-begins line more unbroken (omega arith) in
      ap here (ap (λ bytes. lines_of (bytes ++ more)) cut ∙ begins.lines) ∙ bad (line ++ begins.rest) (omega (arith, length-append line begins.rest)) begins.others

  -- a line that is too long
  pub step-long : (ended : Ended) → read ≡ line → 80 < length line → ((long : List ℕ) → 80 < length long → IsBadAt number here long) → EndsLine ended held holds (bad_line number) → Runs ended (on_bytes here) old new held holds
  step-long BadLine cut long bad told =
      let always = said_long cut long bad in
      record {
        read = read;
        sent = bad_line number;
        consumes = consumes;
        appends = told;
        end = ends_bad (on_bytes here) number read (bad_line number) new refl (ap (on_bytes here) (sym (append-nil read)) ∙ always []) (inr always);
      }
  step-long WriteFailed cut long bad told = record {
    read = read;
    sent = told.0;
    consumes = consumes;
    appends = told.2;
    end = inl (λ more. subst (λ answer. IsProperBeginning told.0 (text answer)) (sym (said_long cut long bad more)) told.1);
  }
  step-long Done cut long bad told = absurd told
  step-long ReadFailed cut long bad told = absurd told
  step-long Endless cut long bad told = absurd told

-- a read that failed: nothing is said of the line
pub step-failed : (said : List ℕ → Answer) (line read : List ℕ) (old new held : Option (List ℕ)) → Consumes old new read → IsUnbroken line → (read ≡ line) × (length line ≤ 80) → Runs ReadFailed said old new held held
step-failed said line read old new held consumes unbroken cut = record {
  read = read;
  sent = [];
  consumes = consumes;
  appends = Appends-nil held;
  end = record {
    lines = [];
    part = line;
    cut = cut.0;
    unbroken = unbroken;
    short = cut.1;
    answered = inl (refl, refl);
    always = λ more. IsBeginning-nil (text (said (read ++ more)));
  };
}

-- the end of the input, where no line is left
pub step-end : (here : List (List ℕ) → Answer) (read : List ℕ) (old new held : Option (List ℕ)) → Consumes old new read → read ≡ [] → IsAtEnd new → here [] ≡ no_lines → Runs Done (on_bytes here) old new held held
step-end here read old new held consumes empty end nothing =
    let said : on_bytes here read ≡ no_lines = ap (on_bytes here) empty ∙ nothing in
    record { read = read; sent = []; consumes = consumes; appends = Appends-nil held; end = (sym (ap text said), subst (λ answer. IsNone answer.bad) (sym said) refl, end) }

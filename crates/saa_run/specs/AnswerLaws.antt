-- What always holds of the answer to lines. `steps::Session` asks for these facts of every session, and its impls
-- name them: so they stand here, though they are lemmas.
use Rattle.std.proofs.Common.{◌≡◌, ◌<◌, ℕ, ◌+◌, ◌∙◌, List, [], ◌∷◌, length, Option, Some, None, ap, refl, add-zero}
use Rattle.std.specs.Prelude.{if◌then◌else◌}
use Rattle.std.specs.Option.{option_map_or}
use Rattle.std.proofs.lemmas.Bool.{lt-ltb}
use Rattle.std.proofs.Math.Nat.{zero-lt-suc}
use Rattle.saa_core_spec.specs.Object.{Object, After}
use Rattle.saa_run_text.specs.Fields.{fields_of}
use Rattle.saa_run.specs.declared.script.command.ScriptLine.{ScriptLine}
use Rattle.saa_run.specs.Language.{Readings, line_in, line_of}
use Rattle.saa_run_text.specs.Text.{Answer}
use Rattle.saa_run.specs.ScriptText.{answer_from, good_front, replies_to, bad_behind}
use Rattle.saa_run_text.specs.Steps.{no_lines, bad_at, IsBadAt}

module _ {L : Type 0} (meaning : List ℕ → Option L) (does : L → Object → After (List ℕ)) where
  -- where no line is left there is no answer
  pub answer-none : (number : ℕ) (s : Object) → answer_from meaning does number s [] ≡ no_lines
  unfolding answer_from good_front
  answer-none number s = refl

  -- the answer to lines, by the good ones in front
  by_front : ℕ → Object → ℕ → List L → Answer
  by_front number s all good = record { replies = replies_to does s good; bad = bad_behind number (length good) all }

  -- no replies, and perhaps a bad line
  only_bad : Option ℕ → Answer
  only_bad bad = record { replies = []; bad = bad }

  -- a bad line ends the answer
  pub answer-bad : (number : ℕ) (s : Object) (line : List ℕ) (lines : List (List ℕ)) → meaning line ≡ None → answer_from meaning does number s (line ∷ lines) ≡ bad_at number
  unfolding answer_from good_front by_front only_bad
  answer-bad number s line lines means =
      ap (λ found. by_front number s (length (line ∷ lines)) (option_map_or (λ good. good ∷ good_front meaning lines) found [])) means
      ∙ ap (λ b. only_bad (if b then Some (number + 0) else None)) (lt-ltb 0 (length (line ∷ lines)) (zero-lt-suc (length lines)))
      ∙ ap (λ n. only_bad (Some n)) (add-zero number)

module _ {C K : Type 0} (readings : Readings C K) where
  -- no line of more than 80 bytes means anything
  pub line-long : (line : List ℕ) → 80 < length line → line_of readings line ≡ None
  unfolding line_of
  line-long line long = ap (λ b. if b then None else line_in readings (fields_of line)) (lt-ltb 80 (length line) long)

  -- so it is bad
  pub line-too_long : (does : ScriptLine C K → Object → After (List ℕ)) (number : ℕ) (s : Object) (line : List ℕ) → 80 < length line → IsBadAt number (answer_from (line_of readings) does number s) line
  line-too_long does number s line long = λ others. answer-bad (line_of readings) does number s line others (line-long line long)

-- The answer to lines: what a good line puts in front, and where a bad one ends it.
use Rattle.std.proofs.Common.{◌≡◌, ◌<◌, ℕ, suc, ◌+◌, Bool, true, false, List, ◌∷◌, ◌++◌, length, Option, Some, None, cond, Result, sym, ap, subst, ◌∙◌, refl, arith}
use Rattle.std.specs.Prelude.{nat_lt}
use Rattle.std.proofs.lemmas.Bool.Decides.{nat_tests}
use Rattle.saa_core_spec.specs.declared.request.Request.{Request}
use Rattle.saa_core_spec.specs.declared.run.CommandOf.{CommandOf}
use Rattle.saa_core_spec.specs.declared.run.ReplyOf.{ReplyOf}
use Rattle.saa_core_spec.specs.declared.polling.Error.{Error}
use Rattle.saa_core_spec.specs.Object.{Object, After}
use Rattle.saa_core_spec.specs.Run.{IsWithin, done}
use Rattle.saa_run.specs.declared.script.command.ScriptLine.{ScriptLine}
use Rattle.saa_run.specs.declared.script.command.ScriptLine.TheVariants.{Do, Registered}
use Rattle.saa_run.specs.Language.{Readings, line_of}
use Rattle.saa_run.specs.Replies.{line_does, truth_word, is_registered}
use Rattle.saa_run_text.specs.Text.{Answer, with_front, reply_line}
use Rattle.saa_run.specs.ScriptText.{answer_from, good_front, replies_to, bad_behind}
use Rattle.saa_run.proofs.ReadingLemmas.{line_within}

-- one more line in front and one more number is the same count
bad_behind-suc : (number good all : ℕ) → bad_behind number (suc good) (suc all) ≡ bad_behind (number + 1) good all
bad_behind-suc number good all = same (nat_lt (suc good) (suc all)) (nat_lt good all) (grind (arith, nat_tests))
  where
    same : (a b : Bool) → a ≡ b → cond a (Some (number + suc good)) None ≡ cond b (Some ((number + 1) + good)) None
    same true true e = ap Some (omega arith)
    same false false e = refl
    same true false e = cc
    same false true e = cc

module _ {L : Type 0} (meaning : List ℕ → Option L) (does : L → Object → After (List ℕ)) where
  -- a good line puts its reply in front of the answer to the lines behind it
  pub answer-good : (number : ℕ) (s : Object) (line : List ℕ) (good : L) (lines : List (List ℕ)) → meaning line ≡ Some good
      → answer_from meaning does number s (line ∷ lines) ≡ with_front (reply_line (does good s).reply) (answer_from meaning does (number + 1) (does good s).state lines)
  unfolding answer_from good_front
  answer-good number s line good lines means =
      let front : List ℕ = reply_line (does good s).reply ++ replies_to does (does good s).state (good_front meaning lines) in
      let counted : Option ℕ → Answer = λ bad. record { replies = front; bad = bad } in
      rw means (ap counted (bad_behind-suc number (length (good_front meaning lines)) (length lines)))

module _ {C K A V : Type 0} (readings : Readings C K) (words : ReplyOf A V → List ℕ) (request : K → Request) (step : C → Object → After A) (value : Result ℕ Error → V) where
  -- what a line does
  abbrev does : ScriptLine C K → Object → After (List ℕ)
  does line s = line_does words request step value line s

  -- the answer where the next line is a command
  pub answer-command : (number : ℕ) (s next : Object) (line said : List ℕ) (good : ScriptLine C K) (command : CommandOf C K) (result : ReplyOf A V) (others : List (List ℕ))
      → Some good ≡ line_of readings line → good ≡ Do command → done request step value command s ≡ record { state = next; reply = result } → said ≡ words result
      → answer_from (line_of readings) does number s (line ∷ others) ≡ with_front (reply_line said) (answer_from (line_of readings) does (number + 1) next others)
  answer-command number s next line said good command result others means is acts says =
      let follows : After (ReplyOf A V) → Answer = λ after. with_front (reply_line (words after.reply)) (answer_from (line_of readings) does (number + 1) after.state others) in
      answer-good (line_of readings) does number s line (Do command) others (sym means ∙ ap Some is)
      ∙ ap follows acts
      ∙ ap (λ w. with_front (reply_line w) (answer_from (line_of readings) does (number + 1) next others)) (sym says)

  -- the answer where the next line asks after a pager
  pub answer-question : (number : ℕ) (s : Object) (line : List ℕ) (good : ScriptLine C K) (pager : ℕ) (truth : Bool) (others : List (List ℕ))
      → Some good ≡ line_of readings line → good ≡ Registered pager → truth ≡ is_registered s pager
      → answer_from (line_of readings) does number s (line ∷ others) ≡ with_front (reply_line (truth_word truth)) (answer_from (line_of readings) does (number + 1) s others)
  answer-question number s line good pager truth others means is said =
      answer-good (line_of readings) does number s line (Registered pager) others (sym means ∙ ap Some is)
      ∙ ap (λ t. with_front (reply_line (truth_word t)) (answer_from (line_of readings) does (number + 1) s others)) (sym said)

module _ {C K : Type 0} (readings : Readings C K) (line : List ℕ) (good : ScriptLine C K) (names : ℕ) (all : names ≡ 100) (means : Some good ≡ line_of readings line) where
  -- the pagers that a command names, on a bench of 100
  pub command-within : (command : CommandOf C K) → good ≡ Do command → IsWithin names command
  command-within command is =
      subst (λ n. IsWithin n command) (sym all) (line_within readings line (Do command) (sym means ∙ ap Some is))

  -- the pager of a question, on a bench of 100
  pub question-within : (pager : ℕ) → good ≡ Registered pager → pager < names
  question-within pager is = subst (λ n. pager < n) (sym all) (line_within readings line (Registered pager) (sym means ∙ ap Some is))

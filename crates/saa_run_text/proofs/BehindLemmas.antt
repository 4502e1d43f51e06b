-- Steps of a run, one behind the other, and its end behind them.
use Rattle.std.proofs.Common.{◌≡◌, ◌≤◌, ℕ, ◌+◌, ◌-◌, ◌^◌, arith, length-append, inl, inr, List, [], ◌++◌, Option, sym, ap, subst, ◌∙◌, refl, append_assoc, append-nil}
use Rattle.std.specs.Prelude.{IsSome, IsNone}
use Rattle.std.specs.Option.{option_map_or}
use Rattle.std.proofs.KnownBytes.{Appends-nil, Consumes-nil, Appends-trans, Consumes-trans}
use Rattle.saa_run_text.specs.declared.ended.Ended.{Ended}
use Rattle.saa_run_text.specs.declared.ended.Ended.TheVariants.{Done, BadLine, ReadFailed, WriteFailed, Endless}
use Rattle.saa_run_text.specs.Transfer.{IsBeginning, IsProperBeginning}
use Rattle.saa_run_text.specs.Text.{Answer, text, with_front, bad_line}
use Rattle.saa_run_text.specs.Outcome.{AnswersAll, Runs, IsEnd}
use Rattle.saa_run_text.specs.Steps.{GoesOn, no_lines}
use Rattle.saa_run_text.proofs.TransferLemmas.{IsBeginning-behind, IsProperBeginning-behind}

-- replies in front of an answer stand in front of its text
text-with_front : (front : List ℕ) (answer : Answer) → text (with_front front answer) ≡ front ++ text answer
text-with_front front answer = append_assoc front answer.replies (option_map_or bad_line answer.bad [])

-- replies behind replies
with_front-twice : (first second : List ℕ) (answer : Answer) → with_front first (with_front second answer) ≡ with_front (first ++ second) answer
with_front-twice first second answer = ap (λ replies. let a : Answer = record { replies = replies; bad = answer.bad } in a) (sym (append_assoc first second answer.replies))

-- a run that has only begun
pub goes-start : (here : List ℕ → Answer) (old held : Option (List ℕ)) → GoesOn 0 here here old old held held
goes-start here old held = record { read = []; sent = []; consumes = Consumes-nil old; appends = Appends-nil held; some = omega arith; law = λ more. refl }

-- what goes on twice goes on
pub goes-twice : (m n least : ℕ) (first second third : List ℕ → Answer) (a b c x y z : Option (List ℕ)) → least ≤ m + n → GoesOn m first second a b x y → GoesOn n second third b c y z → GoesOn least first third a c x z
goes-twice m n least first second third a b c x y z enough p q = record {
  read = p.read ++ q.read;
  sent = p.sent ++ q.sent;
  consumes = Consumes-trans a b c p.read q.read p.consumes q.consumes;
  appends = Appends-trans x y z p.sent q.sent p.appends q.appends;
  some = omega (arith, p.some, q.some, length-append p.read q.read);
  law = λ more. ap first (append_assoc p.read q.read more) ∙ p.law (q.read ++ more) ∙ ap (with_front p.sent) (q.law more) ∙ with_front-twice p.sent q.sent (third more);
}

module _ (first second : List ℕ → Answer) (read sent : List ℕ) (law : (rest : List ℕ) → first (read ++ rest) ≡ with_front sent (second rest)) where
  -- the text of what was read and more
  text-behind : (more : List ℕ) → text (first (read ++ more)) ≡ sent ++ text (second more)
  text-behind more = ap text (law more) ∙ text-with_front sent (second more)

  -- the same of still more behind it
  text-far : (more rest : List ℕ) → text (first ((read ++ more) ++ rest)) ≡ sent ++ text (second (more ++ rest))
  text-far more rest = ap (λ bytes. text (first bytes)) (append_assoc read more rest) ∙ text-behind (more ++ rest)

  -- what was answered wholly, behind what was answered before it
  all-behind : (lines told : List ℕ) → second [] ≡ no_lines → AnswersAll second lines told → AnswersAll first (read ++ lines) (sent ++ told)
  all-behind lines told nothing (inl (empty, silent)) =
      let said : first (read ++ lines) ≡ with_front sent no_lines = ap (λ bytes. first (read ++ bytes)) empty ∙ law [] ∙ ap (with_front sent) nothing in
      inr (ap (λ rest. sent ++ rest) silent ∙ sym (append-nil (sent ++ [])) ∙ sym (ap text said), subst (λ answer. IsNone answer.bad) (sym said) refl)
  all-behind lines told nothing (inr (said, none)) =
      inr (ap (λ rest. sent ++ rest) said ∙ sym (text-behind lines), subst (λ answer. IsNone answer.bad) (sym (law lines)) none)

  -- a beginning, whatever follows, behind what was sent before it
  always-behind : (more told : List ℕ) → ((rest : List ℕ) → IsBeginning told (text (second (more ++ rest)))) → (rest : List ℕ) → IsBeginning (sent ++ told) (text (first ((read ++ more) ++ rest)))
  always-behind more told always rest =
      subst (IsBeginning (sent ++ told)) (sym (text-far more rest)) (IsBeginning-behind sent told (text (second (more ++ rest))) (always rest))

  -- the end behind what was read before
  end-behind : (ended : Ended) (more told : List ℕ) (left : Option (List ℕ)) → second [] ≡ no_lines → IsEnd ended second more told left → IsEnd ended first (read ++ more) (sent ++ told) left
  end-behind Done more told left nothing end =
      (ap (λ rest. sent ++ rest) end.0 ∙ sym (text-behind more), subst (λ answer. IsNone answer.bad) (sym (law more)) end.1, end.2)
  end-behind BadLine more told left nothing (said, bad, inl end) =
      (ap (λ rest. sent ++ rest) said ∙ sym (text-behind more), subst (λ answer. IsSome answer.bad) (sym (law more)) bad, inl end)
  end-behind BadLine more told left nothing (said, bad, inr always) = (
    ap (λ rest. sent ++ rest) said ∙ sym (text-behind more),
    subst (λ answer. IsSome answer.bad) (sym (law more)) bad,
    inr (λ rest. ap first (append_assoc read more rest) ∙ law (more ++ rest) ∙ ap (with_front sent) (always rest) ∙ sym (law more)),
  )
  end-behind ReadFailed more told left nothing end = record {
    lines = read ++ end.lines;
    part = end.part;
    cut = ap (λ bytes. read ++ bytes) end.cut ∙ sym (append_assoc read end.lines end.part);
    unbroken = end.unbroken;
    short = end.short;
    answered = all-behind end.lines told nothing end.answered;
    always = always-behind more told end.always;
  }
  end-behind WriteFailed more told left nothing (inl always) =
      inl (λ rest. subst (IsProperBeginning (sent ++ told)) (sym (text-far more rest)) (IsProperBeginning-behind sent told (text (second (more ++ rest))) (always rest)))
  end-behind WriteFailed more told left nothing (inr (end, begins)) =
      inr (end, subst (IsProperBeginning (sent ++ told)) (sym (text-behind more)) (IsProperBeginning-behind sent told (text (second more)) begins))
  end-behind Endless more told left nothing end = record {
    many = omega (arith, end.many, length-append read more);
    answered = all-behind more told nothing end.answered;
    always = always-behind more told end.always;
  }

-- what ends behind what goes on has ended
pub runs-behind : (least : ℕ) (ended : Ended) (first second : List ℕ → Answer) (a b c x y z : Option (List ℕ)) → second [] ≡ no_lines → GoesOn least first second a b x y → Runs ended second b c y z → Runs ended first a c x z
runs-behind least ended first second a b c x y z nothing p q = record {
  read = p.read ++ q.read;
  sent = p.sent ++ q.sent;
  consumes = Consumes-trans a b c p.read q.read p.consumes q.consumes;
  appends = Appends-trans x y z p.sent q.sent p.appends q.appends;
  end = end-behind first second p.read p.sent p.law ended q.read q.sent c nothing q.end;
}

-- a run that has gone on for as long as can be counted
pub gives-up : (least : ℕ) (first second : List ℕ → Answer) (a b x y : Option (List ℕ)) → 2 ^ 64 - 3 ≤ least → second [] ≡ no_lines → GoesOn least first second a b x y → Runs Endless first a b x y
gives-up least first second a b x y enough nothing p =
    let said : first p.read ≡ with_front p.sent no_lines = ap first (sym (append-nil p.read)) ∙ p.law [] ∙ ap (with_front p.sent) nothing in
    record {
      read = p.read;
      sent = p.sent;
      consumes = p.consumes;
      appends = p.appends;
      end = record {
        many = omega (arith, enough, p.some);
        answered = inr (sym (append-nil p.sent) ∙ sym (append-nil (p.sent ++ [])) ∙ sym (ap text said), subst (λ answer. IsNone answer.bad) (sym said) refl);
        always = λ more. (text (second more), text-behind first second p.read p.sent p.law more);
      };
    }

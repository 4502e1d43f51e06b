-- The needs of a lock are those of a form, and its counts say states that a lock can be in.
use Rattle.std.proofs.Common.{◌≡◌, ℕ, suc, zero, ◌+◌, ◌-◌, ◌≤◌, ◌<◌, true, false, ◌==◌, Some, None, nat_lt, refl, sym, ap, subst, ◌∙◌, arith, inl, inr}
use Rattle.std.proofs.lemmas.Bool.{cases_Bool}
use Rattle.std.proofs.lemmas.Bool.Decides.{nat_tests}
use Rattle.saa_core_spec.specs.declared.request.Request.{Request}
use Rattle.saa_core_spec.specs.declared.request.Request.TheVariants.{Exclusive as AskExclusive, Shared as AskShared, WaitExclusive, WaitShared, Permits, Enter, Arrive}
use Rattle.saa_core_spec.specs.Held.{LockState, Free, Exclusive, Shared, IsLockState, lock_fits, lock_less, held_lock, plus}
use Rattle.saa_core_words.specs.Words.{held_count, mode_of}
use Rattle.saa_word_steps.specs.Needs.{AreNeeds, counted, fits_count, left_count, lock_at, lock_needs}

-- what a lock is at a count: nobody's, one owner's, or shared by so many
data Case (count : ℕ) : Type 0 where
  nobody : count ≡ 0 → lock_at count ≡ Free → Case count
  alone : count ≡ 63 → lock_at count ≡ Exclusive → Case count
  several : 0 < count → (count ≡ 63 → ⊥) → lock_at count ≡ Shared count → Case count

case_of : (count : ℕ) → Case count
case_of count =
    elim (cases_Bool (count == 0)) [
      | inl none ↦ nobody (grind (arith, nat_tests, none)) (rw none refl)
      | inr some ↦
          elim (cases_Bool (count == 63)) [
            | inl all ↦ alone (grind (arith, nat_tests, all)) (rw (some, all) refl)
            | inr other ↦ several (grind (arith, nat_tests, some)) (λ is. let wrong : count == 63 ≡ true = ap (λ n. n == 63) is in absurd (cc)) (rw (some, other) refl)
          ]
    ]

pub lock-states : (count : ℕ) → count ≤ 63 → IsLockState (lock_at count)
lock-states count small =
    elim (case_of count) [
      | nobody none is ↦ rw is tt
      | alone all is ↦ rw is tt
      | several some other is ↦ rw is (some, omega (arith, small, other-than count small other))
    ]
  where
    other-than : (n : ℕ) → n ≤ 63 → (n ≡ 63 → ⊥) → n ≤ 62
    other-than n le apart = elim (cases_Bool (n == 63)) [
      | inl same ↦ absurd (apart (grind (arith, nat_tests, same)))
      | inr differs ↦ grind (arith, nat_tests, differs, le)
    ]

-- what is held of a lock at a count
plus-count : (count request : ℕ) → fits_count lock_needs count request ≡ true
    → (held_count (plus (lock_needs.held count) (lock_needs.read request)) ≡ count + lock_needs.takes request)
    × (count + lock_needs.takes request ≤ 63)
plus-count count zero fits =
    elim (case_of count) [
      | nobody none is ↦ (rw is (omega (arith, none)), omega (arith, none))
      | alone all is ↦ let wrong : fits_count lock_needs count zero ≡ false = rw is refl in absurd (cc)
      | several some other is ↦ let wrong : fits_count lock_needs count zero ≡ false = rw is refl in absurd (cc)
    ]
plus-count count (suc zero) fits =
    elim (case_of count) [
      | nobody none is ↦ (rw is (omega (arith, none)), omega (arith, none))
      | alone all is ↦ let wrong : fits_count lock_needs count 1 ≡ false = rw is refl in absurd (cc)
      | several some other is ↦
          let bounded : nat_lt count 62 ≡ true = sym (ap (λ (l : LockState). lock_fits l AskShared) is) ∙ fits in
          (rw is refl, grind (arith, nat_tests, bounded))
    ]
plus-count count (suc (suc zero)) fits =
    elim (case_of count) [
      | nobody none is ↦ (rw is (omega (arith, none)), omega (arith, none))
      | alone all is ↦ let wrong : fits_count lock_needs count 2 ≡ false = rw is refl in absurd (cc)
      | several some other is ↦ let wrong : fits_count lock_needs count 2 ≡ false = rw is refl in absurd (cc)
    ]
plus-count count (suc (suc (suc more))) fits =
    elim (case_of count) [
      | nobody none is ↦ (rw is (omega (arith, none)), omega (arith, none))
      | alone all is ↦ let wrong : lock_fits (lock_at count) WaitShared ≡ false = rw is refl in absurd (cc)
      | several some other is ↦
          let bounded : nat_lt count 62 ≡ true = sym (ap (λ (l : LockState). lock_fits l WaitShared) is) ∙ fits in
          (rw is (omega arith), grind (arith, nat_tests, bounded))
    ]

-- what fits a lock fits it with fewer owners
fits-fewer : (request : Request) (lower count : ℕ) → lower ≤ count → lock_fits (lock_at count) request ≡ true → lock_fits (lock_at lower) request ≡ true
fits-fewer request lower count less fits =
    elim (case_of count) [
      | nobody none is ↦
          let same : count ≡ lower = omega (arith, none, less) in
          subst (λ n. lock_fits (lock_at n) request ≡ true) same fits
      | alone all is ↦ let held : lock_fits Exclusive request ≡ true = subst (λ l. lock_fits l request ≡ true) is fits in absurd (refused request held)
      | several some other is ↦
          elim (case_of lower) [
            | nobody nothing now ↦ rw now (free-fits request count (subst (λ l. lock_fits l request ≡ true) is fits))
            | alone all now ↦ absurd (shared-few request count lower less all (subst (λ l. lock_fits l request ≡ true) is fits))
            | several more apart now ↦ rw now (shared-fewer request lower count less (subst (λ l. lock_fits l request ≡ true) is fits))
          ]
    ]
  where
    refused : (request : Request) → lock_fits Exclusive request ≡ true → ⊥
    refused AskExclusive h = absurd (cc)
    refused AskShared h = absurd (cc)
    refused WaitExclusive h = absurd (cc)
    refused WaitShared h = absurd (cc)
    refused (Permits n) h = absurd (cc)
    refused Enter h = absurd (cc)
    refused Arrive h = absurd (cc)

    free-fits : (request : Request) (n : ℕ) → lock_fits (Shared n) request ≡ true → lock_fits Free request ≡ true
    free-fits AskExclusive n h = refl
    free-fits AskShared n h = refl
    free-fits WaitExclusive n h = refl
    free-fits WaitShared n h = refl
    free-fits (Permits m) n h = absurd (cc)
    free-fits Enter n h = absurd (cc)
    free-fits Arrive n h = absurd (cc)

    shared-few : (request : Request) (n m : ℕ) → m ≤ n → m ≡ 63 → lock_fits (Shared n) request ≡ true → ⊥
    shared-few AskExclusive n m le is h = absurd (cc)
    shared-few AskShared n m le is h = grind (arith, nat_tests, le, is, h)
    shared-few WaitExclusive n m le is h = absurd (cc)
    shared-few WaitShared n m le is h = grind (arith, nat_tests, le, is, h)
    shared-few (Permits k) n m le is h = absurd (cc)
    shared-few Enter n m le is h = absurd (cc)
    shared-few Arrive n m le is h = absurd (cc)

    shared-fewer : (request : Request) (m n : ℕ) → m ≤ n → lock_fits (Shared n) request ≡ true → lock_fits (Shared m) request ≡ true
    shared-fewer AskExclusive m n le h = absurd (cc)
    shared-fewer AskShared m n le h = grind (arith, nat_tests, le, h)
    shared-fewer WaitExclusive m n le h = absurd (cc)
    shared-fewer WaitShared m n le h = grind (arith, nat_tests, le, h)
    shared-fewer (Permits k) m n le h = absurd (cc)
    shared-fewer Enter m n le h = absurd (cc)
    shared-fewer Arrive m n le h = absurd (cc)

-- what is left of a lock that is given back
left-fewer : (count request left : ℕ) → left_count lock_needs count request ≡ Some left → left ≤ count
left-fewer count zero left is =
    elim (case_of count) [
      | nobody none now ↦ let nothing : left_count lock_needs count zero ≡ None = rw now refl in absurd (cc)
      | alone all now ↦
          let here : left_count lock_needs count zero ≡ Some 0 = rw now refl in
          let both : Some 0 ≡ Some left = sym here ∙ is in
          let same : 0 ≡ left = cc in
          omega (arith, same)
      | several some other now ↦ let nothing : left_count lock_needs count zero ≡ None = rw now refl in absurd (cc)
    ]
left-fewer count (suc zero) left is =
    elim (case_of count) [
      | nobody none now ↦ let nothing : left_count lock_needs count 1 ≡ None = rw now refl in absurd (cc)
      | alone all now ↦ let nothing : left_count lock_needs count 1 ≡ None = rw now refl in absurd (cc)
      | several some other now ↦
          elim (cases_Bool (count == 1)) [
            | inl one ↦
                let here : left_count lock_needs count 1 ≡ Some 0 = rw (now, one) refl in
                let both : Some 0 ≡ Some left = sym here ∙ is in
                let same : 0 ≡ left = cc in
                omega (arith, same)
            | inr more ↦
                let here : left_count lock_needs count 1 ≡ Some (count - 1) = rw (now, more) refl in
                let both : Some (count - 1) ≡ Some left = sym here ∙ is in
                let same : count - 1 ≡ left = cc in
                omega (arith, same)
          ]
    ]
left-fewer count (suc (suc zero)) left is =
    elim (case_of count) [
      | nobody none now ↦ let nothing : left_count lock_needs count 2 ≡ None = rw now refl in absurd (cc)
      | alone all now ↦ let nothing : left_count lock_needs count 2 ≡ None = rw now refl in absurd (cc)
      | several some other now ↦ let nothing : left_count lock_needs count 2 ≡ None = rw now refl in absurd (cc)
    ]
left-fewer count (suc (suc (suc more))) left is =
    let nothing : counted (held_lock (lock_less (lock_at count) WaitShared)) ≡ None =
    elim (case_of count) [
      | nobody none now ↦ rw now refl
      | alone all now ↦ rw now refl
      | several some other now ↦ rw now refl
    ] in
    absurd (cc)

pub locks-lawful : AreNeeds lock_needs
locks-lawful = record {
  adds = λ count request fits. (plus-count count request fits).0;
  bounded = λ count request fits. (plus-count count request fits).1;
  lower = λ lower count request less fits. fits-fewer (mode_of request) lower count less fits;
  shrinks = left-fewer;
}

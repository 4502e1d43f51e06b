-- Tests of numbers, and how often a name stands in a line: lemmas on the object's own words, which the crates above
-- cite as they cite those of std.
use Rattle.std.proofs.Common.{◌≡◌, ◌≢◌, ◌⊎◌, ℕ, suc, zero, ◌+◌, ◌<◌, ◌≤◌, Bool, true, false, ◌==◌, List, [], ◌∷◌, ◌++◌, length, take, drop, nat_lt, refl, sym, ap, ◌∙◌, arith, inl, inr}
use Rattle.std.proofs.lemmas.Bool.Decides.{nat_tests}
use Rattle.saa_core_spec.specs.Object.{one_if, times, without}

-- a test is true or false
pub bool_cases : (b : Bool) → (b ≡ true) ⊎ (b ≡ false)
bool_cases true = inl refl
bool_cases false = inr refl

-- two equal numbers pass the test
pub same_number : (m n : ℕ) → m == n ≡ true → m ≡ n
same_number m n h = grind (arith, nat_tests)

-- two numbers that fail the test differ
pub other_number : (m n : ℕ) → m == n ≡ false → m ≢ n
other_number m n h = grind (arith, nat_tests)

-- one name is equal to itself
pub number_same : (n : ℕ) → n == n ≡ true
number_same n = grind (arith, nat_tests)

-- and counts once
pub one_if-same : (n : ℕ) → one_if (n == n) ≡ 1
one_if-same n = ap one_if (number_same n)

-- different numbers fail the test
pub number_other : (m n : ℕ) → m ≢ n → m == n ≡ false
number_other m n h = grind (arith, nat_tests)

-- a test of what is above
pub below_true : (m n : ℕ) → m < n → nat_lt m n ≡ true
below_true m n h = grind (arith, nat_tests)

-- and of what isn't
pub below_false : (m n : ℕ) → n ≤ m → nat_lt m n ≡ false
below_false m n h = grind (arith, nat_tests)

-- a slot that waits isn't held more than once
pub one_if-le : (b : Bool) → one_if b ≤ 1
one_if-le true = omega arith
one_if-le false = omega arith

-- lines of any waiters: each is a slot and what else is known of it
module _ {A : Type 0} where
  -- how often a slot stands in two parts of a line
  pub times-append : (slot : ℕ) (front back : List (ℕ × A)) → times slot (front ++ back) ≡ times slot front + times slot back
  times-append slot [] back = omega arith
  times-append slot (w ∷ front) back = omega (arith, times-append slot front back)

  -- a front and the rest are the line
  pub times-take_drop : (slot k : ℕ) (line : List (ℕ × A)) → times slot (take k line) + times slot (drop k line) ≡ times slot line
  times-take_drop slot zero line = omega arith
  times-take_drop slot (suc k) [] = omega arith
  times-take_drop slot (suc k) (w ∷ line) = omega (arith, times-take_drop slot k line)

  -- a slot that is taken out of the line was there as often as it is counted
  pub length-without : (slot : ℕ) (line : List (ℕ × A)) → length (without slot line) + times slot line ≡ length line
  length-without slot [] = omega arith
  length-without slot (w ∷ line) =
      elim (bool_cases (w.0 == slot)) [
        | inl e ↦ rw e (omega (arith, length-without slot line, ap one_if e))
        | inr e ↦ rw e (omega (arith, length-without slot line, ap one_if e))
      ]

  -- it is there no more
  pub times-without_same : (slot : ℕ) (line : List (ℕ × A)) → times slot (without slot line) ≡ 0
  times-without_same slot [] = refl
  times-without_same slot (w ∷ line) =
      elim (bool_cases (w.0 == slot)) [
        | inl e ↦ rw e (times-without_same slot line)
        | inr e ↦ rw e (rw e (omega (arith, times-without_same slot line)))
      ]

  -- and all others are there as before
  pub times-without_other : (slot other : ℕ) (line : List (ℕ × A)) → slot ≢ other → times other (without slot line) ≡ times other line
  times-without_other slot other [] apart = refl
  times-without_other slot other (w ∷ line) apart =
      elim (bool_cases (w.0 == slot)) [
        | inl e ↦
            let same : w.0 ≡ slot = same_number w.0 slot e in
            let differ : w.0 == other ≡ false = number_other w.0 other (λ h. apart (sym same ∙ h)) in
            rw e (omega (arith, times-without_other slot other line apart, ap one_if differ))
        | inr e ↦ rw e (omega (arith, times-without_other slot other line apart))
      ]

  -- the end of a line counts as its start does
  pub times-push : (slot : ℕ) (line : List (ℕ × A)) (last : ℕ × A) → times slot (line ++ last ∷ []) ≡ times slot line + one_if (last.0 == slot)
  times-push slot [] last = omega arith
  times-push slot (first ∷ rest) last = omega (arith, times-push slot rest last)

  -- a line without a slot that isn't in it is the line
  pub without-absent : (slot : ℕ) (line : List (ℕ × A)) → times slot line ≡ 0 → without slot line ≡ line
  without-absent slot [] absent = refl
  without-absent slot (first ∷ rest) absent =
      elim (bool_cases (first.0 == slot)) [
        | inl same ↦
            let test : one_if (first.0 == slot) ≡ 1 = ap one_if same in
            absurd (omega (arith, test))
        | inr apart ↦ rw apart (ap (λ (ws : List (ℕ × A)). first ∷ ws) (without-absent slot rest (omega arith)))
      ]

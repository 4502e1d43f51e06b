-- Sums over a list that changes at one place, or grows by one.
use Rattle.std.proofs.Common.{◌≡◌, ◌≢◌, ◌⊎◌, inl, inr, ℕ, zero, suc, ◌+◌, ◌<◌, ◌≤◌, List, [], ◌∷◌, ◌++◌, length, get_or, sym, ap, arith}
use Rattle.std.proofs.Math.ListN.{set}
use mathlib.Core.Logic.{dite}
use native.Mathlib.Decide.{ℕ_discrete}
use mathlib.Core.Option.{some, some-injective, some-ne-none}
use lib.ListN.{get_elem?}
use Rattle.saa_word_pool.specs.Kept.{total}

module _ {A : Type 0} (count : A → ℕ) where
  pub total-set : (items : List A) (index : ℕ) (was is : A) → get_elem? items index ≡ some was
      → total count (set items index is) + count was ≡ total count items + count is
  total-set [] index was is found = absurd (some-ne-none was (sym found))
  total-set (item ∷ items) zero was is found = let same : count item ≡ count was = ap count (some-injective item was found) in omega arith
  total-set (item ∷ items) (suc index) was is found = let rest = total-set items index was is found in omega arith

  pub total-more : (items : List A) (item : A) → total count (items ++ item ∷ []) ≡ total count items + count item
  total-more [] item = omega arith
  total-more (first ∷ items) item = let rest = total-more items item in omega arith

  -- one item counts no more than all
  pub total-holds : (items : List A) (index : ℕ) (item : A) → get_elem? items index ≡ some item → count item ≤ total count items
  total-holds [] index item found = absurd (some-ne-none item (sym found))
  total-holds (first ∷ items) zero item found = let same : count first ≡ count item = ap count (some-injective first item found) in omega arith
  total-holds (first ∷ items) (suc index) item found = let rest = total-holds items index item found in omega arith

pub found-within : {A : Type 0} (items : List A) (index : ℕ) (item : A) → get_elem? items index ≡ some item → index < length items
found-within [] index item found = absurd (some-ne-none item (sym found))
found-within (first ∷ items) zero item found = omega arith
found-within (first ∷ items) (suc index) item found = let rest = found-within items index item found in omega arith

-- what stands at a place is what is read there
pub found-number : (words : List ℕ) (index number : ℕ) → get_elem? words index ≡ some number → number ≡ get_or words index 0
found-number [] index number is = absurd (some-ne-none number (sym is))
found-number (word ∷ words) zero number is = sym (some-injective word number is)
found-number (word ∷ words) (suc index) number is = found-number words index number is

pub cases_eq : (one other : ℕ) → (one ≡ other) ⊎ (one ≢ other)
cases_eq one other = dite (ℕ_discrete one other) (λ same. inl same) (λ apart. inr apart)

pub number-stands : (words : List ℕ) (index number : ℕ) → index < length words → get_or words index 0 ≡ number → get_elem? words index ≡ some number
number-stands [] index number inside is = absurd (omega arith)
number-stands (word ∷ words) zero number inside is = ap some is
number-stands (word ∷ words) (suc index) number inside is = number-stands words index number (omega arith) is

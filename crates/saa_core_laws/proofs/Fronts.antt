-- The fitting front is the greatest, and what settling leaves has none.
use Rattle.std.proofs.Common.{◌≡◌, ℕ, zero, suc, ◌+◌, ◌<◌, ◌≤◌, true, IsTrue, inl, inr, List, [], ◌∷◌, take, drop, Some, slice_get, sum, refl, sym, arith}
use Rattle.std.proofs.lemmas.Bool.{cases_Bool}
use Rattle.std.proofs.lemmas.List.Sums.{sum_by-cons}
use Rattle.saa_core_spec.specs.Held.{Held, fits, plus}
use Rattle.saa_core_spec.specs.Object.{Object, Waiter}
use Rattle.saa_core_spec.specs.Settling.{fitting_front, plus_all, settled}
use Rattle.saa_core_laws.specs.Laws.{IsFittingFront, IsSettledAt, GrantsInTurn}
use Rattle.saa_core_spec.proofs.FittingFronts.{fitting_front-fits, fitting_front-blocked, fitting_front-settled}

-- nobody at all is a fitting front
pub IsFittingFront-nobody : (held : Held) (line : List Waiter) → IsFittingFront held line 0
IsFittingFront-nobody held line = record { within = omega arith; each = λ i waiter below read. absurd (omega arith) }

-- the oldest waiter fits, and the others are a fitting front once it is granted
pub IsFittingFront-more : (held : Held) (waiter : Waiter) (line : List Waiter) (k : ℕ) → fits held waiter.1 ≡ true
    → IsFittingFront (plus held waiter.1) line k → IsFittingFront held (waiter ∷ line) (suc k)
IsFittingFront-more held waiter line k first rest = record { within = omega (arith, rest.within); each = each }
  where
    each : (i : ℕ) (other : Waiter) → i < suc k → slice_get (waiter ∷ line) i ≡ Some other → IsTrue (fits (plus_all held (take i (waiter ∷ line))) other.1)
    each zero other below read = let same : waiter ≡ other = cc in rw (← same) first
    each (suc i) other below read = rest.each i other (omega arith) read

-- the oldest of a fitting front that isn't empty fits
pub fits-first : (held : Held) (waiter : Waiter) (line : List Waiter) (k : ℕ) → IsFittingFront held (waiter ∷ line) (suc k)
    → fits held waiter.1 ≡ true
fits-first held waiter line k front = front.each 0 waiter (omega arith) refl

-- the others of a fitting front are one once the oldest is granted
pub IsFittingFront-rest : (held : Held) (waiter : Waiter) (line : List Waiter) (k : ℕ) → IsFittingFront held (waiter ∷ line) (suc k)
    → IsFittingFront (plus held waiter.1) line k
IsFittingFront-rest held waiter line k front = record {
  within = omega (arith, front.within);
  each = λ i other below read. front.each (suc i) other (omega arith) read;
}

-- the fitting front is a fitting front
pub fitting_front-is : (held : Held) (line : List Waiter) → IsFittingFront held line (fitting_front held line)
fitting_front-is held [] = IsFittingFront-nobody held []
fitting_front-is held (waiter ∷ line) = elim (cases_Bool (fits held waiter.1)) [
  | inl e ↦ rw (fitting_front-fits held waiter line e) (IsFittingFront-more held waiter line _ e (fitting_front-is (plus held waiter.1) line))
  | inr e ↦ rw (fitting_front-blocked held waiter line e) (IsFittingFront-nobody held (waiter ∷ line))
]

-- no fitting front is longer
pub fitting_front-greatest : (held : Held) (line : List Waiter) (k : ℕ) → IsFittingFront held line k → k ≤ fitting_front held line
fitting_front-greatest held line zero front = omega arith
fitting_front-greatest held [] (suc k) front = absurd (omega (arith, front.within))
fitting_front-greatest held (waiter ∷ line) (suc k) front =
    omega (
      arith,
      fitting_front-fits held waiter line (fits-first held waiter line k front),
      fitting_front-greatest (plus held waiter.1) line k (IsFittingFront-rest held waiter line k front),
    )

-- fronts compose: after some of the fitting front are granted, the rest of it is the fitting front
pub fitting_front-granted : (held : Held) (line : List Waiter) (k : ℕ) → IsFittingFront held line k
    → k + fitting_front (plus_all held (take k line)) (drop k line) ≡ fitting_front held line
fitting_front-granted held line zero front = omega arith
fitting_front-granted held [] (suc k) front = absurd (omega (arith, front.within))
fitting_front-granted held (waiter ∷ line) (suc k) front =
    omega (
      arith,
      fitting_front-fits held waiter line (fits-first held waiter line k front),
      fitting_front-granted (plus held waiter.1) line k (IsFittingFront-rest held waiter line k front),
    )

-- where the fitting front is empty, nobody in front fits
pub IsSettledAt-from_front : (held : Held) (line : List Waiter) → fitting_front held line ≡ 0 → IsSettledAt held line
IsSettledAt-from_front held line none k front = omega (arith, fitting_front-greatest held line k front)

-- where nobody in front fits, the fitting front is empty
pub fitting_front-stands : (held : Held) (line : List Waiter) → IsSettledAt held line → fitting_front held line ≡ 0
fitting_front-stands held line stands = stands (fitting_front held line) (fitting_front-is held line)

-- settling leaves nobody in front who fits
pub IsSettledAt-settled : (s : Object) → IsSettledAt (settled s).held (settled s).line
unfolding settled
IsSettledAt-settled s = IsSettledAt-from_front _ _ (fitting_front-settled s.held s.line)

-- fronts that are granted in turn, until nobody in front fits, are together the fitting front
pub sum-granted_in_turn : (held : Held) (line : List Waiter) (ks : List ℕ) → GrantsInTurn held line ks → sum ks ≡ fitting_front held line
sum-granted_in_turn held line [] stands = sym (fitting_front-stands held line stands)
sum-granted_in_turn held line (k ∷ ks) turns =
    omega (
      arith,
      sum_by-cons (λ (n : ℕ). n) k ks,
      sum-granted_in_turn (plus_all held (take k line)) (drop k line) ks turns.1,
      fitting_front-granted held line k turns.0,
    )

-- The fitting front by its oldest waiter, and what settling leaves.
use Rattle.std.proofs.Common.{◌≡◌, zero, suc, true, false, cond, inl, inr, List, [], ◌∷◌, take, drop, refl, ap}
use Rattle.std.proofs.lemmas.Bool.{cases_Bool}
use Rattle.saa_core_spec.specs.Held.{Held, fits, plus}
use Rattle.saa_core_spec.specs.Object.{Waiter}
use Rattle.saa_core_spec.specs.Settling.{fitting_front, plus_all}

-- the fitting front where the oldest waiter fits
pub fitting_front-fits : (held : Held) (waiter : Waiter) (line : List Waiter) → fits held waiter.1 ≡ true
    → fitting_front held (waiter ∷ line) ≡ suc (fitting_front (plus held waiter.1) line)
fitting_front-fits held waiter line e = ap (λ b. cond b (suc (fitting_front (plus held waiter.1) line)) 0) e

-- the fitting front where the oldest waiter doesn't fit
pub fitting_front-blocked : (held : Held) (waiter : Waiter) (line : List Waiter) → fits held waiter.1 ≡ false
    → fitting_front held (waiter ∷ line) ≡ 0
fitting_front-blocked held waiter line e = ap (λ b. cond b (suc (fitting_front (plus held waiter.1) line)) 0) e

-- once the fitting front is granted, nobody in front fits
pub fitting_front-settled : (held : Held) (line : List Waiter)
    → fitting_front (plus_all held (take (fitting_front held line) line)) (drop (fitting_front held line) line) ≡ 0
fitting_front-settled held [] = refl
fitting_front-settled held (waiter ∷ line) = elim (cases_Bool (fits held waiter.1)) [
  | inl e ↦ rw (fitting_front-fits held waiter line e) (fitting_front-settled (plus held waiter.1) line)
  | inr e ↦ rw (fitting_front-blocked held waiter line e) (fitting_front-blocked held waiter line e)
]

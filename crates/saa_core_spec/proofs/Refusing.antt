-- What refuses every request goes on to refuse, and nothing else begins to: no grant, nothing that is given back, and no settling.
use Rattle.std.proofs.Common.{◌≡◌, ◌-◌, true, false, eqb, leb, List, [], ◌∷◌, take, Option, Some, refl, sym, ◌∙◌, inl, inr}
use Rattle.std.proofs.lemmas.Bool.{cases_Bool}
use Rattle.std.proofs.lemmas.Option.{cond_some}
use Rattle.saa_core_spec.specs.declared.request.Request.{Request}
use Rattle.saa_core_spec.specs.declared.request.Request.TheVariants.{Exclusive as AskExclusive, Shared as AskShared, WaitExclusive, WaitShared, Permits, Enter, Arrive}
use Rattle.saa_core_spec.specs.Held.{Held, OfSemaphore, OfShutSemaphore, OfLock, OfGate, OfBarrier, LockState, Free, Exclusive, Shared, Poisoned, fits, plus, less, refuses_all, lock_fits, lock_plus, lock_less, held_lock}
use Rattle.saa_core_spec.specs.Object.{Waiter}
use Rattle.saa_core_spec.specs.Settling.{fitting_front, plus_all}
use Rattle.saa_core_spec.proofs.FittingFronts.{fitting_front-fits, fitting_front-blocked}

-- a poisoned lock grants nothing
pub fits-poisoned : (request : Request) → fits (OfLock Poisoned) request ≡ false
fits-poisoned AskExclusive = refl
fits-poisoned AskShared = refl
fits-poisoned WaitExclusive = refl
fits-poisoned WaitShared = refl
fits-poisoned (Permits n) = refl
fits-poisoned Enter = refl
fits-poisoned Arrive = refl

-- nor does anything else that refuses every request
pub fits-refusing : (held : Held) (request : Request) → refuses_all held ≡ true → fits held request ≡ false
fits-refusing (OfLock Poisoned) request refuses = fits-poisoned request
fits-refusing (OfLock Free) request refuses = cc
fits-refusing (OfLock Exclusive) request refuses = cc
fits-refusing (OfLock (Shared n)) request refuses = cc
fits-refusing (OfShutSemaphore bound out) request refuses = refl
fits-refusing (OfSemaphore bound out) request refuses = cc
fits-refusing (OfGate gate) request refuses = cc
fits-refusing (OfBarrier size arrived round) request refuses = cc

-- so what a request fits doesn't refuse it
pub fits-not_refusing : (held : Held) (request : Request) → fits held request ≡ true → refuses_all held ≡ false
fits-not_refusing held request fit = elim (cases_Bool (refuses_all held)) [
  | inl refuses ↦ let none = fits-refusing held request refuses in cc
  | inr grants ↦ grants
]

-- no lock is poisoned by a grant
pub lock_plus-not_refusing : (lock : LockState) (request : Request) → lock_fits lock request ≡ true → refuses_all (OfLock (lock_plus lock request)) ≡ false
lock_plus-not_refusing Free AskExclusive fit = refl
lock_plus-not_refusing Free AskShared fit = refl
lock_plus-not_refusing Free WaitExclusive fit = refl
lock_plus-not_refusing Free WaitShared fit = refl
lock_plus-not_refusing Free (Permits n) fit = refl
lock_plus-not_refusing Free Enter fit = refl
lock_plus-not_refusing Free Arrive fit = refl
lock_plus-not_refusing (Shared n) AskShared fit = refl
lock_plus-not_refusing (Shared n) AskExclusive fit = refl
lock_plus-not_refusing (Shared n) WaitExclusive fit = refl
lock_plus-not_refusing (Shared n) WaitShared fit = refl
lock_plus-not_refusing (Shared n) (Permits m) fit = refl
lock_plus-not_refusing (Shared n) Enter fit = refl
lock_plus-not_refusing (Shared n) Arrive fit = refl
lock_plus-not_refusing Exclusive request fit = cc
lock_plus-not_refusing Poisoned request fit = let none = fits-poisoned request in cc

-- and no semaphore is shut by one
pub plus-not_refusing : (held : Held) (request : Request) → fits held request ≡ true → refuses_all (plus held request) ≡ false
plus-not_refusing (OfLock lock) request fit = lock_plus-not_refusing lock request fit
plus-not_refusing (OfSemaphore bound out) (Permits n) fit = refl
plus-not_refusing (OfSemaphore bound out) AskExclusive fit = refl
plus-not_refusing (OfSemaphore bound out) AskShared fit = refl
plus-not_refusing (OfSemaphore bound out) WaitExclusive fit = refl
plus-not_refusing (OfSemaphore bound out) WaitShared fit = refl
plus-not_refusing (OfSemaphore bound out) Enter fit = refl
plus-not_refusing (OfSemaphore bound out) Arrive fit = refl
plus-not_refusing (OfShutSemaphore bound out) request fit = cc
plus-not_refusing (OfGate gate) request fit = cc
plus-not_refusing (OfBarrier size arrived round) request fit = cc

-- no lock is poisoned, and none is cleared, by what is given back
pub lock_less-refusing : (lock : LockState) (rest : Held) (request : Request) → held_lock (lock_less lock request) ≡ Some rest
    → refuses_all rest ≡ refuses_all (OfLock lock)
lock_less-refusing (Shared n) rest AskShared e = elim (cases_Bool (eqb n 1)) [
  | inl one ↦
      let free : ◌≡◌ {A = Option Held} (Some (OfLock Free)) (Some rest) = rw one at e in
      let same : ◌≡◌ {A = Held} (OfLock Free) rest = cc in
      rw (← same) refl
  | inr more ↦
      let shared : ◌≡◌ {A = Option Held} (Some (OfLock (Shared (n - 1)))) (Some rest) = rw more at e in
      let same : ◌≡◌ {A = Held} (OfLock (Shared (n - 1))) rest = cc in
      rw (← same) refl
]
lock_less-refusing (Shared n) rest AskExclusive e = cc
lock_less-refusing (Shared n) rest WaitExclusive e = cc
lock_less-refusing (Shared n) rest WaitShared e = cc
lock_less-refusing (Shared n) rest (Permits m) e = cc
lock_less-refusing (Shared n) rest Enter e = cc
lock_less-refusing (Shared n) rest Arrive e = cc
lock_less-refusing Exclusive rest AskExclusive e = let same : ◌≡◌ {A = Held} (OfLock Free) rest = cc in rw (← same) refl
lock_less-refusing Exclusive rest AskShared e = cc
lock_less-refusing Exclusive rest WaitExclusive e = cc
lock_less-refusing Exclusive rest WaitShared e = cc
lock_less-refusing Exclusive rest (Permits m) e = cc
lock_less-refusing Exclusive rest Enter e = cc
lock_less-refusing Exclusive rest Arrive e = cc
lock_less-refusing Free rest request e = cc
lock_less-refusing Poisoned rest request e = cc

-- and no semaphore is shut or opened by it
pub less-refusing : (held rest : Held) (request : Request) → less held request ≡ Some rest → refuses_all rest ≡ refuses_all held
less-refusing (OfLock lock) rest request e = lock_less-refusing lock rest request e
less-refusing (OfSemaphore bound out) rest (Permits n) e =
    let parts = cond_some (leb n out) (OfSemaphore bound (out - n)) rest e in
    rw (← parts.1) refl
less-refusing (OfSemaphore bound out) rest AskExclusive e = cc
less-refusing (OfSemaphore bound out) rest AskShared e = cc
less-refusing (OfSemaphore bound out) rest WaitExclusive e = cc
less-refusing (OfSemaphore bound out) rest WaitShared e = cc
less-refusing (OfSemaphore bound out) rest Enter e = cc
less-refusing (OfSemaphore bound out) rest Arrive e = cc
less-refusing (OfShutSemaphore bound out) rest (Permits n) e =
    let parts = cond_some (leb n out) (OfShutSemaphore bound (out - n)) rest e in
    rw (← parts.1) refl
less-refusing (OfShutSemaphore bound out) rest AskExclusive e = cc
less-refusing (OfShutSemaphore bound out) rest AskShared e = cc
less-refusing (OfShutSemaphore bound out) rest WaitExclusive e = cc
less-refusing (OfShutSemaphore bound out) rest WaitShared e = cc
less-refusing (OfShutSemaphore bound out) rest Enter e = cc
less-refusing (OfShutSemaphore bound out) rest Arrive e = cc
less-refusing (OfGate gate) rest request e = cc
less-refusing (OfBarrier size arrived round) rest request e = cc

-- settling neither begins nor ends it
pub plus_all-refusing : (held : Held) (line : List Waiter)
    → refuses_all (plus_all held (take (fitting_front held line) line)) ≡ refuses_all held
plus_all-refusing held [] = refl
plus_all-refusing held (waiter ∷ line) = elim (cases_Bool (fits held waiter.1)) [
  | inl fit ↦ rw (fitting_front-fits held waiter line fit)
      (plus_all-refusing (plus held waiter.1) line ∙ plus-not_refusing held waiter.1 fit ∙ sym (fits-not_refusing held waiter.1 fit))
  | inr blocked ↦ rw (fitting_front-blocked held waiter line blocked) refl
]

-- What every step of a lock keeps, and so every run.
use Rattle.std.proofs.Common.{◌≡◌, ℕ, ◌-◌, Bool, true, false, eqb, List, [], Option, Some, None, refl, sym, ap, ◌∙◌, inl, inr, arith, All}
use Rattle.std.proofs.lemmas.Bool.{cases_Bool, ltb-true, eqb-false}
use Rattle.saa_core_spec.specs.declared.request.Request.{Request}
use Rattle.saa_core_spec.specs.declared.request.Request.TheVariants.{Exclusive as AskExclusive, Shared as AskShared, WaitExclusive as AskWaitExclusive, WaitShared as AskWaitShared, Permits, Enter, Arrive}
use Rattle.saa_core_spec.specs.declared.lock.Mode.{Mode}
use Rattle.saa_core_spec.specs.declared.lock.Mode.TheVariants.{Exclusive as ModeExclusive, Shared as ModeShared, WaitExclusive, WaitShared}
use Rattle.saa_core_spec.specs.declared.lock.LockCall.{LockCall}
use Rattle.saa_core_spec.specs.declared.lock.LockCall.TheVariants.{TryLock, TryShare, ReleaseLock, ReleaseShare, Downgrade, PoisonLock, ClearPoison, IsFree, IsLocked, IsShared, IsPoisoned}
use Rattle.saa_core_spec.specs.declared.lock.LockAnswer.{LockAnswer}
use Rattle.saa_core_spec.specs.declared.run.CommandOf.{CommandOf}
use Rattle.saa_core_spec.specs.Held.{Held, OfSemaphore, OfShutSemaphore, OfLock, OfGate, OfBarrier, LockState, Free, Exclusive, Shared, Poisoned, IsLockState, max_shared_owners, fits, plus, less, refuses_all, lock_fits, lock_plus, lock_less, held_lock}
use Rattle.saa_core_spec.specs.Object.{Object}
use Rattle.saa_core_spec.specs.Settling.{fitting_front}
use Rattle.saa_core_spec.specs.Values.{lock_value, poisoned_value}
use Rattle.saa_core_spec.specs.Lock.{lock_step, mode_request, new_lock, is_locked, is_poisoned, downgraded_of, poisoned_of, cleared_of}
use Rattle.saa_core_spec.specs.Run.{IsWithin, state_after}
use Rattle.saa_core_laws.specs.Laws.{IsLockInOrder}
use Rattle.saa_core_laws.proofs.Fronts.{IsSettledAt-from_front}
use Rattle.saa_core_laws.proofs.Kept.{IsInOrder-kept, IsKept-newly_made, IsKept-held, IsKept-settled, IsKept-all_answered}
use Rattle.saa_core_laws.proofs.Commands.{IsRight, KeepsRight, IsRight-state_after}
use Rattle.saa_core_laws.proofs.Grants.{Grants, Grants-settled, KeepsFine, nobody-fits, IsRight-given_back, IsRight-tried, IsRightAnswer-answered, Grants-waits, IsRight-left_of, IsRight-quietly_left_of, IsRight-undone_of}

-- a lock in a state that a lock can be in
abbrev pub IsFineLock : Held → Type 0
IsFineLock (OfLock lock) = IsLockState lock
IsFineLock (OfSemaphore bound out) = ⊥
IsFineLock (OfShutSemaphore bound out) = ⊥
IsFineLock (OfGate gate) = ⊥
IsFineLock (OfBarrier size arrived round) = ⊥

-- a grant of what fits keeps it
pub IsLockState-plus : (lock : LockState) (request : Request) → IsLockState lock → lock_fits lock request ≡ true
    → IsLockState (lock_plus lock request)
IsLockState-plus Free AskExclusive fine fit = tt
IsLockState-plus Free AskShared fine fit = (omega arith, omega arith)
IsLockState-plus Free AskWaitExclusive fine fit = tt
IsLockState-plus Free AskWaitShared fine fit = tt
IsLockState-plus Free (Permits n) fine fit = tt
IsLockState-plus Free Enter fine fit = tt
IsLockState-plus Free Arrive fine fit = tt
IsLockState-plus (Shared n) AskShared fine fit = (omega arith, omega (arith, ltb-true n max_shared_owners fit))
IsLockState-plus (Shared n) AskExclusive fine fit = fine
IsLockState-plus (Shared n) AskWaitExclusive fine fit = fine
IsLockState-plus (Shared n) AskWaitShared fine fit = fine
IsLockState-plus (Shared n) (Permits m) fine fit = fine
IsLockState-plus (Shared n) Enter fine fit = fine
IsLockState-plus (Shared n) Arrive fine fit = fine
IsLockState-plus Exclusive request fine fit = tt
IsLockState-plus Poisoned request fine fit = tt

-- and so does what is given back
pub IsLockState-less : (lock rest : LockState) (request : Request) → IsLockState lock → lock_less lock request ≡ Some rest → IsLockState rest
IsLockState-less (Shared n) rest AskShared fine e = elim (cases_Bool (eqb n 1)) [
  | inl one ↦
      let free : ◌≡◌ {A = Option LockState} (Some Free) (Some rest) = rw one at e in
      let same : ◌≡◌ {A = LockState} Free rest = cc in
      rw (← same) tt
  | inr more ↦
      let shared : ◌≡◌ {A = Option LockState} (Some (Shared (n - 1))) (Some rest) = rw more at e in
      let same : ◌≡◌ {A = LockState} (Shared (n - 1)) rest = cc in
      let not_one = eqb-false n 1 more in
      rw (← same) (omega (arith, fine.0), omega (arith, fine.1))
]
IsLockState-less (Shared n) rest AskExclusive fine e = cc
IsLockState-less (Shared n) rest AskWaitExclusive fine e = cc
IsLockState-less (Shared n) rest AskWaitShared fine e = cc
IsLockState-less (Shared n) rest (Permits m) fine e = cc
IsLockState-less (Shared n) rest Enter fine e = cc
IsLockState-less (Shared n) rest Arrive fine e = cc
IsLockState-less Exclusive rest AskExclusive fine e = let same : ◌≡◌ {A = LockState} Free rest = cc in rw (← same) tt
IsLockState-less Exclusive rest AskShared fine e = cc
IsLockState-less Exclusive rest AskWaitExclusive fine e = cc
IsLockState-less Exclusive rest AskWaitShared fine e = cc
IsLockState-less Exclusive rest (Permits m) fine e = cc
IsLockState-less Exclusive rest Enter fine e = cc
IsLockState-less Exclusive rest Arrive fine e = cc
IsLockState-less Free rest request fine e = cc
IsLockState-less Poisoned rest request fine e = cc

-- the same of a lock as what is held
pub IsFineLock-plus : (held : Held) (request : Request) → IsFineLock held → fits held request ≡ true → IsFineLock (plus held request)
IsFineLock-plus (OfLock lock) request fine fit = IsLockState-plus lock request fine fit
IsFineLock-plus (OfSemaphore bound out) request fine fit = absurd fine
IsFineLock-plus (OfShutSemaphore bound out) request fine fit = absurd fine
IsFineLock-plus (OfGate gate) request fine fit = absurd fine
IsFineLock-plus (OfBarrier size arrived round) request fine fit = absurd fine

-- what is left of a lock is a lock
pub IsFineLock-held_lock : (rest : Option LockState) (held : Held) → ((lock : LockState) → rest ≡ Some lock → IsLockState lock)
    → held_lock rest ≡ Some held → IsFineLock held
IsFineLock-held_lock (Some lock) held fine e =
    let same : ◌≡◌ {A = Held} (OfLock lock) held = cc in
    rw (← same) (fine lock refl)
IsFineLock-held_lock None held fine e = cc

-- the same of what is given back
pub IsFineLock-less : (held rest : Held) (request : Request) → IsFineLock held → less held request ≡ Some rest → IsFineLock rest
IsFineLock-less (OfLock lock) rest request fine e =
    IsFineLock-held_lock (lock_less lock request) rest (λ left is. IsLockState-less lock left request fine is) e
IsFineLock-less (OfSemaphore bound out) rest request fine e = absurd fine
IsFineLock-less (OfShutSemaphore bound out) rest request fine e = absurd fine
IsFineLock-less (OfGate gate) rest request fine e = absurd fine
IsFineLock-less (OfBarrier size arrived round) rest request fine e = absurd fine

-- so a lock grants what fits
pub KeepsFine-lock : KeepsFine IsFineLock
KeepsFine-lock = record {
  adds = IsFineLock-plus;
  takes = IsFineLock-less;
  no_gate = λ gate fine. fine;
  no_barrier = λ size arrived round fine. fine;
}

-- every mode would fit a free lock
pub fits-mode : (mode : Mode) → fits (OfLock Free) (mode_request mode) ≡ true
fits-mode ModeExclusive = refl
fits-mode ModeShared = refl
fits-mode WaitExclusive = refl
fits-mode WaitShared = refl

-- what is poisoned is a poisoned lock
pub held-poisoned : (held : Held) → is_poisoned held ≡ true → held ≡ OfLock Poisoned
held-poisoned (OfLock Poisoned) e = refl
held-poisoned (OfLock Free) e = cc
held-poisoned (OfLock Exclusive) e = cc
held-poisoned (OfLock (Shared n)) e = cc
held-poisoned (OfSemaphore bound out) e = cc
held-poisoned (OfShutSemaphore bound out) e = cc
held-poisoned (OfGate gate) e = cc
held-poisoned (OfBarrier size arrived round) e = cc

-- a downgrade settles the lock of one sharer
pub IsRight-downgraded_of : (names : ℕ) (s : Object) (is_own : Bool) → IsRight (Grants IsFineLock (OfLock Free)) names s
    → IsRight (Grants IsFineLock (OfLock Free)) names (downgraded_of s is_own).state
IsRight-downgraded_of names s false right = right
IsRight-downgraded_of names s true right = record {
  kept = IsKept-settled names (record s { held = OfLock (Shared 1) }) (IsKept-held names s (OfLock (Shared 1)) right.kept);
  kind = Grants-settled IsFineLock (OfLock Free) names KeepsFine-lock (record s { held = OfLock (Shared 1) }) (omega arith, omega arith) right.kind.asks (λ poison. cc);
}

-- poison answers all waiters
pub IsRight-poisoned_of : (names : ℕ) (s : Object) (is_own : Bool) → IsRight (Grants IsFineLock (OfLock Free)) names s
    → IsRight (Grants IsFineLock (OfLock Free)) names (poisoned_of s is_own).state
IsRight-poisoned_of names s false right = right
IsRight-poisoned_of names s true right = record {
  kept = IsKept-all_answered names poisoned_value (record s { held = OfLock Poisoned }) (IsKept-held names s (OfLock Poisoned) right.kept);
  kind = record { fine = tt; front = refl; asks = tt; refused = λ refuses. refl };
}

-- a cleared lock is free, and nobody waits
pub IsRight-cleared_of : (names : ℕ) (s : Object) (is_poison : Bool) → (is_poison ≡ true → s.held ≡ OfLock Poisoned)
    → IsRight (Grants IsFineLock (OfLock Free)) names s
    → IsRight (Grants IsFineLock (OfLock Free)) names (cleared_of s is_poison).state
IsRight-cleared_of names s false poison right = right
IsRight-cleared_of names s true poison right =
    let nobody : s.line ≡ [] = right.kind.refused (ap refuses_all (poison refl)) in
    record {
      kept = IsKept-held names s (OfLock Free) right.kept;
      kind = record { fine = tt; front = ap (fitting_front (OfLock Free)) nobody; asks = right.kind.asks; refused = λ again. nobody };
    }

-- every call of a lock
pub IsRight-lock_step : (names : ℕ) (call : LockCall) (s : Object)
    → IsRight (Grants IsFineLock (OfLock Free)) names s → IsRight (Grants IsFineLock (OfLock Free)) names (lock_step call s).state
IsRight-lock_step names TryLock s right = IsRight-tried IsFineLock (OfLock Free) names KeepsFine-lock s AskExclusive right
IsRight-lock_step names TryShare s right = IsRight-tried IsFineLock (OfLock Free) names KeepsFine-lock s AskShared right
IsRight-lock_step names ReleaseLock s right = IsRight-given_back IsFineLock (OfLock Free) names KeepsFine-lock s AskExclusive right
IsRight-lock_step names ReleaseShare s right = IsRight-given_back IsFineLock (OfLock Free) names KeepsFine-lock s AskShared right
IsRight-lock_step names Downgrade s right = IsRight-downgraded_of names s (is_locked s.held) right
IsRight-lock_step names PoisonLock s right = IsRight-poisoned_of names s (is_locked s.held) right
IsRight-lock_step names ClearPoison s right = IsRight-cleared_of names s (is_poisoned s.held) (held-poisoned s.held) right
IsRight-lock_step names IsFree s right = right
IsRight-lock_step names IsLocked s right = right
IsRight-lock_step names IsShared s right = right
IsRight-lock_step names IsPoisoned s right = right

-- every step of a lock
pub KeepsRight-lock : (names : ℕ) → KeepsRight LockCall LockAnswer Mode (Grants IsFineLock (OfLock Free)) names mode_request lock_step
KeepsRight-lock names = record {
  calls = IsRight-lock_step names;
  answers = λ s ask answer right e.
      IsRightAnswer-answered IsFineLock (OfLock Free) names KeepsFine-lock s s.held (mode_request ask) answer right.kind.fine e right;
  joins = λ s name ask right e not_too_much.
      Grants-waits IsFineLock (OfLock Free) names KeepsFine-lock s s.held name (mode_request ask) refl right.kind.fine e (fits-mode ask) right.kind;
  leaves = λ s name right kept. IsRight-left_of IsFineLock (OfLock Free) names KeepsFine-lock s s.held name right.kind.fine right kept;
  quiet = λ s name right kept. IsRight-quietly_left_of IsFineLock (OfLock Free) names KeepsFine-lock s s.held name right.kind.fine right kept;
  undoes = λ s asked right. IsRight-undone_of IsFineLock (OfLock Free) names KeepsFine-lock s s.held asked right;
}

-- a fine lock is a lock
pub lock-bounded : (held : Held) → IsFineLock held → (lock : LockState) × (held ≡ OfLock lock) × IsLockState lock
lock-bounded (OfLock lock) fine = (lock, refl, fine)
lock-bounded (OfSemaphore bound out) fine = absurd fine
lock-bounded (OfShutSemaphore bound out) fine = absurd fine
lock-bounded (OfGate gate) fine = absurd fine
lock-bounded (OfBarrier size arrived round) fine = absurd fine

-- a lock that is right is in order
pub IsLockInOrder-right : (names : ℕ) (s : Object) → IsRight (Grants IsFineLock (OfLock Free)) names s → IsLockInOrder s
IsLockInOrder-right names s right = record {
  order = IsInOrder-kept names s right.kept;
  bounded = lock-bounded s.held right.kind.fine;
  oldest = IsSettledAt-from_front s.held s.line right.kind.front;
  free = λ is_free. nobody-fits (OfLock Free) s.line right.kind.asks (sym (ap (λ held. fitting_front held s.line) is_free) ∙ right.kind.front);
  poisoned = λ poison. right.kind.refused (ap refuses_all poison);
}

-- every run of a newly made lock leaves it in order
pub lock-in_order : (room names : ℕ) (commands : List (CommandOf LockCall Mode)) → All (IsWithin names) commands
    → IsLockInOrder (state_after mode_request lock_step lock_value commands (new_lock room names))
lock-in_order room names commands within =
    IsLockInOrder-right names _
    (IsRight-state_after (Grants IsFineLock (OfLock Free)) names mode_request lock_step lock_value
    (KeepsRight-lock names) commands (new_lock room names) within
    (record {
      kept = IsKept-newly_made (OfLock Free) room names;
      kind = record { fine = tt; front = refl; asks = tt; refused = λ refuses. refl };
    }))

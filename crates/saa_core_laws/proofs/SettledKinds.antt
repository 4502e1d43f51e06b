-- A settled semaphore and a settled lock stay settled, under every command and every list of commands.
use Rattle.std.proofs.Common.{◌≡◌, ℕ, ◌-◌, true, false, ◌⊎◌, inl, inr, leb, List, [], Some, refl, ap, Bool}
use Rattle.std.proofs.lemmas.Option.{cond_some}
use Rattle.saa_core_spec.specs.declared.request.Request.{Request}
use Rattle.saa_core_spec.specs.declared.request.Request.TheVariants.{Exclusive as AskExclusive, Shared as AskShared, WaitExclusive, WaitShared, Permits, Enter, Arrive}
use Rattle.saa_core_spec.specs.declared.semaphore.SemaphoreCall.{SemaphoreCall}
use Rattle.saa_core_spec.specs.declared.semaphore.SemaphoreCall.TheVariants.{TryAcquireMany, ReleaseMany, AvailablePermits, IsOpen, IsClosed, Shut, IsShut}
use Rattle.saa_core_spec.specs.declared.lock.Mode.{Mode}
use Rattle.saa_core_spec.specs.declared.lock.LockCall.{LockCall}
use Rattle.saa_core_spec.specs.declared.lock.LockCall.TheVariants.{TryLock, TryShare, ReleaseLock, ReleaseShare, Downgrade, PoisonLock, ClearPoison, IsFree, IsLocked, IsShared, IsPoisoned}
use Rattle.saa_core_spec.specs.declared.run.CommandOf.{CommandOf}
use Rattle.saa_core_spec.specs.Held.{Held, OfSemaphore, OfShutSemaphore, OfLock, OfGate, OfBarrier, LockState, Free, Exclusive, Shared, Poisoned, fits, plus, less, refuses_all, lock_less, held_lock}
use Rattle.saa_core_spec.specs.Object.{Object}
use Rattle.saa_core_spec.specs.Settling.{fitting_front}
use Rattle.saa_core_spec.specs.Values.{semaphore_value, lock_value}
use Rattle.saa_core_spec.specs.Semaphore.{semaphore_step, is_shut, shut_of}
use Rattle.saa_core_spec.specs.Lock.{lock_step, mode_request, is_locked, is_poisoned, downgraded_of, poisoned_of, cleared_of}
use Rattle.saa_core_spec.specs.Run.{done, state_after}
use Rattle.saa_core_laws.specs.RunLaws.{IsSettledSemaphore, IsSettledLock}
use Rattle.saa_core_laws.specs.Laws.{IsSemaphoreWith}
use Rattle.saa_core_laws.proofs.SemaphoreLaws.{shut-refuses}
use Rattle.saa_core_laws.proofs.Fronts.{IsSettledAt-from_front, fitting_front-stands}
use Rattle.saa_core_laws.proofs.Grants.{KeepsFine}
use Rattle.saa_core_laws.proofs.LockLaws.{held-poisoned}
use Rattle.saa_core_laws.proofs.Settled.{Stands, Stands-settled, Stands-tried, Stands-given_back, Stands-done, Stands-run}
use Rattle.std.specs.Prelude.{Option, None}

-- a semaphore of this bound, whatever is out, shut or not
abbrev pub IsOfBound : ℕ → Held → Type 0
IsOfBound most (OfSemaphore bound out) = bound ≡ most
IsOfBound most (OfShutSemaphore bound out) = bound ≡ most
IsOfBound most (OfLock lock) = ⊥
IsOfBound most (OfGate gate) = ⊥
IsOfBound most (OfBarrier size arrived round) = ⊥

-- a grant keeps the bound
pub IsOfBound-plus : (most : ℕ) (held : Held) (request : Request) → IsOfBound most held → fits held request ≡ true → IsOfBound most (plus held request)
IsOfBound-plus most (OfSemaphore bound out) (Permits n) fine fit = fine
IsOfBound-plus most (OfSemaphore bound out) AskExclusive fine fit = fine
IsOfBound-plus most (OfSemaphore bound out) AskShared fine fit = fine
IsOfBound-plus most (OfSemaphore bound out) WaitExclusive fine fit = fine
IsOfBound-plus most (OfSemaphore bound out) WaitShared fine fit = fine
IsOfBound-plus most (OfSemaphore bound out) Enter fine fit = fine
IsOfBound-plus most (OfSemaphore bound out) Arrive fine fit = fine
IsOfBound-plus most (OfShutSemaphore bound out) request fine fit = cc
IsOfBound-plus most (OfLock lock) request fine fit = absurd fine
IsOfBound-plus most (OfGate gate) request fine fit = absurd fine
IsOfBound-plus most (OfBarrier size arrived round) request fine fit = absurd fine

-- and so does what is given back
pub IsOfBound-less : (most : ℕ) (held rest : Held) (request : Request) → IsOfBound most held → less held request ≡ Some rest → IsOfBound most rest
IsOfBound-less most (OfSemaphore bound out) rest (Permits n) fine e =
    let parts = cond_some (leb n out) (OfSemaphore bound (out - n)) rest e in
    rw (← parts.1) fine
IsOfBound-less most (OfSemaphore bound out) rest AskExclusive fine e = cc
IsOfBound-less most (OfSemaphore bound out) rest AskShared fine e = cc
IsOfBound-less most (OfSemaphore bound out) rest WaitExclusive fine e = cc
IsOfBound-less most (OfSemaphore bound out) rest WaitShared fine e = cc
IsOfBound-less most (OfSemaphore bound out) rest Enter fine e = cc
IsOfBound-less most (OfSemaphore bound out) rest Arrive fine e = cc
IsOfBound-less most (OfShutSemaphore bound out) rest (Permits n) fine e =
    let parts = cond_some (leb n out) (OfShutSemaphore bound (out - n)) rest e in
    rw (← parts.1) fine
IsOfBound-less most (OfShutSemaphore bound out) rest AskExclusive fine e = cc
IsOfBound-less most (OfShutSemaphore bound out) rest AskShared fine e = cc
IsOfBound-less most (OfShutSemaphore bound out) rest WaitExclusive fine e = cc
IsOfBound-less most (OfShutSemaphore bound out) rest WaitShared fine e = cc
IsOfBound-less most (OfShutSemaphore bound out) rest Enter fine e = cc
IsOfBound-less most (OfShutSemaphore bound out) rest Arrive fine e = cc
IsOfBound-less most (OfLock lock) rest request fine e = absurd fine
IsOfBound-less most (OfGate gate) rest request fine e = absurd fine
IsOfBound-less most (OfBarrier size arrived round) rest request fine e = absurd fine

-- so a semaphore grants what fits
pub KeepsFine-bound : (most : ℕ) → KeepsFine (IsOfBound most)
KeepsFine-bound most = record {
  adds = IsOfBound-plus most;
  takes = IsOfBound-less most;
  no_gate = λ gate fine. fine;
  no_barrier = λ size arrived round fine. fine;
}

-- a lock in any state
abbrev pub IsAnyLock : Held → Type 0
IsAnyLock (OfLock lock) = Unit {0}
IsAnyLock (OfSemaphore bound out) = ⊥
IsAnyLock (OfShutSemaphore bound out) = ⊥
IsAnyLock (OfGate gate) = ⊥
IsAnyLock (OfBarrier size arrived round) = ⊥

-- a grant leaves a lock
pub IsAnyLock-plus : (held : Held) (request : Request) → IsAnyLock held → fits held request ≡ true → IsAnyLock (plus held request)
IsAnyLock-plus (OfLock lock) request fine fit = tt
IsAnyLock-plus (OfSemaphore bound out) request fine fit = absurd fine
IsAnyLock-plus (OfShutSemaphore bound out) request fine fit = absurd fine
IsAnyLock-plus (OfGate gate) request fine fit = absurd fine
IsAnyLock-plus (OfBarrier size arrived round) request fine fit = absurd fine

-- what is left of a lock is one
pub IsAnyLock-held_lock : (rest : Option LockState) (held : Held) → held_lock rest ≡ Some held → IsAnyLock held
IsAnyLock-held_lock (Some lock) held e = let same : ◌≡◌ {A = Held} (OfLock lock) held = cc in rw (← same) tt
IsAnyLock-held_lock None held e = cc

-- and so does what is given back
pub IsAnyLock-less : (held rest : Held) (request : Request) → IsAnyLock held → less held request ≡ Some rest → IsAnyLock rest
IsAnyLock-less (OfLock lock) rest request fine e = IsAnyLock-held_lock (lock_less lock request) rest e
IsAnyLock-less (OfSemaphore bound out) rest request fine e = absurd fine
IsAnyLock-less (OfShutSemaphore bound out) rest request fine e = absurd fine
IsAnyLock-less (OfGate gate) rest request fine e = absurd fine
IsAnyLock-less (OfBarrier size arrived round) rest request fine e = absurd fine

-- so a lock grants what fits
pub KeepsFine-any_lock : KeepsFine IsAnyLock
KeepsFine-any_lock = record {
  adds = IsAnyLock-plus;
  takes = IsAnyLock-less;
  no_gate = λ gate fine. fine;
  no_barrier = λ size arrived round fine. fine;
}

-- a semaphore that is shut leaves nobody waiting
pub Stands-shut_of : (most : ℕ) (s : Object) (held : Held) → IsOfBound most held → Stands (IsOfBound most) s.held s.line
    → Stands (IsOfBound most) (shut_of s held).state.held (shut_of s held).state.line
Stands-shut_of most s (OfSemaphore bound out) fine stands = record { fine = fine; front = refl; refused = λ refuses. refl }
Stands-shut_of most s (OfShutSemaphore bound out) fine stands = stands
Stands-shut_of most s (OfLock lock) fine stands = stands
Stands-shut_of most s (OfGate gate) fine stands = stands
Stands-shut_of most s (OfBarrier size arrived round) fine stands = stands

-- every call of a semaphore
pub Stands-semaphore_step : (most : ℕ) (call : SemaphoreCall) (s : Object) → Stands (IsOfBound most) s.held s.line
    → Stands (IsOfBound most) (semaphore_step call s).state.held (semaphore_step call s).state.line
Stands-semaphore_step most (TryAcquireMany count) s stands = Stands-tried (IsOfBound most) (KeepsFine-bound most) s (Permits count) stands
Stands-semaphore_step most (ReleaseMany count) s stands = Stands-given_back (IsOfBound most) (KeepsFine-bound most) s (Permits count) stands
Stands-semaphore_step most AvailablePermits s stands = stands
Stands-semaphore_step most IsOpen s stands = stands
Stands-semaphore_step most IsClosed s stands = stands
Stands-semaphore_step most Shut s stands = Stands-shut_of most s s.held stands.fine stands
Stands-semaphore_step most IsShut s stands = stands

-- a downgrade settles the lock of one sharer
pub Stands-downgraded_of : (s : Object) (is_own : Bool) → Stands IsAnyLock s.held s.line
    → Stands IsAnyLock (downgraded_of s is_own).state.held (downgraded_of s is_own).state.line
Stands-downgraded_of s false stands = stands
Stands-downgraded_of s true stands =
    Stands-settled IsAnyLock KeepsFine-any_lock (record s { held = OfLock (Shared 1) }) tt (λ poison. cc)

-- poison leaves nobody waiting
pub Stands-poisoned_of : (s : Object) (is_own : Bool) → Stands IsAnyLock s.held s.line
    → Stands IsAnyLock (poisoned_of s is_own).state.held (poisoned_of s is_own).state.line
Stands-poisoned_of s false stands = stands
Stands-poisoned_of s true stands = record { fine = tt; front = refl; refused = λ refuses. refl }

-- a cleared lock is free, and nobody waits
pub Stands-cleared_of : (s : Object) (is_poison : Bool) → (is_poison ≡ true → s.held ≡ OfLock Poisoned) → Stands IsAnyLock s.held s.line
    → Stands IsAnyLock (cleared_of s is_poison).state.held (cleared_of s is_poison).state.line
Stands-cleared_of s false poison stands = stands
Stands-cleared_of s true poison stands =
    let nobody : s.line ≡ [] = stands.refused (ap refuses_all (poison refl)) in
    record { fine = tt; front = ap (fitting_front (OfLock Free)) nobody; refused = λ again. nobody }

-- every call of a lock
pub Stands-lock_step : (call : LockCall) (s : Object) → Stands IsAnyLock s.held s.line
    → Stands IsAnyLock (lock_step call s).state.held (lock_step call s).state.line
Stands-lock_step TryLock s stands = Stands-tried IsAnyLock KeepsFine-any_lock s AskExclusive stands
Stands-lock_step TryShare s stands = Stands-tried IsAnyLock KeepsFine-any_lock s AskShared stands
Stands-lock_step ReleaseLock s stands = Stands-given_back IsAnyLock KeepsFine-any_lock s AskExclusive stands
Stands-lock_step ReleaseShare s stands = Stands-given_back IsAnyLock KeepsFine-any_lock s AskShared stands
Stands-lock_step Downgrade s stands = Stands-downgraded_of s (is_locked s.held) stands
Stands-lock_step PoisonLock s stands = Stands-poisoned_of s (is_locked s.held) stands
Stands-lock_step ClearPoison s stands = Stands-cleared_of s (is_poisoned s.held) (held-poisoned s.held) stands
Stands-lock_step IsFree s stands = stands
Stands-lock_step IsLocked s stands = stands
Stands-lock_step IsShared s stands = stands
Stands-lock_step IsPoisoned s stands = stands

-- a semaphore of a bound is one
pub kind-bound : (most : ℕ) (held : Held) → IsOfBound most held → (out : ℕ) × IsSemaphoreWith most out held
kind-bound most (OfSemaphore bound out) fine = (out, inl (ap (λ b. OfSemaphore b out) fine))
kind-bound most (OfShutSemaphore bound out) fine = (out, inr (ap (λ b. OfShutSemaphore b out) fine))
kind-bound most (OfLock lock) fine = absurd fine
kind-bound most (OfGate gate) fine = absurd fine
kind-bound most (OfBarrier size arrived round) fine = absurd fine

-- and the other way round
pub IsOfBound-kind : (most out : ℕ) (held : Held) → IsSemaphoreWith most out held → IsOfBound most held
IsOfBound-kind most out held (inl is) = rw is refl
IsOfBound-kind most out held (inr is) = rw is refl

-- it refuses every request only where it is shut
pub bound-shut : (most : ℕ) (held : Held) → IsOfBound most held → refuses_all held ≡ true → is_shut held ≡ true
bound-shut most (OfSemaphore bound out) fine e = cc
bound-shut most (OfShutSemaphore bound out) fine e = refl
bound-shut most (OfLock lock) fine e = absurd fine
bound-shut most (OfGate gate) fine e = absurd fine
bound-shut most (OfBarrier size arrived round) fine e = absurd fine

-- a lock is one
pub kind-any_lock : (held : Held) → IsAnyLock held → (lock : LockState) × (held ≡ OfLock lock)
kind-any_lock (OfLock lock) fine = (lock, refl)
kind-any_lock (OfSemaphore bound out) fine = absurd fine
kind-any_lock (OfShutSemaphore bound out) fine = absurd fine
kind-any_lock (OfGate gate) fine = absurd fine
kind-any_lock (OfBarrier size arrived round) fine = absurd fine

-- a lock refuses every request only where it is poisoned
pub any_lock-poisoned : (held : Held) → IsAnyLock held → refuses_all held ≡ true → held ≡ OfLock Poisoned
any_lock-poisoned (OfLock Poisoned) fine e = refl
any_lock-poisoned (OfLock Free) fine e = cc
any_lock-poisoned (OfLock Exclusive) fine e = cc
any_lock-poisoned (OfLock (Shared n)) fine e = cc
any_lock-poisoned (OfSemaphore bound out) fine e = absurd fine
any_lock-poisoned (OfShutSemaphore bound out) fine e = absurd fine
any_lock-poisoned (OfGate gate) fine e = absurd fine
any_lock-poisoned (OfBarrier size arrived round) fine e = absurd fine

-- a settled semaphore, as the law says it and as the proof does
pub Stands-semaphore : (most : ℕ) (s : Object) → IsSettledSemaphore most s → Stands (IsOfBound most) s.held s.line
Stands-semaphore most s is =
    let fine : IsOfBound most s.held = IsOfBound-kind most is.kind.0 s.held is.kind.1 in
    record {
      fine = fine;
      front = fitting_front-stands s.held s.line is.oldest;
      refused = λ refuses. is.shut (bound-shut most s.held fine refuses);
    }

pub IsSettledSemaphore-stands : (most : ℕ) (s : Object) → Stands (IsOfBound most) s.held s.line → IsSettledSemaphore most s
IsSettledSemaphore-stands most s stands = record {
  kind = kind-bound most s.held stands.fine;
  oldest = IsSettledAt-from_front s.held s.line stands.front;
  shut = λ shut. stands.refused (shut-refuses s.held shut);
}

-- a settled lock, as the law says it and as the proof does
pub Stands-lock : (s : Object) → IsSettledLock s → Stands IsAnyLock s.held s.line
Stands-lock s is =
    let fine : IsAnyLock s.held = rw is.kind.1 tt in
    record {
      fine = fine;
      front = fitting_front-stands s.held s.line is.oldest;
      refused = λ refuses. is.poisoned (any_lock-poisoned s.held fine refuses);
    }

pub IsSettledLock-stands : (s : Object) → Stands IsAnyLock s.held s.line → IsSettledLock s
IsSettledLock-stands s stands = record {
  kind = kind-any_lock s.held stands.fine;
  oldest = IsSettledAt-from_front s.held s.line stands.front;
  poisoned = λ poison. stands.refused (ap refuses_all poison);
}

-- one command leaves a settled semaphore settled
pub semaphore-settled_command : (bound : ℕ) (s : Object) (command : CommandOf SemaphoreCall ℕ) → IsSettledSemaphore bound s
    → IsSettledSemaphore bound (done Permits semaphore_step semaphore_value command s).state
semaphore-settled_command bound s command is = IsSettledSemaphore-stands bound _
    (Stands-done (IsOfBound bound) (KeepsFine-bound bound) Permits semaphore_step semaphore_value (Stands-semaphore_step bound) command s (Stands-semaphore bound s is))

-- and so does a list of them
pub semaphore-settled_run : (bound : ℕ) (s : Object) (commands : List (CommandOf SemaphoreCall ℕ)) → IsSettledSemaphore bound s
    → IsSettledSemaphore bound (state_after Permits semaphore_step semaphore_value commands s)
semaphore-settled_run bound s commands is = IsSettledSemaphore-stands bound _
    (Stands-run (IsOfBound bound) (KeepsFine-bound bound) Permits semaphore_step semaphore_value (Stands-semaphore_step bound) commands s (Stands-semaphore bound s is))

-- one command leaves a settled lock settled
pub lock-settled_command : (s : Object) (command : CommandOf LockCall Mode) → IsSettledLock s
    → IsSettledLock (done mode_request lock_step lock_value command s).state
lock-settled_command s command is = IsSettledLock-stands _
    (Stands-done IsAnyLock KeepsFine-any_lock mode_request lock_step lock_value Stands-lock_step command s (Stands-lock s is))

-- and so does a list of them
pub lock-settled_run : (s : Object) (commands : List (CommandOf LockCall Mode)) → IsSettledLock s
    → IsSettledLock (state_after mode_request lock_step lock_value commands s)
lock-settled_run s commands is = IsSettledLock-stands _
    (Stands-run IsAnyLock KeepsFine-any_lock mode_request lock_step lock_value Stands-lock_step commands s (Stands-lock s is))

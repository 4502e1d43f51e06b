-- What a primitive holds, and the table of needs: which request fits, what it takes when it is granted,
-- and what is left when it is given back. Said once; settling, the cores and the word forms cite it.
use Rattle.std.specs.Prelude.{ℕ, ◌+◌, ◌-◌, ◌<◌, ◌≤◌, Bool, true, false, if◌then◌else◌, ◌==◌, nat_le, nat_lt, Option, Some, None}
use Rattle.saa_core_spec.specs.declared.gate.State.{State}
use Rattle.saa_core_spec.specs.declared.request.Request.{Request}
use Rattle.saa_core_spec.specs.declared.request.Request.TheVariants.{Exclusive as AskExclusive, Shared as AskShared, WaitExclusive, WaitShared, Permits, Enter, Arrive}

-- a lock is nobody's, one owner's alone, shared by so many (at least 1), or poisoned
pub data LockState : Type 0 where
  Free Exclusive Poisoned : LockState
  Shared : ℕ → LockState

-- what each of the four primitives holds: a semaphore its bound and the permits that are out, and whether it is shut,
-- a lock and a gate their state, a barrier its size, the arrivals of its round that don't wait, and how many of its rounds are
-- complete
pub data Held : Type 0 where
  OfSemaphore : (bound out : ℕ) → Held
  OfShutSemaphore : (bound out : ℕ) → Held
  OfLock : LockState → Held
  OfGate : State → Held
  OfBarrier : (size arrived round : ℕ) → Held

-- the most permits of a semaphore, where nothing else is said
abbrev pub max_permits : ℕ
max_permits = 63

-- the most owners that share a lock
abbrev pub max_shared_owners : ℕ
max_shared_owners = 62

-- the greatest size of a barrier
abbrev pub max_tasks : ℕ
max_tasks = 63

-- the most complete rounds that a barrier counts: the number of rounds stays there
abbrev pub max_rounds : ℕ
max_rounds = 18446744073709551615

-- the states that a lock can be in: if it is shared, then by 1 to 62 owners
abbrev pub IsLockState : LockState → Type 0
IsLockState Free = Unit {0}
IsLockState Exclusive = Unit {0}
IsLockState Poisoned = Unit {0}
IsLockState (Shared n) = (0 < n) × (n ≤ max_shared_owners)

-- which request a lock has room for
abbrev pub lock_fits : LockState → Request → Bool
lock_fits Free AskExclusive = true
lock_fits Free AskShared = true
lock_fits Free WaitExclusive = true
lock_fits Free WaitShared = true
lock_fits (Shared n) AskShared = nat_lt n max_shared_owners
lock_fits (Shared n) WaitShared = nat_lt n max_shared_owners
lock_fits _ _ = false

-- which request fits what is held; only a semaphore and a lock grant what fits, and a shut semaphore grants nothing
abbrev pub fits : Held → Request → Bool
fits (OfSemaphore bound out) (Permits n) = nat_le (out + n) bound
fits (OfLock lock) request = lock_fits lock request
fits _ _ = false

-- a lock plus what a request takes when it is granted; the wait modes take nothing
abbrev pub lock_plus : LockState → Request → LockState
lock_plus Free AskExclusive = Exclusive
lock_plus Free AskShared = Shared 1
lock_plus (Shared n) AskShared = Shared (n + 1)
lock_plus lock _ = lock

-- held plus request
abbrev pub plus : Held → Request → Held
plus (OfSemaphore bound out) (Permits n) = OfSemaphore bound (out + n)
plus (OfLock lock) request = OfLock (lock_plus lock request)
plus held _ = held

-- a lock less what a request took, where the lock has it
abbrev pub lock_less : LockState → Request → Option LockState
lock_less Exclusive AskExclusive = Some Free
lock_less (Shared n) AskShared = Some (if n == 1 then Free else Shared (n - 1))
lock_less _ _ = None

-- that lock as what is held
abbrev pub held_lock : Option LockState → Option Held
held_lock (Some lock) = Some (OfLock lock)
held_lock None = None

-- held less request, where it exists
abbrev pub less : Held → Request → Option Held
less (OfSemaphore bound out) (Permits n) = if nat_le n out then Some (OfSemaphore bound (out - n)) else None
less (OfShutSemaphore bound out) (Permits n) = if nat_le n out then Some (OfShutSemaphore bound (out - n)) else None
less (OfLock lock) request = held_lock (lock_less lock request)
less _ _ = None

-- whether a request asks for more permits than the semaphore ever has
abbrev pub asks_too_much : Held → Request → Bool
asks_too_much (OfSemaphore bound out) (Permits n) = nat_lt bound n
asks_too_much (OfShutSemaphore bound out) (Permits n) = nat_lt bound n
asks_too_much _ _ = false

-- whether every request is refused at once, whatever it is: by a poisoned lock, and by a shut semaphore. Nobody waits there
abbrev pub refuses_all : Held → Bool
refuses_all (OfLock Poisoned) = true
refuses_all (OfShutSemaphore bound out) = true
refuses_all _ = false

-- the number of a request in a word: the permits, or the mode of a lock
abbrev pub request_number : Request → ℕ
request_number AskExclusive = 0
request_number AskShared = 1
request_number WaitExclusive = 2
request_number WaitShared = 3
request_number (Permits n) = n
request_number Enter = 0
request_number Arrive = 0

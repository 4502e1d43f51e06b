-- The lock object: one owner alone, or several that share, and poison.
use Rattle.std.specs.Prelude.{ℕ, Bool, true, false, Result, Ok, Err}
use Rattle.saa_core_spec.specs.declared.request.Request.{Request}
use Rattle.saa_core_spec.specs.declared.request.Request.TheVariants.{Exclusive as AskExclusive, Shared as AskShared, WaitExclusive as AskWaitExclusive, WaitShared as AskWaitShared}
use Rattle.saa_core_spec.specs.declared.lock.Mode.{Mode}
use Rattle.saa_core_spec.specs.declared.lock.Mode.TheVariants.{Exclusive as ModeExclusive, Shared as ModeShared, WaitExclusive, WaitShared}
use Rattle.saa_core_spec.specs.declared.lock.TryLockError.{TryLockError}
use Rattle.saa_core_spec.specs.declared.lock.TryLockError.TheVariants.{Poisoned as IsPoisonedError, WouldBlock}
use Rattle.saa_core_spec.specs.declared.lock.LockCall.{LockCall}
use Rattle.saa_core_spec.specs.declared.lock.LockCall.TheVariants.{TryLock, TryShare, ReleaseLock, ReleaseShare, Downgrade, PoisonLock, ClearPoison, IsFree, IsLocked, IsShared, IsPoisoned}
use Rattle.saa_core_spec.specs.declared.lock.LockAnswer.{LockAnswer}
use Rattle.saa_core_spec.specs.declared.lock.LockAnswer.TheVariants.{Bool as SaysBool, Tried}
use Rattle.saa_core_spec.specs.Held.{Held, OfLock, Free, Exclusive, Shared, Poisoned}
use Rattle.saa_core_spec.specs.Object.{Object, After, newly_made}
use Rattle.saa_core_spec.specs.Settling.{settled, all_answered}
use Rattle.saa_core_spec.specs.Asking.{tried}
use Rattle.saa_core_spec.specs.Polling.{given_back}
use Rattle.saa_core_spec.specs.Values.{poisoned_value}

-- the request of a mode
abbrev pub mode_request : Mode → Request
mode_request ModeExclusive = AskExclusive
mode_request ModeShared = AskShared
mode_request WaitExclusive = AskWaitExclusive
mode_request WaitShared = AskWaitShared

-- whether the lock is nobody's
abbrev pub is_free : Held → Bool
is_free (OfLock Free) = true
is_free _ = false

-- whether the lock is one owner's alone
abbrev pub is_locked : Held → Bool
is_locked (OfLock Exclusive) = true
is_locked _ = false

-- whether the lock is shared
abbrev pub is_shared : Held → Bool
is_shared (OfLock (Shared n)) = true
is_shared _ = false

-- whether the lock is poisoned
abbrev pub is_poisoned : Held → Bool
is_poisoned (OfLock Poisoned) = true
is_poisoned _ = false

-- a refused try answers Poisoned on a poisoned lock, and else WouldBlock
abbrev pub try_error : Bool → TryLockError
try_error true = IsPoisonedError
try_error false = WouldBlock

-- the answer of a try that was granted or not, on a lock that is poisoned or not
abbrev pub try_answer : (is_granted is_poison : Bool) → Result (Unit {0}) TryLockError
try_answer true is_poison = Ok tt
try_answer false is_poison = Err (try_error is_poison)

-- a try in the answers' type. A poisoned lock has room for no request
abbrev pub says_tried : After Bool → Bool → After LockAnswer
says_tried after is_poison = record { state = after.state; reply = Tried (try_answer after.reply is_poison) }

-- a call's answer in the answers' type
abbrev pub says_bool : After Bool → After LockAnswer
says_bool after = record { state = after.state; reply = SaysBool after.reply }

-- only the lock of one owner is downgraded: that owner has the one share of it then, and it settles
abbrev pub downgraded_of : Object → Bool → After Bool
downgraded_of s true = record { state = settled (record s { held = OfLock (Shared 1) }); reply = true }
downgraded_of s false = record { state = s; reply = false }

-- poison comes only to the lock of one owner: all waiters are answered Poisoned, wait modes too
abbrev pub poisoned_of : Object → Bool → After Bool
poisoned_of s true = record { state = all_answered poisoned_value (record s { held = OfLock Poisoned }); reply = true }
poisoned_of s false = record { state = s; reply = false }

-- only a poisoned lock is cleared, and is free then
abbrev pub cleared_of : Object → Bool → After Bool
cleared_of s true = record { state = record s { held = OfLock Free }; reply = true }
cleared_of s false = record { state = s; reply = false }

-- what each call of a lock answers, and leaves
abbrev pub lock_step : LockCall → Object → After LockAnswer
lock_step TryLock s = says_tried (tried s AskExclusive) (is_poisoned s.held)
lock_step TryShare s = says_tried (tried s AskShared) (is_poisoned s.held)
lock_step ReleaseLock s = says_bool (given_back s AskExclusive)
lock_step ReleaseShare s = says_bool (given_back s AskShared)
lock_step Downgrade s = says_bool (downgraded_of s (is_locked s.held))
lock_step PoisonLock s = says_bool (poisoned_of s (is_locked s.held))
lock_step ClearPoison s = says_bool (cleared_of s (is_poisoned s.held))
lock_step IsFree s = record { state = s; reply = SaysBool (is_free s.held) }
lock_step IsLocked s = record { state = s; reply = SaysBool (is_locked s.held) }
lock_step IsShared s = record { state = s; reply = SaysBool (is_shared s.held) }
lock_step IsPoisoned s = record { state = s; reply = SaysBool (is_poisoned s.held) }

-- a newly made lock is free
abbrev pub new_lock : (room names : ℕ) → Object
new_lock room names = newly_made (OfLock Free) room names

-- The tries of a lock, in the type that they answer.
use Rattle.std.specs.Prelude.{◌≡◌, [], Result}
use Rattle.saa_core_spec.specs.declared.request.Request.{Request}
use Rattle.saa_core_spec.specs.declared.lock.TryLockError.{TryLockError}
use Rattle.saa_core_spec.specs.Held.{OfLock, Poisoned, LockState, IsLockState}
use Rattle.saa_core_spec.specs.Object.{Object, After}
use Rattle.saa_core_spec.specs.Settling.{IsSettled}
use Rattle.saa_core_spec.specs.Asking.{tried}
use Rattle.saa_core_spec.specs.Lock.{is_poisoned, try_answer}

-- a try of a lock takes what is granted at once; else it says why not, and changes nothing
abbrev pub lock_tried : Object → Request → After (Result (Unit {0}) TryLockError)
lock_tried s request = record { state = (tried s request).state; reply = try_answer (tried s request).reply (is_poisoned s.held) }

-- what always holds of a lock: it is settled, nobody waits where it is poisoned, and 1 to 62 share it if it is shared
pub record LockInvariant (s : Object) : Type 0 where
  pub settled : IsSettled s
  pub unpoisoned : s.held ≡ OfLock Poisoned → s.line ≡ []
  pub bounded : (lock : LockState) × (s.held ≡ OfLock lock) × IsLockState lock

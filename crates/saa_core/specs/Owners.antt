-- How the core of a lock keeps its owner and its sharers. No user must believe this: contracts speak of the state of the lock.
use Rattle.saa_core_spec.specs.Held.{LockState, Free, Exclusive, Poisoned, Shared}
use Rattle.saa_core.specs.declared.lock.Owner.{Owner}
use Rattle.saa_core.specs.declared.lock.Owner.TheVariants.{Free as NoOwner, Exclusive as OneOwner, Shared as Sharing, Poisoned as IsPoisoned}

-- the state of the lock that these have
abbrev pub lock_state : Owner → LockState
lock_state NoOwner = Free
lock_state OneOwner = Exclusive
lock_state (Sharing owners) = Shared owners
lock_state IsPoisoned = Poisoned

-- What the answers of a semaphore mean to calls and futures; a future without an answer was refused its registration.
use Rattle.std.specs.Prelude.{◌≡◌, ℕ, Bool, true, false, Option, Some, None, Result, Ok, Err, if◌then◌else◌, ◌==◌, refl}
use Rattle.saa_core_spec.specs.declared.polling.Error.TheVariants.{Closed}
use Rattle.saa_core_spec.specs.Values.{closed_value}
use Rattle.saa_core_waits.specs.declared.acquire_error.AcquireError.{AcquireError}
use Rattle.saa_core_waits.specs.declared.acquire_error.AcquireError.TheVariants.{Closed as WasShut}
use Rattle.saa_core.specs.Tickets.{fault_of}

-- what is asked is granted, or the semaphore was shut
abbrev pub granted : {A : Type 0} → A → ℕ → Result A AcquireError
granted value answer = if answer == closed_value then Err WasShut else Ok value

-- one permit is granted
abbrev pub one_permit : Option ℕ → Result (Unit {0}) AcquireError
one_permit None = Ok tt
one_permit (Some answer) = granted tt answer

-- so many permits are granted, or were more than there are
abbrev pub many_permits : Option ℕ → Result Bool AcquireError
many_permits None = Ok false
many_permits (Some answer) = granted true answer

-- each value that a semaphore reads is an answer, also that it was shut
abbrev pub is_no_fault : (is_closed : Bool) → fault_of {V = Unit {0}} (if is_closed then Err Closed else Ok tt) ≡ None
is_no_fault true = refl
is_no_fault false = refl

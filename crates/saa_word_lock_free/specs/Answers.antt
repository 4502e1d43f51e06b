-- What the answers of both primitives mean to their futures and pagers; a future without an answer was refused its registration.
use Rattle.std.specs.Prelude.{◌≡◌, ℕ, Bool, false, true, Option, Some, None, Result, Ok, Err, ◌==◌, if◌then◌else◌, refl}
use Rattle.saa_core_spec.specs.declared.polling.Error.{Error}
use Rattle.saa_core_spec.specs.declared.polling.Error.TheVariants.{Closed}
use Rattle.saa_core_spec.specs.Errors.{why_none}
use Rattle.saa_core_spec.specs.Values.{closed_value}
use Rattle.saa_core_waits.specs.declared.acquire_error.AcquireError.{AcquireError}
use Rattle.saa_core_waits.specs.declared.acquire_error.AcquireError.TheVariants.{Closed as WasShut}

-- what is asked is granted, or the semaphore was shut
abbrev pub granted : {A : Type 0} → A → ℕ → Result A AcquireError
granted value answer = if answer == closed_value then Err WasShut else Ok value

-- one permit is granted
abbrev pub one_permit : Option ℕ → Result (Unit {0}) AcquireError
one_permit None = Ok tt
one_permit (Some answer) = granted tt answer

-- so many permits are granted, or were more than there are
abbrev pub many_permits : Option ℕ → Result Bool AcquireError
many_permits None = Ok false
many_permits (Some answer) = granted true answer

-- a lock is granted by 0; every other answer says that it was poisoned
abbrev pub turn : Option ℕ → Bool
turn None = false
turn (Some value) = value == 0

-- what a pager's poll reads, by a value or by an error in its place
abbrev pub answer_of : {V : Type 0} → (Result ℕ Error → V) → ℕ → Option Error → V
answer_of reading value None = reading (Ok value)
answer_of reading value (Some error) = reading (Err error)

-- which error a reading is, if it says that there is no answer
abbrev pub fault_of : {V : Type 0} → Result V Error → Option Error
fault_of (Ok value) = None
fault_of (Err error) = why_none error

-- each value that a semaphore reads is an answer, also that it was shut
abbrev pub is_no_fault : (is_closed : Bool) → fault_of {V = Unit {0}} (if is_closed then Err Closed else Ok tt) ≡ None
is_no_fault true = refl
is_no_fault false = refl

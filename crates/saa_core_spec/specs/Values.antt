-- The numbers: of answers as they are kept until they are consumed, of a gate's states and of its errors,
-- and what each value means to the poll that consumes it.
use Rattle.std.specs.Prelude.{ℕ, ◌-◌, ◌%◌, Bool, Result, Ok, Err, if◌then◌else◌, ◌==◌}
use Rattle.saa_core_spec.specs.declared.gate.State.{State}
use Rattle.saa_core_spec.specs.declared.gate.State.TheVariants.{Controlled, Sealed as SealedState, Open}
use Rattle.saa_core_spec.specs.declared.gate.Error.{Error as GateError}
use Rattle.saa_core_spec.specs.declared.gate.Error.TheVariants.{Rejected, Sealed, SpuriousFailure, NotRegistered as GateNotRegistered, WrongMode as GateWrongMode, NotReady as GateNotReady}
use Rattle.saa_core_spec.specs.declared.polling.Error.{Error}
use Rattle.saa_core_spec.specs.declared.polling.Error.TheVariants.{NotRegistered, WrongMode, NotReady, Closed}

-- a semaphore or a lock granted it
abbrev pub granted_value : ℕ
granted_value = 0

-- the semaphore was shut. It is the number of poison: a form in words answers all waiters of either in one way
abbrev pub closed_value : ℕ
closed_value = 2

-- the lock is or was poisoned
abbrev pub poisoned_value : ℕ
poisoned_value = 2

-- a barrier's round is complete, and another arrival was its last
abbrev pub passed_value : ℕ
passed_value = 0

-- a barrier's round is complete with this arrival
abbrev pub leader_value : ℕ
leader_value = 1

-- a controlled gate let it pass
abbrev pub permitted_value : ℕ
permitted_value = 0

-- an open gate let it pass
abbrev pub opened_value : ℕ
opened_value = 2

-- a controlled gate rejected it
abbrev pub rejected_value : ℕ
rejected_value = 4

-- a sealed gate refused it
abbrev pub sealed_value : ℕ
sealed_value = 9

-- another waiter of the gate gave up
abbrev pub spurious_value : ℕ
spurious_value = 12

-- the number of a gate's state
abbrev pub state_number : State → ℕ
state_number Controlled = 0
state_number SealedState = 1
state_number Open = 2

-- the state of a number; any number that is no state's reads as Open
abbrev pub number_state : ℕ → State
number_state n = if n == 0 then Controlled else (if n == 1 then SealedState else Open)

-- the number of a gate's error
abbrev pub error_number : GateError → ℕ
error_number Rejected = 4
error_number Sealed = 8
error_number SpuriousFailure = 12
error_number GateNotRegistered = 16
error_number GateWrongMode = 20
error_number GateNotReady = 24

-- the error of a number; any number that is no error's reads as NotReady
abbrev pub number_error : ℕ → GateError
number_error n =
    if n == 4 then Rejected
    else (if n == 8 then Sealed
    else (if n == 12 then SpuriousFailure
    else (if n == 16 then GateNotRegistered
    else (if n == 20 then GateWrongMode
    else GateNotReady))))

-- what a value means to a semaphore: that it was shut, and every other is a grant
abbrev pub semaphore_value : Result ℕ Error → Result (Unit {0}) Error
semaphore_value (Ok value) = if value == closed_value then Err Closed else Ok tt
semaphore_value (Err error) = Err error

-- what a value means to a lock: granted or not
abbrev pub lock_value : Result ℕ Error → Result Bool Error
lock_value (Ok value) = Ok (value == granted_value)
lock_value (Err error) = Err error

-- what a value means to a barrier: the leader or not
abbrev pub barrier_value : Result ℕ Error → Result Bool Error
barrier_value (Ok value) = Ok (value == leader_value)
barrier_value (Err error) = Err error

-- the error of a poll as a gate's error of the same name. No poll of a gate has Closed; it would read as Sealed
abbrev pub gate_error : Error → GateError
gate_error NotRegistered = GateNotRegistered
gate_error WrongMode = GateWrongMode
gate_error NotReady = GateNotReady
gate_error Closed = Sealed

-- what a value means to a gate: its two low bits are the state, and the rest is the error, if it isn't 0
abbrev pub gate_value : Result ℕ Error → Result State GateError
gate_value (Ok value) =
    if value - value % 4 == 0 then Ok (number_state (value % 4)) else Err (number_error (value - value % 4))
gate_value (Err error) = Err (gate_error error)

-- What the answers of a gate mean to its pagers, to the waiters, and to its futures; a future without an answer was
-- refused its registration.
use Rattle.std.specs.Prelude.{ℕ, Option, Some, None, Result, Ok, Err}
use Rattle.saa_core_spec.specs.declared.gate.State.{State}
use Rattle.saa_core_spec.specs.declared.gate.Error.{Error as GateError}
use Rattle.saa_core_spec.specs.declared.gate.Error.TheVariants.{Rejected, Sealed, SpuriousFailure, NotRegistered as GateNotRegistered, WrongMode as GateWrongMode, NotReady as GateNotReady}
use Rattle.saa_core_spec.specs.declared.polling.Error.{Error}
use Rattle.saa_core_spec.specs.declared.polling.Error.TheVariants.{NotRegistered, WrongMode, NotReady}
use Rattle.saa_core_spec.specs.Values.{gate_value}
use Rattle.saa_sync.specs.declared.timed.gate.TimedEntry.{TimedEntry}
use Rattle.saa_sync.specs.declared.timed.gate.TimedEntry.TheVariants.{Passed, Refused, Late}

-- the error of a poll that a gate's answer is, if it is one; who was rejected, refused or woken has an answer
abbrev pub gate_fault : Result State GateError → Option Error
gate_fault (Ok state) = None
gate_fault (Err Rejected) = None
gate_fault (Err Sealed) = None
gate_fault (Err SpuriousFailure) = None
gate_fault (Err GateNotRegistered) = Some NotRegistered
gate_fault (Err GateWrongMode) = Some WrongMode
gate_fault (Err GateNotReady) = Some NotReady

-- the error of a poll that an entry in time answers, if it is one
abbrev pub entry_fault : TimedEntry → Option Error
entry_fault (Passed state) = None
entry_fault (Refused error) = gate_fault (Err error)
entry_fault Late = None

-- What a poll of a gate is told: what the number means that the core answered, or the gate's error of the same name. No gate
-- answers a number that reads as an error of a poll; such a one says that somebody gave up
abbrev pub answered_with : Result State GateError → Result State GateError
answered_with (Ok state) = Ok state
answered_with (Err Rejected) = Err Rejected
answered_with (Err Sealed) = Err Sealed
answered_with (Err SpuriousFailure) = Err SpuriousFailure
answered_with (Err GateNotRegistered) = Err SpuriousFailure
answered_with (Err GateWrongMode) = Err SpuriousFailure
answered_with (Err GateNotReady) = Err SpuriousFailure

abbrev pub gate_reading : Result ℕ Error → Result State GateError
gate_reading (Ok value) = answered_with (gate_value (Ok value))
gate_reading (Err error) = gate_value (Err error)

-- what a gate's answer means
abbrev pub passing : Option ℕ → Result State GateError
passing None = Err SpuriousFailure
passing (Some value) = gate_value (Ok value)

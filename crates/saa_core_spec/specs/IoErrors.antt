-- Which kind of `std::io::Error` each error becomes by `?`.
use Rattle.std.specs.declared.io.ErrorKind.{ErrorKind}
use Rattle.std.specs.declared.io.ErrorKind.TheVariants.{BrokenPipe, InvalidInput, Interrupted, Other, WouldBlock}
use Rattle.saa_core_spec.specs.declared.lock.TryLockError.{TryLockError}
use Rattle.saa_core_spec.specs.declared.lock.TryLockError.TheVariants as Tried
use Rattle.saa_core_spec.specs.declared.polling.Error.{Error}
use Rattle.saa_core_spec.specs.declared.polling.Error.TheVariants as Poll
use Rattle.saa_core_spec.specs.declared.gate.Error.{Error as GateError}
use Rattle.saa_core_spec.specs.declared.gate.Error.TheVariants as Gate

-- of a refused try
abbrev pub try_lock_kind : TryLockError → ErrorKind
try_lock_kind Tried.Poisoned = Other
try_lock_kind Tried.WouldBlock = WouldBlock

-- of a poll that has no answer
abbrev pub poll_kind : Error → ErrorKind
poll_kind Poll.NotRegistered = InvalidInput
poll_kind Poll.WrongMode = InvalidInput
poll_kind Poll.NotReady = WouldBlock
poll_kind Poll.Closed = BrokenPipe

-- of a task that didn't pass a gate
abbrev pub gate_kind : GateError → ErrorKind
gate_kind Gate.Rejected = Other
gate_kind Gate.Sealed = Other
gate_kind Gate.SpuriousFailure = Interrupted
gate_kind Gate.NotRegistered = InvalidInput
gate_kind Gate.WrongMode = InvalidInput
gate_kind Gate.NotReady = WouldBlock

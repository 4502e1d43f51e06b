-- What the error of a poll says, where it has one.
use Rattle.std.specs.Prelude.{ℕ, Bool, true, false, Option, Some, None, Result, Ok, Err}
use Rattle.saa_core_spec.specs.declared.polling.Error.{Error}
use Rattle.saa_core_spec.specs.declared.polling.Error.TheVariants.{NotRegistered, WrongMode, NotReady, Closed}

-- why a poll has no answer, by its error. That a semaphore was shut is an answer, and no such reason
abbrev pub why_none : Error → Option Error
why_none NotRegistered = Some NotRegistered
why_none WrongMode = Some WrongMode
why_none NotReady = Some NotReady
why_none Closed = None

-- the error of a poll's answer, if it says that there is none
abbrev pub error_of : Result ℕ Error → Option Error
error_of (Ok value) = None
error_of (Err error) = why_none error

-- whether a poll's error says that the answer isn't there yet
abbrev pub is_not_ready : Option Error → Bool
is_not_ready None = false
is_not_ready (Some NotRegistered) = false
is_not_ready (Some WrongMode) = false
is_not_ready (Some NotReady) = true
is_not_ready (Some Closed) = false

-- whether a poll's error says that the mode was wrong
abbrev pub says_wrong_mode : Option Error → Bool
says_wrong_mode None = false
says_wrong_mode (Some NotRegistered) = false
says_wrong_mode (Some WrongMode) = true
says_wrong_mode (Some NotReady) = false
says_wrong_mode (Some Closed) = false

-- whether a poll's error says that nothing is registered there
abbrev pub says_not_registered : Option Error → Bool
says_not_registered None = false
says_not_registered (Some NotRegistered) = true
says_not_registered (Some WrongMode) = false
says_not_registered (Some NotReady) = false
says_not_registered (Some Closed) = false

-- whether a poll's error says that the mode was wrong, or that nothing is registered there
abbrev pub is_refusal : Option Error → Bool
is_refusal None = false
is_refusal (Some NotRegistered) = true
is_refusal (Some WrongMode) = true
is_refusal (Some NotReady) = false
is_refusal (Some Closed) = false

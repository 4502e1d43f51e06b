-- What a gate's poll says in the ticket's own terms.
use Rattle.std.specs.Prelude.{◌≡◌, ℕ, Bool, true, false, ◌||◌, ◌==◌, List, [], ◌∷◌, Option, Some, None, Result, Ok, Err, OnErr}
use Rattle.saa_core_spec.specs.declared.gate.State.{State}
use Rattle.saa_core_spec.specs.declared.gate.State.TheVariants.{Controlled, Sealed as SealedState, Open}
use Rattle.saa_core_spec.specs.declared.gate.Error.{Error as GateError}
use Rattle.saa_core_spec.specs.declared.gate.Error.TheVariants.{Rejected, Sealed, SpuriousFailure, NotRegistered, WrongMode, NotReady}
use Rattle.saa_core_spec.specs.declared.polling.How.{How}
use Rattle.saa_core_spec.specs.declared.polling.Error.{Error}
use Rattle.saa_core_spec.specs.Values.{gate_value, permitted_value, opened_value, rejected_value, sealed_value, spurious_value}
use Rattle.saa_core.specs.declared.ticket.Registration.{Registration}
use Rattle.saa_core.specs.declared.ticket.Registration.TheVariants.{Unregistered, AtOnce, InSlot}
use Rattle.saa_core.specs.Tickets.{Core, Polled, fault_of}

-- The answer was read off a number, or off the error of a poll for one. The ticket is as that poll says, and where
-- it was an error nothing changed
pub record GatePolled (old new : Core) (ticket_old ticket_new : Registration) (how : How) (result : Result State GateError) : Type 0 where
  pub number : Result ℕ Error
  pub read : result ≡ gate_value number
  pub ticket : Polled ticket_old ticket_new how (fault_of number)
  pub unchanged : OnErr number (new ≡ old)

-- whether a poll has an answer: the task passed, or was rejected, refused, or woken since another gave up
abbrev pub is_answer : Result State GateError → Bool
is_answer (Ok state) = true
is_answer (Err Rejected) = true
is_answer (Err Sealed) = true
is_answer (Err SpuriousFailure) = true
is_answer (Err NotRegistered) = false
is_answer (Err WrongMode) = false
is_answer (Err NotReady) = false

-- the numbers that a gate answers
abbrev pub is_gate_number : ℕ → Bool
is_gate_number value =
    value == permitted_value || (value == opened_value || (value == rejected_value || (value == sealed_value || value == spurious_value)))

-- the answers that are there are numbers of a gate
abbrev pub IsGateAnswer : Option ℕ → Type 0
IsGateAnswer None = Unit {0}
IsGateAnswer (Some value) = is_gate_number value ≡ true

abbrev pub AreGateAnswers : List (Option ℕ) → Type 0
AreGateAnswers [] = Unit {0}
AreGateAnswers (answer ∷ answers) = IsGateAnswer answer × AreGateAnswers answers

-- a ticket of a gate: an answer that it has with it is a number of a gate. So is each that a gate ever registered
abbrev pub IsGateTicket : Registration → Type 0
IsGateTicket Unregistered = Unit {0}
IsGateTicket (AtOnce value request is_sync) = is_gate_number value ≡ true
IsGateTicket (InSlot slot request is_sync) = Unit {0}

-- whether a poll's value is one of a gate's: nobody passes a sealed gate
abbrev pub is_gate_result : Result State GateError → Bool
is_gate_result (Ok Controlled) = true
is_gate_result (Ok SealedState) = false
is_gate_result (Ok Open) = true
is_gate_result (Err error) = true

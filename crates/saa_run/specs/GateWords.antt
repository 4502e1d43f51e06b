-- The language of a gate: its calls, its registrations, and its answers, in words.
use Rattle.std.specs.Prelude.{ℕ, List, [], ◌∷◌, ◌++◌, Some, None, Result, Ok, Err, codes, decimal}
use Rattle.saa_core_spec.specs.declared.run.ReplyOf.{ReplyOf}
use Rattle.saa_core_spec.specs.declared.gate.State.{State}
use Rattle.saa_core_spec.specs.declared.gate.State.TheVariants.{Controlled, Sealed, Open}
use Rattle.saa_core_spec.specs.declared.gate.Error.{Error}
use Rattle.saa_core_spec.specs.declared.gate.Error.TheVariants.{Rejected, Sealed as IsSealed, SpuriousFailure, NotRegistered, WrongMode, NotReady}
use Rattle.saa_core_spec.specs.declared.gate.GateCall.{GateCall}
use Rattle.saa_core_spec.specs.declared.gate.GateCall.TheVariants.{State as AskState, Reset, Permit, PermitMany, Reject, Open as DoOpen, Seal}
use Rattle.saa_core_spec.specs.declared.gate.GateAnswer.{GateAnswer}
use Rattle.saa_core_spec.specs.declared.gate.GateAnswer.TheVariants.{State as SaysState, Reset as SaysReset, Answered, Moved}
use Rattle.saa_core_spec.specs.Object.{Object, After}
use Rattle.saa_core_spec.specs.Values.{gate_value}
use Rattle.saa_core_spec.specs.Gate.{gate_step, enter_request}
use Rattle.saa_run.specs.declared.script.command.ScriptLine.{ScriptLine}
use Rattle.saa_run.specs.Language.{Readings}
use Rattle.saa_run.specs.Spelling.{Spellings}
use Rattle.saa_run.specs.Replies.{no_ask, reply_words, line_does}

-- how its lines are read
abbrev pub gate_readings : Readings GateCall (Unit {0})
gate_readings = record {
  lone =
      (codes "state", AskState) ∷
      (codes "reset", Reset) ∷
      (codes "permit", Permit) ∷
      (codes "reject", Reject) ∷
      (codes "open", DoOpen) ∷
      (codes "seal", Seal) ∷ [];
  counted = (codes "permit_many", PermitMany) ∷ [];
  ask = no_ask;
}

-- the fields of a call
abbrev pub gate_call_fields : GateCall → List (List ℕ)
gate_call_fields AskState = codes "state" ∷ []
gate_call_fields Reset = codes "reset" ∷ []
gate_call_fields Permit = codes "permit" ∷ []
gate_call_fields (PermitMany n) = codes "permit_many" ∷ decimal n ∷ []
gate_call_fields Reject = codes "reject" ∷ []
gate_call_fields DoOpen = codes "open" ∷ []
gate_call_fields Seal = codes "seal" ∷ []

-- the numbers of a call
abbrev pub gate_call_numbers : GateCall → List ℕ
gate_call_numbers (PermitMany n) = n ∷ []
gate_call_numbers AskState = []
gate_call_numbers Reset = []
gate_call_numbers Permit = []
gate_call_numbers Reject = []
gate_call_numbers DoOpen = []
gate_call_numbers Seal = []

-- how its lines are spelled
abbrev pub gate_spellings : Spellings GateCall (Unit {0})
gate_spellings = record {
  call_fields = gate_call_fields;
  call_numbers = gate_call_numbers;
  ask_fields = λ ask. [];
  ask_numbers = λ ask. [];
}

-- the word of a state
abbrev pub state_word : State → List ℕ
state_word Controlled = codes "controlled"
state_word Sealed = codes "sealed"
state_word Open = codes "open"

-- the words of a call's answer
abbrev pub gate_answer : GateAnswer → List ℕ
gate_answer (SaysState state) = state_word state
gate_answer (SaysReset None) = codes "none"
gate_answer (SaysReset (Some state)) = state_word state
gate_answer (Answered (Ok n)) = codes "ok " ++ decimal n
gate_answer (Answered (Err state)) = codes "err " ++ state_word state
gate_answer (Moved state n) = state_word state ++ 32 ∷ decimal n

-- why a poll has no state
abbrev pub gate_error_word : Error → List ℕ
gate_error_word Rejected = codes "rejected"
gate_error_word IsSealed = codes "sealed"
gate_error_word SpuriousFailure = codes "spurious"
gate_error_word NotRegistered = codes "not_registered"
gate_error_word WrongMode = codes "wrong_mode"
gate_error_word NotReady = codes "not_ready"

-- the words of a poll's answer
abbrev pub gate_poll : Result State Error → List ℕ
gate_poll (Ok state) = codes "ok " ++ state_word state
gate_poll (Err error) = gate_error_word error

-- the words of a reply
abbrev pub gate_reply : ReplyOf GateAnswer (Result State Error) → List ℕ
gate_reply reply = reply_words gate_answer gate_poll reply

-- what a line answers, in words, and what it leaves
abbrev pub gate_does : ScriptLine GateCall (Unit {0}) → Object → After (List ℕ)
gate_does line s = line_does gate_reply enter_request gate_step gate_value line s

-- The gate object: a call that enters a controlled gate waits until it is permitted or rejected.
use Rattle.std.specs.Prelude.{ℕ, Some, None, Ok, Err, length, take, drop, min}
use Rattle.saa_core_spec.specs.declared.request.Request.{Request}
use Rattle.saa_core_spec.specs.declared.request.Request.TheVariants.{Enter}
use Rattle.saa_core_spec.specs.declared.gate.State.{State}
use Rattle.saa_core_spec.specs.declared.gate.State.TheVariants.{Controlled, Sealed, Open}
use Rattle.saa_core_spec.specs.declared.gate.GateCall.{GateCall}
use Rattle.saa_core_spec.specs.declared.gate.GateCall.TheVariants.{State as AskState, Reset, Permit, PermitMany, Reject, Open as DoOpen, Seal}
use Rattle.saa_core_spec.specs.declared.gate.GateAnswer.{GateAnswer}
use Rattle.saa_core_spec.specs.declared.gate.GateAnswer.TheVariants.{State as SaysState, Reset as SaysReset, Answered, Moved}
use Rattle.saa_core_spec.specs.Held.{Held, OfSemaphore, OfShutSemaphore, OfLock, OfGate, OfBarrier}
use Rattle.saa_core_spec.specs.Object.{Object, After, newly_made}
use Rattle.saa_core_spec.specs.Settling.{all_answered, answered_in}
use Rattle.saa_core_spec.specs.Values.{permitted_value, rejected_value, opened_value, sealed_value}

-- the state of a gate; nothing else has one
abbrev pub gate_state : Held → State
gate_state (OfGate gate) = gate
gate_state (OfSemaphore bound out) = Controlled
gate_state (OfShutSemaphore bound out) = Controlled
gate_state (OfLock lock) = Controlled
gate_state (OfBarrier size arrived round) = Controlled

-- what every registration at a gate asks
abbrev pub enter_request : Unit {0} → Request
enter_request ask = Enter

-- a controlled gate answers all waiters; another gate only tells its state
abbrev pub let_through : Object → ℕ → State → After GateAnswer
let_through s value Controlled = record { state = all_answered value s; reply = Answered (Ok (length s.line)) }
let_through s value Sealed = record { state = s; reply = Answered (Err Sealed) }
let_through s value Open = record { state = s; reply = Answered (Err Open) }

-- the k oldest waiters are permitted, and the line loses them
abbrev pub front_permitted : ℕ → Object → Object
front_permitted k s = record s { line = drop k s.line; book = answered_in permitted_value (take k s.line) s.book }

-- a controlled gate permits the n oldest waiters, or all where there are fewer, and says how many those were; another gate
-- only tells its state
abbrev pub let_front_through : Object → ℕ → State → After GateAnswer
let_front_through s n Controlled = record {
  state = front_permitted (min n (length s.line)) s;
  reply = Answered (Ok (min n (length s.line)));
}
let_front_through s n Sealed = record { state = s; reply = Answered (Err Sealed) }
let_front_through s n Open = record { state = s; reply = Answered (Err Open) }

-- a gate goes to a state from every state, and answers all waiters
abbrev pub moved : Object → State → ℕ → After GateAnswer
moved s to value = record {
  state = all_answered value (record s { held = OfGate to });
  reply = Moved (gate_state s.held) (length s.line);
}

-- a gate that isn't controlled becomes controlled
abbrev pub reset_of : Object → State → After GateAnswer
reset_of s Controlled = record { state = s; reply = SaysReset None }
reset_of s Sealed = record { state = record s { held = OfGate Controlled }; reply = SaysReset (Some Sealed) }
reset_of s Open = record { state = record s { held = OfGate Controlled }; reply = SaysReset (Some Open) }

-- what each call of a gate answers, and leaves
abbrev pub gate_step : GateCall → Object → After GateAnswer
gate_step AskState s = record { state = s; reply = SaysState (gate_state s.held) }
gate_step Reset s = reset_of s (gate_state s.held)
gate_step Permit s = let_through s permitted_value (gate_state s.held)
gate_step (PermitMany n) s = let_front_through s n (gate_state s.held)
gate_step Reject s = let_through s rejected_value (gate_state s.held)
gate_step DoOpen s = moved s Open opened_value
gate_step Seal s = moved s Sealed sealed_value

-- a newly made gate is controlled
abbrev pub new_gate : (room names : ℕ) → Object
new_gate room names = newly_made (OfGate Controlled) room names

-- What every step of a gate keeps, and so every run.
use Rattle.std.proofs.Common.{◌≡◌, ℕ, zero, suc, List, [], ◌∷◌, ◌++◌, length, drop, min, Option, Some, None, refl, ap, ◌⊎◌, inl, inr, All}
use Rattle.saa_core_spec.specs.declared.gate.State.{State}
use Rattle.saa_core_spec.specs.declared.gate.State.TheVariants.{Controlled, Sealed, Open}
use Rattle.saa_core_spec.specs.declared.request.Request.{Request}
use Rattle.saa_core_spec.specs.declared.gate.GateCall.{GateCall}
use Rattle.saa_core_spec.specs.declared.gate.GateCall.TheVariants.{State as AskState, Reset, Permit, PermitMany, Reject, Open as DoOpen, Seal}
use Rattle.saa_core_spec.specs.declared.gate.GateAnswer.{GateAnswer}
use Rattle.saa_core_spec.specs.declared.run.CommandOf.{CommandOf}
use Rattle.saa_core_spec.specs.Held.{Held, OfSemaphore, OfShutSemaphore, OfLock, OfGate, OfBarrier}
use Rattle.saa_core_spec.specs.Object.{Object, After, Idle, Waiter, with_entry, without}
use Rattle.saa_core_spec.specs.Settling.{all_answered}
use Rattle.saa_core_spec.specs.Asking.{answer_in}
use Rattle.saa_core_spec.specs.Polling.{left_of, quietly_left_of, undone_of}
use Rattle.saa_core_spec.specs.Values.{gate_value, permitted_value, rejected_value, opened_value, sealed_value, spurious_value}
use Rattle.saa_core_spec.specs.Gate.{gate_state, gate_step, enter_request, new_gate, let_through, front_permitted, let_front_through, moved, reset_of}
use Rattle.saa_core_spec.specs.Run.{IsWithin, state_after}
use Rattle.saa_core_laws.specs.Laws.{IsGateInOrder}
use Rattle.saa_core_laws.proofs.Kept.{IsKept, IsInOrder-kept, IsKept-newly_made, IsKept-held, IsKept-all_answered, IsKept-front_permitted}
use Rattle.saa_core_laws.proofs.Commands.{IsRight, IsRightAnswer, KeepsRight, IsRight-state_after}

-- a gate at which nobody waits unless it is controlled
abbrev pub IsFineGate : Held → List Waiter → Type 0
IsFineGate (OfGate gate) line = (gate ≡ Controlled) ⊎ (line ≡ [])
IsFineGate (OfSemaphore bound out) line = ⊥
IsFineGate (OfShutSemaphore bound out) line = ⊥
IsFineGate (OfLock lock) line = ⊥
IsFineGate (OfBarrier size arrived round) line = ⊥

-- a gate at which nobody waits is fine
pub IsFineGate-nobody : (held : Held) (line : List Waiter) → IsFineGate held line → IsFineGate held []
IsFineGate-nobody (OfGate gate) line fine = inr refl
IsFineGate-nobody (OfSemaphore bound out) line fine = fine
IsFineGate-nobody (OfShutSemaphore bound out) line fine = fine
IsFineGate-nobody (OfLock lock) line fine = fine
IsFineGate-nobody (OfBarrier size arrived round) line fine = fine

-- all waiters are answered
pub IsRight-all_let : (names value : ℕ) (s : Object) → IsRight IsFineGate names s → IsRight IsFineGate names (all_answered value s)
IsRight-all_let names value s right = record {
  kept = IsKept-all_answered names value s right.kept;
  kind = IsFineGate-nobody s.held s.line right.kind;
}

-- permitting or rejecting, in each state
pub IsRight-let_through : (names value : ℕ) (s : Object) (gate : State) → IsRight IsFineGate names s
    → IsRight IsFineGate names (let_through s value gate).state
IsRight-let_through names value s Controlled right = IsRight-all_let names value s right
IsRight-let_through names value s Sealed right = right
IsRight-let_through names value s Open right = right

-- nobody is left of nobody
dropped-nobody : (k : ℕ) (line : List Waiter) → line ≡ [] → drop k line ≡ []
dropped-nobody zero line none = none
dropped-nobody (suc k) [] none = refl
dropped-nobody (suc k) (waiter ∷ line) none = cc

-- a gate at which the oldest have left is fine
pub IsFineGate-front : (k : ℕ) (held : Held) (line : List Waiter) → IsFineGate held line → IsFineGate held (drop k line)
IsFineGate-front k (OfGate gate) line (inl controlled) = inl controlled
IsFineGate-front k (OfGate gate) line (inr none) = inr (dropped-nobody k line none)
IsFineGate-front k (OfSemaphore bound out) line fine = fine
IsFineGate-front k (OfShutSemaphore bound out) line fine = fine
IsFineGate-front k (OfLock lock) line fine = fine
IsFineGate-front k (OfBarrier size arrived round) line fine = fine

-- permitting the oldest
pub IsRight-front_permitted : (names k : ℕ) (s : Object) → IsRight IsFineGate names s → IsRight IsFineGate names (front_permitted k s)
IsRight-front_permitted names k s right = record {
  kept = IsKept-front_permitted names s k right.kept;
  kind = IsFineGate-front k s.held s.line right.kind;
}

-- in each state
pub IsRight-let_front_through : (names n : ℕ) (s : Object) (gate : State) → IsRight IsFineGate names s
    → IsRight IsFineGate names (let_front_through s n gate).state
IsRight-let_front_through names n s Controlled right = IsRight-front_permitted names (min n (length s.line)) s right
IsRight-let_front_through names n s Sealed right = right
IsRight-let_front_through names n s Open right = right

-- a reset, in each state
pub IsRight-reset_of : (names : ℕ) (s : Object) (gate : State) → IsRight IsFineGate names s → IsRight IsFineGate names (reset_of s gate).state
IsRight-reset_of names s Controlled right = right
IsRight-reset_of names s Sealed right = record { kept = IsKept-held names s (OfGate Controlled) right.kept; kind = inl refl }
IsRight-reset_of names s Open right = record { kept = IsKept-held names s (OfGate Controlled) right.kept; kind = inl refl }

-- a move to another state
pub IsRight-moved : (names value : ℕ) (s : Object) (to : State) → IsRight IsFineGate names s → IsRight IsFineGate names (moved s to value).state
IsRight-moved names value s to right = record {
  kept = IsKept-all_answered names value (record s { held = OfGate to }) (IsKept-held names s (OfGate to) right.kept);
  kind = inr refl;
}

-- every call of a gate
pub IsRight-gate_step : (names : ℕ) (call : GateCall) (s : Object) → IsRight IsFineGate names s → IsRight IsFineGate names (gate_step call s).state
IsRight-gate_step names AskState s right = right
IsRight-gate_step names Reset s right = IsRight-reset_of names s (gate_state s.held) right
IsRight-gate_step names Permit s right = IsRight-let_through names permitted_value s (gate_state s.held) right
IsRight-gate_step names (PermitMany n) s right = IsRight-let_front_through names n s (gate_state s.held) right
IsRight-gate_step names Reject s right = IsRight-let_through names rejected_value s (gate_state s.held) right
IsRight-gate_step names DoOpen s right = IsRight-moved names opened_value s Open right
IsRight-gate_step names Seal s right = IsRight-moved names sealed_value s Sealed right

-- an answer at once changes nothing of a gate
pub IsRightAnswer-unchanged : (names value : ℕ) (s : Object) (answer : After ℕ)
    → ◌≡◌ {A = Option (After ℕ)} (Some (record { state = s; reply = value })) (Some answer)
    → IsRight IsFineGate names s → IsRightAnswer IsFineGate names s answer
IsRightAnswer-unchanged names value s answer e right =
    let same : ◌≡◌ {A = After ℕ} (record { state = s; reply = value }) answer = cc in
    rw (← same) (record { right = right; still = λ name before. before })

-- a registration that is answered at once
pub IsRightAnswer-entered : (names : ℕ) (s : Object) (held : Held) (line : List Waiter) (request : Request) (answer : After ℕ) → IsFineGate held line
    → answer_in s held request ≡ Some answer
    → IsRight IsFineGate names s → IsRightAnswer IsFineGate names s answer
IsRightAnswer-entered names s (OfGate Controlled) line request answer fine e right = cc
IsRightAnswer-entered names s (OfGate Sealed) line request answer fine e right = IsRightAnswer-unchanged names sealed_value s answer e right
IsRightAnswer-entered names s (OfGate Open) line request answer fine e right = IsRightAnswer-unchanged names opened_value s answer e right
IsRightAnswer-entered names s (OfSemaphore bound out) line request answer fine e right = absurd fine
IsRightAnswer-entered names s (OfShutSemaphore bound out) line request answer fine e right = absurd fine
IsRightAnswer-entered names s (OfLock lock) line request answer fine e right = absurd fine
IsRightAnswer-entered names s (OfBarrier size arrived round) line request answer fine e right = absurd fine

-- a name joins only the line of a controlled gate
pub IsFineGate-joined : (s : Object) (held : Held) (line joined : List Waiter) (request : Request) → IsFineGate held line
    → answer_in s held request ≡ None → IsFineGate held joined
IsFineGate-joined s (OfGate Controlled) line joined request fine e = inl refl
IsFineGate-joined s (OfGate Sealed) line joined request fine e = cc
IsFineGate-joined s (OfGate Open) line joined request fine e = cc
IsFineGate-joined s (OfSemaphore bound out) line joined request fine e = absurd fine
IsFineGate-joined s (OfShutSemaphore bound out) line joined request fine e = absurd fine
IsFineGate-joined s (OfLock lock) line joined request fine e = absurd fine
IsFineGate-joined s (OfBarrier size arrived round) line joined request fine e = absurd fine

-- a name that waited has left
pub IsRight-gate_left : (names : ℕ) (left : Object) (held : Held) (line : List Waiter) → IsFineGate held line → left.held ≡ held
    → IsKept names left → IsRight IsFineGate names (left_of left held)
IsRight-gate_left names left (OfGate gate) line fine same kept = record {
  kept = IsKept-all_answered names spurious_value left kept;
  kind = rw same (inr refl);
}
IsRight-gate_left names left (OfSemaphore bound out) line fine same kept = absurd fine
IsRight-gate_left names left (OfShutSemaphore bound out) line fine same kept = absurd fine
IsRight-gate_left names left (OfLock lock) line fine same kept = absurd fine
IsRight-gate_left names left (OfBarrier size arrived round) line fine same kept = absurd fine

-- a gate from whose line a name has left is fine
pub IsFineGate-without : (name : ℕ) (held : Held) (line : List Waiter) → IsFineGate held line → IsFineGate held (without name line)
IsFineGate-without name (OfGate gate) line (inl controlled) = inl controlled
IsFineGate-without name (OfGate gate) line (inr none) = inr (ap (without name) none)
IsFineGate-without name (OfSemaphore bound out) line fine = fine
IsFineGate-without name (OfShutSemaphore bound out) line fine = fine
IsFineGate-without name (OfLock lock) line fine = fine
IsFineGate-without name (OfBarrier size arrived round) line fine = fine

-- a name that waited has left quietly: nothing else happens
pub IsRight-gate_left_quietly : (names : ℕ) (left : Object) (held : Held) → left.held ≡ held → IsKept names left → IsFineGate held left.line
    → IsRight IsFineGate names (quietly_left_of left held)
IsRight-gate_left_quietly names left (OfGate gate) same kept fine = record { kept = kept; kind = rw same fine }
IsRight-gate_left_quietly names left (OfSemaphore bound out) same kept fine = absurd fine
IsRight-gate_left_quietly names left (OfShutSemaphore bound out) same kept fine = absurd fine
IsRight-gate_left_quietly names left (OfLock lock) same kept fine = absurd fine
IsRight-gate_left_quietly names left (OfBarrier size arrived round) same kept fine = absurd fine

-- a dropped answer of a gate gives nothing back
pub IsRight-gate_undone : (names : ℕ) (s : Object) (held : Held) (line : List Waiter) (request : Request) → IsFineGate held line
    → IsRight IsFineGate names s → IsRight IsFineGate names (undone_of s held request)
IsRight-gate_undone names s (OfGate gate) line request fine right = right
IsRight-gate_undone names s (OfSemaphore bound out) line request fine right = absurd fine
IsRight-gate_undone names s (OfShutSemaphore bound out) line request fine right = absurd fine
IsRight-gate_undone names s (OfLock lock) line request fine right = absurd fine
IsRight-gate_undone names s (OfBarrier size arrived round) line request fine right = absurd fine

-- every step of a gate
pub KeepsRight-gate : (names : ℕ) → KeepsRight GateCall GateAnswer (Unit {0}) IsFineGate names enter_request gate_step
KeepsRight-gate names = record {
  calls = IsRight-gate_step names;
  answers = λ s ask answer right e. IsRightAnswer-entered names s s.held s.line (enter_request ask) answer right.kind e right;
  joins = λ s name ask right e not_too_much. IsFineGate-joined s s.held s.line (s.line ++ (name, enter_request ask) ∷ []) (enter_request ask) right.kind e;
  leaves = λ s name right kept.
      IsRight-gate_left names (record (with_entry s name Idle) { line = without name s.line }) s.held s.line right.kind refl kept;
  quiet = λ s name right kept.
      IsRight-gate_left_quietly names (record (with_entry s name Idle) { line = without name s.line }) s.held refl kept
      (IsFineGate-without name s.held s.line right.kind);
  undoes = λ s asked right. IsRight-gate_undone names s s.held s.line asked right.kind right;
}

-- a fine gate is a gate at which nobody waits unless it is controlled
pub gate-bounded : (held : Held) (line : List Waiter) → IsFineGate held line
    → (gate : State) × (held ≡ OfGate gate) × ((gate ≡ Controlled) ⊎ (line ≡ []))
gate-bounded (OfGate gate) line fine = (gate, refl, fine)
gate-bounded (OfSemaphore bound out) line fine = absurd fine
gate-bounded (OfShutSemaphore bound out) line fine = absurd fine
gate-bounded (OfLock lock) line fine = absurd fine
gate-bounded (OfBarrier size arrived round) line fine = absurd fine

-- every run of a newly made gate leaves it in order
pub gate-in_order : (room names : ℕ) (commands : List (CommandOf GateCall (Unit {0}))) → All (IsWithin names) commands
    → IsGateInOrder (state_after enter_request gate_step gate_value commands (new_gate room names))
gate-in_order room names commands within =
    let right = IsRight-state_after IsFineGate names enter_request gate_step gate_value
    (KeepsRight-gate names) commands (new_gate room names) within
    (record { kept = IsKept-newly_made (OfGate Controlled) room names; kind = inl refl }) in
    record { order = IsInOrder-kept names _ right.kept; bounded = gate-bounded _ _ right.kind }

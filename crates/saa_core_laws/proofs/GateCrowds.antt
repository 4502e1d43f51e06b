-- Leaving a gate quietly, and letting its oldest waiters in.
use Rattle.std.proofs.Common.{◌≡◌, ℕ, ◌≤◌, Bool, eqb, List, [], length, take, drop, min, set, refl, ap, ◌∙◌, arith, All, inl, inr}
use Rattle.std.proofs.Math.Seq.{take-length, drop-length}
use Rattle.std.proofs.lemmas.Bool.{cases_Bool, cases_lt}
use Rattle.saa_core_spec.specs.declared.request.Request.{Request}
use Rattle.saa_core_spec.specs.declared.gate.State.{State}
use Rattle.saa_core_spec.specs.declared.gate.State.TheVariants.{Controlled, Sealed, Open}
use Rattle.saa_core_spec.specs.declared.gate.GateCall.{GateCall}
use Rattle.saa_core_spec.specs.declared.gate.GateCall.TheVariants.{Permit, PermitMany}
use Rattle.saa_core_spec.specs.declared.run.CommandOf.{CommandOf}
use Rattle.saa_core_spec.specs.Held.{Held, OfSemaphore, OfShutSemaphore, OfLock, OfGate, OfBarrier}
use Rattle.saa_core_spec.specs.Object.{Object, Entry, Idle, Waiting, Answered, Waiter, entry_at, with_entry, without}
use Rattle.saa_core_spec.specs.Polling.{quietly_left_of, undone_of, withdrawn_of}
use Rattle.saa_core_spec.specs.Values.{gate_value, granted_value, permitted_value}
use Rattle.saa_core_spec.specs.Gate.{gate_state, gate_step, enter_request, new_gate, let_through, front_permitted, let_front_through}
use Rattle.saa_core_spec.specs.Run.{IsWithin, state_after}
use Rattle.saa_core_laws.specs.RunLaws.{AnswersInOrder}
use Rattle.saa_core_laws.proofs.Order.{entry_at-same, entry_at-other, entry_at_past, set_past}
use Rattle.saa_core_laws.proofs.Kept.{IsKept-newly_made}
use Rattle.saa_core_laws.proofs.Commands.{IsRight-state_after}
use Rattle.saa_core_laws.proofs.GateLaws.{IsFineGate, IsRight-let_front_through, KeepsRight-gate}
use Rattle.saa_core_laws.proofs.Turns.{KeepsTurns, KeepsTurns-same, KeepsTurns-front, StandOnce, StandOnce-step, AnswersInOrder-turns}

-- nothing else happens at a gate when a waiter has left quietly
pub quietly_left-at_gate : (s : Object) (held : Held) (gate : State) → held ≡ OfGate gate → quietly_left_of s held ≡ s
quietly_left-at_gate s (OfGate state) gate is = refl
quietly_left-at_gate s (OfSemaphore bound out) gate is = cc
quietly_left-at_gate s (OfShutSemaphore bound out) gate is = cc
quietly_left-at_gate s (OfLock lock) gate is = cc
quietly_left-at_gate s (OfBarrier size arrived round) gate is = cc

-- nor when an answer is given up
pub undone-at_gate : (s : Object) (held : Held) (gate : State) (request : Request) → held ≡ OfGate gate → undone_of s held request ≡ s
undone-at_gate s (OfGate state) gate request is = refl
undone-at_gate s (OfSemaphore bound out) gate request is = cc
undone-at_gate s (OfShutSemaphore bound out) gate request is = cc
undone-at_gate s (OfLock lock) gate request is = cc
undone-at_gate s (OfBarrier size arrived round) gate request is = cc

-- a name that was made idle is
pub entry_at-emptied : (book : List Entry) (name : ℕ) → entry_at (set book name Idle) name ≡ Idle
entry_at-emptied book name = elim (cases_lt name (length book)) [
  | inl within ↦ entry_at-same book name Idle within
  | inr past ↦ ap (λ b. entry_at b name) (set_past book name Idle past) ∙ entry_at_past book name past
]

-- what a name with this entry leaves of the book when it leaves quietly, seen at a name of which its own writing is known
pub withdrawn-entry : (s : Object) (gate : State) (name other : ℕ) (entry seen : Entry) → s.held ≡ OfGate gate
    → (entry ≡ Idle → entry_at s.book other ≡ seen) → entry_at (set s.book name Idle) other ≡ seen
    → entry_at (withdrawn_of s name entry).book other ≡ seen
withdrawn-entry s gate name other Idle seen is idle written = idle refl
withdrawn-entry s gate name other (Waiting request is_sync) seen is idle written =
    ap (λ (o : Object). entry_at o.book other)
    (quietly_left-at_gate (record (with_entry s name Idle) { line = without name s.line }) s.held gate is) ∙ written
withdrawn-entry s gate name other (Answered value request is_sync slotted) seen is idle written = elim (cases_Bool (eqb value granted_value)) [
  | inl e ↦ rw e (ap (λ (o : Object). entry_at o.book other) (undone-at_gate (with_entry s name Idle) s.held gate request is) ∙ written)
  | inr e ↦ rw e written
]

-- it is idle
pub withdrawn-idle : (s : Object) (gate : State) (name : ℕ) → s.held ≡ OfGate gate
    → entry_at (withdrawn_of s name (entry_at s.book name)).book name ≡ Idle
withdrawn-idle s gate name is =
    withdrawn-entry s gate name name (entry_at s.book name) Idle is (λ idle. idle) (entry_at-emptied s.book name)

-- and no other name is changed
pub withdrawn-others : (s : Object) (gate : State) (name other : ℕ) → s.held ≡ OfGate gate → (other ≡ name → ⊥)
    → entry_at (withdrawn_of s name (entry_at s.book name)).book other ≡ entry_at s.book other
withdrawn-others s gate name other is apart =
    withdrawn-entry s gate name other (entry_at s.book name) (entry_at s.book other) is (λ idle. refl) (entry_at-other s.book name other Idle apart)

-- a waiter leaves the line, in which all others stay as they are
pub withdrawn-line : (s : Object) (gate : State) (name : ℕ) (request : Request) (is_sync : Bool) → s.held ≡ OfGate gate
    → entry_at s.book name ≡ Waiting request is_sync
    → (withdrawn_of s name (entry_at s.book name)).line ≡ without name s.line
withdrawn-line s gate name request is_sync is at =
    ap (λ (e : Entry). (withdrawn_of s name e).line) at
    ∙ ap (λ (o : Object). o.line) (quietly_left-at_gate (record (with_entry s name Idle) { line = without name s.line }) s.held gate is)

-- to permit as many as wait, or more, is to permit all
pub let_all : (s : Object) (n : ℕ) (gate : State) → length s.line ≤ n → let_front_through s n gate ≡ let_through s permitted_value gate
let_all s n Controlled enough =
    let all : min n (length s.line) ≡ length s.line = omega (arith, enough) in
    let line : drop (min n (length s.line)) s.line ≡ [] = ap (λ k. drop k s.line) all ∙ drop-length s.line in
    let front : take (min n (length s.line)) s.line ≡ s.line = ap (λ k. take k s.line) all ∙ take-length s.line in
    rw (line, front, all) refl
let_all s n Sealed enough = refl
let_all s n Open enough = refl

pub permits-all : (s : Object) (n : ℕ) → length s.line ≤ n → gate_step (PermitMany n) s ≡ gate_step Permit s
permits-all s n enough = let_all s n (gate_state s.held) enough

-- whoever is permitted, all before it are
pub KeepsTurns-let_front_through : (s : Object) (n : ℕ) (gate : State) → StandOnce s.line → KeepsTurns s (let_front_through s n gate).state
KeepsTurns-let_front_through s n Controlled once =
    KeepsTurns-front s (front_permitted (min n (length s.line)) s) (min n (length s.line)) once refl
KeepsTurns-let_front_through s n Sealed once = KeepsTurns-same s s refl
KeepsTurns-let_front_through s n Open once = KeepsTurns-same s s refl

-- after every run
pub permits-in_turn : (room names n : ℕ) (commands : List (CommandOf GateCall (Unit {0}))) → All (IsWithin names) commands
    → AnswersInOrder (state_after enter_request gate_step gate_value commands (new_gate room names))
    (gate_step (PermitMany n) (state_after enter_request gate_step gate_value commands (new_gate room names))).state
permits-in_turn room names n commands within =
    let s : Object = state_after enter_request gate_step gate_value commands (new_gate room names) in
    let right = IsRight-state_after IsFineGate names enter_request gate_step gate_value
    (KeepsRight-gate names) commands (new_gate room names) within
    (record { kept = IsKept-newly_made (OfGate Controlled) room names; kind = inl refl }) in
    let after = IsRight-let_front_through names n s (gate_state s.held) right in
    AnswersInOrder-turns s (gate_step (PermitMany n) s).state after.kept.in_step
    (KeepsTurns-let_front_through s n (gate_state s.held) (StandOnce-step s.line s.book right.kept.in_step))

-- Nobody waits for nothing: what an order of the line and the book, with an empty line, says of every name.
use Rattle.std.proofs.Common.{◌≡◌, ℕ, true, List, [], sym, ap, ◌∙◌, inl, inr, All}
use Rattle.saa_core_spec.specs.declared.request.Request.TheVariants.{Permits}
use Rattle.saa_core_spec.specs.declared.gate.State.TheVariants.{Controlled}
use Rattle.saa_core_spec.specs.declared.semaphore.SemaphoreCall.{SemaphoreCall}
use Rattle.saa_core_spec.specs.declared.lock.Mode.{Mode}
use Rattle.saa_core_spec.specs.declared.lock.LockCall.{LockCall}
use Rattle.saa_core_spec.specs.declared.gate.GateCall.{GateCall}
use Rattle.saa_core_spec.specs.declared.run.CommandOf.{CommandOf}
use Rattle.saa_core_spec.specs.Held.{OfSemaphore, OfLock, OfGate, Free, Poisoned}
use Rattle.saa_core_spec.specs.Object.{Object, times}
use Rattle.saa_core_spec.specs.Values.{semaphore_value, lock_value, gate_value}
use Rattle.saa_core_spec.specs.Semaphore.{semaphore_step, new_semaphore, is_shut}
use Rattle.saa_core_spec.specs.Lock.{lock_step, mode_request, new_lock}
use Rattle.saa_core_spec.specs.Gate.{gate_step, enter_request, new_gate}
use Rattle.saa_core_spec.specs.Run.{IsWithin, state_after}
use Rattle.saa_core_laws.specs.Laws.{IsInOrder, IsGateInOrder}
use Rattle.saa_core_laws.specs.RunLaws.{NobodyWaits}
use Rattle.saa_core_laws.proofs.Order.{one_if-zero}
use Rattle.saa_core_laws.proofs.SemaphoreLaws.{semaphore-in_order}
use Rattle.saa_core_laws.proofs.LockLaws.{lock-in_order}
use Rattle.saa_core_laws.proofs.GateLaws.{gate-in_order}

-- nobody waits in an object in order whose line is empty
pub NobodyWaits-empty : (s : Object) → IsInOrder s → s.line ≡ [] → NobodyWaits s
NobodyWaits-empty s order nobody = record {
  line = nobody;
  book = λ name. one_if-zero _ (sym (order.once name) ∙ ap (times name) nobody);
}

-- nor at a gate in order that isn't controlled
pub NobodyWaits-gate : (s : Object) → IsGateInOrder s → (s.held ≡ OfGate Controlled → ⊥) → NobodyWaits s
NobodyWaits-gate s order other = elim order.bounded.2 [
  | inl controlled ↦ absurd (other (order.bounded.1 ∙ ap (λ gate. OfGate gate) controlled))
  | inr nobody ↦ NobodyWaits-empty s order.order nobody
]

pub semaphore-nobody_waits : (bound permits room names : ℕ) (commands : List (CommandOf SemaphoreCall ℕ)) → All (IsWithin names) commands
    → (state_after Permits semaphore_step semaphore_value commands (new_semaphore bound permits room names)).held ≡ OfSemaphore bound 0
    → NobodyWaits (state_after Permits semaphore_step semaphore_value commands (new_semaphore bound permits room names))
semaphore-nobody_waits bound permits room names commands within none =
    let order = semaphore-in_order bound permits room names commands within in
    NobodyWaits-empty _ order.order (order.idle none)

pub shut_semaphore-nobody_waits : (bound permits room names : ℕ) (commands : List (CommandOf SemaphoreCall ℕ)) → All (IsWithin names) commands
    → is_shut (state_after Permits semaphore_step semaphore_value commands (new_semaphore bound permits room names)).held ≡ true
    → NobodyWaits (state_after Permits semaphore_step semaphore_value commands (new_semaphore bound permits room names))
shut_semaphore-nobody_waits bound permits room names commands within shut =
    let order = semaphore-in_order bound permits room names commands within in
    NobodyWaits-empty _ order.order (order.shut shut)

pub free_lock-nobody_waits : (room names : ℕ) (commands : List (CommandOf LockCall Mode)) → All (IsWithin names) commands
    → (state_after mode_request lock_step lock_value commands (new_lock room names)).held ≡ OfLock Free
    → NobodyWaits (state_after mode_request lock_step lock_value commands (new_lock room names))
free_lock-nobody_waits room names commands within free =
    let order = lock-in_order room names commands within in
    NobodyWaits-empty _ order.order (order.free free)

pub poisoned_lock-nobody_waits : (room names : ℕ) (commands : List (CommandOf LockCall Mode)) → All (IsWithin names) commands
    → (state_after mode_request lock_step lock_value commands (new_lock room names)).held ≡ OfLock Poisoned
    → NobodyWaits (state_after mode_request lock_step lock_value commands (new_lock room names))
poisoned_lock-nobody_waits room names commands within poisoned =
    let order = lock-in_order room names commands within in
    NobodyWaits-empty _ order.order (order.poisoned poisoned)

pub gate-nobody_waits : (room names : ℕ) (commands : List (CommandOf GateCall (Unit {0}))) → All (IsWithin names) commands
    → ((state_after enter_request gate_step gate_value commands (new_gate room names)).held ≡ OfGate Controlled → ⊥)
    → NobodyWaits (state_after enter_request gate_step gate_value commands (new_gate room names))
gate-nobody_waits room names commands within other = NobodyWaits-gate _ (gate-in_order room names commands within) other

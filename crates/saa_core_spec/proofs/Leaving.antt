-- Leaving quietly is a drop wherever what is held is no gate.
use Rattle.std.proofs.Common.{◌≡◌, ℕ, refl}
use Rattle.saa_core_spec.specs.declared.gate.State.{State}
use Rattle.saa_core_spec.specs.Held.{Held, OfSemaphore, OfShutSemaphore, OfLock, OfGate, OfBarrier}
use Rattle.saa_core_spec.specs.Object.{Object, Entry, Idle, Waiting, Answered, with_entry, without}
use Rattle.saa_core_spec.specs.Polling.{left_of, quietly_left_of, dropped_of, withdrawn_of}

-- a waiter leaves there as one that is dropped
pub quiet-left : (s : Object) (held : Held) → ((gate : State) → held ≡ OfGate gate → ⊥) → quietly_left_of s held ≡ left_of s held
quiet-left s (OfSemaphore bound out) no_gate = refl
quiet-left s (OfShutSemaphore bound out) no_gate = refl
quiet-left s (OfLock lock) no_gate = refl
quiet-left s (OfGate gate) no_gate = absurd (no_gate gate refl)
quiet-left s (OfBarrier size arrived round) no_gate = refl

-- and so does every name
pub withdrawn-dropped : (s : Object) (name : ℕ) (entry : Entry) → ((gate : State) → s.held ≡ OfGate gate → ⊥)
    → withdrawn_of s name entry ≡ dropped_of s name entry
withdrawn-dropped s name Idle no_gate = refl
withdrawn-dropped s name (Waiting request is_sync) no_gate =
    quiet-left (record (with_entry s name Idle) { line = without name s.line }) s.held no_gate
withdrawn-dropped s name (Answered value request is_sync slotted) no_gate = refl

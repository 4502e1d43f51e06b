-- What a settled object keeps, in which order it answers, and what nobody waits for.
-- Functions of the module `laws` have these laws as their contracts; nothing else cites them.
use Rattle.std.specs.Prelude.{◌≡◌, ℕ, ◌<◌, true, false, IsTrue, [], Some, slice_get}
use Rattle.saa_core_spec.specs.Held.{OfLock, LockState, Poisoned}
use Rattle.saa_core_spec.specs.Object.{Object, Waiter, entry_at}
use Rattle.saa_core_spec.specs.Semaphore.{is_shut}
use Rattle.saa_core_laws.specs.Laws.{IsSettledAt, IsSemaphoreWith, is_waiting}
use Rattle.saa_core_laws.specs.Registrations.{is_answered}

-- a semaphore of this bound, with anything out, any line and any book, where nobody in front fits, and nobody waits if it is shut
pub record IsSettledSemaphore (bound : ℕ) (s : Object) : Type 0 where
  pub kind : (out : ℕ) × IsSemaphoreWith bound out s.held
  pub oldest : IsSettledAt s.held s.line
  pub shut : is_shut s.held ≡ true → s.line ≡ []

-- a lock in any state, with any line and any book, where nobody in front fits, and nobody waits if it is poisoned:
-- a cleared poison would leave the waiters at a free lock
pub record IsSettledLock (s : Object) : Type 0 where
  pub kind : (lock : LockState) × (s.held ≡ OfLock lock)
  pub oldest : IsSettledAt s.held s.line
  pub poisoned : s.held ≡ OfLock Poisoned → s.line ≡ []

-- nobody waits: the line is empty, and no entry of the book waits
pub record NobodyWaits (s : Object) : Type 0 where
  pub line : s.line ≡ []
  pub book : (name : ℕ) → is_waiting (entry_at s.book name) ≡ false

-- What one step does in the order of the line: where a waiter is answered, nobody who stood before it waits afterwards.
-- The places are those of the line before the step, and `first` is before `second`
abbrev pub AnswersInOrder : (before after : Object) → Type 0
AnswersInOrder before after =
    (i j : ℕ) (first second : Waiter)
    → i < j → slice_get before.line i ≡ Some first → slice_get before.line j ≡ Some second
    → IsTrue (is_answered (entry_at after.book second.0))
    → ¬ IsTrue (is_waiting (entry_at after.book first.0))

-- Laws that show that the definitions mean what they should. The functions of the module `laws` have them as
-- their contracts; nothing else cites them.
use Rattle.std.specs.Prelude.{◌≡◌, ◌⊎◌, ℕ, ◌<◌, ◌≤◌, Bool, true, false, IsTrue, List, [], ◌∷◌, length, take, drop, Some, slice_get, Contains}
use Rattle.saa_core_spec.specs.declared.request.Request.{Request}
use Rattle.saa_core_spec.specs.declared.gate.State.{State}
use Rattle.saa_core_spec.specs.declared.gate.State.TheVariants.{Controlled}
use Rattle.saa_core_spec.specs.Held.{Held, OfSemaphore, OfShutSemaphore, OfLock, OfGate, OfBarrier, LockState, Free, Poisoned, fits, IsLockState}
use Rattle.saa_core_spec.specs.Object.{Object, Entry, Idle, Waiting, Answered, Waiter, entry_at, used, one_if, times}
use Rattle.saa_core_spec.specs.Settling.{plus_all}
use Rattle.saa_core_spec.specs.Semaphore.{is_shut}
use Rattle.saa_core_spec.specs.Barrier.{size_of, arrivals}

-- Each of the first k of the line fits what is held plus the requests before it. A relation, which computes no k
pub record IsFittingFront (held : Held) (line : List Waiter) (k : ℕ) : Type 0 where
  pub within : k ≤ length line
  pub each : (i : ℕ) (waiter : Waiter) → i < k → slice_get line i ≡ Some waiter → IsTrue (fits (plus_all held (take i line)) waiter.1)

-- nobody in front fits
abbrev pub IsSettledAt : Held → List Waiter → Type 0
IsSettledAt held line = (k : ℕ) → IsFittingFront held line k → k ≡ 0

-- fitting fronts of these lengths are granted one after another, and then the line is settled
abbrev pub GrantsInTurn : Held → List Waiter → List ℕ → Type 0
GrantsInTurn held line [] = IsSettledAt held line
GrantsInTurn held line (k ∷ ks) = IsFittingFront held line k × GrantsInTurn (plus_all held (take k line)) (drop k line) ks

-- whether an entry waits
abbrev pub is_waiting : Entry → Bool
is_waiting Idle = false
is_waiting (Waiting request is_sync) = true
is_waiting (Answered value request is_sync slotted) = false

-- An object in order: the line holds exactly the names that wait, each once, and beside each what its entry waits for;
-- and no more slots are held than there is room
pub record IsInOrder (s : Object) : Type 0 where
  pub once : (name : ℕ) → times name s.line ≡ one_if (is_waiting (entry_at s.book name))
  pub same_request : (name : ℕ) (request : Request) → Contains s.line (name, request) → (is_sync : Bool) × (entry_at s.book name ≡ Waiting request is_sync)
  pub within_room : used s ≤ s.room

-- a semaphore of this bound with so many permits out, shut or not
abbrev pub IsSemaphoreWith : (bound out : ℕ) → Held → Type 0
IsSemaphoreWith bound out held = (held ≡ OfSemaphore bound out) ⊎ (held ≡ OfShutSemaphore bound out)

-- a semaphore in order: it keeps its bound, is settled, and nobody waits while nothing is out, or once it is shut
pub record IsSemaphoreInOrder (bound : ℕ) (s : Object) : Type 0 where
  pub order : IsInOrder s
  pub bounded : (out : ℕ) × IsSemaphoreWith bound out s.held × (out ≤ bound)
  pub oldest : IsSettledAt s.held s.line
  pub idle : s.held ≡ OfSemaphore bound 0 → s.line ≡ []
  pub shut : is_shut s.held ≡ true → s.line ≡ []

-- a lock in order: it is settled, and nobody waits while it is free or poisoned
pub record IsLockInOrder (s : Object) : Type 0 where
  pub order : IsInOrder s
  pub bounded : (lock : LockState) × (s.held ≡ OfLock lock) × IsLockState lock
  pub oldest : IsSettledAt s.held s.line
  pub free : s.held ≡ OfLock Free → s.line ≡ []
  pub poisoned : s.held ≡ OfLock Poisoned → s.line ≡ []

-- a gate in order: nobody waits while it isn't controlled
pub record IsGateInOrder (s : Object) : Type 0 where
  pub order : IsInOrder s
  pub bounded : (gate : State) × (s.held ≡ OfGate gate) × ((gate ≡ Controlled) ⊎ (s.line ≡ []))

-- a barrier in order: it keeps its size, all who arrived in its round wait, and those are fewer than pass together, where
-- anybody ever does
pub record IsBarrierInOrder (size : ℕ) (s : Object) : Type 0 where
  pub order : IsInOrder s
  pub bounded : (round : ℕ) × (s.held ≡ OfBarrier size 0 round)
  pub incomplete : 0 < size → length s.line < size

-- a barrier in order, of any size by then: fewer have arrived in its round than pass together, where anybody ever does
pub record IsOpenBarrier (s : Object) : Type 0 where
  pub order : IsInOrder s
  pub bounded : (size : ℕ) × (arrived : ℕ) × (round : ℕ) × (s.held ≡ OfBarrier size arrived round)
  pub incomplete : 0 < size_of s.held → arrivals s < size_of s.held

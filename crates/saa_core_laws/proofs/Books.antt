-- What the steps of an object do to its book: an idle name stays idle, and an answer that is there stays as it is,
-- where the step is neither a registration, a poll nor a drop of that name.
use Rattle.std.proofs.Common.{◌≡◌, ℕ, ◌+◌, ◌-◌, nat_lt, Bool, true, false, eqb, ◌⊎◌, inl, inr, List, [], ◌∷◌, length, min, set, take, Option, Some, None, refl, ap, ◌∙◌}
use Rattle.std.proofs.lemmas.Bool.{cases_Bool, cases_eq, cases_lt}
use Rattle.std.proofs.lemmas.Option.{cond_some}
use Rattle.saa_core_spec.specs.declared.gate.State.{State}
use Rattle.saa_core_spec.specs.declared.gate.State.TheVariants.{Controlled, Sealed, Open}
use Rattle.saa_core_spec.specs.declared.request.Request.{Request}
use Rattle.saa_core_spec.specs.declared.request.Request.TheVariants.{Exclusive as AskExclusive, Shared as AskShared, Permits}
use Rattle.saa_core_spec.specs.declared.semaphore.SemaphoreCall.{SemaphoreCall}
use Rattle.saa_core_spec.specs.declared.semaphore.SemaphoreCall.TheVariants.{TryAcquireMany, ReleaseMany, AvailablePermits, IsOpen, IsClosed, Shut, IsShut}
use Rattle.saa_core_spec.specs.declared.lock.LockCall.{LockCall}
use Rattle.saa_core_spec.specs.declared.lock.LockCall.TheVariants.{TryLock, TryShare, ReleaseLock, ReleaseShare, Downgrade, PoisonLock, ClearPoison, IsFree, IsLocked, IsShared, IsPoisoned}
use Rattle.saa_core_spec.specs.declared.gate.GateCall.{GateCall}
use Rattle.saa_core_spec.specs.declared.gate.GateCall.TheVariants.{State as AskState, Reset, Permit, PermitMany, Reject, Open as DoOpen, Seal}
use Rattle.saa_core_spec.specs.declared.barrier.BarrierCall.{BarrierCall}
use Rattle.saa_core_spec.specs.declared.barrier.BarrierCall.TheVariants.{Count, Arrive as DoArrive, Join, Leave as LeaveOne, Round}
use Rattle.saa_core_spec.specs.Held.{Held, OfSemaphore, OfShutSemaphore, OfLock, OfGate, OfBarrier, Free, Exclusive, Shared, Poisoned, plus, less, max_tasks}
use Rattle.saa_core_spec.specs.Object.{Object, After, Entry, Idle, Waiting, Answered, Waiter, entry_at}
use Rattle.saa_core_spec.specs.Settling.{fitting_front, answered_entry, answered_in, settled, all_answered, round_complete}
use Rattle.saa_core_spec.specs.Asking.{is_idle, is_granted_at_once, tried, granted_at_once, answer_in}
use Rattle.saa_core_spec.specs.Polling.{is_for_nothing, given_back_of, given_back, left_of, quietly_left_of, undone_of}
use Rattle.saa_core_spec.specs.Values.{granted_value, closed_value, poisoned_value, leader_value, passed_value, opened_value, sealed_value, permitted_value, rejected_value, spurious_value}
use Rattle.saa_core_spec.specs.Semaphore.{semaphore_step, shut_of}
use Rattle.saa_core_spec.specs.Lock.{lock_step, is_locked, is_poisoned, downgraded_of, poisoned_of, cleared_of}
use Rattle.saa_core_spec.specs.Gate.{gate_step, gate_state, let_through, let_front_through, reset_of}
use Rattle.saa_core_spec.specs.Barrier.{barrier_step, is_complete, resized, arrived_at, joined_by, left_by_one}
use Rattle.saa_core_laws.specs.Registrations.{is_answered}
use Rattle.saa_core_laws.proofs.Order.{entry_at-same, entry_at-other, set_past, length-answered_in}

-- a book in which nobody was registered, and no answer was changed or consumed
pub record KeepsBook (before after : List Entry) : Type 0 where
  pub size : length after ≡ length before
  pub idle : (name : ℕ) → is_idle (entry_at after name) ≡ is_idle (entry_at before name)
  pub answer : (name : ℕ) → is_answered (entry_at before name) ≡ true → entry_at after name ≡ entry_at before name

-- nothing was done
pub KeepsBook-same : (book : List Entry) → KeepsBook book book
KeepsBook-same book = record { size = refl; idle = λ name. refl; answer = λ name e. refl }

-- an answer given out of the line is given once
pub answered_entry-twice : (value : ℕ) (entry : Entry) → answered_entry value (answered_entry value entry) ≡ answered_entry value entry
answered_entry-twice value Idle = refl
answered_entry-twice value (Waiting request is_sync) = refl
answered_entry-twice value (Answered was request is_sync slotted) = refl

-- it registers nobody
pub is_idle-answered : (value : ℕ) (entry : Entry) → is_idle (answered_entry value entry) ≡ is_idle entry
is_idle-answered value Idle = refl
is_idle-answered value (Waiting request is_sync) = refl
is_idle-answered value (Answered was request is_sync slotted) = refl

-- and changes no answer that is there
pub answered_entry-answered : (value : ℕ) (entry : Entry) → is_answered entry ≡ true → answered_entry value entry ≡ entry
answered_entry-answered value Idle e = cc
answered_entry-answered value (Waiting request is_sync) e = cc
answered_entry-answered value (Answered was request is_sync slotted) e = refl

-- the entry of a name after one such answer
pub entry_at-answered : (value : ℕ) (book : List Entry) (first name : ℕ)
    → (entry_at (set book first (answered_entry value (entry_at book first))) name ≡ entry_at book name)
    ⊎ (entry_at (set book first (answered_entry value (entry_at book first))) name ≡ answered_entry value (entry_at book name))
entry_at-answered value book first name = elim (cases_eq name first) [
  | inr other ↦ inl (entry_at-other book first name _ other)
  | inl same ↦ elim (cases_lt first (length book)) [
    | inl within ↦ inr (rw same (entry_at-same book first _ within))
    | inr past ↦ inl (ap (λ b. entry_at b name) (set_past book first _ past))
  ]
]

-- and after such answers to a line
pub entry_at-answered_in : (value : ℕ) (line : List Waiter) (book : List Entry) (name : ℕ)
    → (entry_at (answered_in value line book) name ≡ entry_at book name)
    ⊎ (entry_at (answered_in value line book) name ≡ answered_entry value (entry_at book name))
entry_at-answered_in value [] book name = inl refl
entry_at-answered_in value (waiter ∷ line) book name =
    let first = entry_at-answered value book waiter.0 name in
    elim (entry_at-answered_in value line (set book waiter.0 (answered_entry value (entry_at book waiter.0))) name) [
      | inl left ↦ elim first [ inl e ↦ inl (left ∙ e) | inr e ↦ inr (left ∙ e) ]
      | inr done ↦ elim first [
        | inl e ↦ inr (done ∙ ap (answered_entry value) e)
        | inr e ↦ inr (done ∙ ap (answered_entry value) e ∙ answered_entry-twice value (entry_at book name))
      ]
    ]

-- answers out of the line keep the book
pub KeepsBook-answered_in : (value : ℕ) (line : List Waiter) (book : List Entry) → KeepsBook book (answered_in value line book)
KeepsBook-answered_in value line book = record {
  size = length-answered_in value line book;
  idle = λ name. elim (entry_at-answered_in value line book name) [
    | inl e ↦ ap is_idle e
    | inr e ↦ ap is_idle e ∙ is_idle-answered value (entry_at book name)
  ];
  answer = λ name there. elim (entry_at-answered_in value line book name) [
    | inl e ↦ e
    | inr e ↦ e ∙ answered_entry-answered value (entry_at book name) there
  ];
}

-- settling keeps the book
pub KeepsBook-settled : (s : Object) → KeepsBook s.book (settled s).book
unfolding settled
KeepsBook-settled s = KeepsBook-answered_in 0 (take (fitting_front s.held s.line) s.line) s.book

-- giving back, where it is nothing, where it is held, and where it isn't
pub KeepsBook-given_back_of : (s : Object) (is_nothing : Bool) (rest : Option Held) → KeepsBook s.book (given_back_of s is_nothing rest).state.book
KeepsBook-given_back_of s true rest = KeepsBook-same s.book
KeepsBook-given_back_of s false (Some rest) = KeepsBook-settled (record s { held = rest })
KeepsBook-given_back_of s false None = KeepsBook-same s.book

-- giving back any request
pub KeepsBook-given_back : (s : Object) (request : Request) → KeepsBook s.book (given_back s request).state.book
KeepsBook-given_back s request = KeepsBook-given_back_of s (is_for_nothing request) (less s.held request)

-- a try
pub KeepsBook-tried : (s : Object) (request : Request) → KeepsBook s.book (tried s request).state.book
KeepsBook-tried s request = elim (cases_Bool (is_granted_at_once s request)) [
  | inl e ↦ rw e (KeepsBook-same s.book)
  | inr e ↦ rw e (KeepsBook-same s.book)
]

-- a name that waited has left
pub KeepsBook-left_of : (s : Object) (held : Held) → KeepsBook s.book (left_of s held).book
KeepsBook-left_of s (OfSemaphore bound out) = KeepsBook-settled s
KeepsBook-left_of s (OfShutSemaphore bound out) = KeepsBook-settled s
KeepsBook-left_of s (OfLock lock) = KeepsBook-settled s
KeepsBook-left_of s (OfGate gate) = KeepsBook-answered_in spurious_value s.line s.book
KeepsBook-left_of s (OfBarrier size arrived round) = KeepsBook-same s.book

-- a name that waited has left quietly
pub KeepsBook-quietly_left_of : (s : Object) (held : Held) → KeepsBook s.book (quietly_left_of s held).book
KeepsBook-quietly_left_of s (OfSemaphore bound out) = KeepsBook-left_of s (OfSemaphore bound out)
KeepsBook-quietly_left_of s (OfShutSemaphore bound out) = KeepsBook-left_of s (OfShutSemaphore bound out)
KeepsBook-quietly_left_of s (OfLock lock) = KeepsBook-left_of s (OfLock lock)
KeepsBook-quietly_left_of s (OfGate gate) = KeepsBook-same s.book
KeepsBook-quietly_left_of s (OfBarrier size arrived round) = KeepsBook-left_of s (OfBarrier size arrived round)

-- what was granted is given back
pub KeepsBook-undone_of : (s : Object) (held : Held) (request : Request) → KeepsBook s.book (undone_of s held request).book
KeepsBook-undone_of s (OfSemaphore bound out) request = KeepsBook-given_back s request
KeepsBook-undone_of s (OfShutSemaphore bound out) request = KeepsBook-given_back s request
KeepsBook-undone_of s (OfLock lock) request = KeepsBook-given_back s request
KeepsBook-undone_of s (OfGate gate) request = KeepsBook-same s.book
KeepsBook-undone_of s (OfBarrier size arrived round) request = KeepsBook-same s.book

-- a registration that is granted at once
pub KeepsBook-granted_at_once : (s : Object) (request : Request) (answer : After ℕ) → granted_at_once s request ≡ Some answer
    → KeepsBook s.book answer.state.book
KeepsBook-granted_at_once s request answer e =
    let parts = cond_some (is_granted_at_once s request) (record { state = record s { held = plus s.held request }; reply = granted_value }) answer e in
    rw (← parts.1) (KeepsBook-same s.book)

-- an answer that changes nothing
pub KeepsBook-unchanged : (s : Object) (value : ℕ) (answer : After ℕ)
    → ◌≡◌ {A = Option (After ℕ)} (Some (record { state = s; reply = value })) (Some answer) → KeepsBook s.book answer.state.book
KeepsBook-unchanged s value answer e =
    let same : ◌≡◌ {A = After ℕ} (record { state = s; reply = value }) answer = cc in
    rw (← same) (KeepsBook-same s.book)

-- a registration that is answered at once, before its own entry is written
pub KeepsBook-answered : (s : Object) (held : Held) (request : Request) (answer : After ℕ) → answer_in s held request ≡ Some answer
    → KeepsBook s.book answer.state.book
KeepsBook-answered s (OfSemaphore bound out) request answer e = KeepsBook-granted_at_once s request answer e
KeepsBook-answered s (OfShutSemaphore bound out) request answer e = KeepsBook-unchanged s closed_value answer e
KeepsBook-answered s (OfLock Free) request answer e = KeepsBook-granted_at_once s request answer e
KeepsBook-answered s (OfLock Exclusive) request answer e = KeepsBook-granted_at_once s request answer e
KeepsBook-answered s (OfLock (Shared n)) request answer e = KeepsBook-granted_at_once s request answer e
KeepsBook-answered s (OfLock Poisoned) request answer e = KeepsBook-unchanged s poisoned_value answer e
KeepsBook-answered s (OfGate Controlled) request answer e = cc
KeepsBook-answered s (OfGate Sealed) request answer e = KeepsBook-unchanged s sealed_value answer e
KeepsBook-answered s (OfGate Open) request answer e = KeepsBook-unchanged s opened_value answer e
KeepsBook-answered s (OfBarrier size arrived round) request answer e =
    let parts = cond_some (eqb (arrived + length s.line + 1) size) (record { state = round_complete passed_value s size round; reply = leader_value }) answer e in
    rw (← parts.1) (KeepsBook-answered_in passed_value s.line s.book)

-- a shut
pub KeepsBook-shut_of : (s : Object) (held : Held) → KeepsBook s.book (shut_of s held).state.book
KeepsBook-shut_of s (OfSemaphore bound out) = KeepsBook-answered_in closed_value s.line s.book
KeepsBook-shut_of s (OfShutSemaphore bound out) = KeepsBook-same s.book
KeepsBook-shut_of s (OfLock lock) = KeepsBook-same s.book
KeepsBook-shut_of s (OfGate gate) = KeepsBook-same s.book
KeepsBook-shut_of s (OfBarrier size arrived round) = KeepsBook-same s.book

-- every call of a semaphore
pub KeepsBook-semaphore_step : (call : SemaphoreCall) (s : Object) → KeepsBook s.book (semaphore_step call s).state.book
KeepsBook-semaphore_step (TryAcquireMany count) s = KeepsBook-tried s (Permits count)
KeepsBook-semaphore_step (ReleaseMany count) s = KeepsBook-given_back s (Permits count)
KeepsBook-semaphore_step AvailablePermits s = KeepsBook-same s.book
KeepsBook-semaphore_step IsOpen s = KeepsBook-same s.book
KeepsBook-semaphore_step IsClosed s = KeepsBook-same s.book
KeepsBook-semaphore_step Shut s = KeepsBook-shut_of s s.held
KeepsBook-semaphore_step IsShut s = KeepsBook-same s.book

-- a downgrade
pub KeepsBook-downgraded_of : (s : Object) (is_own : Bool) → KeepsBook s.book (downgraded_of s is_own).state.book
KeepsBook-downgraded_of s true = KeepsBook-settled (record s { held = OfLock (Shared 1) })
KeepsBook-downgraded_of s false = KeepsBook-same s.book

-- poison
pub KeepsBook-poisoned_of : (s : Object) (is_own : Bool) → KeepsBook s.book (poisoned_of s is_own).state.book
KeepsBook-poisoned_of s true = KeepsBook-answered_in poisoned_value s.line s.book
KeepsBook-poisoned_of s false = KeepsBook-same s.book

-- the end of poison
pub KeepsBook-cleared_of : (s : Object) (is_poison : Bool) → KeepsBook s.book (cleared_of s is_poison).state.book
KeepsBook-cleared_of s true = KeepsBook-same s.book
KeepsBook-cleared_of s false = KeepsBook-same s.book

-- every call of a lock
pub KeepsBook-lock_step : (call : LockCall) (s : Object) → KeepsBook s.book (lock_step call s).state.book
KeepsBook-lock_step TryLock s = KeepsBook-tried s AskExclusive
KeepsBook-lock_step TryShare s = KeepsBook-tried s AskShared
KeepsBook-lock_step ReleaseLock s = KeepsBook-given_back s AskExclusive
KeepsBook-lock_step ReleaseShare s = KeepsBook-given_back s AskShared
KeepsBook-lock_step Downgrade s = KeepsBook-downgraded_of s (is_locked s.held)
KeepsBook-lock_step PoisonLock s = KeepsBook-poisoned_of s (is_locked s.held)
KeepsBook-lock_step ClearPoison s = KeepsBook-cleared_of s (is_poisoned s.held)
KeepsBook-lock_step IsFree s = KeepsBook-same s.book
KeepsBook-lock_step IsLocked s = KeepsBook-same s.book
KeepsBook-lock_step IsShared s = KeepsBook-same s.book
KeepsBook-lock_step IsPoisoned s = KeepsBook-same s.book

-- permitting or rejecting
pub KeepsBook-let_through : (s : Object) (value : ℕ) (gate : State) → KeepsBook s.book (let_through s value gate).state.book
KeepsBook-let_through s value Controlled = KeepsBook-answered_in value s.line s.book
KeepsBook-let_through s value Sealed = KeepsBook-same s.book
KeepsBook-let_through s value Open = KeepsBook-same s.book

-- permitting the oldest
pub KeepsBook-let_front_through : (s : Object) (n : ℕ) (gate : State) → KeepsBook s.book (let_front_through s n gate).state.book
KeepsBook-let_front_through s n Controlled = KeepsBook-answered_in permitted_value (take (min n (length s.line)) s.line) s.book
KeepsBook-let_front_through s n Sealed = KeepsBook-same s.book
KeepsBook-let_front_through s n Open = KeepsBook-same s.book

-- a reset
pub KeepsBook-reset_of : (s : Object) (gate : State) → KeepsBook s.book (reset_of s gate).state.book
KeepsBook-reset_of s Controlled = KeepsBook-same s.book
KeepsBook-reset_of s Sealed = KeepsBook-same s.book
KeepsBook-reset_of s Open = KeepsBook-same s.book

-- every call of a gate
pub KeepsBook-gate_step : (call : GateCall) (s : Object) → KeepsBook s.book (gate_step call s).state.book
KeepsBook-gate_step AskState s = KeepsBook-same s.book
KeepsBook-gate_step Reset s = KeepsBook-reset_of s (gate_state s.held)
KeepsBook-gate_step Permit s = KeepsBook-let_through s permitted_value (gate_state s.held)
KeepsBook-gate_step (PermitMany n) s = KeepsBook-let_front_through s n (gate_state s.held)
KeepsBook-gate_step Reject s = KeepsBook-let_through s rejected_value (gate_state s.held)
KeepsBook-gate_step DoOpen s = KeepsBook-answered_in opened_value s.line s.book
KeepsBook-gate_step Seal s = KeepsBook-answered_in sealed_value s.line s.book

-- a barrier of another size
pub KeepsBook-resized : (s : Object) (size arrived round : ℕ) → KeepsBook s.book (resized s size arrived round).book
KeepsBook-resized s size arrived round = elim (cases_Bool (is_complete size (arrived + length s.line))) [
  | inl e ↦ rw e (KeepsBook-answered_in passed_value s.line s.book)
  | inr e ↦ rw e (KeepsBook-same s.book)
]

-- an arrival for which nobody waits
pub KeepsBook-arrived_at : (s : Object) (held : Held) → KeepsBook s.book (arrived_at s held).state.book
KeepsBook-arrived_at s (OfBarrier size arrived round) = elim (cases_Bool (nat_lt 0 size)) [
  | inl e ↦ rw e (KeepsBook-resized s size (arrived + 1) round)
  | inr e ↦ rw e (KeepsBook-same s.book)
]
KeepsBook-arrived_at s (OfSemaphore bound out) = KeepsBook-same s.book
KeepsBook-arrived_at s (OfShutSemaphore bound out) = KeepsBook-same s.book
KeepsBook-arrived_at s (OfLock lock) = KeepsBook-same s.book
KeepsBook-arrived_at s (OfGate gate) = KeepsBook-same s.book

-- one task more
pub KeepsBook-joined_by : (s : Object) (held : Held) → KeepsBook s.book (joined_by s held).state.book
KeepsBook-joined_by s (OfBarrier size arrived round) = elim (cases_Bool (nat_lt size max_tasks)) [
  | inl e ↦ rw e (KeepsBook-resized s (size + 1) arrived round)
  | inr e ↦ rw e (KeepsBook-same s.book)
]
KeepsBook-joined_by s (OfSemaphore bound out) = KeepsBook-same s.book
KeepsBook-joined_by s (OfShutSemaphore bound out) = KeepsBook-same s.book
KeepsBook-joined_by s (OfLock lock) = KeepsBook-same s.book
KeepsBook-joined_by s (OfGate gate) = KeepsBook-same s.book

-- one task less
pub KeepsBook-left_by_one : (s : Object) (held : Held) → KeepsBook s.book (left_by_one s held).state.book
KeepsBook-left_by_one s (OfBarrier size arrived round) = elim (cases_Bool (nat_lt 0 size)) [
  | inl e ↦ rw e (KeepsBook-resized s (size - 1) arrived round)
  | inr e ↦ rw e (KeepsBook-same s.book)
]
KeepsBook-left_by_one s (OfSemaphore bound out) = KeepsBook-same s.book
KeepsBook-left_by_one s (OfShutSemaphore bound out) = KeepsBook-same s.book
KeepsBook-left_by_one s (OfLock lock) = KeepsBook-same s.book
KeepsBook-left_by_one s (OfGate gate) = KeepsBook-same s.book

-- every call of a barrier
pub KeepsBook-barrier_step : (call : BarrierCall) (s : Object) → KeepsBook s.book (barrier_step call s).state.book
KeepsBook-barrier_step Count s = KeepsBook-same s.book
KeepsBook-barrier_step DoArrive s = KeepsBook-arrived_at s s.held
KeepsBook-barrier_step Join s = KeepsBook-joined_by s s.held
KeepsBook-barrier_step LeaveOne s = KeepsBook-left_by_one s s.held
KeepsBook-barrier_step Round s = KeepsBook-same s.book

-- The permits of a semaphore are conserved by every command, and so by every run.
use Rattle.std.proofs.Common.{◌≡◌, ℕ, ◌+◌, ◌-◌, ◌<◌, ◌≤◌, min, Bool, true, false, ◌&&◌, eqb, leb, cond, inl, inr, List, [], ◌∷◌, length, set, Option, Some, None, refl, sym, ap, ◌∙◌, arith, All, length-set, subst}
use Rattle.std.specs.List.{AllByRecursion, sum_by}
use Rattle.std.proofs.lemmas.Bool.{cases_Bool, leb-true, and_parts}
use Rattle.std.proofs.lemmas.Option.{cond_some}
use Rattle.std.proofs.lemmas.List.Sums.{sum_by-cons}
use Rattle.std.proofs.lemmas.List.Elements.{recursion_from_All}
use Rattle.saa_core_spec.specs.declared.gate.State.{State}
use Rattle.saa_core_spec.specs.declared.request.Request.{Request}
use Rattle.saa_core_spec.specs.declared.request.Request.TheVariants.{Exclusive as AskExclusive, Shared as AskShared, WaitExclusive, WaitShared, Permits, Enter, Arrive}
use Rattle.saa_core_spec.specs.declared.polling.How.{How}
use Rattle.saa_core_spec.specs.declared.polling.How.TheVariants.{Try, Sync, Async}
use Rattle.saa_core_spec.specs.declared.semaphore.SemaphoreCall.{SemaphoreCall}
use Rattle.saa_core_spec.specs.declared.semaphore.SemaphoreCall.TheVariants.{TryAcquireMany, ReleaseMany, AvailablePermits, IsOpen, IsClosed, Shut, IsShut}
use Rattle.saa_core_spec.specs.declared.run.CommandOf.{CommandOf}
use Rattle.saa_core_spec.specs.declared.run.CommandOf.TheVariants.{Call, Register, TryPoll, PollSync, PollAsync, Drop, Leave}
use Rattle.saa_core_spec.specs.Held.{Held, OfSemaphore, OfShutSemaphore, OfLock, OfGate, OfBarrier, fits, plus, less, asks_too_much}
use Rattle.saa_core_spec.specs.Object.{Object, After, Entry, Idle, Waiting, Answered, entry_at, with_entry, is_nobody, without}
use Rattle.saa_core_spec.specs.Settling.{settled}
use Rattle.saa_core_spec.specs.Asking.{is_idle, is_granted_at_once, tried, answer_in, answer_at_once, registered_of}
use Rattle.saa_core_spec.specs.Polling.{is_right_mode, polled_in, polled_of, is_for_nothing, given_back_of, given_back, left_of, undone_of, dropped_of}
use Rattle.saa_core_spec.specs.Values.{semaphore_value, granted_value, closed_value}
use Rattle.saa_core_spec.specs.Semaphore.{semaphore_step, new_semaphore, out_of, shut_of}
use Rattle.saa_core_spec.specs.Run.{IsWithin, done, state_after}
use Rattle.saa_core_spec.proofs.Counts.{same_number}
use Rattle.saa_core_spec.proofs.Leaving.{withdrawn-dropped}
use Rattle.saa_core_laws.specs.Laws.{is_waiting}
use Rattle.saa_core_laws.specs.Registrations.{is_registered, is_answered}
use Rattle.saa_core_laws.specs.Steps.{step_of, steps}
use Rattle.saa_core_laws.specs.Conservation.{SemaphoreStep, permits_of, granted_between, granted_in_books, grant_of, granted_by, dropped_grant, given_back_by, semaphore_run}
use Rattle.saa_core_laws.proofs.Order.{IsInStep, entry_at-same}
use Rattle.saa_core_laws.proofs.Kept.{IsKept, IsKept-newly_made, IsKept-left, IsKept-written}
use Rattle.saa_core_laws.proofs.Commands.{IsRight, IsRight-done, or_false-left}
use Rattle.saa_core_laws.proofs.Grants.{Grants}
use Rattle.saa_core_laws.proofs.SemaphoreLaws.{IsFineSemaphore, IsFineSemaphore-less, KeepsRight-semaphore}
use Rattle.saa_core_laws.proofs.Books.{KeepsBook-settled, KeepsBook-given_back}
use Rattle.saa_core_laws.proofs.Reading.{is_idle-emptied}
use Rattle.saa_core_laws.proofs.Rounds.{not_answered}
use Rattle.saa_core_laws.proofs.Permitted.{granted_between-still, granted_between-unanswered, granted_in_books-same, granted_in_books-written, granted_in_books-emptied, granted_in_books-closed, out-plus, out-settled}

-- what is left of a semaphore once a request is given back
pub out-less : (most : ℕ) (held rest : Held) (request : Request) → IsFineSemaphore most held → less held request ≡ Some rest
    → out_of rest + permits_of request ≡ out_of held
out-less most (OfSemaphore bound out) rest (Permits n) fine e =
    let parts = cond_some (leb n out) (OfSemaphore bound (out - n)) rest e in
    let below : n ≤ out = leb-true n out parts.0 in
    omega (arith, ap out_of parts.1)
out-less most (OfSemaphore bound out) rest AskExclusive fine e = cc
out-less most (OfSemaphore bound out) rest AskShared fine e = cc
out-less most (OfSemaphore bound out) rest WaitExclusive fine e = cc
out-less most (OfSemaphore bound out) rest WaitShared fine e = cc
out-less most (OfSemaphore bound out) rest Enter fine e = cc
out-less most (OfSemaphore bound out) rest Arrive fine e = cc
out-less most (OfShutSemaphore bound out) rest (Permits n) fine e =
    let parts = cond_some (leb n out) (OfShutSemaphore bound (out - n)) rest e in
    let below : n ≤ out = leb-true n out parts.0 in
    omega (arith, ap out_of parts.1)
out-less most (OfShutSemaphore bound out) rest AskExclusive fine e = cc
out-less most (OfShutSemaphore bound out) rest AskShared fine e = cc
out-less most (OfShutSemaphore bound out) rest WaitExclusive fine e = cc
out-less most (OfShutSemaphore bound out) rest WaitShared fine e = cc
out-less most (OfShutSemaphore bound out) rest Enter fine e = cc
out-less most (OfShutSemaphore bound out) rest Arrive fine e = cc
out-less most (OfLock lock) rest request fine e = absurd fine
out-less most (OfGate gate) rest request fine e = absurd fine
out-less most (OfBarrier size arrived round) rest request fine e = absurd fine

-- a request for nothing has no permits
pub permits_of-nothing : (request : Request) → is_for_nothing request ≡ true → permits_of request ≡ 0
permits_of-nothing (Permits n) e = same_number n 0 e
permits_of-nothing AskExclusive e = refl
permits_of-nothing AskShared e = refl
permits_of-nothing WaitExclusive e = refl
permits_of-nothing WaitShared e = refl
permits_of-nothing Enter e = refl
permits_of-nothing Arrive e = refl

-- giving back, where it is nothing, where it is held, and where it isn't
pub out-given_back_of : (most : ℕ) (s : Object) (request : Request) (is_nothing : Bool) (rest : Option Held)
    → is_for_nothing request ≡ is_nothing → less s.held request ≡ rest → IsFineSemaphore most s.held → IsInStep s.line s.book
    → out_of (given_back_of s is_nothing rest).state.held + cond (given_back_of s is_nothing rest).reply (permits_of request) 0
    ≡ out_of s.held + granted_in_books s.book (given_back_of s is_nothing rest).state.book
out-given_back_of most s request true rest nothing e fine step = omega (arith, permits_of-nothing request nothing, granted_in_books-same s.book)
out-given_back_of most s request false None nothing e fine step = omega (arith, granted_in_books-same s.book)
out-given_back_of most s request false (Some rest) nothing e fine step =
    omega (
      arith,
      out-less most s.held rest request fine e,
      out-settled most (record s { held = rest }) (IsFineSemaphore-less most s.held rest request fine e) step,
    )

-- giving back any request
pub out-given_back : (most : ℕ) (s : Object) (request : Request) → IsFineSemaphore most s.held → IsInStep s.line s.book
    → out_of (given_back s request).state.held + cond (given_back s request).reply (permits_of request) 0
    ≡ out_of s.held + granted_in_books s.book (given_back s request).state.book
out-given_back most s request fine step = out-given_back_of most s request (is_for_nothing request) (less s.held request) refl refl fine step

-- whether it is given back is no matter of the book
pub reply-given_back_of : (s other : Object) (is_nothing : Bool) (rest : Option Held) → (given_back_of s is_nothing rest).reply ≡ (given_back_of other is_nothing rest).reply
reply-given_back_of s other true rest = refl
reply-given_back_of s other false (Some rest) = refl
reply-given_back_of s other false None = refl

-- a semaphore gets back what was granted
pub undone-is : (most : ℕ) (s : Object) (held : Held) (request : Request) → IsFineSemaphore most held → undone_of s held request ≡ (given_back s request).state
undone-is most s (OfSemaphore bound out) request fine = refl
undone-is most s (OfShutSemaphore bound out) request fine = refl
undone-is most s (OfLock lock) request fine = absurd fine
undone-is most s (OfGate gate) request fine = absurd fine
undone-is most s (OfBarrier size arrived round) request fine = absurd fine

-- and settles when a name has left
pub left-is : (most : ℕ) (s : Object) (held : Held) → IsFineSemaphore most held → left_of s held ≡ settled s
left-is most s (OfSemaphore bound out) fine = refl
left-is most s (OfShutSemaphore bound out) fine = refl
left-is most s (OfLock lock) fine = absurd fine
left-is most s (OfGate gate) fine = absurd fine
left-is most s (OfBarrier size arrived round) fine = absurd fine

-- what a step conserves
abbrev pub Conserves : (before after : Object) (taken given : ℕ) → Type 0
Conserves before after taken given = out_of after.held + given ≡ out_of before.held + (taken + granted_in_books before.book after.book)

-- a step that does nothing
pub Conserves-still : (s : Object) → Conserves s s 0 0
Conserves-still s = omega (arith, granted_in_books-same s.book)

-- a drop of a grant, from what is given back once its entry is emptied
pub Conserves-undone : (most : ℕ) (names : ℕ) (s : Object) (name : ℕ) (request : Request) → is_waiting (entry_at s.book name) ≡ false
    → IsFineSemaphore most s.held → IsKept names s
    → Conserves s (undone_of (with_entry s name Idle) s.held request) 0 (cond (given_back s request).reply (permits_of request) 0)
Conserves-undone most names s name request still fine kept =
    let idle : Object = with_entry s name Idle in
    let keeps = KeepsBook-given_back idle request in
    let after : Object = (given_back idle request).state in
    let step = (IsKept-written names s name Idle still refl refl kept).in_step in
    let emptied = granted_in_books-emptied s.book after.book name (keeps.size ∙ length-set s.book name Idle)
    (granted_between-still (entry_at s.book name) (entry_at after.book name) still) in
    let reply : (given_back idle request).reply ≡ (given_back s request).reply = reply-given_back_of idle s (is_for_nothing request) (less s.held request) in
    rw (undone-is most idle s.held request fine)
    (omega (arith, out-given_back most idle request fine step, emptied, ap (λ b. cond b (permits_of request) 0) reply))

-- a drop of a name with this entry
pub Conserves-dropped_of : (most names : ℕ) (s : Object) (name : ℕ) (entry : Entry) → entry_at s.book name ≡ entry
    → IsFineSemaphore most s.held → IsKept names s
    → Conserves s (dropped_of s name entry) 0 (dropped_grant s entry)
Conserves-dropped_of most names s name Idle at fine kept = Conserves-still s
Conserves-dropped_of most names s name (Waiting request is_sync) at fine kept =
    let left : Object = record (with_entry s name Idle) { line = without name s.line } in
    let keeps = KeepsBook-settled left in
    let gone : is_answered (entry_at (settled left).book name) ≡ false =
    not_answered (entry_at (settled left).book name) (keeps.idle name ∙ is_idle-emptied s.book name) in
    let emptied = granted_in_books-emptied s.book (settled left).book name (keeps.size ∙ length-set s.book name Idle)
    (granted_between-unanswered (entry_at s.book name) (entry_at (settled left).book name) gone) in
    rw (left-is most left s.held fine)
    (omega (arith, out-settled most left fine (IsKept-left names s name kept).in_step, emptied))
Conserves-dropped_of most names s name (Answered value request is_sync slotted) at fine kept = elim (cases_Bool (eqb value granted_value)) [
  | inl e ↦ rw e (Conserves-undone most names s name request (ap is_waiting at) fine kept)
  | inr e ↦ rw e (omega (arith, granted_in_books-written s.book name Idle (granted_between-unanswered (entry_at s.book name) Idle refl)))
]

-- a poll in the right mode or not
pub Conserves-polled_in : (s : Object) (name : ℕ) (entry : Entry) (is_right : Bool) → Conserves s (polled_in s name entry is_right).state 0 0
Conserves-polled_in s name entry false = Conserves-still s
Conserves-polled_in s name Idle true = Conserves-still s
Conserves-polled_in s name (Waiting request is_sync) true = Conserves-still s
Conserves-polled_in s name (Answered value request is_sync slotted) true =
    omega (arith, granted_in_books-written s.book name Idle (granted_between-unanswered (entry_at s.book name) Idle refl))

-- every poll
pub Conserves-polled_of : (s : Object) (name : ℕ) (how : How) (entry : Entry) → Conserves s (polled_of s name how entry).state 0 0
Conserves-polled_of s name how Idle = Conserves-still s
Conserves-polled_of s name how (Waiting request is_sync) = Conserves-polled_in s name (Waiting request is_sync) (is_right_mode how is_sync)
Conserves-polled_of s name how (Answered value request is_sync slotted) = Conserves-polled_in s name (Answered value request is_sync slotted) (is_right_mode how is_sync)

-- what is out where a request was granted that fits
pub out-added : (most : ℕ) (held : Held) (request : Request) → IsFineSemaphore most held → fits held request ≡ true
    → out_of (plus held request) ≡ out_of held + permits_of request
out-added most (OfSemaphore bound out) request fine fit = ap out_of (out-plus bound out request)
out-added most (OfShutSemaphore bound out) request fine fit = cc
out-added most (OfLock lock) request fine fit = absurd fine
out-added most (OfGate gate) request fine fit = absurd fine
out-added most (OfBarrier size arrived round) request fine fit = absurd fine

-- a try
pub Conserves-tried : (most : ℕ) (s : Object) (request : Request) → IsFineSemaphore most s.held
    → Conserves s (tried s request).state (cond (tried s request).reply (permits_of request) 0) 0
Conserves-tried most s request fine = elim (cases_Bool (is_granted_at_once s request)) [
  | inl e ↦ rw e (omega (arith, out-added most s.held request fine (and_parts (is_nobody s.line) (fits s.held request) e).1, granted_in_books-same s.book))
  | inr e ↦ rw e (Conserves-still s)
]

-- a registration that a semaphore answers at once: a grant takes its permits, and nothing else does
pub record IsGranted (s : Object) (request : Request) (answer : After ℕ) : Type 0 where
  pub out : out_of answer.state.held ≡ out_of s.held + cond (eqb answer.reply granted_value) (permits_of request) 0
  pub book : answer.state.book ≡ s.book

pub IsGranted-answered : (most : ℕ) (s : Object) (held : Held) (request : Request) (answer : After ℕ) → IsFineSemaphore most held
    → IsFineSemaphore most s.held → answer_in s held request ≡ Some answer → IsGranted s request answer
IsGranted-answered most s (OfSemaphore bound out) request answer is fine e =
    let parts = cond_some (is_granted_at_once s request) (record { state = record s { held = plus s.held request }; reply = granted_value }) answer e in
    let fit : fits s.held request ≡ true = (and_parts (is_nobody s.line) (fits s.held request) parts.0).1 in
    rw (← parts.1) (record { out = out-added most s.held request fine fit; book = refl })
IsGranted-answered most s (OfShutSemaphore bound out) request answer is fine e =
    let same : ◌≡◌ {A = After ℕ} (record { state = s; reply = closed_value }) answer = cc in
    rw (← same) (record { out = omega arith; book = refl })
IsGranted-answered most s (OfLock lock) request answer is fine e = absurd is
IsGranted-answered most s (OfGate gate) request answer is fine e = absurd is
IsGranted-answered most s (OfBarrier size arrived round) request answer is fine e = absurd is

-- an idle name is granted nothing out of the line
pub granted_between-idle : (entry after : Entry) → is_idle entry ≡ true → granted_between entry after ≡ 0
granted_between-idle Idle after e = refl
granted_between-idle (Waiting request is_sync) after e = cc
granted_between-idle (Answered value request is_sync slotted) after e = refl

-- a registration, by its four cases
pub Conserves-registered_of : (most : ℕ) (s : Object) (name : ℕ) (request : Request) (is_sync is_refused : Bool) (answer : Option (After ℕ)) (is_full : Bool)
    → name < length s.book → (is_refused ≡ false → is_idle (entry_at s.book name) ≡ true) → answer_at_once s request ≡ answer → IsFineSemaphore most s.held
    → Conserves s (registered_of s name request is_sync is_refused answer is_full).state
    (cond (is_registered (registered_of s name request is_sync is_refused answer is_full).reply)
    (grant_of (entry_at (registered_of s name request is_sync is_refused answer is_full).state.book name)) 0)
    0
Conserves-registered_of most s name request is_sync true answer is_full within idle e fine = Conserves-still s
Conserves-registered_of most s name request is_sync false (Some answer) is_full within idle e fine =
    let granted = IsGranted-answered most s s.held request answer fine fine e in
    let entry : Entry = Answered answer.reply request is_sync false in
    let there : grant_of (entry_at (set answer.state.book name entry) name) ≡ grant_of entry =
    ap grant_of (entry_at-same answer.state.book name entry (omega (arith, ap (λ (b : List Entry). length b) granted.book))) in
    let nothing : granted_in_books s.book (set answer.state.book name entry) ≡ 0 =
    ap (λ b. granted_in_books s.book (set b name entry)) granted.book
    ∙ granted_in_books-written s.book name entry (granted_between-idle (entry_at s.book name) entry (idle refl)) in
    rw there (omega (arith, granted.out, nothing))
Conserves-registered_of most s name request is_sync false None true within idle e fine = Conserves-still s
Conserves-registered_of most s name request is_sync false None false within idle e fine =
    let none : grant_of (entry_at (set s.book name (Waiting request is_sync)) name) ≡ 0 = ap grant_of (entry_at-same s.book name (Waiting request is_sync) within) in
    rw none (omega (
      arith,
      granted_in_books-written s.book name (Waiting request is_sync) (granted_between-unanswered (entry_at s.book name) (Waiting request is_sync) refl),
    ))

-- a shut takes nothing and gives nothing back
pub Conserves-shut_of : (s : Object) (held : Held) → s.held ≡ held → Conserves s (shut_of s held).state 0 0
Conserves-shut_of s (OfSemaphore bound out) is = omega (arith, ap out_of is, granted_in_books-closed s.line s.book)
Conserves-shut_of s (OfShutSemaphore bound out) is = Conserves-still s
Conserves-shut_of s (OfLock lock) is = Conserves-still s
Conserves-shut_of s (OfGate gate) is = Conserves-still s
Conserves-shut_of s (OfBarrier size arrived round) is = Conserves-still s

-- what a semaphore keeps, which the steps rest on
abbrev pub IsRightSemaphore : (most names : ℕ) → Object → Type 0
IsRightSemaphore most names s = IsRight (Grants (IsFineSemaphore most) (OfSemaphore most 0)) names s

-- no semaphore is a gate
pub no_gate-semaphore : (most : ℕ) (held : Held) → IsFineSemaphore most held → (gate : State) → held ≡ OfGate gate → ⊥
no_gate-semaphore most held fine gate is = subst (IsFineSemaphore most) is fine

-- every command
pub Conserves-done : (most names : ℕ) (command : CommandOf SemaphoreCall ℕ) (s : Object) → IsWithin names command → IsRightSemaphore most names s
    → out_of (done Permits semaphore_step semaphore_value command s).state.held + given_back_by (step_of Permits semaphore_step semaphore_value command s)
    ≡ out_of s.held + granted_by (step_of Permits semaphore_step semaphore_value command s)
Conserves-done most names (Call (TryAcquireMany n)) s within right = Conserves-tried most s (Permits n) right.kind.fine
Conserves-done most names (Call (ReleaseMany n)) s within right =
    omega (arith, out-given_back most s (Permits n) right.kind.fine right.kept.in_step)
Conserves-done most names (Call AvailablePermits) s within right = Conserves-still s
Conserves-done most names (Call IsOpen) s within right = Conserves-still s
Conserves-done most names (Call IsClosed) s within right = Conserves-still s
Conserves-done most names (Call Shut) s within right = Conserves-shut_of s s.held refl
Conserves-done most names (Call IsShut) s within right = Conserves-still s
Conserves-done most names (Register name n is_sync) s within right =
    Conserves-registered_of most s name (Permits n) is_sync _ (answer_at_once s (Permits n)) _ (omega (arith, right.kept.size))
    (λ e. or_false-left (is_idle (entry_at s.book name)) (asks_too_much s.held (Permits n)) e) refl right.kind.fine
Conserves-done most names (TryPoll name) s within right = Conserves-polled_of s name Try (entry_at s.book name)
Conserves-done most names (PollSync name) s within right = Conserves-polled_of s name Sync (entry_at s.book name)
Conserves-done most names (PollAsync name) s within right = Conserves-polled_of s name Async (entry_at s.book name)
Conserves-done most names (Drop name) s within right = Conserves-dropped_of most names s name (entry_at s.book name) refl right.kind.fine right.kept
Conserves-done most names (Leave name) s within right =
    rw (withdrawn-dropped s name (entry_at s.book name) (no_gate-semaphore most s.held right.kind.fine))
    (Conserves-dropped_of most names s name (entry_at s.book name) refl right.kind.fine right.kept)

-- every run of a semaphore that is right
pub conserved-run : (most names : ℕ) (commands : List (CommandOf SemaphoreCall ℕ)) (s : Object) → AllByRecursion (IsWithin names) commands
    → IsRightSemaphore most names s
    → out_of (state_after Permits semaphore_step semaphore_value commands s).held + sum_by given_back_by (steps Permits semaphore_step semaphore_value commands s)
    ≡ out_of s.held + sum_by granted_by (steps Permits semaphore_step semaphore_value commands s)
conserved-run most names [] s within right = omega arith
conserved-run most names (command ∷ commands) s within right =
    let step : SemaphoreStep = step_of Permits semaphore_step semaphore_value command s in
    let run : List SemaphoreStep = steps Permits semaphore_step semaphore_value commands step.after.state in
    let after = IsRight-done (Grants (IsFineSemaphore most) (OfSemaphore most 0)) names Permits semaphore_step semaphore_value
    (KeepsRight-semaphore most names) command s within.0 right in
    omega (
      arith,
      Conserves-done most names command s within.0 right,
      conserved-run most names commands step.after.state within.1 after,
      sum_by-cons given_back_by step run,
      sum_by-cons granted_by step run,
    )

-- every run of a newly made semaphore
pub permits-conserved : (bound permits room names : ℕ) (commands : List (CommandOf SemaphoreCall ℕ)) → All (IsWithin names) commands
    → out_of (state_after Permits semaphore_step semaphore_value commands (new_semaphore bound permits room names)).held
    + sum_by given_back_by (semaphore_run bound permits room names commands)
    ≡ (bound - min permits bound) + sum_by granted_by (semaphore_run bound permits room names commands)
permits-conserved bound permits room names commands within =
    conserved-run bound names commands (new_semaphore bound permits room names) (recursion_from_All (IsWithin names) commands within)
    (record {
      kept = IsKept-newly_made (OfSemaphore bound (bound - min permits bound)) room names;
      kind = record { fine = (refl, omega arith); front = refl; asks = tt; refused = λ refuses. refl };
    })

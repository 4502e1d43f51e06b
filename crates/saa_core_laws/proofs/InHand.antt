-- Grants that aren't consumed are out, where no more was released by calls than was withheld or taken in hand:
-- so a drop of one gives back all of it.
use Rattle.std.proofs.Common.{◌≡◌, ℕ, suc, zero, ◌+◌, ◌-◌, ◌<◌, ◌≤◌, min, Bool, true, false, eqb, leb, cond, inl, inr, List, [], ◌∷◌, length, set, take, replicate, Option, Some, None, Ok, refl, ap, ◌∙◌, arith, All}
use Rattle.std.specs.List.{AllByRecursion, sum_by}
use Rattle.std.proofs.lemmas.Bool.{cases_Bool, cases_lt, le-leb, and_parts}
use Rattle.std.proofs.lemmas.Option.{cond_some}
use Rattle.std.proofs.lemmas.List.Sums.{sum_by-cons}
use Rattle.std.proofs.lemmas.List.Elements.{recursion_from_All}
use Rattle.saa_core_spec.specs.declared.request.Request.{Request}
use Rattle.saa_core_spec.specs.declared.request.Request.TheVariants.{Permits}
use Rattle.saa_core_spec.specs.declared.polling.How.{How}
use Rattle.saa_core_spec.specs.declared.polling.How.TheVariants.{Try, Sync, Async}
use Rattle.saa_core_spec.specs.declared.semaphore.SemaphoreCall.{SemaphoreCall}
use Rattle.saa_core_spec.specs.declared.semaphore.SemaphoreCall.TheVariants.{TryAcquireMany, ReleaseMany, AvailablePermits, IsOpen, IsClosed, Shut, IsShut}
use Rattle.saa_core_spec.specs.declared.run.CommandOf.{CommandOf}
use Rattle.saa_core_spec.specs.declared.run.CommandOf.TheVariants.{Call, Register, TryPoll, PollSync, PollAsync, Drop, Leave}
use Rattle.saa_core_spec.specs.Held.{Held, OfSemaphore, OfShutSemaphore, OfLock, OfGate, OfBarrier, fits, plus, less}
use Rattle.saa_core_spec.specs.Object.{Object, After, Entry, Idle, Waiting, Answered, Waiter, entry_at, with_entry, is_nobody, without}
use Rattle.saa_core_spec.specs.Settling.{fitting_front, answered_entry, answered_in, settled}
use Rattle.saa_core_spec.specs.Asking.{is_granted_at_once, tried, answer_in, answer_at_once, registered_of}
use Rattle.saa_core_spec.specs.Polling.{is_right_mode, polled_in, polled_of, is_for_nothing, given_back_of, given_back, undone_of, dropped_of}
use Rattle.saa_core_spec.specs.Values.{semaphore_value, granted_value, closed_value}
use Rattle.saa_core_spec.specs.Semaphore.{semaphore_step, new_semaphore, out_of, shut_of}
use Rattle.saa_core_spec.specs.Run.{IsWithin, done, state_after}
use Rattle.saa_core_spec.proofs.Leaving.{withdrawn-dropped}
use Rattle.saa_core_laws.specs.Laws.{is_waiting}
use Rattle.saa_core_laws.specs.Steps.{step_of, steps}
use Rattle.saa_core_laws.specs.Conservation.{SemaphoreStep, permits_of, granted_between, granted_in_books, dropped_grant, given_back_by, grant_of, has_value, taken_in_hand_by, released_by, semaphore_run}
use Rattle.saa_core_laws.proofs.Order.{entry_at_past, set_past, length-answered_in}
use Rattle.saa_core_laws.proofs.Kept.{IsKept, IsKept-newly_made, IsKept-left, IsKept-written}
use Rattle.saa_core_laws.proofs.Commands.{IsRight-done, IsRight-state_after}
use Rattle.saa_core_laws.proofs.Grants.{Grants}
use Rattle.saa_core_laws.proofs.SemaphoreLaws.{IsFineSemaphore, KeepsRight-semaphore}
use Rattle.saa_core_laws.proofs.Books.{entry_at-answered_in}
use Rattle.saa_core_laws.proofs.Permitted.{out-settled}
use Rattle.saa_core_laws.proofs.Conserved.{IsRightSemaphore, out-given_back, undone-is, left-is, out-added, no_gate-semaphore}

-- the grants of a book that aren't consumed
abbrev pub unconsumed : List Entry → ℕ
unconsumed [] = 0
unconsumed (entry ∷ book) = grant_of entry + unconsumed book

-- none at first
pub unconsumed-replicate : (names : ℕ) → unconsumed (replicate names Idle) ≡ 0
unconsumed-replicate zero = refl
unconsumed-replicate (suc names) = omega (arith, unconsumed-replicate names)

-- one is among them
pub unconsumed-at : (book : List Entry) (name : ℕ) → grant_of (entry_at book name) ≤ unconsumed book
unconsumed-at [] name = omega arith
unconsumed-at (entry ∷ book) zero = omega arith
unconsumed-at (entry ∷ book) (suc name) = omega (arith, unconsumed-at book name)

-- after a write
pub unconsumed-set : (book : List Entry) (name : ℕ) (entry : Entry) → name < length book
    → unconsumed (set book name entry) + grant_of (entry_at book name) ≡ unconsumed book + grant_of entry
unconsumed-set [] name entry within = absurd (omega arith)
unconsumed-set (first ∷ book) zero entry within = omega arith
unconsumed-set (first ∷ book) (suc name) entry within = omega (arith, unconsumed-set book name entry (omega arith))

-- after an entry is emptied, whether or not the name is in the book
pub unconsumed-emptied : (book : List Entry) (name : ℕ) → unconsumed (set book name Idle) + grant_of (entry_at book name) ≡ unconsumed book
unconsumed-emptied book name = elim (cases_lt name (length book)) [
  | inl within ↦ omega (arith, unconsumed-set book name Idle within)
  | inr past ↦ omega (arith, ap unconsumed (set_past book name Idle past), ap grant_of (entry_at_past book name past))
]

-- a book that grants no more than the books tell
pub unconsumed-grown : (before after : List Entry) → length after ≡ length before
    → ((name : ℕ) → grant_of (entry_at after name) ≤ grant_of (entry_at before name) + granted_between (entry_at before name) (entry_at after name))
    → unconsumed after ≤ unconsumed before + granted_in_books before after
unconsumed-grown [] [] size each = omega arith
unconsumed-grown [] (other ∷ after) size each = absurd (omega arith)
unconsumed-grown (entry ∷ before) [] size each = absurd (omega arith)
unconsumed-grown (entry ∷ before) (other ∷ after) size each =
    let first : grant_of other ≤ grant_of entry + granted_between entry other = each 0 in
    omega (arith, first, unconsumed-grown before after (omega arith) (λ name. each (suc name)))

-- an entry that stays
pub grant_of-same : (entry : Entry) → grant_of entry ≤ grant_of entry + granted_between entry entry
grant_of-same entry = omega arith

-- an entry that is granted
pub grant_of-answered : (entry : Entry) → grant_of (answered_entry 0 entry) ≤ grant_of entry + granted_between entry (answered_entry 0 entry)
grant_of-answered Idle = omega arith
grant_of-answered (Waiting request is_sync) = omega arith
grant_of-answered (Answered value request is_sync slotted) = omega arith

-- a line that is granted
pub unconsumed-answered_in : (line : List Waiter) (book : List Entry)
    → unconsumed (answered_in 0 line book) ≤ unconsumed book + granted_in_books book (answered_in 0 line book)
unconsumed-answered_in line book =
    unconsumed-grown book (answered_in 0 line book) (length-answered_in 0 line book) (λ name.
    elim (entry_at-answered_in 0 line book name) [
      | inl same ↦ rw same (grant_of-same (entry_at book name))
      | inr granted ↦ rw granted (grant_of-answered (entry_at book name))
    ])

-- settling
pub unconsumed-settled : (s : Object) → unconsumed (settled s).book ≤ unconsumed s.book + granted_in_books s.book (settled s).book
unfolding settled
unconsumed-settled s = unconsumed-answered_in (take (fitting_front s.held s.line) s.line) s.book

-- giving back, where it is nothing, where it is held, and where it isn't
pub unconsumed-given_back_of : (s : Object) (is_nothing : Bool) (rest : Option Held)
    → unconsumed (given_back_of s is_nothing rest).state.book ≤ unconsumed s.book + granted_in_books s.book (given_back_of s is_nothing rest).state.book
unconsumed-given_back_of s true rest = omega arith
unconsumed-given_back_of s false (Some rest) = unconsumed-settled (record s { held = rest })
unconsumed-given_back_of s false None = omega arith

-- giving back any request
pub unconsumed-given_back : (s : Object) (request : Request)
    → unconsumed (given_back s request).state.book ≤ unconsumed s.book + granted_in_books s.book (given_back s request).state.book
unconsumed-given_back s request = unconsumed-given_back_of s (is_for_nothing request) (less s.held request)

-- what a step keeps: what is taken in hand and what is left unconsumed is out, or was released by a call
abbrev pub Covers : (before after : Object) (taken released : ℕ) → Type 0
Covers before after taken released = taken + unconsumed after.book + out_of before.held ≤ out_of after.held + released + unconsumed before.book

-- a step that does nothing
pub Covers-still : (s : Object) → Covers s s 0 0
Covers-still s = omega arith

-- a test of what is given back gives back no more
pub cond-le : (b : Bool) (n : ℕ) → cond b n 0 ≤ n
cond-le true n = omega arith
cond-le false n = omega arith

-- a drop of a grant
pub Covers-undone : (most names : ℕ) (s : Object) (name : ℕ) (request : Request) → is_waiting (entry_at s.book name) ≡ false
    → grant_of (entry_at s.book name) ≡ permits_of request → IsFineSemaphore most s.held → IsKept names s
    → Covers s (undone_of (with_entry s name Idle) s.held request) 0 0
Covers-undone most names s name request still grant fine kept =
    let idle : Object = with_entry s name Idle in
    let step = (IsKept-written names s name Idle still refl refl kept).in_step in
    rw (undone-is most idle s.held request fine)
    (omega (
      arith,
      out-given_back most idle request fine step,
      unconsumed-given_back idle request,
      unconsumed-emptied s.book name,
      cond-le (given_back idle request).reply (permits_of request),
    ))

-- a drop of a name with this entry
pub Covers-dropped_of : (most names : ℕ) (s : Object) (name : ℕ) (entry : Entry) → entry_at s.book name ≡ entry
    → IsFineSemaphore most s.held → IsKept names s
    → Covers s (dropped_of s name entry) 0 0
Covers-dropped_of most names s name Idle at fine kept = Covers-still s
Covers-dropped_of most names s name (Waiting request is_sync) at fine kept =
    let left : Object = record (with_entry s name Idle) { line = without name s.line } in
    rw (left-is most left s.held fine)
    (omega (
      arith,
      out-settled most left fine (IsKept-left names s name kept).in_step,
      unconsumed-settled left,
      unconsumed-emptied s.book name,
    ))
Covers-dropped_of most names s name (Answered value request is_sync slotted) at fine kept = elim (cases_Bool (eqb value granted_value)) [
  | inl e ↦ rw e (Covers-undone most names s name request (ap is_waiting at)
      (ap grant_of at ∙ ap {B = ℕ} (λ b. cond b (permits_of request) 0) e) fine kept)
  | inr e ↦ rw e (omega (arith, unconsumed-emptied s.book name))
]

-- a poll in the right mode or not
pub Covers-polled_in : (s : Object) (name : ℕ) (entry : Entry) (is_right : Bool) → entry_at s.book name ≡ entry
    → Covers s (polled_in s name entry is_right).state
    (cond (has_value (semaphore_value (polled_in s name entry is_right).reply)) (grant_of (entry_at s.book name)) 0) 0
Covers-polled_in s name entry false at = Covers-still s
Covers-polled_in s name Idle true at = Covers-still s
Covers-polled_in s name (Waiting request is_sync) true at = Covers-still s
Covers-polled_in s name (Answered value request is_sync slotted) true at =
    omega (arith, unconsumed-emptied s.book name, cond-le (has_value (semaphore_value (Ok value))) (grant_of (entry_at s.book name)))

-- every poll
pub Covers-polled_of : (s : Object) (name : ℕ) (how : How) (entry : Entry) → entry_at s.book name ≡ entry
    → Covers s (polled_of s name how entry).state
    (cond (has_value (semaphore_value (polled_of s name how entry).reply)) (grant_of (entry_at s.book name)) 0) 0
Covers-polled_of s name how Idle at = Covers-still s
Covers-polled_of s name how (Waiting request is_sync) at = Covers-polled_in s name (Waiting request is_sync) (is_right_mode how is_sync) at
Covers-polled_of s name how (Answered value request is_sync slotted) at =
    Covers-polled_in s name (Answered value request is_sync slotted) (is_right_mode how is_sync) at

-- a try
pub Covers-tried : (most : ℕ) (s : Object) (request : Request) → IsFineSemaphore most s.held
    → Covers s (tried s request).state (cond (tried s request).reply (permits_of request) 0) 0
Covers-tried most s request fine = elim (cases_Bool (is_granted_at_once s request)) [
  | inl e ↦ rw e (omega (arith, out-added most s.held request fine (and_parts (is_nobody s.line) (fits s.held request) e).1))
  | inr e ↦ rw e (Covers-still s)
]

-- an entry's grant is no more than its permits
pub grant_of-le : (value : ℕ) (request : Request) (is_sync slotted : Bool) → grant_of (Answered value request is_sync slotted) ≤ permits_of request
grant_of-le value request is_sync slotted = cond-le (eqb value granted_value) (permits_of request)

-- a registration that a semaphore answers at once
pub Covers-granted : (most : ℕ) (s : Object) (held : Held) (name : ℕ) (request : Request) (is_sync : Bool) (answer : After ℕ) → IsFineSemaphore most held
    → IsFineSemaphore most s.held → name < length s.book → answer_in s held request ≡ Some answer
    → Covers s (with_entry answer.state name (Answered answer.reply request is_sync false)) 0 0
Covers-granted most s (OfSemaphore bound out) name request is_sync answer is fine within e =
    let parts = cond_some (is_granted_at_once s request) (record { state = record s { held = plus s.held request }; reply = granted_value }) answer e in
    rw (← parts.1) (omega (
      arith,
      out-added most s.held request fine (and_parts (is_nobody s.line) (fits s.held request) parts.0).1,
      unconsumed-set s.book name (Answered granted_value request is_sync false) within,
      grant_of-le granted_value request is_sync false,
    ))
Covers-granted most s (OfShutSemaphore bound out) name request is_sync answer is fine within e =
    let same : ◌≡◌ {A = After ℕ} (record { state = s; reply = closed_value }) answer = cc in
    rw (← same) (omega (arith, unconsumed-set s.book name (Answered closed_value request is_sync false) within))
Covers-granted most s (OfLock lock) name request is_sync answer is fine within e = absurd is
Covers-granted most s (OfGate gate) name request is_sync answer is fine within e = absurd is
Covers-granted most s (OfBarrier size arrived round) name request is_sync answer is fine within e = absurd is

-- a registration, by its four cases
pub Covers-registered_of : (most : ℕ) (s : Object) (name : ℕ) (request : Request) (is_sync is_refused : Bool) (answer : Option (After ℕ)) (is_full : Bool)
    → name < length s.book → answer_at_once s request ≡ answer → IsFineSemaphore most s.held
    → Covers s (registered_of s name request is_sync is_refused answer is_full).state 0 0
Covers-registered_of most s name request is_sync true answer is_full within e fine = Covers-still s
Covers-registered_of most s name request is_sync false (Some answer) is_full within e fine =
    Covers-granted most s s.held name request is_sync answer fine fine within e
Covers-registered_of most s name request is_sync false None true within e fine = Covers-still s
Covers-registered_of most s name request is_sync false None false within e fine =
    omega (arith, unconsumed-set s.book name (Waiting request is_sync) within)

-- a call that is told that the semaphore is shut has no grant by it
pub grant_of-closed : (entry : Entry) → grant_of (answered_entry closed_value entry) ≡ grant_of entry
grant_of-closed Idle = refl
grant_of-closed (Waiting request is_sync) = refl
grant_of-closed (Answered value request is_sync slotted) = refl

-- nor has a line of such
pub unconsumed-closed : (line : List Waiter) (book : List Entry) → unconsumed (answered_in closed_value line book) ≡ unconsumed book
unconsumed-closed [] book = refl
unconsumed-closed (waiter ∷ line) book =
    let closed : Entry = answered_entry closed_value (entry_at book waiter.0) in
    unconsumed-closed line (set book waiter.0 closed) ∙ elim (cases_lt waiter.0 (length book)) [
      | inl within ↦ omega (arith, unconsumed-set book waiter.0 closed within, grant_of-closed (entry_at book waiter.0))
      | inr past ↦ ap unconsumed (set_past book waiter.0 closed past)
    ]

-- a shut
pub Covers-shut_of : (s : Object) (held : Held) → s.held ≡ held → Covers s (shut_of s held).state 0 0
Covers-shut_of s (OfSemaphore bound out) is = omega (arith, ap out_of is, unconsumed-closed s.line s.book)
Covers-shut_of s (OfShutSemaphore bound out) is = Covers-still s
Covers-shut_of s (OfLock lock) is = Covers-still s
Covers-shut_of s (OfGate gate) is = Covers-still s
Covers-shut_of s (OfBarrier size arrived round) is = Covers-still s

-- every command
pub Covers-done : (most names : ℕ) (command : CommandOf SemaphoreCall ℕ) (s : Object) → IsWithin names command → IsRightSemaphore most names s
    → Covers s (done Permits semaphore_step semaphore_value command s).state
    (taken_in_hand_by (step_of Permits semaphore_step semaphore_value command s)) (released_by (step_of Permits semaphore_step semaphore_value command s))
Covers-done most names (Call (TryAcquireMany n)) s within right = Covers-tried most s (Permits n) right.kind.fine
Covers-done most names (Call (ReleaseMany n)) s within right =
    omega (arith, out-given_back most s (Permits n) right.kind.fine right.kept.in_step, unconsumed-given_back s (Permits n))
Covers-done most names (Call AvailablePermits) s within right = Covers-still s
Covers-done most names (Call IsOpen) s within right = Covers-still s
Covers-done most names (Call IsClosed) s within right = Covers-still s
Covers-done most names (Call Shut) s within right = Covers-shut_of s s.held refl
Covers-done most names (Call IsShut) s within right = Covers-still s
Covers-done most names (Register name n is_sync) s within right =
    Covers-registered_of most s name (Permits n) is_sync _ (answer_at_once s (Permits n)) _ (omega (arith, right.kept.size)) refl right.kind.fine
Covers-done most names (TryPoll name) s within right = Covers-polled_of s name Try (entry_at s.book name) refl
Covers-done most names (PollSync name) s within right = Covers-polled_of s name Sync (entry_at s.book name) refl
Covers-done most names (PollAsync name) s within right = Covers-polled_of s name Async (entry_at s.book name) refl
Covers-done most names (Drop name) s within right = Covers-dropped_of most names s name (entry_at s.book name) refl right.kind.fine right.kept
Covers-done most names (Leave name) s within right =
    rw (withdrawn-dropped s name (entry_at s.book name) (no_gate-semaphore most s.held right.kind.fine))
    (Covers-dropped_of most names s name (entry_at s.book name) refl right.kind.fine right.kept)

-- every run of a semaphore that is right
pub covered-run : (most names : ℕ) (commands : List (CommandOf SemaphoreCall ℕ)) (s : Object) → AllByRecursion (IsWithin names) commands
    → IsRightSemaphore most names s
    → sum_by taken_in_hand_by (steps Permits semaphore_step semaphore_value commands s)
    + unconsumed (state_after Permits semaphore_step semaphore_value commands s).book + out_of s.held
    ≤ out_of (state_after Permits semaphore_step semaphore_value commands s).held
    + sum_by released_by (steps Permits semaphore_step semaphore_value commands s) + unconsumed s.book
covered-run most names [] s within right = omega arith
covered-run most names (command ∷ commands) s within right =
    let step : SemaphoreStep = step_of Permits semaphore_step semaphore_value command s in
    let run : List SemaphoreStep = steps Permits semaphore_step semaphore_value commands step.after.state in
    let after = IsRight-done (Grants (IsFineSemaphore most) (OfSemaphore most 0)) names Permits semaphore_step semaphore_value
    (KeepsRight-semaphore most names) command s within.0 right in
    omega (
      arith,
      Covers-done most names command s within.0 right,
      covered-run most names commands step.after.state within.1 after,
      sum_by-cons taken_in_hand_by step run,
      sum_by-cons released_by step run,
    )

-- what is out is given back
pub reply-given_back : (most : ℕ) (s : Object) (held : Held) (n : ℕ) (is_nothing : Bool) → IsFineSemaphore most held → n ≤ out_of held
    → (given_back_of s is_nothing (less held (Permits n))).reply ≡ true
reply-given_back most s held n true fine within = refl
reply-given_back most s (OfSemaphore bound out) n false fine within =
    let enough : leb n out ≡ true = le-leb n out within in rw enough refl
reply-given_back most s (OfShutSemaphore bound out) n false fine within =
    let enough : leb n out ≡ true = le-leb n out within in rw enough refl
reply-given_back most s (OfLock lock) n false fine within = absurd fine
reply-given_back most s (OfGate gate) n false fine within = absurd fine
reply-given_back most s (OfBarrier size arrived round) n false fine within = absurd fine

-- a drop of a grant of what is out
pub dropped_grant-whole : (most : ℕ) (s : Object) (entry : Entry) (n : ℕ) (is_sync slotted : Bool) → entry ≡ Answered granted_value (Permits n) is_sync slotted
    → IsFineSemaphore most s.held → n ≤ out_of s.held → dropped_grant s entry ≡ n
dropped_grant-whole most s entry n is_sync slotted at fine within =
    ap (dropped_grant s) at
    ∙ ap {B = ℕ} (λ b. cond b n 0) (reply-given_back most s s.held n (is_for_nothing (Permits n)) fine within)

-- so where no more was released than was withheld or taken in hand, a drop gives back all of a grant
pub dropped-whole : (bound permits room names : ℕ) (commands : List (CommandOf SemaphoreCall ℕ)) (name n : ℕ) (is_sync slotted : Bool)
    → All (IsWithin names) commands
    → sum_by released_by (semaphore_run bound permits room names commands)
    ≤ (bound - min permits bound) + sum_by taken_in_hand_by (semaphore_run bound permits room names commands)
    → entry_at (state_after Permits semaphore_step semaphore_value commands (new_semaphore bound permits room names)).book name
    ≡ Answered granted_value (Permits n) is_sync slotted
    → given_back_by (step_of Permits semaphore_step semaphore_value (Drop name)
    (state_after Permits semaphore_step semaphore_value commands (new_semaphore bound permits room names))) ≡ n
dropped-whole bound permits room names commands name n is_sync slotted within own at =
    let made : IsRightSemaphore bound names (new_semaphore bound permits room names) = record {
      kept = IsKept-newly_made (OfSemaphore bound (bound - min permits bound)) room names;
      kind = record { fine = (refl, omega arith); front = refl; asks = tt; refused = λ refuses. refl };
    } in
    let end = IsRight-state_after (Grants (IsFineSemaphore bound) (OfSemaphore bound 0)) names Permits semaphore_step semaphore_value
    (KeepsRight-semaphore bound names) commands (new_semaphore bound permits room names) within made in
    let book = (state_after Permits semaphore_step semaphore_value commands (new_semaphore bound permits room names)).book in
    let grant : grant_of (entry_at book name) ≡ n = ap grant_of at in
    dropped_grant-whole bound _ (entry_at book name) n is_sync slotted at end.kind.fine
    (omega (
      arith,
      own,
      grant,
      unconsumed-at book name,
      unconsumed-replicate names,
      covered-run bound names commands (new_semaphore bound permits room names) (recursion_from_All (IsWithin names) commands within) made,
    ))

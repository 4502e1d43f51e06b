-- A semaphore that is shut stays so: its waiters are answered, and nothing is granted from then on.
use Rattle.std.proofs.Common.{◌≡◌, ℕ, ◌+◌, ◌-◌, ◌≤◌, min, Bool, true, false, not, ◌||◌, eqb, leb, List, [], ◌∷◌, take, Option, Some, None, Result, Ok, refl, sym, ap, ◌∙◌, inl, inr, arith, All}
use Rattle.std.proofs.lemmas.Bool.{cases_Bool, and_parts, le-leb, le-ltb}
use Rattle.std.proofs.lemmas.Option.{cond_some}
use Rattle.saa_core_spec.specs.declared.request.Request.{Request}
use Rattle.saa_core_spec.specs.declared.request.Request.TheVariants.{Exclusive as AskExclusive, Shared as AskShared, WaitExclusive, WaitShared, Permits, Enter, Arrive}
use Rattle.saa_core_spec.specs.declared.request.Full.{Full}
use Rattle.saa_core_spec.specs.declared.polling.How.{How}
use Rattle.saa_core_spec.specs.declared.polling.How.TheVariants.{Try, Sync, Async}
use Rattle.saa_core_spec.specs.declared.semaphore.SemaphoreCall.{SemaphoreCall}
use Rattle.saa_core_spec.specs.declared.semaphore.SemaphoreCall.TheVariants.{TryAcquireMany, ReleaseMany, AvailablePermits, IsOpen, IsClosed, Shut, IsShut}
use Rattle.saa_core_spec.specs.declared.run.CommandOf.{CommandOf}
use Rattle.saa_core_spec.specs.declared.run.CommandOf.TheVariants.{Call, Register, TryPoll, PollSync, PollAsync, Drop, Leave}
use Rattle.saa_core_spec.specs.Held.{Held, OfSemaphore, OfShutSemaphore, OfLock, OfGate, OfBarrier, fits, plus, less, asks_too_much}
use Rattle.saa_core_spec.specs.Object.{Object, After, Entry, Idle, Waiting, Answered, Waiter, entry_at, with_entry, used, is_nobody, without}
use Rattle.saa_core_spec.specs.Settling.{fitting_front, plus_all, answered_entry, settled}
use Rattle.saa_core_spec.specs.Asking.{is_idle, is_granted_at_once, tried, answer_in, answer_at_once, registered_of, registered}
use Rattle.saa_core_spec.specs.Polling.{is_right_mode, polled_in, polled_of, is_for_nothing, given_back_of, given_back, left_of, quietly_left_of, undone_of, dropped_of, withdrawn_of}
use Rattle.saa_core_spec.specs.Values.{semaphore_value, granted_value, closed_value}
use Rattle.saa_core_spec.specs.Semaphore.{semaphore_step, new_semaphore, bound_of, out_of, is_shut, shut_of}
use Rattle.saa_core_spec.specs.Run.{IsWithin, done, state_after}
use Rattle.saa_core_spec.proofs.Counts.{same_number}
use Rattle.saa_core_spec.proofs.Refusing.{fits-refusing}
use Rattle.saa_core_laws.specs.Laws.{is_waiting}
use Rattle.saa_core_laws.specs.RunLaws.{NobodyWaits}
use Rattle.saa_core_laws.proofs.Kept.{IsKept, IsKept-newly_made, IsKept-held}
use Rattle.saa_core_laws.proofs.Commands.{IsRight, IsRight-state_after}
use Rattle.saa_core_laws.proofs.Grants.{Grants}
use Rattle.saa_core_laws.proofs.SemaphoreLaws.{IsFineSemaphore, KeepsRight-semaphore, shut-refuses, semaphore-in_order}
use Rattle.saa_core_laws.proofs.Books.{entry_at-answered_in}
use Rattle.saa_core_laws.proofs.Rounds.{passes}
use Rattle.saa_core_laws.proofs.Waits.{shut_semaphore-nobody_waits}

-- nothing is added to what is shut
pub plus_all-shut : (held : Held) (line : List Waiter) → is_shut held ≡ true → plus_all held line ≡ held
plus_all-shut held [] e = refl
plus_all-shut (OfShutSemaphore bound out) (waiter ∷ line) e = plus_all-shut (OfShutSemaphore bound out) line e
plus_all-shut (OfSemaphore bound out) (waiter ∷ line) e = cc
plus_all-shut (OfLock lock) (waiter ∷ line) e = cc
plus_all-shut (OfGate gate) (waiter ∷ line) e = cc
plus_all-shut (OfBarrier size arrived round) (waiter ∷ line) e = cc

-- so settling changes nothing of it
pub held-settled_shut : (s : Object) → is_shut s.held ≡ true → (settled s).held ≡ s.held
unfolding settled
held-settled_shut s shut = plus_all-shut s.held (take (fitting_front s.held s.line) s.line) shut

pub is_shut-settled : (s : Object) → is_shut s.held ≡ true → is_shut (settled s).held ≡ true
is_shut-settled s shut = ap is_shut (held-settled_shut s shut) ∙ shut

-- what is left of it is shut
pub is_shut-less : (held rest : Held) (request : Request) → is_shut held ≡ true → less held request ≡ Some rest → is_shut rest ≡ true
is_shut-less (OfShutSemaphore bound out) rest (Permits n) shut e =
    let parts = cond_some (leb n out) (OfShutSemaphore bound (out - n)) rest e in
    rw (← parts.1) refl
is_shut-less (OfShutSemaphore bound out) rest AskExclusive shut e = cc
is_shut-less (OfShutSemaphore bound out) rest AskShared shut e = cc
is_shut-less (OfShutSemaphore bound out) rest WaitExclusive shut e = cc
is_shut-less (OfShutSemaphore bound out) rest WaitShared shut e = cc
is_shut-less (OfShutSemaphore bound out) rest Enter shut e = cc
is_shut-less (OfShutSemaphore bound out) rest Arrive shut e = cc
is_shut-less (OfSemaphore bound out) rest request shut e = cc
is_shut-less (OfLock lock) rest request shut e = cc
is_shut-less (OfGate gate) rest request shut e = cc
is_shut-less (OfBarrier size arrived round) rest request shut e = cc

-- giving back
pub is_shut-given_back_of : (s : Object) (request : Request) (is_nothing : Bool) (rest : Option Held) → less s.held request ≡ rest
    → is_shut s.held ≡ true → is_shut (given_back_of s is_nothing rest).state.held ≡ true
is_shut-given_back_of s request true rest e shut = shut
is_shut-given_back_of s request false None e shut = shut
is_shut-given_back_of s request false (Some rest) e shut = is_shut-settled (record s { held = rest }) (is_shut-less s.held rest request shut e)

pub is_shut-given_back : (s : Object) (request : Request) → is_shut s.held ≡ true → is_shut (given_back s request).state.held ≡ true
is_shut-given_back s request shut = is_shut-given_back_of s request (is_for_nothing request) (less s.held request) refl shut

-- nothing is granted at once there
pub granted_at_once-shut : (s : Object) (request : Request) → is_shut s.held ≡ true → is_granted_at_once s request ≡ false
granted_at_once-shut s request shut = elim (cases_Bool (is_granted_at_once s request)) [
  | inl granted ↦
      let fit = (and_parts (is_nobody s.line) (fits s.held request) granted).1 in
      let none = fits-refusing s.held request (shut-refuses s.held shut) in
      cc
  | inr none ↦ none
]

-- so every try is false, and changes nothing
pub tried-shut : (s : Object) (request : Request) → is_shut s.held ≡ true → tried s request ≡ record { state = s; reply = false }
tried-shut s request shut = rw (granted_at_once-shut s request shut) refl

-- a registration is answered that it is shut
pub answer_in-shut : (s : Object) (held : Held) (request : Request) → is_shut held ≡ true
    → answer_in s held request ≡ Some (record { state = s; reply = closed_value })
answer_in-shut s (OfShutSemaphore bound out) request shut = refl
answer_in-shut s (OfSemaphore bound out) request shut = cc
answer_in-shut s (OfLock lock) request shut = cc
answer_in-shut s (OfGate gate) request shut = cc
answer_in-shut s (OfBarrier size arrived round) request shut = cc

-- and asks for no more than there are permits
pub asks_too_much-shut : (held : Held) (n : ℕ) → is_shut held ≡ true → n ≤ bound_of held → asks_too_much held (Permits n) ≡ false
asks_too_much-shut (OfShutSemaphore bound out) n shut within = le-ltb bound n within
asks_too_much-shut (OfSemaphore bound out) n shut within = cc
asks_too_much-shut (OfLock lock) n shut within = cc
asks_too_much-shut (OfGate gate) n shut within = cc
asks_too_much-shut (OfBarrier size arrived round) n shut within = cc

-- an idle name that registers has its answer at once, and nothing else changes
pub registered-shut : (s : Object) (name n : ℕ) (is_sync : Bool) → is_shut s.held ≡ true → entry_at s.book name ≡ Idle → n ≤ bound_of s.held
    → registered s name (Permits n) is_sync
    ≡ record { state = with_entry s name (Answered closed_value (Permits n) is_sync false); reply = Ok true }
registered-shut s name n is_sync shut idle within =
    let is_refused : (not (is_idle (entry_at s.book name)) || asks_too_much s.held (Permits n)) ≡ false =
    ap (λ entry. not (is_idle entry) || asks_too_much s.held (Permits n)) idle ∙ asks_too_much-shut s.held n shut within in
    ap (λ refused. registered_of s name (Permits n) is_sync refused (answer_at_once s (Permits n)) (eqb (used s) s.room)) is_refused
    ∙ ap (λ answer. registered_of s name (Permits n) is_sync false answer (eqb (used s) s.room)) (answer_in-shut s s.held (Permits n) shut)

-- a registration leaves it shut, whoever registers
pub is_shut-registered_of : (s : Object) (name : ℕ) (request : Request) (is_sync is_refused : Bool) (answer : Option (After ℕ)) (is_full : Bool)
    → answer_at_once s request ≡ answer → is_shut s.held ≡ true
    → is_shut (registered_of s name request is_sync is_refused answer is_full).state.held ≡ true
is_shut-registered_of s name request is_sync true answer is_full e shut = shut
is_shut-registered_of s name request is_sync false (Some answer) is_full e shut =
    let closed : ◌≡◌ {A = Option (After ℕ)} (Some (record { state = s; reply = closed_value })) (Some answer) = sym (answer_in-shut s s.held request shut) ∙ e in
    let same : ◌≡◌ {A = After ℕ} (record { state = s; reply = closed_value }) answer = cc in
    ap (λ (a : After ℕ). is_shut a.state.held) (sym same) ∙ shut
is_shut-registered_of s name request is_sync false None true e shut = shut
is_shut-registered_of s name request is_sync false None false e shut = shut

-- and so does a poll, in the right mode or not
pub is_shut-polled_in : (s : Object) (name : ℕ) (entry : Entry) (is_right : Bool) → is_shut s.held ≡ true
    → is_shut (polled_in s name entry is_right).state.held ≡ true
is_shut-polled_in s name entry false shut = shut
is_shut-polled_in s name Idle true shut = shut
is_shut-polled_in s name (Waiting request is_sync) true shut = shut
is_shut-polled_in s name (Answered value request is_sync slotted) true shut = shut

pub is_shut-polled_of : (s : Object) (name : ℕ) (how : How) (entry : Entry) → is_shut s.held ≡ true
    → is_shut (polled_of s name how entry).state.held ≡ true
is_shut-polled_of s name how Idle shut = shut
is_shut-polled_of s name how (Waiting request is_sync) shut = is_shut-polled_in s name (Waiting request is_sync) (is_right_mode how is_sync) shut
is_shut-polled_of s name how (Answered value request is_sync slotted) shut =
    is_shut-polled_in s name (Answered value request is_sync slotted) (is_right_mode how is_sync) shut

-- and a drop
pub is_shut-left_of : (s : Object) (held : Held) → is_shut s.held ≡ true → is_shut (left_of s held).held ≡ true
is_shut-left_of s (OfSemaphore bound out) shut = is_shut-settled s shut
is_shut-left_of s (OfShutSemaphore bound out) shut = is_shut-settled s shut
is_shut-left_of s (OfLock lock) shut = is_shut-settled s shut
is_shut-left_of s (OfGate gate) shut = shut
is_shut-left_of s (OfBarrier size arrived round) shut = shut

pub is_shut-undone_of : (s : Object) (held : Held) (request : Request) → is_shut s.held ≡ true → is_shut (undone_of s held request).held ≡ true
is_shut-undone_of s (OfSemaphore bound out) request shut = is_shut-given_back s request shut
is_shut-undone_of s (OfShutSemaphore bound out) request shut = is_shut-given_back s request shut
is_shut-undone_of s (OfLock lock) request shut = is_shut-given_back s request shut
is_shut-undone_of s (OfGate gate) request shut = shut
is_shut-undone_of s (OfBarrier size arrived round) request shut = shut

pub is_shut-dropped_of : (s : Object) (name : ℕ) (entry : Entry) → is_shut s.held ≡ true → is_shut (dropped_of s name entry).held ≡ true
is_shut-dropped_of s name Idle shut = shut
is_shut-dropped_of s name (Waiting request is_sync) shut =
    is_shut-left_of (record (with_entry s name Idle) { line = without name s.line }) s.held shut
is_shut-dropped_of s name (Answered value request is_sync slotted) shut = elim (cases_Bool (eqb value granted_value)) [
  | inl e ↦ rw e (is_shut-undone_of (with_entry s name Idle) s.held request shut)
  | inr e ↦ rw e shut
]

pub is_shut-quietly_left_of : (s : Object) (held : Held) → is_shut s.held ≡ true → is_shut (quietly_left_of s held).held ≡ true
is_shut-quietly_left_of s (OfSemaphore bound out) shut = is_shut-left_of s (OfSemaphore bound out) shut
is_shut-quietly_left_of s (OfShutSemaphore bound out) shut = is_shut-left_of s (OfShutSemaphore bound out) shut
is_shut-quietly_left_of s (OfLock lock) shut = is_shut-left_of s (OfLock lock) shut
is_shut-quietly_left_of s (OfGate gate) shut = shut
is_shut-quietly_left_of s (OfBarrier size arrived round) shut = shut

pub is_shut-withdrawn_of : (s : Object) (name : ℕ) (entry : Entry) → is_shut s.held ≡ true → is_shut (withdrawn_of s name entry).held ≡ true
is_shut-withdrawn_of s name Idle shut = shut
is_shut-withdrawn_of s name (Waiting request is_sync) shut =
    is_shut-quietly_left_of (record (with_entry s name Idle) { line = without name s.line }) s.held shut
is_shut-withdrawn_of s name (Answered value request is_sync slotted) shut =
    is_shut-dropped_of s name (Answered value request is_sync slotted) shut

-- a shut of what is shut changes nothing
pub is_shut-shut_of : (s : Object) (held : Held) → is_shut s.held ≡ true → is_shut (shut_of s held).state.held ≡ true
is_shut-shut_of s (OfSemaphore bound out) shut = refl
is_shut-shut_of s (OfShutSemaphore bound out) shut = shut
is_shut-shut_of s (OfLock lock) shut = shut
is_shut-shut_of s (OfGate gate) shut = shut
is_shut-shut_of s (OfBarrier size arrived round) shut = shut

-- so no command opens it
pub is_shut-done : (command : CommandOf SemaphoreCall ℕ) (s : Object) → is_shut s.held ≡ true
    → is_shut (done Permits semaphore_step semaphore_value command s).state.held ≡ true
is_shut-done (Call (TryAcquireMany n)) s shut = ap (λ (after : After Bool). is_shut after.state.held) (tried-shut s (Permits n) shut) ∙ shut
is_shut-done (Call (ReleaseMany n)) s shut = is_shut-given_back s (Permits n) shut
is_shut-done (Call AvailablePermits) s shut = shut
is_shut-done (Call IsOpen) s shut = shut
is_shut-done (Call IsClosed) s shut = shut
is_shut-done (Call Shut) s shut = is_shut-shut_of s s.held shut
is_shut-done (Call IsShut) s shut = shut
is_shut-done (Register name n is_sync) s shut = is_shut-registered_of s name (Permits n) is_sync _ (answer_at_once s (Permits n)) _ refl shut
is_shut-done (TryPoll name) s shut = is_shut-polled_of s name Try (entry_at s.book name) shut
is_shut-done (PollSync name) s shut = is_shut-polled_of s name Sync (entry_at s.book name) shut
is_shut-done (PollAsync name) s shut = is_shut-polled_of s name Async (entry_at s.book name) shut
is_shut-done (Drop name) s shut = is_shut-dropped_of s name (entry_at s.book name) shut
is_shut-done (Leave name) s shut = is_shut-withdrawn_of s name (entry_at s.book name) shut

-- and no list of them
pub is_shut-run : (commands : List (CommandOf SemaphoreCall ℕ)) (s : Object) → is_shut s.held ≡ true
    → is_shut (state_after Permits semaphore_step semaphore_value commands s).held ≡ true
is_shut-run [] s shut = shut
is_shut-run (command ∷ commands) s shut =
    is_shut-run commands (done Permits semaphore_step semaphore_value command s).state (is_shut-done command s shut)

-- what is out comes back
pub less-shut : (held : Held) (n : ℕ) → is_shut held ≡ true → n ≤ out_of held
    → (rest : Held) × (less held (Permits n) ≡ Some rest) × (is_shut rest ≡ true) × (out_of rest + n ≡ out_of held)
less-shut (OfShutSemaphore bound out) n shut within =
    let enough : leb n out ≡ true = le-leb n out within in
    (OfShutSemaphore bound (out - n), rw enough refl, refl, omega arith)
less-shut (OfSemaphore bound out) n shut within = cc
less-shut (OfLock lock) n shut within = cc
less-shut (OfGate gate) n shut within = cc
less-shut (OfBarrier size arrived round) n shut within = cc

pub given_back-shut : (s : Object) (n : ℕ) → is_shut s.held ≡ true → n ≤ out_of s.held
    → ((given_back s (Permits n)).reply ≡ true) × (out_of (given_back s (Permits n)).state.held + n ≡ out_of s.held)
given_back-shut s n shut within = elim (cases_Bool (eqb n 0)) [
  | inl none ↦ rw none (refl, omega (arith, same_number n 0 none))
  | inr some ↦
      let left = less-shut s.held n shut within in
      rw some (rw (left.1) (refl, ap (λ held. out_of held + n) (held-settled_shut (record s { held = left.0 }) left.2) ∙ left.3))
]

-- who doesn't wait isn't answered by it
pub answered_entry-still : (value : ℕ) (entry : Entry) → is_waiting entry ≡ false → answered_entry value entry ≡ entry
answered_entry-still value Idle still = refl
answered_entry-still value (Waiting request is_sync) still = cc
answered_entry-still value (Answered was request is_sync slotted) still = refl

pub others-shut_of : (s : Object) (held : Held) (name : ℕ) → is_waiting (entry_at s.book name) ≡ false
    → entry_at (shut_of s held).state.book name ≡ entry_at s.book name
others-shut_of s (OfSemaphore bound out) name still = elim (entry_at-answered_in closed_value s.line s.book name) [
  | inl same ↦ same
  | inr closed ↦ closed ∙ answered_entry-still closed_value (entry_at s.book name) still
]
others-shut_of s (OfShutSemaphore bound out) name still = refl
others-shut_of s (OfLock lock) name still = refl
others-shut_of s (OfGate gate) name still = refl
others-shut_of s (OfBarrier size arrived round) name still = refl

pub others-shut : (s : Object) (name : ℕ) → is_waiting (entry_at s.book name) ≡ false
    → entry_at (semaphore_step Shut s).state.book name ≡ entry_at s.book name
others-shut s name still = others-shut_of s s.held name still

-- a waiter is
pub waiters-shut_of : (most names : ℕ) (s : Object) (held : Held) (name : ℕ) (request : Request) (is_sync : Bool) → IsFineSemaphore most held
    → IsKept names s → (is_shut held ≡ true → is_waiting (entry_at s.book name) ≡ false)
    → entry_at s.book name ≡ Waiting request is_sync
    → entry_at (shut_of s held).state.book name ≡ Answered closed_value request is_sync true
waiters-shut_of most names s (OfSemaphore bound out) name request is_sync fine kept nobody at =
    passes names closed_value (record s { held = OfShutSemaphore bound out }) name request is_sync (IsKept-held names s (OfShutSemaphore bound out) kept) at
waiters-shut_of most names s (OfShutSemaphore bound out) name request is_sync fine kept nobody at =
    let still = nobody refl in
    let waits = ap is_waiting at in
    cc
waiters-shut_of most names s (OfLock lock) name request is_sync fine kept nobody at = absurd fine
waiters-shut_of most names s (OfGate gate) name request is_sync fine kept nobody at = absurd fine
waiters-shut_of most names s (OfBarrier size arrived round) name request is_sync fine kept nobody at = absurd fine

-- after every run
pub waiters-shut : (bound permits room names : ℕ) (commands : List (CommandOf SemaphoreCall ℕ)) (name : ℕ) (request : Request) (is_sync : Bool)
    → All (IsWithin names) commands
    → entry_at (state_after Permits semaphore_step semaphore_value commands (new_semaphore bound permits room names)).book name ≡ Waiting request is_sync
    → entry_at (semaphore_step Shut (state_after Permits semaphore_step semaphore_value commands (new_semaphore bound permits room names))).state.book name
    ≡ Answered closed_value request is_sync true
waiters-shut bound permits room names commands name request is_sync within at =
    let right = IsRight-state_after (Grants (IsFineSemaphore bound) (OfSemaphore bound 0)) names Permits semaphore_step semaphore_value
    (KeepsRight-semaphore bound names) commands (new_semaphore bound permits room names) within
    (record {
      kept = IsKept-newly_made (OfSemaphore bound (bound - min permits bound)) room names;
      kind = record { fine = (refl, omega arith); front = refl; asks = tt; refused = λ refuses. refl };
    }) in
    waiters-shut_of bound names _ _ name request is_sync right.kind.fine right.kept
    (λ shut. (shut_semaphore-nobody_waits bound permits room names commands within shut).book name) at

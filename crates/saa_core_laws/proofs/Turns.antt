-- A semaphore and a lock answer the waiters in the order of the line.
use Rattle.std.proofs.Common.{◌≡◌, ℕ, zero, suc, ◌<◌, ◌≤◌, Bool, true, false, eqb, ◌⊎◌, inl, inr, List, [], ◌∷◌, ◌++◌, drop, Option, Some, None, slice_get, refl, sym, ap, ◌∙◌, arith, subst}
use Rattle.std.specs.Prelude.{Result}
use Rattle.std.proofs.lemmas.Bool.{cases_Bool, cases_eq, eqb-true}
use Rattle.std.proofs.lemmas.Option.{cond_some}
use Rattle.saa_core_spec.specs.declared.request.Request.{Request}
use Rattle.saa_core_spec.specs.declared.request.Request.TheVariants.{Exclusive as AskExclusive, Shared as AskShared, Permits}
use Rattle.saa_core_spec.specs.declared.polling.How.TheVariants.{Try, Sync, Async}
use Rattle.saa_core_spec.specs.declared.polling.Error.{Error}
use Rattle.saa_core_spec.specs.declared.semaphore.SemaphoreCall.{SemaphoreCall}
use Rattle.saa_core_spec.specs.declared.semaphore.SemaphoreCall.TheVariants.{TryAcquireMany, ReleaseMany, AvailablePermits, IsOpen, IsClosed, Shut, IsShut}
use Rattle.saa_core_spec.specs.declared.lock.LockCall.{LockCall}
use Rattle.saa_core_spec.specs.declared.lock.LockCall.TheVariants.{TryLock, TryShare, ReleaseLock, ReleaseShare, Downgrade, PoisonLock, ClearPoison, IsFree, IsLocked, IsShared, IsPoisoned}
use Rattle.saa_core_spec.specs.declared.run.CommandOf.{CommandOf}
use Rattle.saa_core_spec.specs.declared.run.CommandOf.TheVariants.{Call, Register, TryPoll, PollSync, PollAsync, Drop, Leave}
use Rattle.saa_core_spec.specs.Held.{Held, OfSemaphore, OfShutSemaphore, OfLock, OfGate, OfBarrier, Free, Exclusive, Shared, Poisoned, plus, less}
use Rattle.saa_core_spec.specs.Object.{Object, After, Entry, Idle, Waiting, Answered, Waiter, entry_at, with_entry, one_if, times, without}
use Rattle.saa_core_spec.specs.Settling.{fitting_front, settled}
use Rattle.saa_core_spec.specs.Asking.{is_granted_at_once, tried, granted_at_once, answer_in, answer_at_once, registered_of, joined}
use Rattle.saa_core_spec.specs.Polling.{polled_of, is_for_nothing, given_back_of, given_back, left_of, undone_of, dropped_of}
use Rattle.saa_core_spec.specs.Values.{granted_value, closed_value, poisoned_value}
use Rattle.saa_core_spec.specs.Semaphore.{semaphore_step, shut_of}
use Rattle.saa_core_spec.specs.Lock.{lock_step, is_locked, is_poisoned, downgraded_of, poisoned_of, cleared_of}
use Rattle.saa_core_spec.specs.Run.{done}
use Rattle.saa_core_spec.proofs.Counts.{times-take_drop, times-without_same, times-without_other, one_if-same}
use Rattle.saa_core_spec.proofs.Leaving.{withdrawn-dropped}
use Rattle.saa_core_laws.specs.Laws.{is_waiting}
use Rattle.saa_core_laws.specs.Registrations.{is_answered}
use Rattle.saa_core_laws.specs.RunLaws.{AnswersInOrder}
use Rattle.saa_core_laws.proofs.Order.{IsInStep, one_if-small, times-joined}
use Rattle.saa_core_laws.proofs.Books.{KeepsBook-settled}
use Rattle.saa_core_laws.proofs.Reading.{is_idle-emptied}
use Rattle.saa_core_laws.proofs.Rounds.{not_answered, line-polled_of}
use Rattle.saa_core_laws.proofs.Grants.{KeepsFine}

-- one name stands before another in a line
abbrev pub StandsBefore : List Waiter → ℕ → ℕ → Type 0
StandsBefore [] first second = ⊥
StandsBefore (waiter ∷ line) first second = ((waiter.0 ≡ first) × (0 < times second line)) ⊎ StandsBefore line first second

-- no name stands twice in a line
abbrev pub StandOnce : List Waiter → Type 0
StandOnce line = (name : ℕ) → times name line ≤ 1

-- a name that is read out of the line stands in it
pub times-read : (line : List Waiter) (i : ℕ) (waiter : Waiter) → slice_get line i ≡ Some waiter → 0 < times waiter.0 line
times-read [] i waiter e = cc
times-read (first ∷ line) zero waiter e =
    let same : first ≡ waiter = cc in
    omega (arith, ap (λ (w : Waiter). one_if (eqb first.0 w.0)) same, one_if-same first.0)
times-read (first ∷ line) (suc i) waiter e = omega (arith, times-read line i waiter e)

-- of two places the names stand so
pub StandsBefore-read : (line : List Waiter) (i j : ℕ) (first second : Waiter) → i < j → slice_get line i ≡ Some first → slice_get line j ≡ Some second
    → StandsBefore line first.0 second.0
StandsBefore-read [] i j first second below e f = cc
StandsBefore-read (waiter ∷ line) zero zero first second below e f = absurd (omega arith)
StandsBefore-read (waiter ∷ line) zero (suc j) first second below e f =
    let same : waiter ≡ first = cc in
    inl (ap (λ (w : Waiter). w.0) same, times-read line j second f)
StandsBefore-read (waiter ∷ line) (suc i) zero first second below e f = absurd (omega arith)
StandsBefore-read (waiter ∷ line) (suc i) (suc j) first second below e f = inr (StandsBefore-read line i j first second (omega arith) e f)

-- the second stands in the line
pub times-second : (line : List Waiter) (first second : ℕ) → StandsBefore line first second → 0 < times second line
times-second [] first second before = absurd before
times-second (waiter ∷ line) first second (inl here) = omega (arith, here.1)
times-second (waiter ∷ line) first second (inr later) = omega (arith, times-second line first second later)

-- the others of a line in which no name stands twice are such
pub StandOnce-rest : (waiter : Waiter) (line : List Waiter) → StandOnce (waiter ∷ line) → StandOnce line
StandOnce-rest waiter line once name = omega (arith, once name)

-- a line without a name is such too
pub StandOnce-without : (line : List Waiter) (name : ℕ) → StandOnce line → StandOnce (without name line)
StandOnce-without line name once other = elim (cases_eq name other) [
  | inl same ↦ omega (arith, ap (λ n. times n (without name line)) same, times-without_same name line)
  | inr apart ↦ omega (arith, times-without_other name other line apart, once other)
]

-- where the oldest leave the line, the second stays if the first does
pub times-dropped : (k : ℕ) (line : List Waiter) (first second : ℕ) → StandOnce line → StandsBefore line first second → 0 < times first (drop k line)
    → 0 < times second (drop k line)
times-dropped zero line first second once before stays = times-second line first second before
times-dropped (suc k) [] first second once before stays = absurd before
times-dropped (suc k) (waiter ∷ line) first second once (inl here) stays =
    absurd (omega (arith, once first, ap (λ n. one_if (eqb n first)) here.0, one_if-same first, times-take_drop first k line))
times-dropped (suc k) (waiter ∷ line) first second once (inr later) stays =
    times-dropped k line first second (StandOnce-rest waiter line once) later stays

-- two others stand as before where a name has left
pub StandsBefore-without : (line : List Waiter) (name first second : ℕ) → (name ≡ first → ⊥) → (name ≡ second → ⊥) → StandsBefore line first second
    → StandsBefore (without name line) first second
StandsBefore-without [] name first second not_first not_second before = before
StandsBefore-without (waiter ∷ line) name first second not_first not_second (inl here) = elim (cases_Bool (eqb waiter.0 name)) [
  | inl e ↦ absurd (not_first (sym (eqb-true waiter.0 name e) ∙ here.0))
  | inr e ↦ rw e (inl (here.0, omega (arith, here.1, times-without_other name second line not_second)))
]
StandsBefore-without (waiter ∷ line) name first second not_first not_second (inr later) = elim (cases_Bool (eqb waiter.0 name)) [
  | inl e ↦ rw e (StandsBefore-without line name first second not_first not_second later)
  | inr e ↦ rw e (inr (StandsBefore-without line name first second not_first not_second later))
]

-- What a step keeps of the order: where the first of two still stands in the line, the second does, or isn't answered
abbrev pub KeepsTurns : (before after : Object) → Type 0
KeepsTurns before after =
    (first second : ℕ) → StandsBefore before.line first second → 0 < times first after.line
    → (0 < times second after.line) ⊎ (is_answered (entry_at after.book second) ≡ false)

-- where the line stays
pub KeepsTurns-same : (before after : Object) → after.line ≡ before.line → KeepsTurns before after
KeepsTurns-same before after same first second stands stays =
    inl (omega (arith, times-second before.line first second stands, ap (times second) same))

-- where nobody waits any more
pub KeepsTurns-nobody : (before after : Object) → after.line ≡ [] → KeepsTurns before after
KeepsTurns-nobody before after nobody first second stands stays = absurd (omega (arith, ap (times first) nobody))

-- where one more waits
pub KeepsTurns-joined : (before after : Object) (name : ℕ) (request : Request) → after.line ≡ before.line ++ (name, request) ∷ [] → KeepsTurns before after
KeepsTurns-joined before after name request joined first second stands stays =
    inl (omega (arith, times-second before.line first second stands, ap (times second) joined, times-joined before.line name second request))

-- where the oldest are granted
pub KeepsTurns-settled : (before s : Object) → StandOnce before.line → s.line ≡ before.line → KeepsTurns before (settled s)
unfolding settled
KeepsTurns-settled before s once same first second stands stays =
    let k = fitting_front s.held s.line in
    let line = ap (drop k) same in
    inl (omega (
      arith,
      times-dropped k before.line first second once stands (omega (arith, stays, ap (times first) line)),
      ap (times second) line,
    ))

-- where the oldest leave the line
pub KeepsTurns-front : (before after : Object) (k : ℕ) → StandOnce before.line → after.line ≡ drop k before.line → KeepsTurns before after
KeepsTurns-front before after k once same first second stands stays =
    inl (omega (
      arith,
      times-dropped k before.line first second once stands (omega (arith, stays, ap (times first) same)),
      ap (times second) same,
    ))

-- the line that settling leaves after a name has left
pub times-settled : (s : Object) (line : List Waiter) (first second : ℕ) → s.line ≡ line → StandOnce line → StandsBefore line first second
    → 0 < times first (settled s).line → 0 < times second (settled s).line
unfolding settled
times-settled s line first second same once stands stays =
    let k = fitting_front s.held s.line in
    let dropped = ap (drop k) same in
    omega (
      arith,
      times-dropped k line first second once stands (omega (arith, stays, ap (times first) dropped)),
      ap (times second) dropped,
    )

-- a name that isn't in the line isn't in what settling leaves of it
pub times-settled_none : (s : Object) (name : ℕ) → times name s.line ≡ 0 → times name (settled s).line ≡ 0
unfolding settled
times-settled_none s name none = omega (arith, none, times-take_drop name (fitting_front s.held s.line) s.line)

-- where a name has left, and then the oldest are granted
pub KeepsTurns-left : (s : Object) (name : ℕ) → StandOnce s.line
    → KeepsTurns s (settled (record (with_entry s name Idle) { line = without name s.line }))
KeepsTurns-left s name once first second stands stays =
    let left : Object = record (with_entry s name Idle) { line = without name s.line } in
    elim (cases_eq name first) [
      | inl same ↦ absurd (omega (arith, stays, times-settled_none left first (ap (λ n. times n (without name s.line)) (sym same) ∙ times-without_same name s.line)))
      | inr not_first ↦ elim (cases_eq name second) [
        | inl same ↦ inr (
            ap (λ n. is_answered (entry_at (settled left).book n)) (sym same)
            ∙ not_answered (entry_at (settled left).book name) ((KeepsBook-settled left).idle name ∙ is_idle-emptied s.book name))
        | inr not_second ↦ inl (times-settled left (without name s.line) first second refl (StandOnce-without s.line name once)
            (StandsBefore-without s.line name first second not_first not_second stands) stays)
      ]
    ]

-- giving back, where it is nothing, where it is held, and where it isn't
pub KeepsTurns-given_back_of : (before s : Object) (is_nothing : Bool) (rest : Option Held) → StandOnce before.line → s.line ≡ before.line
    → KeepsTurns before (given_back_of s is_nothing rest).state
KeepsTurns-given_back_of before s true rest once same = KeepsTurns-same before s same
KeepsTurns-given_back_of before s false (Some rest) once same = KeepsTurns-settled before (record s { held = rest }) once same
KeepsTurns-given_back_of before s false None once same = KeepsTurns-same before s same

-- giving back any request
pub KeepsTurns-given_back : (before s : Object) (request : Request) → StandOnce before.line → s.line ≡ before.line
    → KeepsTurns before (given_back s request).state
KeepsTurns-given_back before s request once same = KeepsTurns-given_back_of before s (is_for_nothing request) (less s.held request) once same

-- a try leaves the line
pub line-tried : (s : Object) (request : Request) → (tried s request).state.line ≡ s.line
line-tried s request = elim (cases_Bool (is_granted_at_once s request)) [ inl e ↦ rw e refl | inr e ↦ rw e refl ]

-- and so does a registration that is granted at once
pub line-granted : (s : Object) (request : Request) (answer : After ℕ) → granted_at_once s request ≡ Some answer → answer.state.line ≡ s.line
line-granted s request answer e =
    let parts = cond_some (is_granted_at_once s request) (record { state = record s { held = plus s.held request }; reply = granted_value }) answer e in
    sym (ap (λ (a : After ℕ). a.state.line) parts.1)

module _ (IsFine : Held → Type 0) (keeps : KeepsFine IsFine) where
  -- or answered at once
  pub line-answered : (s : Object) (held : Held) (request : Request) (answer : After ℕ) → IsFine held → answer_in s held request ≡ Some answer
      → answer.state.line ≡ s.line
  line-answered s (OfSemaphore bound out) request answer fine e = line-granted s request answer e
  line-answered s (OfShutSemaphore bound out) request answer fine e =
      let same : ◌≡◌ {A = After ℕ} (record { state = s; reply = closed_value }) answer = cc in
      sym (ap (λ (a : After ℕ). a.state.line) same)
  line-answered s (OfLock Free) request answer fine e = line-granted s request answer e
  line-answered s (OfLock Exclusive) request answer fine e = line-granted s request answer e
  line-answered s (OfLock (Shared n)) request answer fine e = line-granted s request answer e
  line-answered s (OfLock Poisoned) request answer fine e =
      let same : ◌≡◌ {A = After ℕ} (record { state = s; reply = poisoned_value }) answer = cc in
      sym (ap (λ (a : After ℕ). a.state.line) same)
  line-answered s (OfGate gate) request answer fine e = absurd (keeps.no_gate gate fine)
  line-answered s (OfBarrier size arrived round) request answer fine e = absurd (keeps.no_barrier size arrived round fine)

  -- a registration, by its four cases
  pub KeepsTurns-registered_of : (s : Object) (name : ℕ) (request : Request) (is_sync is_refused : Bool) (answer : Option (After ℕ)) (is_full : Bool)
      → answer_at_once s request ≡ answer → IsFine s.held
      → KeepsTurns s (registered_of s name request is_sync is_refused answer is_full).state
  KeepsTurns-registered_of s name request is_sync true answer is_full e fine = KeepsTurns-same s s refl
  KeepsTurns-registered_of s name request is_sync false (Some answer) is_full e fine =
      KeepsTurns-same s (with_entry answer.state name (Answered answer.reply request is_sync false)) (line-answered s s.held request answer fine e)
  KeepsTurns-registered_of s name request is_sync false None true e fine = KeepsTurns-same s s refl
  KeepsTurns-registered_of s name request is_sync false None false e fine = KeepsTurns-joined s (joined s name request is_sync) name request refl

  -- a name that waited has left
  pub KeepsTurns-left_of : (s : Object) (held : Held) (name : ℕ) → IsFine held → StandOnce s.line
      → KeepsTurns s (left_of (record (with_entry s name Idle) { line = without name s.line }) held)
  KeepsTurns-left_of s (OfSemaphore bound out) name fine once = KeepsTurns-left s name once
  KeepsTurns-left_of s (OfShutSemaphore bound out) name fine once = KeepsTurns-left s name once
  KeepsTurns-left_of s (OfLock lock) name fine once = KeepsTurns-left s name once
  KeepsTurns-left_of s (OfGate gate) name fine once = absurd (keeps.no_gate gate fine)
  KeepsTurns-left_of s (OfBarrier size arrived round) name fine once = absurd (keeps.no_barrier size arrived round fine)

  -- what was granted is given back
  pub KeepsTurns-undone_of : (before s : Object) (held : Held) (request : Request) → StandOnce before.line → s.line ≡ before.line
      → KeepsTurns before (undone_of s held request)
  KeepsTurns-undone_of before s (OfSemaphore bound out) request once same = KeepsTurns-given_back before s request once same
  KeepsTurns-undone_of before s (OfShutSemaphore bound out) request once same = KeepsTurns-given_back before s request once same
  KeepsTurns-undone_of before s (OfLock lock) request once same = KeepsTurns-given_back before s request once same
  KeepsTurns-undone_of before s (OfGate gate) request once same = KeepsTurns-same before s same
  KeepsTurns-undone_of before s (OfBarrier size arrived round) request once same = KeepsTurns-same before s same

  -- every drop
  pub KeepsTurns-dropped_of : (s : Object) (name : ℕ) (entry : Entry) → IsFine s.held → StandOnce s.line → KeepsTurns s (dropped_of s name entry)
  KeepsTurns-dropped_of s name Idle fine once = KeepsTurns-same s s refl
  KeepsTurns-dropped_of s name (Waiting request is_sync) fine once = KeepsTurns-left_of s s.held name fine once
  KeepsTurns-dropped_of s name (Answered value request is_sync slotted) fine once = elim (cases_Bool (eqb value granted_value)) [
    | inl e ↦ rw e (KeepsTurns-undone_of s (with_entry s name Idle) s.held request once refl)
    | inr e ↦ rw e (KeepsTurns-same s (with_entry s name Idle) refl)
  ]

  module _ {C A V Ask : Type 0} (request : Ask → Request) (step : C → Object → After A) (value : Result ℕ Error → V)
      (calls : (call : C) (s : Object) → StandOnce s.line → KeepsTurns s (step call s).state) where
    -- every command
    pub KeepsTurns-done : (command : CommandOf C Ask) (s : Object) → IsFine s.held → StandOnce s.line
        → KeepsTurns s (done request step value command s).state
    KeepsTurns-done (Call call) s fine once = calls call s once
    KeepsTurns-done (Register name ask is_sync) s fine once = KeepsTurns-registered_of s name (request ask) is_sync _ (answer_at_once s (request ask)) _ refl fine
    KeepsTurns-done (TryPoll name) s fine once = KeepsTurns-same s (polled_of s name Try (entry_at s.book name)).state (line-polled_of s name Try (entry_at s.book name))
    KeepsTurns-done (PollSync name) s fine once = KeepsTurns-same s (polled_of s name Sync (entry_at s.book name)).state (line-polled_of s name Sync (entry_at s.book name))
    KeepsTurns-done (PollAsync name) s fine once = KeepsTurns-same s (polled_of s name Async (entry_at s.book name)).state (line-polled_of s name Async (entry_at s.book name))
    KeepsTurns-done (Drop name) s fine once = KeepsTurns-dropped_of s name (entry_at s.book name) fine once
    KeepsTurns-done (Leave name) s fine once =
        rw (withdrawn-dropped s name (entry_at s.book name) (λ gate is. keeps.no_gate gate (subst IsFine is fine)))
        (KeepsTurns-dropped_of s name (entry_at s.book name) fine once)

-- what is answered doesn't wait
pub answered-still : (entry : Entry) → is_answered entry ≡ true → is_waiting entry ≡ false
answered-still Idle e = cc
answered-still (Waiting request is_sync) e = cc
answered-still (Answered value request is_sync slotted) e = refl

-- no name stands twice in a line that keeps step with its book
pub StandOnce-step : (line : List Waiter) (book : List Entry) → IsInStep line book → StandOnce line
StandOnce-step line book step name = omega (arith, step.once name, one_if-small (is_waiting (entry_at book name)))

-- so answers come in the order of the line
pub AnswersInOrder-turns : (before after : Object) → IsInStep after.line after.book → KeepsTurns before after → AnswersInOrder before after
AnswersInOrder-turns before after step turns i j first second below e f answered waits =
    let stays : 0 < times first.0 after.line = omega (arith, step.once first.0, ap one_if waits) in
    elim (turns first.0 second.0 (StandsBefore-read before.line i j first second below e f) stays) [
      | inl there ↦
          let gone : times second.0 after.line ≡ 0 = step.once second.0 ∙ ap one_if (answered-still (entry_at after.book second.0) answered) in
          omega arith
      | inr none ↦ cc
    ]

-- a shut
pub KeepsTurns-shut_of : (s : Object) (held : Held) → KeepsTurns s (shut_of s held).state
KeepsTurns-shut_of s (OfSemaphore bound out) = KeepsTurns-nobody s (shut_of s (OfSemaphore bound out)).state refl
KeepsTurns-shut_of s (OfShutSemaphore bound out) = KeepsTurns-same s s refl
KeepsTurns-shut_of s (OfLock lock) = KeepsTurns-same s s refl
KeepsTurns-shut_of s (OfGate gate) = KeepsTurns-same s s refl
KeepsTurns-shut_of s (OfBarrier size arrived round) = KeepsTurns-same s s refl

-- every call of a semaphore
pub KeepsTurns-semaphore_step : (call : SemaphoreCall) (s : Object) → StandOnce s.line → KeepsTurns s (semaphore_step call s).state
KeepsTurns-semaphore_step (TryAcquireMany count) s once = KeepsTurns-same s (tried s (Permits count)).state (line-tried s (Permits count))
KeepsTurns-semaphore_step (ReleaseMany count) s once = KeepsTurns-given_back s s (Permits count) once refl
KeepsTurns-semaphore_step AvailablePermits s once = KeepsTurns-same s s refl
KeepsTurns-semaphore_step IsOpen s once = KeepsTurns-same s s refl
KeepsTurns-semaphore_step IsClosed s once = KeepsTurns-same s s refl
KeepsTurns-semaphore_step Shut s once = KeepsTurns-shut_of s s.held
KeepsTurns-semaphore_step IsShut s once = KeepsTurns-same s s refl

-- a downgrade
pub KeepsTurns-downgraded_of : (s : Object) (is_own : Bool) → StandOnce s.line → KeepsTurns s (downgraded_of s is_own).state
KeepsTurns-downgraded_of s true once = KeepsTurns-settled s (record s { held = OfLock (Shared 1) }) once refl
KeepsTurns-downgraded_of s false once = KeepsTurns-same s s refl

-- poison
pub KeepsTurns-poisoned_of : (s : Object) (is_own : Bool) → KeepsTurns s (poisoned_of s is_own).state
KeepsTurns-poisoned_of s true = KeepsTurns-nobody s (poisoned_of s true).state refl
KeepsTurns-poisoned_of s false = KeepsTurns-same s s refl

-- the end of poison
pub line-cleared_of : (s : Object) (is_poison : Bool) → (cleared_of s is_poison).state.line ≡ s.line
line-cleared_of s true = refl
line-cleared_of s false = refl

-- every call of a lock
pub KeepsTurns-lock_step : (call : LockCall) (s : Object) → StandOnce s.line → KeepsTurns s (lock_step call s).state
KeepsTurns-lock_step TryLock s once = KeepsTurns-same s (tried s AskExclusive).state (line-tried s AskExclusive)
KeepsTurns-lock_step TryShare s once = KeepsTurns-same s (tried s AskShared).state (line-tried s AskShared)
KeepsTurns-lock_step ReleaseLock s once = KeepsTurns-given_back s s AskExclusive once refl
KeepsTurns-lock_step ReleaseShare s once = KeepsTurns-given_back s s AskShared once refl
KeepsTurns-lock_step Downgrade s once = KeepsTurns-downgraded_of s (is_locked s.held) once
KeepsTurns-lock_step PoisonLock s once = KeepsTurns-poisoned_of s (is_locked s.held)
KeepsTurns-lock_step ClearPoison s once = KeepsTurns-same s (cleared_of s (is_poisoned s.held)).state (line-cleared_of s (is_poisoned s.held))
KeepsTurns-lock_step IsFree s once = KeepsTurns-same s s refl
KeepsTurns-lock_step IsLocked s once = KeepsTurns-same s s refl
KeepsTurns-lock_step IsShared s once = KeepsTurns-same s s refl
KeepsTurns-lock_step IsPoisoned s once = KeepsTurns-same s s refl

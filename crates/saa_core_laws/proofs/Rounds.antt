-- The leaders of a barrier: every step keeps the balance of arrivals, leaders, cancelled arrivals and the waiters.
use Rattle.std.proofs.Common.{◌≡◌, ℕ, ◌+◌, ◌-◌, ◌*◌, ◌/◌, ◌<◌, Bool, true, false, ◌&&◌, eqb, cond, inl, inr, List, [], ◌∷◌, length, set, Option, Some, None, refl, sym, ap, ◌∙◌, arith, All, length-append, min, subst}
use Rattle.std.specs.Prelude.{Result, Ok}
use Rattle.std.specs.List.{AllByRecursion, count_by}
use Rattle.std.proofs.Math.Nat.{mul-add, mul_comm}
use Rattle.std.proofs.lemmas.Nat.{div-mul-add}
use Rattle.std.proofs.lemmas.Bool.{cases_Bool, cases_eq, eqb-true, and_parts}
use Rattle.std.proofs.lemmas.Option.{cond_some}
use Rattle.std.proofs.lemmas.List.Sums.{sum_by-cons}
use Rattle.std.proofs.lemmas.List.Elements.{recursion_from_All}
use Rattle.saa_core_spec.specs.declared.request.Request.{Request}
use Rattle.saa_core_spec.specs.declared.polling.How.{How}
use Rattle.saa_core_spec.specs.declared.polling.How.TheVariants.{Try, Sync, Async}
use Rattle.saa_core_spec.specs.declared.polling.Error.{Error}
use Rattle.saa_core_spec.specs.declared.barrier.BarrierCall.{BarrierCall}
use Rattle.saa_core_spec.specs.declared.barrier.BarrierCall.TheVariants.{Count, Arrive as DoArrive, Join, Leave as LeaveOne, Round}
use Rattle.saa_core_spec.specs.declared.barrier.BarrierAnswer.{BarrierAnswer}
use Rattle.saa_core_spec.specs.declared.run.ReplyOf.{ReplyOf}
use Rattle.saa_core_spec.specs.declared.run.ReplyOf.TheVariants.{Polled}
use Rattle.saa_core_spec.specs.declared.run.CommandOf.{CommandOf}
use Rattle.saa_core_spec.specs.declared.run.CommandOf.TheVariants.{Call, Register, TryPoll, PollSync, PollAsync, Drop, Leave}
use Rattle.saa_core_spec.specs.Held.{Held, OfSemaphore, OfShutSemaphore, OfLock, OfGate, OfBarrier, asks_too_much, max_rounds}
use Rattle.saa_core_spec.specs.Object.{Object, After, Entry, Idle, Waiting, Answered, Waiter, entry_at, with_entry, newly_made, one_if, without}
use Rattle.saa_core_spec.specs.Settling.{answered_entry, answered_in, all_answered, round_complete}
use Rattle.saa_core_spec.specs.Asking.{is_idle, answer_in, answer_at_once, registered_of}
use Rattle.saa_core_spec.specs.Polling.{is_right_mode, polled_in, polled_of, polled, left_of, undone_of, dropped_of, withdrawn_of}
use Rattle.saa_core_spec.specs.Values.{barrier_value, granted_value, passed_value, leader_value}
use Rattle.saa_core_spec.specs.Barrier.{barrier_step, arrive_request}
use Rattle.saa_core_spec.specs.Run.{IsWithin, done, state_after}
use Rattle.saa_core_spec.proofs.Leaving.{withdrawn-dropped}
use Rattle.saa_core_laws.specs.Laws.{is_waiting}
use Rattle.saa_core_laws.specs.Registrations.{is_registered, is_answered}
use Rattle.saa_core_laws.specs.Steps.{step_of, steps}
use Rattle.saa_core_laws.specs.Leaders.{BarrierStep, is_arrival, is_given_up, is_leader, names_leader, barrier_run, barrier_next, poll_reply, CompletesRound, IsOfFixedSize}
use Rattle.saa_core_laws.proofs.Order.{IsInStep, entry_at-same, entry_at-other, length-answered_in}
use Rattle.saa_core_laws.proofs.Kept.{IsKept, IsKept-newly_made, is_waiting-all_answered}
use Rattle.saa_core_laws.proofs.Commands.{IsRight, IsRight-done, IsRight-state_after, or_false-left}
use Rattle.saa_core_laws.proofs.Books.{entry_at-answered_in}
use Rattle.saa_core_laws.proofs.Reading.{is_idle-emptied}
use Rattle.saa_core_laws.proofs.BarrierLaws.{IsFineBarrier, KeepsRight-barrier, barrier-incomplete, no_gate-barrier, fixed_step, done-fixed, state_after-fixed}
use Rattle.saa_core_spec.proofs.Counts.{length-without}

-- What a step balances: the arrivals and the waiters are the leaders' rounds, the waiters, and the cancelled arrivals
abbrev pub Balances : (size waited waits : ℕ) (is_new is_full is_gone : Bool) → Type 0
Balances size waited waits is_new is_full is_gone = one_if is_new + waited ≡ size * one_if is_full + waits + one_if is_gone

-- a step that does nothing balances
pub Balances-still : (size waited : ℕ) → Balances size waited waited false false false
Balances-still size waited = omega arith

-- a poll leaves the line
pub line-polled_in : (s : Object) (name : ℕ) (entry : Entry) (is_right : Bool) → (polled_in s name entry is_right).state.line ≡ s.line
line-polled_in s name entry false = refl
line-polled_in s name Idle true = refl
line-polled_in s name (Waiting request is_sync) true = refl
line-polled_in s name (Answered value request is_sync slotted) true = refl

-- in every mode
pub line-polled_of : (s : Object) (name : ℕ) (how : How) (entry : Entry) → (polled_of s name how entry).state.line ≡ s.line
line-polled_of s name how Idle = refl
line-polled_of s name how (Waiting request is_sync) = line-polled_in s name (Waiting request is_sync) (is_right_mode how is_sync)
line-polled_of s name how (Answered value request is_sync slotted) = line-polled_in s name (Answered value request is_sync slotted) (is_right_mode how is_sync)

-- and so it balances
pub Balances-polled : (size : ℕ) (s : Object) (name : ℕ) (how : How)
    → Balances size (length s.line) (length (polled s name how).state.line) false false false
Balances-polled size s name how = omega (arith, ap (λ (l : List Waiter). length l) (line-polled_of s name how (entry_at s.book name)))

-- a barrier only forgets a name that left
pub line-left_of : (most : ℕ) (s : Object) (held : Held) (line : List Waiter) → IsFineBarrier most held line → (left_of s held).line ≡ s.line
line-left_of most s (OfBarrier size arrived round) line fine = refl
line-left_of most s (OfSemaphore bound out) line fine = absurd fine
line-left_of most s (OfShutSemaphore bound out) line fine = absurd fine
line-left_of most s (OfLock lock) line fine = absurd fine
line-left_of most s (OfGate gate) line fine = absurd fine

-- and gets nothing back
pub line-undone_of : (most : ℕ) (s : Object) (held : Held) (line : List Waiter) (request : Request) → IsFineBarrier most held line
    → (undone_of s held request).line ≡ s.line
line-undone_of most s (OfBarrier size arrived round) line request fine = refl
line-undone_of most s (OfSemaphore bound out) line request fine = absurd fine
line-undone_of most s (OfShutSemaphore bound out) line request fine = absurd fine
line-undone_of most s (OfLock lock) line request fine = absurd fine
line-undone_of most s (OfGate gate) line request fine = absurd fine

-- a drop of a name with this entry
pub Balances-dropped_of : (size : ℕ) (s : Object) (name : ℕ) (entry : Entry) → entry_at s.book name ≡ entry
    → IsInStep s.line s.book → IsFineBarrier size s.held s.line
    → Balances size (length s.line) (length (dropped_of s name entry).line) false false (is_waiting entry)
Balances-dropped_of size s name Idle at step fine = Balances-still size (length s.line)
Balances-dropped_of size s name (Waiting request is_sync) at step fine =
    omega (
      arith,
      ap (λ (l : List Waiter). length l) (line-left_of size (record (with_entry s name Idle) { line = without name s.line }) s.held s.line fine),
      length-without name s.line,
      step.once name,
      ap (λ (e : Entry). one_if (is_waiting e)) at,
    )
Balances-dropped_of size s name (Answered value request is_sync slotted) at step fine = elim (cases_Bool (eqb value granted_value)) [
  | inl e ↦ rw e (omega (arith, ap (λ (l : List Waiter). length l) (line-undone_of size (with_entry s name Idle) s.held s.line request fine)))
  | inr e ↦ rw e (Balances-still size (length s.line))
]

-- what an arrival that is answered at once finds and leaves
pub record IsLast (size : ℕ) (s : Object) (answer : After ℕ) : Type 0 where
  pub next : Held
  pub full : length s.line + 1 ≡ size
  pub state : answer.state ≡ all_answered passed_value (record s { held = next })
  pub reply : answer.reply ≡ leader_value

-- only the last of a round is
pub IsLast-answered : (most : ℕ) (s : Object) (held : Held) (line : List Waiter) (request : Request) (answer : After ℕ) → IsFineBarrier most held line
    → answer_in s held request ≡ Some answer → IsLast most s answer
IsLast-answered most s (OfBarrier size arrived round) line request answer fine e =
    let parts = cond_some (eqb (arrived + length s.line + 1) size) (record { state = round_complete passed_value s size round; reply = leader_value }) answer e in
    record {
      next = OfBarrier size 0 (min (round + 1) max_rounds);
      full = omega (arith, eqb-true (arrived + length s.line + 1) size parts.0, fine.0, fine.2);
      state = sym (ap (λ (a : After ℕ). a.state) parts.1);
      reply = sym (ap (λ (a : After ℕ). a.reply) parts.1);
    }
IsLast-answered most s (OfSemaphore bound out) line request answer fine e = absurd fine
IsLast-answered most s (OfShutSemaphore bound out) line request answer fine e = absurd fine
IsLast-answered most s (OfLock lock) line request answer fine e = absurd fine
IsLast-answered most s (OfGate gate) line request answer fine e = absurd fine

-- the entry of the last arrival is a leader's
pub is_leader-last : (size : ℕ) (s : Object) (name : ℕ) (answer : After ℕ) (request : Request) (is_sync : Bool) → name < length s.book → IsLast size s answer
    → is_leader (entry_at (set answer.state.book name (Answered answer.reply request is_sync false)) name) ≡ true
is_leader-last size s name answer request is_sync within last =
    let size_same : length answer.state.book ≡ length s.book = ap (λ (o : Object). length o.book) last.state ∙ length-answered_in passed_value s.line s.book in
    ap is_leader (entry_at-same answer.state.book name (Answered answer.reply request is_sync false) (omega arith)) ∙ ap (λ v. eqb v leader_value) last.reply

-- a registration, by its four cases
pub Balances-registered_of : (size : ℕ) (s : Object) (name : ℕ) (request : Request) (is_sync is_refused : Bool) (answer : Option (After ℕ)) (is_full : Bool)
    → name < length s.book → answer_at_once s request ≡ answer → IsFineBarrier size s.held s.line
    → Balances size (length s.line) (length (registered_of s name request is_sync is_refused answer is_full).state.line)
    (is_registered (registered_of s name request is_sync is_refused answer is_full).reply)
    (is_registered (registered_of s name request is_sync is_refused answer is_full).reply
    && is_leader (entry_at (registered_of s name request is_sync is_refused answer is_full).state.book name))
    false
Balances-registered_of size s name request is_sync true answer is_full within e fine = Balances-still size (length s.line)
Balances-registered_of size s name request is_sync false (Some answer) is_full within e fine =
    let last = IsLast-answered size s s.held s.line request answer fine e in
    let nobody : length answer.state.line ≡ 0 = ap (λ (o : Object). length o.line) last.state in
    let leader = is_leader-last size s name answer request is_sync within last in
    rw leader (omega (arith, last.full))
Balances-registered_of size s name request is_sync false None true within e fine = Balances-still size (length s.line)
Balances-registered_of size s name request is_sync false None false within e fine =
    let waits : is_leader (entry_at (set s.book name (Waiting request is_sync)) name) ≡ false = ap is_leader (entry_at-same s.book name (Waiting request is_sync) within) in
    rw waits (omega (arith, length-append s.line ((name, request) ∷ [])))

-- every command of a barrier that is right
pub Balances-done : (size names : ℕ) (command : CommandOf BarrierCall (Unit {0})) (s : Object) → IsWithin names command
    → IsRight (IsFineBarrier size) names s
    → Balances size (length s.line) (length (done arrive_request fixed_step barrier_value command s).state.line)
    (is_arrival (step_of arrive_request fixed_step barrier_value command s))
    (names_leader (step_of arrive_request fixed_step barrier_value command s))
    (is_given_up (step_of arrive_request fixed_step barrier_value command s))
Balances-done size names (Call Count) s within right = Balances-still size (length s.line)
Balances-done size names (Call DoArrive) s within right = Balances-still size (length s.line)
Balances-done size names (Call Join) s within right = Balances-still size (length s.line)
Balances-done size names (Call LeaveOne) s within right = Balances-still size (length s.line)
Balances-done size names (Call Round) s within right = Balances-still size (length s.line)
Balances-done size names (Register name ask is_sync) s within right =
    Balances-registered_of size s name (arrive_request ask) is_sync _ (answer_at_once s (arrive_request ask)) _ (omega (arith, right.kept.size)) refl right.kind
Balances-done size names (TryPoll name) s within right = Balances-polled size s name Try
Balances-done size names (PollSync name) s within right = Balances-polled size s name Sync
Balances-done size names (PollAsync name) s within right = Balances-polled size s name Async
Balances-done size names (Drop name) s within right = Balances-dropped_of size s name (entry_at s.book name) refl right.kept.in_step right.kind
Balances-done size names (Leave name) s within right =
    rw (withdrawn-dropped s name (entry_at s.book name) (no_gate-barrier size s.held s.line right.kind))
    (Balances-dropped_of size s name (entry_at s.book name) refl right.kept.in_step right.kind)

-- one more step of a count
pub count-step : (is : BarrierStep → Bool) (step : BarrierStep) (run : List BarrierStep) → count_by is (step ∷ run) ≡ one_if (is step) + count_by is run
count-step is step run = elim (cases_Bool (is step)) [
  | inl e ↦ omega (arith, sum_by-cons (λ (s : BarrierStep). cond (is s) 1 0) step run, ap {B = ℕ} (λ b. cond b 1 0) e, ap one_if e)
  | inr e ↦ omega (arith, sum_by-cons (λ (s : BarrierStep). cond (is s) 1 0) step run, ap {B = ℕ} (λ b. cond b 1 0) e, ap one_if e)
]

-- the balance over every run of a barrier that is right
pub balance-run : (size names : ℕ) (commands : List (CommandOf BarrierCall (Unit {0}))) (s : Object) → AllByRecursion (IsWithin names) commands
    → IsRight (IsFineBarrier size) names s
    → count_by is_arrival (steps arrive_request fixed_step barrier_value commands s) + length s.line
    ≡ size * count_by names_leader (steps arrive_request fixed_step barrier_value commands s)
    + length (state_after arrive_request fixed_step barrier_value commands s).line
    + count_by is_given_up (steps arrive_request fixed_step barrier_value commands s)
balance-run size names [] s within right = omega arith
balance-run size names (command ∷ commands) s within right =
    let step : BarrierStep = step_of arrive_request fixed_step barrier_value command s in
    let run : List BarrierStep = steps arrive_request fixed_step barrier_value commands step.after.state in
    let after = IsRight-done (IsFineBarrier size) names arrive_request fixed_step barrier_value (KeepsRight-barrier size names) command s within.0 right in
    let product : size * count_by names_leader (step ∷ run) ≡ size * one_if (names_leader step) + size * count_by names_leader run =
    ap (λ n. size * n) (count-step names_leader step run) ∙ mul-add size (one_if (names_leader step)) (count_by names_leader run) in
    omega (
      arith,
      Balances-done size names command s within.0 right,
      balance-run size names commands step.after.state within.1 after,
      count-step is_arrival step run,
      count-step is_given_up step run,
      product,
    )

-- the leaders from the balance
pub leaders-of : (size arrivals gone leaders waits : ℕ) → waits < size → arrivals + 0 ≡ size * leaders + waits + gone
    → leaders ≡ (arrivals - gone) / size
leaders-of size arrivals gone leaders waits fewer balance =
    let rest : arrivals - gone ≡ leaders * size + waits = omega (arith, mul_comm size leaders) in
    sym (ap (λ n. n / size) rest ∙ div-mul-add leaders size waits fewer)

-- what a leader's arrival finds and leaves
pub record Completes (size : ℕ) (before after : Object) : Type 0 where
  pub full : length before.line + 1 ≡ size
  pub empty : after.line ≡ []
  pub others : (name : ℕ) (request : Request) (is_sync : Bool) → entry_at before.book name ≡ Waiting request is_sync
      → entry_at after.book name ≡ Answered passed_value request is_sync true

-- the steps of a run of a barrier whose size stays, and the step that comes next
abbrev pub fixed_run : (size room names : ℕ) → List (CommandOf BarrierCall (Unit {0})) → List BarrierStep
fixed_run size room names commands = steps arrive_request fixed_step barrier_value commands (newly_made (OfBarrier size 0 0) room names)

abbrev pub fixed_next : (size room names : ℕ) → List (CommandOf BarrierCall (Unit {0})) → CommandOf BarrierCall (Unit {0}) → BarrierStep
fixed_next size room names commands next =
    step_of arrive_request fixed_step barrier_value next
    (state_after arrive_request fixed_step barrier_value commands (newly_made (OfBarrier size 0 0) room names))

-- they are those of the barrier, where each command keeps its size
pub steps-fixed : (commands : List (CommandOf BarrierCall (Unit {0}))) (s : Object) → AllByRecursion IsOfFixedSize commands
    → steps arrive_request barrier_step barrier_value commands s ≡ steps arrive_request fixed_step barrier_value commands s
steps-fixed [] s fixed = refl
steps-fixed (command ∷ commands) s fixed =
    ap (λ (after : After (ReplyOf BarrierAnswer (Result Bool Error))).
    let step : BarrierStep = record { before = s; command = command; after = after } in
    step ∷ steps arrive_request barrier_step barrier_value commands after.state) (done-fixed command s fixed.0)
    ∙ ap (λ (run : List BarrierStep). step_of arrive_request fixed_step barrier_value command s ∷ run)
    (steps-fixed commands (done arrive_request fixed_step barrier_value command s).state fixed.1)

pub next-fixed : (size room names : ℕ) (commands : List (CommandOf BarrierCall (Unit {0}))) (next : CommandOf BarrierCall (Unit {0}))
    → All IsOfFixedSize commands → IsOfFixedSize next
    → barrier_next size room names commands next ≡ fixed_next size room names commands next
next-fixed size room names commands next fixed next_fixed =
    let s : Object = newly_made (OfBarrier size 0 0) room names in
    ap (λ (o : Object). step_of arrive_request barrier_step barrier_value next o)
    (state_after-fixed commands s (recursion_from_All IsOfFixedSize commands fixed))
    ∙ ap (λ (after : After (ReplyOf BarrierAnswer (Result Bool Error))).
    let step : BarrierStep = record { before = state_after arrive_request fixed_step barrier_value commands s; command = next; after = after } in step)
    (done-fixed next (state_after arrive_request fixed_step barrier_value commands s) next_fixed)

-- a newly made barrier is right
pub IsRight-newly_made : (size room names : ℕ) → IsRight (IsFineBarrier size) names (newly_made (OfBarrier size 0 0) room names)
IsRight-newly_made size room names = record { kept = IsKept-newly_made (OfBarrier size 0 0) room names; kind = (refl, λ some. some, refl) }

-- as many leaders as full rounds of the arrivals that weren't cancelled
pub leaders-counted : (size room names : ℕ) (commands : List (CommandOf BarrierCall (Unit {0}))) → 0 < size → All (IsWithin names) commands
    → count_by names_leader (fixed_run size room names commands)
    ≡ (count_by is_arrival (fixed_run size room names commands) - count_by is_given_up (fixed_run size room names commands)) / size
leaders-counted size room names commands some within =
    let made = IsRight-newly_made size room names in
    let end = IsRight-state_after (IsFineBarrier size) names arrive_request fixed_step barrier_value (KeepsRight-barrier size names) commands
    (newly_made (OfBarrier size 0 0) room names) within made in
    let fewer = barrier-incomplete size _ _ end.kind some in
    let balance = balance-run size names commands (newly_made (OfBarrier size 0 0) room names) (recursion_from_All (IsWithin names) commands within) made in
    leaders-of size (count_by is_arrival (fixed_run size room names commands)) (count_by is_given_up (fixed_run size room names commands))
    (count_by names_leader (fixed_run size room names commands)) _ fewer balance

-- a name that waits is answered when all waiters are
pub passes : (names value : ℕ) (s : Object) (name : ℕ) (request : Request) (is_sync : Bool) → IsKept names s → entry_at s.book name ≡ Waiting request is_sync
    → entry_at (all_answered value s).book name ≡ Answered value request is_sync true
passes names value s name request is_sync kept at = elim (entry_at-answered_in value s.line s.book name) [
  | inl same ↦
      let waits : is_waiting (entry_at (answered_in value s.line s.book) name) ≡ true = ap is_waiting (same ∙ at) in
      let none : is_waiting (entry_at (answered_in value s.line s.book) name) ≡ false = is_waiting-all_answered names value s name kept in
      cc
  | inr answered ↦ answered ∙ ap (answered_entry value) at
]

-- a registration that names a leader, by its four cases
pub CompletesRound-registered_of : (size names : ℕ) (s : Object) (name : ℕ) (request : Request) (is_sync is_refused : Bool) (answer : Option (After ℕ)) (is_full : Bool)
    → IsRight (IsFineBarrier size) names s → name < length s.book → (is_refused ≡ false → is_idle (entry_at s.book name) ≡ true)
    → answer_at_once s request ≡ answer
    → (is_registered (registered_of s name request is_sync is_refused answer is_full).reply
    && is_leader (entry_at (registered_of s name request is_sync is_refused answer is_full).state.book name)) ≡ true
    → Completes size s (registered_of s name request is_sync is_refused answer is_full).state
CompletesRound-registered_of size names s name request is_sync true answer is_full right within idle e leads = cc
CompletesRound-registered_of size names s name request is_sync false (Some answer) is_full right within idle e leads =
    let last = IsLast-answered size s s.held s.line request answer right.kind e in
    record {
      full = last.full;
      empty = ap (λ (o : Object). o.line) last.state;
      others = λ other asked was_sync at.
          let apart : other ≡ name → ⊥ = λ same.
          (let idle_there : is_idle (entry_at s.book other) ≡ true = ap (λ n. is_idle (entry_at s.book n)) same ∙ idle refl in
          let busy : is_idle (entry_at s.book other) ≡ false = ap is_idle at in cc) in
          entry_at-other answer.state.book name other (Answered answer.reply request is_sync false) apart
          ∙ ap (λ (o : Object). entry_at o.book other) last.state
          ∙ passes names passed_value s other asked was_sync right.kept at;
    }
CompletesRound-registered_of size names s name request is_sync false None true right within idle e leads = cc
CompletesRound-registered_of size names s name request is_sync false None false right within idle e leads =
    let waits : is_leader (entry_at (set s.book name (Waiting request is_sync)) name) ≡ false = ap is_leader (entry_at-same s.book name (Waiting request is_sync) within) in
    let none : false ≡ true = rw waits at leads in
    cc

-- every command that names a leader
pub Completes-done : (size names : ℕ) (command : CommandOf BarrierCall (Unit {0})) (s : Object) → IsWithin names command
    → IsRight (IsFineBarrier size) names s
    → names_leader (step_of arrive_request fixed_step barrier_value command s) ≡ true
    → Completes size s (done arrive_request fixed_step barrier_value command s).state
Completes-done size names (Call call) s within right leads = cc
Completes-done size names (Register name ask is_sync) s within right leads =
    CompletesRound-registered_of size names s name (arrive_request ask) is_sync _ (answer_at_once s (arrive_request ask)) _ right
    (omega (arith, right.kept.size)) (λ e. or_false-left (is_idle (entry_at s.book name)) (asks_too_much s.held (arrive_request ask)) e) refl leads
Completes-done size names (TryPoll name) s within right leads = cc
Completes-done size names (PollSync name) s within right leads = cc
Completes-done size names (PollAsync name) s within right leads = cc
Completes-done size names (Drop name) s within right leads = cc
Completes-done size names (Leave name) s within right leads = cc

-- a name that is answered that it passes is told that it isn't the leader
pub poll_reply-passed : (s : Object) (name : ℕ) (request : Request) (is_sync : Bool) → entry_at s.book name ≡ Answered passed_value request is_sync true
    → poll_reply s name ≡ Polled (Ok false)
poll_reply-passed s name request is_sync at =
    ap (λ (e : Entry). let reply : ReplyOf BarrierAnswer (Result Bool Error) = Polled (barrier_value (polled_of s name Try e).reply) in reply) at

-- what a leader's entry reads as
pub poll_reply-leader_entry : (s : Object) (name : ℕ) (entry : Entry) → is_leader entry ≡ true → barrier_value (polled_of s name Try entry).reply ≡ Ok true
poll_reply-leader_entry s name Idle e = cc
poll_reply-leader_entry s name (Waiting request is_sync) e = cc
poll_reply-leader_entry s name (Answered value request is_sync slotted) e = ap (λ (b : Bool). let answer : Result Bool Error = Ok b in answer) e

-- a leader is told so
pub poll_reply-leader : (s : Object) (name : ℕ) → is_leader (entry_at s.book name) ≡ true → poll_reply s name ≡ Polled (Ok true)
poll_reply-leader s name e =
    ap (λ (r : Result Bool Error). let reply : ReplyOf BarrierAnswer (Result Bool Error) = Polled r in reply) (poll_reply-leader_entry s name (entry_at s.book name) e)

-- the entry of an arrival that leads
pub leads-entry : (size : ℕ) (command : CommandOf BarrierCall (Unit {0})) (s : Object) (name : ℕ) (is_sync : Bool)
    → names_leader (step_of arrive_request fixed_step barrier_value command s) ≡ true → command ≡ Register name tt is_sync
    → is_leader (entry_at (done arrive_request fixed_step barrier_value command s).state.book name) ≡ true
leads-entry size command s name is_sync leads is =
    let there : names_leader (step_of arrive_request fixed_step barrier_value (Register name tt is_sync) s) ≡ true =
    ap (λ c. names_leader (step_of arrive_request fixed_step barrier_value c s)) (sym is) ∙ leads in
    ap (λ c. is_leader (entry_at (done arrive_request fixed_step barrier_value c s).state.book name)) is
    ∙ (and_parts _ _ there).1

-- after every run
pub CompletesRound-next : (size room names : ℕ) (commands : List (CommandOf BarrierCall (Unit {0}))) (next : CommandOf BarrierCall (Unit {0}))
    → All (IsWithin names) commands → IsWithin names next
    → names_leader (fixed_next size room names commands next) ≡ true
    → CompletesRound size (fixed_next size room names commands next)
CompletesRound-next size room names commands next within next_within leads =
    let found = IsRight-state_after (IsFineBarrier size) names arrive_request fixed_step barrier_value (KeepsRight-barrier size names) commands
    (newly_made (OfBarrier size 0 0) room names) within (IsRight-newly_made size room names) in
    let completes = Completes-done size names next _ next_within found leads in
    record {
      full = completes.full;
      empty = completes.empty;
      answered = completes.others;
      others = λ name request is_sync at. poll_reply-passed _ name request is_sync (completes.others name request is_sync at);
      leader = λ name is_sync is. poll_reply-leader _ name (leads-entry size next _ name is_sync leads is);
    }

-- what is idle isn't answered
pub not_answered : (entry : Entry) → is_idle entry ≡ true → is_answered entry ≡ false
not_answered Idle e = refl
not_answered (Waiting request is_sync) e = refl
not_answered (Answered value request is_sync slotted) e = cc

-- nor is what waits
pub waiting-unanswered : (entry : Entry) → is_waiting entry ≡ true → is_answered entry ≡ false
waiting-unanswered Idle e = refl
waiting-unanswered (Waiting request is_sync) e = refl
waiting-unanswered (Answered value request is_sync slotted) e = cc

-- A name that waits is answered by nothing but a leader's arrival: not where an entry is emptied
pub waits-emptied : (s : Object) (name other : ℕ) → is_answered (entry_at s.book name) ≡ false → is_answered (entry_at (set s.book other Idle) name) ≡ false
waits-emptied s name other none = elim (cases_eq name other) [
  | inl same ↦ rw same (not_answered (entry_at (set s.book other Idle) other) (is_idle-emptied s.book other))
  | inr apart ↦ ap is_answered (entry_at-other s.book other name Idle apart) ∙ none
]

-- not by a poll
pub waits-polled_in : (s : Object) (name other : ℕ) (entry : Entry) (is_right : Bool)
    → is_answered (entry_at s.book name) ≡ false → is_answered (entry_at (polled_in s other entry is_right).state.book name) ≡ false
waits-polled_in s name other entry false none = none
waits-polled_in s name other Idle true none = none
waits-polled_in s name other (Waiting request is_sync) true none = none
waits-polled_in s name other (Answered value request is_sync slotted) true none = waits-emptied s name other none

-- in every mode
pub waits-polled_of : (s : Object) (name other : ℕ) (how : How) (entry : Entry)
    → is_answered (entry_at s.book name) ≡ false → is_answered (entry_at (polled_of s other how entry).state.book name) ≡ false
waits-polled_of s name other how Idle none = none
waits-polled_of s name other how (Waiting request is_sync) none = waits-polled_in s name other (Waiting request is_sync) (is_right_mode how is_sync) none
waits-polled_of s name other how (Answered value request is_sync slotted) none =
    waits-polled_in s name other (Answered value request is_sync slotted) (is_right_mode how is_sync) none

-- so a poll answers no waiter
pub poll-answers : (s : Object) (name other : ℕ) (how : How) → is_waiting (entry_at s.book name) ≡ true
    → is_answered (entry_at (polled s other how).state.book name) ≡ true → ⊥
poll-answers s name other how waits there =
    let none = waits-polled_of s name other how (entry_at s.book other) (waiting-unanswered (entry_at s.book name) waits) in cc

-- a barrier's book isn't changed by what a name leaves
pub book-left_of : (most : ℕ) (s : Object) (held : Held) (line : List Waiter) → IsFineBarrier most held line → (left_of s held).book ≡ s.book
book-left_of most s (OfBarrier size arrived round) line fine = refl
book-left_of most s (OfSemaphore bound out) line fine = absurd fine
book-left_of most s (OfShutSemaphore bound out) line fine = absurd fine
book-left_of most s (OfLock lock) line fine = absurd fine
book-left_of most s (OfGate gate) line fine = absurd fine

-- nor by what is given back
pub book-undone_of : (most : ℕ) (s : Object) (held : Held) (line : List Waiter) (request : Request) → IsFineBarrier most held line
    → (undone_of s held request).book ≡ s.book
book-undone_of most s (OfBarrier size arrived round) line request fine = refl
book-undone_of most s (OfSemaphore bound out) line request fine = absurd fine
book-undone_of most s (OfShutSemaphore bound out) line request fine = absurd fine
book-undone_of most s (OfLock lock) line request fine = absurd fine
book-undone_of most s (OfGate gate) line request fine = absurd fine

-- a drop answers nobody
pub waits-dropped_of : (size : ℕ) (s : Object) (name other : ℕ) (entry : Entry) → IsFineBarrier size s.held s.line
    → is_answered (entry_at s.book name) ≡ false → is_answered (entry_at (dropped_of s other entry).book name) ≡ false
waits-dropped_of size s name other Idle fine none = none
waits-dropped_of size s name other (Waiting request is_sync) fine none =
    ap (λ b. is_answered (entry_at b name)) (book-left_of size (record (with_entry s other Idle) { line = without other s.line }) s.held s.line fine)
    ∙ waits-emptied s name other none
waits-dropped_of size s name other (Answered value request is_sync slotted) fine none = elim (cases_Bool (eqb value granted_value)) [
  | inl e ↦ rw e (ap (λ b. is_answered (entry_at b name)) (book-undone_of size (with_entry s other Idle) s.held s.line request fine) ∙ waits-emptied s name other none)
  | inr e ↦ rw e (waits-emptied s name other none)
]

-- a registration answers waiters only where it leads
pub waits-registered_of : (size : ℕ) (s : Object) (name other : ℕ) (request : Request) (is_sync is_refused : Bool) (answer : Option (After ℕ)) (is_full : Bool)
    → IsFineBarrier size s.held s.line → other < length s.book → (is_refused ≡ false → is_idle (entry_at s.book other) ≡ true) → answer_at_once s request ≡ answer
    → is_waiting (entry_at s.book name) ≡ true
    → is_answered (entry_at (registered_of s other request is_sync is_refused answer is_full).state.book name) ≡ true
    → (is_registered (registered_of s other request is_sync is_refused answer is_full).reply
    && is_leader (entry_at (registered_of s other request is_sync is_refused answer is_full).state.book other)) ≡ true
waits-registered_of size s name other request is_sync true answer is_full fine within idle e waits there =
    let none = waiting-unanswered (entry_at s.book name) waits in cc
waits-registered_of size s name other request is_sync false (Some answer) is_full fine within idle e waits there =
    is_leader-last size s other answer request is_sync within (IsLast-answered size s s.held s.line request answer fine e)
waits-registered_of size s name other request is_sync false None true fine within idle e waits there =
    let none = waiting-unanswered (entry_at s.book name) waits in cc
waits-registered_of size s name other request is_sync false None false fine within idle e waits there =
    let none = waiting-unanswered (entry_at s.book name) waits in
    let still : is_answered (entry_at (set s.book other (Waiting request is_sync)) name) ≡ false = elim (cases_eq name other) [
      | inl same ↦ rw same (ap is_answered (entry_at-same s.book other (Waiting request is_sync) within))
      | inr apart ↦ ap is_answered (entry_at-other s.book other name (Waiting request is_sync) apart) ∙ none
    ] in
    cc

-- every command answers waiters only where it leads
pub leads-answering : (size names : ℕ) (command : CommandOf BarrierCall (Unit {0})) (s : Object) (name : ℕ) → IsWithin names command
    → IsRight (IsFineBarrier size) names s → is_waiting (entry_at s.book name) ≡ true
    → is_answered (entry_at (done arrive_request fixed_step barrier_value command s).state.book name) ≡ true
    → names_leader (step_of arrive_request fixed_step barrier_value command s) ≡ true
leads-answering size names (Call Count) s name within right waits there = let none = waiting-unanswered (entry_at s.book name) waits in cc
leads-answering size names (Call DoArrive) s name within right waits there = let none = waiting-unanswered (entry_at s.book name) waits in cc
leads-answering size names (Call Join) s name within right waits there = let none = waiting-unanswered (entry_at s.book name) waits in cc
leads-answering size names (Call LeaveOne) s name within right waits there = let none = waiting-unanswered (entry_at s.book name) waits in cc
leads-answering size names (Call Round) s name within right waits there = let none = waiting-unanswered (entry_at s.book name) waits in cc
leads-answering size names (Register other ask is_sync) s name within right waits there =
    waits-registered_of size s name other (arrive_request ask) is_sync _ (answer_at_once s (arrive_request ask)) _ right.kind
    (omega (arith, right.kept.size)) (λ e. or_false-left (is_idle (entry_at s.book other)) (asks_too_much s.held (arrive_request ask)) e) refl waits there
leads-answering size names (TryPoll other) s name within right waits there = absurd (poll-answers s name other Try waits there)
leads-answering size names (PollSync other) s name within right waits there = absurd (poll-answers s name other Sync waits there)
leads-answering size names (PollAsync other) s name within right waits there = absurd (poll-answers s name other Async waits there)
leads-answering size names (Drop other) s name within right waits there =
    let none = waits-dropped_of size s name other (entry_at s.book other) right.kind (waiting-unanswered (entry_at s.book name) waits) in cc
leads-answering size names (Leave other) s name within right waits there =
    let none : is_answered (entry_at (withdrawn_of s other (entry_at s.book other)).book name) ≡ false =
    ap (λ (o : Object). is_answered (entry_at o.book name)) (withdrawn-dropped s other (entry_at s.book other) (no_gate-barrier size s.held s.line right.kind))
    ∙ waits-dropped_of size s name other (entry_at s.book other) right.kind (waiting-unanswered (entry_at s.book name) waits) in
    cc

-- after every run
pub leads-next : (size room names : ℕ) (commands : List (CommandOf BarrierCall (Unit {0}))) (next : CommandOf BarrierCall (Unit {0})) (name : ℕ)
    → All (IsWithin names) commands → IsWithin names next
    → is_waiting (entry_at (fixed_next size room names commands next).before.book name) ≡ true
    → is_answered (entry_at (fixed_next size room names commands next).after.state.book name) ≡ true
    → names_leader (fixed_next size room names commands next) ≡ true
leads-next size room names commands next name within next_within waits there =
    let found = IsRight-state_after (IsFineBarrier size) names arrive_request fixed_step barrier_value (KeepsRight-barrier size names) commands
    (newly_made (OfBarrier size 0 0) room names) within (IsRight-newly_made size room names) in
    leads-answering size names next _ name next_within found waits there

-- The same of the barrier, over runs in which its size stays
pub leaders-counted_fixed : (size room names : ℕ) (commands : List (CommandOf BarrierCall (Unit {0}))) → 0 < size → All (IsWithin names) commands
    → All IsOfFixedSize commands
    → count_by names_leader (barrier_run size room names commands)
    ≡ (count_by is_arrival (barrier_run size room names commands) - count_by is_given_up (barrier_run size room names commands)) / size
leaders-counted_fixed size room names commands some within fixed =
    subst (λ (run : List BarrierStep). count_by names_leader run ≡ (count_by is_arrival run - count_by is_given_up run) / size)
    (sym (steps-fixed commands (newly_made (OfBarrier size 0 0) room names) (recursion_from_All IsOfFixedSize commands fixed)))
    (leaders-counted size room names commands some within)

pub CompletesRound-next_fixed : (size room names : ℕ) (commands : List (CommandOf BarrierCall (Unit {0}))) (next : CommandOf BarrierCall (Unit {0}))
    → All (IsWithin names) commands → IsWithin names next → All IsOfFixedSize commands → IsOfFixedSize next
    → names_leader (barrier_next size room names commands next) ≡ true
    → CompletesRound size (barrier_next size room names commands next)
CompletesRound-next_fixed size room names commands next within next_within fixed next_fixed =
    subst (λ (step : BarrierStep). names_leader step ≡ true → CompletesRound size step)
    (sym (next-fixed size room names commands next fixed next_fixed))
    (CompletesRound-next size room names commands next within next_within)

pub leads-next_fixed : (size room names : ℕ) (commands : List (CommandOf BarrierCall (Unit {0}))) (next : CommandOf BarrierCall (Unit {0})) (name : ℕ)
    → All (IsWithin names) commands → IsWithin names next → All IsOfFixedSize commands → IsOfFixedSize next
    → is_waiting (entry_at (barrier_next size room names commands next).before.book name) ≡ true
    → is_answered (entry_at (barrier_next size room names commands next).after.state.book name) ≡ true
    → names_leader (barrier_next size room names commands next) ≡ true
leads-next_fixed size room names commands next name within next_within fixed next_fixed =
    subst (λ (step : BarrierStep). is_waiting (entry_at step.before.book name) ≡ true
    → is_answered (entry_at step.after.state.book name) ≡ true → names_leader step ≡ true)
    (sym (next-fixed size room names commands next fixed next_fixed))
    (leads-next size room names commands next name within next_within)

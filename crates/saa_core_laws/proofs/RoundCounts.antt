-- A barrier's rounds: every step that completes one adds one to their number, which nothing else changes, and lets all waiters pass.
use Rattle.std.proofs.Common.{◌≡◌, ℕ, zero, suc, ◌+◌, ◌-◌, ◌<◌, ◌≤◌, Bool, true, false, ◌&&◌, ◌||◌, eqb, nat_lt, min, List, [], ◌∷◌, length, set, Option, Some, None, refl, sym, ap, subst, ◌∙◌, arith, All, inl, inr}
use Rattle.std.specs.Prelude.{nat_le}
use Rattle.std.specs.List.{AllByRecursion, count_by}
use Rattle.std.proofs.lemmas.Bool.{cases_Bool, cases_eq}
use Rattle.std.proofs.lemmas.Bool.Decides.{nat_tests}
use Rattle.std.proofs.lemmas.Option.{cond_some}
use Rattle.std.proofs.lemmas.List.Elements.{recursion_from_All}
use Rattle.saa_core_spec.specs.declared.gate.State.{State}
use Rattle.saa_core_spec.specs.declared.request.Request.{Request}
use Rattle.saa_core_spec.specs.declared.polling.How.{How}
use Rattle.saa_core_spec.specs.declared.polling.How.TheVariants.{Try, Sync, Async}
use Rattle.saa_core_spec.specs.declared.barrier.BarrierCall.{BarrierCall}
use Rattle.saa_core_spec.specs.declared.barrier.BarrierCall.TheVariants.{Count, Arrive as DoArrive, Join, Leave as LeaveOne, Round}
use Rattle.saa_core_spec.specs.declared.run.CommandOf.{CommandOf}
use Rattle.saa_core_spec.specs.declared.run.CommandOf.TheVariants.{Call, Register, TryPoll, PollSync, PollAsync, Drop, Leave}
use Rattle.saa_core_spec.specs.Held.{Held, OfSemaphore, OfShutSemaphore, OfLock, OfGate, OfBarrier, asks_too_much, max_tasks, max_rounds}
use Rattle.saa_core_spec.specs.Object.{Object, After, Entry, Idle, Waiting, Answered, Waiter, entry_at, with_entry, newly_made, one_if, without}
use Rattle.saa_core_spec.specs.Settling.{round_complete}
use Rattle.saa_core_spec.specs.Asking.{is_idle, answer_in, answer_at_once, registered_of}
use Rattle.saa_core_spec.specs.Polling.{is_right_mode, polled_in, polled_of, polled, left_of, undone_of, dropped_of, withdrawn_of}
use Rattle.saa_core_spec.specs.Values.{barrier_value, granted_value, passed_value, leader_value}
use Rattle.saa_core_spec.specs.Barrier.{round_of, arrivals, is_complete, resized, arrived_at, joined_by, left_by_one, barrier_step, arrive_request}
use Rattle.saa_core_spec.specs.Run.{IsWithin, done, state_after}
use Rattle.saa_core_spec.proofs.Leaving.{withdrawn-dropped}
use Rattle.saa_core_laws.specs.Laws.{is_waiting}
use Rattle.saa_core_laws.specs.Registrations.{is_registered, is_answered}
use Rattle.saa_core_laws.specs.Steps.{step_of, steps}
use Rattle.saa_core_laws.specs.Leaders.{BarrierStep, is_leader, ends_round, completes_round, LetsAllPass, barrier_run, barrier_next}
use Rattle.saa_core_laws.proofs.Order.{entry_at-same, entry_at-other, length-answered_in}
use Rattle.saa_core_laws.proofs.Kept.{IsKept, IsKept-held, IsKept-newly_made}
use Rattle.saa_core_laws.proofs.Commands.{IsRight, IsRight-done, IsRight-state_after, or_false-left}
use Rattle.saa_core_laws.proofs.OpenBarriers.{IsIncomplete, KeepsRight-open}
use Rattle.saa_core_laws.proofs.Rounds.{count-step, passes, waiting-unanswered, waits-emptied, poll-answers}

-- What a step does to the number of rounds, which stays at the most
abbrev pub Counts : (before after : ℕ) → (completes : Bool) → Type 0
Counts before after completes = after ≡ min (before + one_if completes) max_rounds

-- the most that is counted, and a number that stays
counted-still : (n most : ℕ) → n ≤ most → n ≡ min (n + 0) most
counted-still n most few = omega arith

counted-few : (n more most : ℕ) → min (n + more) most ≤ most
counted-few n more most = omega arith

-- two counts, one after another
counted-twice : (n b rest mid end most : ℕ) → mid ≡ min (n + b) most → end ≡ min (mid + rest) most → end ≡ min (n + (b + rest)) most
counted-twice n b rest mid end most first second = omega arith

-- a step that completes no round
pub Counts-still : (round : ℕ) → round ≤ max_rounds → Counts round round false
Counts-still round few = counted-still round max_rounds few

-- a barrier of another size counts a round where it completes one
pub Counts-resized : (s : Object) (size arrived round : ℕ) → round ≤ max_rounds
    → Counts round (round_of (resized s size arrived round).held) (is_complete size (arrived + length s.line))
Counts-resized s size arrived round few = elim (cases_Bool (is_complete size (arrived + length s.line))) [
  | inl e ↦ rw e refl
  | inr e ↦ rw e (Counts-still round few)
]

-- an arrival that doesn't wait
pub Counts-arrived_at : (s : Object) (held : Held) → s.held ≡ held → IsIncomplete held s.line → round_of held ≤ max_rounds
    → Counts (round_of held) (round_of (arrived_at s held).state.held) (ends_round DoArrive (arrived_at s held).reply s)
Counts-arrived_at s (OfBarrier size arrived round) is fine few = elim (cases_Bool (nat_lt 0 size)) [
  | inl e ↦ rw e (Counts-resized s size (arrived + 1) round few)
  | inr e ↦ rw (e, is) (Counts-still round few)
]
Counts-arrived_at s (OfSemaphore bound out) is fine few = absurd fine
Counts-arrived_at s (OfShutSemaphore bound out) is fine few = absurd fine
Counts-arrived_at s (OfLock lock) is fine few = absurd fine
Counts-arrived_at s (OfGate gate) is fine few = absurd fine

-- one task less
pub Counts-left_by_one : (s : Object) (held : Held) → s.held ≡ held → IsIncomplete held s.line → round_of held ≤ max_rounds
    → Counts (round_of held) (round_of (left_by_one s held).state.held) (ends_round LeaveOne (left_by_one s held).reply s)
Counts-left_by_one s (OfBarrier size arrived round) is fine few = elim (cases_Bool (nat_lt 0 size)) [
  | inl e ↦ rw e (Counts-resized s (size - 1) arrived round few)
  | inr e ↦ rw (e, is) (Counts-still round few)
]
Counts-left_by_one s (OfSemaphore bound out) is fine few = absurd fine
Counts-left_by_one s (OfShutSemaphore bound out) is fine few = absurd fine
Counts-left_by_one s (OfLock lock) is fine few = absurd fine
Counts-left_by_one s (OfGate gate) is fine few = absurd fine

-- one task more completes a round only where tasks waited at size 0
complete-joined : (size n : ℕ) → (0 < size → n < size) → is_complete (size + 1) n ≡ (eqb size 0 && nat_lt 0 n)
complete-joined zero n fine = elim (cases_Bool (nat_lt 0 n)) [
  | inl e ↦ grind (arith, nat_tests)
  | inr e ↦ rw e refl
]
complete-joined (suc size) n fine =
    let fewer : n < suc size = fine (omega arith) in
    let more : nat_le (suc size + 1) n ≡ false = grind (arith, nat_tests) in
    let some : eqb (suc size) 0 ≡ false = grind (arith, nat_tests) in
    elim (cases_Bool (nat_lt 0 n)) [
      | inl e ↦ rw (e, more, some) refl
      | inr e ↦ rw (e, some) refl
    ]

pub Counts-joined_by : (s : Object) (held : Held) → s.held ≡ held → IsIncomplete held s.line → round_of held ≤ max_rounds
    → Counts (round_of held) (round_of (joined_by s held).state.held) (ends_round Join (joined_by s held).reply s)
Counts-joined_by s (OfBarrier size arrived round) is fine few = elim (cases_Bool (nat_lt size max_tasks)) [
  | inl e ↦ rw (e, is, ← complete-joined size (arrived + length s.line) fine) (Counts-resized s (size + 1) arrived round few)
  | inr e ↦ rw (e, is) (Counts-still round few)
]
Counts-joined_by s (OfSemaphore bound out) is fine few = absurd fine
Counts-joined_by s (OfShutSemaphore bound out) is fine few = absurd fine
Counts-joined_by s (OfLock lock) is fine few = absurd fine
Counts-joined_by s (OfGate gate) is fine few = absurd fine

-- every call
pub Counts-call : (call : BarrierCall) (s : Object) → IsIncomplete s.held s.line → round_of s.held ≤ max_rounds
    → Counts (round_of s.held) (round_of (barrier_step call s).state.held) (ends_round call (barrier_step call s).reply s)
Counts-call Count s fine few = Counts-still (round_of s.held) few
Counts-call DoArrive s fine few = Counts-arrived_at s s.held refl fine few
Counts-call Join s fine few = Counts-joined_by s s.held refl fine few
Counts-call LeaveOne s fine few = Counts-left_by_one s s.held refl fine few
Counts-call Round s fine few = Counts-still (round_of s.held) few

-- the arrival of a leader: its round is counted, its answer is a leader's, and the book keeps its length
pub record Leads (before : ℕ) (s : Object) (answer : After ℕ) : Type 0 where
  pub size : ℕ
  pub round : ℕ
  pub state : answer.state ≡ round_complete passed_value s size round
  pub counted : round_of answer.state.held ≡ min (before + 1) max_rounds
  pub reply : answer.reply ≡ leader_value
  pub book : length answer.state.book ≡ length s.book

pub Leads-answered : (s : Object) (held : Held) (line : List Waiter) (request : Request) (answer : After ℕ) → IsIncomplete held line
    → answer_in s held request ≡ Some answer → Leads (round_of held) s answer
Leads-answered s (OfBarrier size arrived round) line request answer fine e =
    let parts = cond_some (eqb (arrived + length s.line + 1) size) (record { state = round_complete passed_value s size round; reply = leader_value }) answer e in
    rw (← parts.1) (record { size = size; round = round; state = refl; counted = refl; reply = refl; book = length-answered_in passed_value s.line s.book })
Leads-answered s (OfSemaphore bound out) line request answer fine e = absurd fine
Leads-answered s (OfShutSemaphore bound out) line request answer fine e = absurd fine
Leads-answered s (OfLock lock) line request answer fine e = absurd fine
Leads-answered s (OfGate gate) line request answer fine e = absurd fine

-- a registration, by its four cases
pub Counts-registered_of : (s : Object) (name : ℕ) (request : Request) (is_sync is_refused : Bool) (answer : Option (After ℕ)) (is_full : Bool)
    → name < length s.book → answer_at_once s request ≡ answer → IsIncomplete s.held s.line → round_of s.held ≤ max_rounds
    → Counts (round_of s.held) (round_of (registered_of s name request is_sync is_refused answer is_full).state.held)
    ((is_registered (registered_of s name request is_sync is_refused answer is_full).reply
    && is_leader (entry_at (registered_of s name request is_sync is_refused answer is_full).state.book name)) || false)
Counts-registered_of s name request is_sync true answer is_full within e fine few = Counts-still (round_of s.held) few
Counts-registered_of s name request is_sync false (Some answer) is_full within e fine few =
    let leads = Leads-answered s s.held s.line request answer fine e in
    let leader : is_leader (entry_at (set answer.state.book name (Answered answer.reply request is_sync false)) name) ≡ true =
    ap is_leader (entry_at-same answer.state.book name (Answered answer.reply request is_sync false) (omega (arith, leads.book)))
    ∙ ap (λ v. eqb v leader_value) leads.reply in
    rw leader leads.counted
Counts-registered_of s name request is_sync false None true within e fine few = Counts-still (round_of s.held) few
Counts-registered_of s name request is_sync false None false within e fine few =
    let waits : is_leader (entry_at (set s.book name (Waiting request is_sync)) name) ≡ false = ap is_leader (entry_at-same s.book name (Waiting request is_sync) within) in
    rw waits (Counts-still (round_of s.held) few)

-- a poll counts nothing
held-polled_in : (s : Object) (name : ℕ) (entry : Entry) (is_right : Bool) → (polled_in s name entry is_right).state.held ≡ s.held
held-polled_in s name entry false = refl
held-polled_in s name Idle true = refl
held-polled_in s name (Waiting request is_sync) true = refl
held-polled_in s name (Answered value request is_sync slotted) true = refl

held-polled_of : (s : Object) (name : ℕ) (how : How) (entry : Entry) → (polled_of s name how entry).state.held ≡ s.held
held-polled_of s name how Idle = refl
held-polled_of s name how (Waiting request is_sync) = held-polled_in s name (Waiting request is_sync) (is_right_mode how is_sync)
held-polled_of s name how (Answered value request is_sync slotted) =
    held-polled_in s name (Answered value request is_sync slotted) (is_right_mode how is_sync)

pub Counts-polled : (s : Object) (name : ℕ) (how : How) → round_of s.held ≤ max_rounds
    → Counts (round_of s.held) (round_of (polled s name how).state.held) false
Counts-polled s name how few = rw (held-polled_of s name how (entry_at s.book name)) (Counts-still (round_of s.held) few)

-- nor does a drop
held-left_of : (s : Object) (held : Held) (line : List Waiter) → IsIncomplete held line → (left_of s held).held ≡ s.held
held-left_of s (OfBarrier size arrived round) line fine = refl
held-left_of s (OfSemaphore bound out) line fine = absurd fine
held-left_of s (OfShutSemaphore bound out) line fine = absurd fine
held-left_of s (OfLock lock) line fine = absurd fine
held-left_of s (OfGate gate) line fine = absurd fine

held-undone_of : (s : Object) (held : Held) (line : List Waiter) (request : Request) → IsIncomplete held line → (undone_of s held request).held ≡ s.held
held-undone_of s (OfBarrier size arrived round) line request fine = refl
held-undone_of s (OfSemaphore bound out) line request fine = absurd fine
held-undone_of s (OfShutSemaphore bound out) line request fine = absurd fine
held-undone_of s (OfLock lock) line request fine = absurd fine
held-undone_of s (OfGate gate) line request fine = absurd fine

held-dropped_of : (s : Object) (name : ℕ) (entry : Entry) → IsIncomplete s.held s.line → (dropped_of s name entry).held ≡ s.held
held-dropped_of s name Idle fine = refl
held-dropped_of s name (Waiting request is_sync) fine = held-left_of (record (with_entry s name Idle) { line = without name s.line }) s.held s.line fine
held-dropped_of s name (Answered value request is_sync slotted) fine = elim (cases_Bool (eqb value granted_value)) [
  | inl e ↦ rw e (held-undone_of (with_entry s name Idle) s.held s.line request fine)
  | inr e ↦ rw e refl
]

pub Counts-dropped_of : (s : Object) (name : ℕ) (entry : Entry) → IsIncomplete s.held s.line → round_of s.held ≤ max_rounds
    → Counts (round_of s.held) (round_of (dropped_of s name entry).held) false
Counts-dropped_of s name entry fine few = rw (held-dropped_of s name entry fine) (Counts-still (round_of s.held) few)

-- no barrier is a gate
no_gate-open : (held : Held) (line : List Waiter) → IsIncomplete held line → (gate : State) → held ≡ OfGate gate → ⊥
no_gate-open held line fine gate is = subst (λ (h : Held). IsIncomplete h line) is fine

-- every command
pub Counts-done : (names : ℕ) (command : CommandOf BarrierCall (Unit {0})) (s : Object) → IsWithin names command
    → IsRight IsIncomplete names s → round_of s.held ≤ max_rounds
    → Counts (round_of s.held) (round_of (done arrive_request barrier_step barrier_value command s).state.held)
    (completes_round (step_of arrive_request barrier_step barrier_value command s))
Counts-done names (Call call) s within right few = Counts-call call s right.kind few
Counts-done names (Register name ask is_sync) s within right few =
    Counts-registered_of s name (arrive_request ask) is_sync _ (answer_at_once s (arrive_request ask)) _ (omega (arith, right.kept.size)) refl right.kind few
Counts-done names (TryPoll name) s within right few = Counts-polled s name Try few
Counts-done names (PollSync name) s within right few = Counts-polled s name Sync few
Counts-done names (PollAsync name) s within right few = Counts-polled s name Async few
Counts-done names (Drop name) s within right few = Counts-dropped_of s name (entry_at s.book name) right.kind few
Counts-done names (Leave name) s within right few =
    rw (withdrawn-dropped s name (entry_at s.book name) (no_gate-open s.held s.line right.kind))
    (Counts-dropped_of s name (entry_at s.book name) right.kind few)

-- every run of a barrier that is right
pub rounds-run : (names : ℕ) (commands : List (CommandOf BarrierCall (Unit {0}))) (s : Object) → AllByRecursion (IsWithin names) commands
    → IsRight IsIncomplete names s → round_of s.held ≤ max_rounds
    → round_of (state_after arrive_request barrier_step barrier_value commands s).held
    ≡ min (round_of s.held + count_by completes_round (steps arrive_request barrier_step barrier_value commands s)) max_rounds
rounds-run names [] s within right few = counted-still (round_of s.held) max_rounds few
rounds-run names (command ∷ commands) s within right few =
    let step : BarrierStep = step_of arrive_request barrier_step barrier_value command s in
    let run : List BarrierStep = steps arrive_request barrier_step barrier_value commands step.after.state in
    let here = Counts-done names command s within.0 right few in
    let few_after : round_of step.after.state.held ≤ max_rounds =
    subst (λ n. n ≤ max_rounds) (sym here) (counted-few (round_of s.held) (one_if (completes_round step)) max_rounds) in
    let after = IsRight-done IsIncomplete names arrive_request barrier_step barrier_value (KeepsRight-open names) command s within.0 right in
    counted-twice (round_of s.held) (one_if (completes_round step)) (count_by completes_round run) (round_of step.after.state.held) _ max_rounds
    here (rounds-run names commands step.after.state within.1 after few_after)
    ∙ ap (λ n. min (round_of s.held + n) max_rounds) (sym (count-step completes_round step run))

-- every run of a newly made barrier
pub rounds-counted : (size room names : ℕ) (commands : List (CommandOf BarrierCall (Unit {0}))) → All (IsWithin names) commands
    → round_of (state_after arrive_request barrier_step barrier_value commands (newly_made (OfBarrier size 0 0) room names)).held
    ≡ min (count_by completes_round (barrier_run size room names commands)) max_rounds
rounds-counted size room names commands within =
    let run : ℕ = count_by completes_round (barrier_run size room names commands) in
    let begun : 0 + run ≡ run = omega arith in
    rounds-run names commands (newly_made (OfBarrier size 0 0) room names) (recursion_from_All (IsWithin names) commands within)
    (record { kept = IsKept-newly_made (OfBarrier size 0 0) room names; kind = λ some. some }) (omega arith)
    ∙ ap (λ n. min n max_rounds) begun

-- What a step that completes a round does, and first where its state is known
pub LetsAllPass-complete : (names : ℕ) (s : Object) (size round : ℕ) → IsKept names s → LetsAllPass s (round_complete passed_value s size round)
LetsAllPass-complete names s size round kept =
    let next : Held = OfBarrier size 0 (min (round + 1) max_rounds) in
    record {
      nobody = refl;
      none = refl;
      answered = λ name request is_sync at. passes names passed_value (record s { held = next }) name request is_sync (IsKept-held names s next kept) at;
    }

pub LetsAllPass-resized : (names : ℕ) (s : Object) (size arrived round : ℕ) → IsKept names s → is_complete size (arrived + length s.line) ≡ true
    → LetsAllPass s (resized s size arrived round)
LetsAllPass-resized names s size arrived round kept e = rw e (LetsAllPass-complete names s size round kept)

-- an arrival that doesn't wait
pub LetsAllPass-arrived_at : (names : ℕ) (s : Object) (held : Held) → IsKept names s → ends_round DoArrive (arrived_at s held).reply s ≡ true
    → LetsAllPass s (arrived_at s held).state
LetsAllPass-arrived_at names s (OfBarrier size arrived round) kept ends = elim (cases_Bool (nat_lt 0 size)) [
  | inl e ↦ rw e (LetsAllPass-resized names s size (arrived + 1) round kept (rw e at ends))
  | inr e ↦ let no : false ≡ true = rw e at ends in absurd (cc)
]
LetsAllPass-arrived_at names s (OfSemaphore bound out) kept ends = absurd (cc)
LetsAllPass-arrived_at names s (OfShutSemaphore bound out) kept ends = absurd (cc)
LetsAllPass-arrived_at names s (OfLock lock) kept ends = absurd (cc)
LetsAllPass-arrived_at names s (OfGate gate) kept ends = absurd (cc)

-- one task less
pub LetsAllPass-left_by_one : (names : ℕ) (s : Object) (held : Held) → IsKept names s → ends_round LeaveOne (left_by_one s held).reply s ≡ true
    → LetsAllPass s (left_by_one s held).state
LetsAllPass-left_by_one names s (OfBarrier size arrived round) kept ends = elim (cases_Bool (nat_lt 0 size)) [
  | inl e ↦ rw e (LetsAllPass-resized names s (size - 1) arrived round kept (rw e at ends))
  | inr e ↦ let no : false ≡ true = rw e at ends in absurd (cc)
]
LetsAllPass-left_by_one names s (OfSemaphore bound out) kept ends = absurd (cc)
LetsAllPass-left_by_one names s (OfShutSemaphore bound out) kept ends = absurd (cc)
LetsAllPass-left_by_one names s (OfLock lock) kept ends = absurd (cc)
LetsAllPass-left_by_one names s (OfGate gate) kept ends = absurd (cc)

-- one task more
pub LetsAllPass-joined_by : (names : ℕ) (s : Object) (held : Held) → s.held ≡ held → IsIncomplete held s.line → IsKept names s
    → ends_round Join (joined_by s held).reply s ≡ true → LetsAllPass s (joined_by s held).state
LetsAllPass-joined_by names s (OfBarrier size arrived round) is fine kept ends = elim (cases_Bool (nat_lt size max_tasks)) [
  | inl e ↦
      let both : (eqb size 0 && nat_lt 0 (arrived + length s.line)) ≡ true = rw (e, is) at ends in
      rw e (LetsAllPass-resized names s (size + 1) arrived round kept (complete-joined size (arrived + length s.line) fine ∙ both))
  | inr e ↦ let no : false ≡ true = rw e at ends in absurd (cc)
]
LetsAllPass-joined_by names s (OfSemaphore bound out) is fine kept ends = absurd fine
LetsAllPass-joined_by names s (OfShutSemaphore bound out) is fine kept ends = absurd fine
LetsAllPass-joined_by names s (OfLock lock) is fine kept ends = absurd fine
LetsAllPass-joined_by names s (OfGate gate) is fine kept ends = absurd fine

-- every call
pub LetsAllPass-call : (names : ℕ) (call : BarrierCall) (s : Object) → IsRight IsIncomplete names s → ends_round call (barrier_step call s).reply s ≡ true
    → LetsAllPass s (barrier_step call s).state
LetsAllPass-call names Count s right ends = absurd (cc)
LetsAllPass-call names DoArrive s right ends = LetsAllPass-arrived_at names s s.held right.kept ends
LetsAllPass-call names Join s right ends = LetsAllPass-joined_by names s s.held refl right.kind right.kept ends
LetsAllPass-call names LeaveOne s right ends = LetsAllPass-left_by_one names s s.held right.kept ends
LetsAllPass-call names Round s right ends = absurd (cc)

-- a registration, by its four cases
pub LetsAllPass-registered_of : (names : ℕ) (s : Object) (name : ℕ) (request : Request) (is_sync is_refused : Bool) (answer : Option (After ℕ)) (is_full : Bool)
    → IsRight IsIncomplete names s → name < length s.book → (is_refused ≡ false → is_idle (entry_at s.book name) ≡ true)
    → answer_at_once s request ≡ answer
    → ((is_registered (registered_of s name request is_sync is_refused answer is_full).reply
    && is_leader (entry_at (registered_of s name request is_sync is_refused answer is_full).state.book name)) || false) ≡ true
    → LetsAllPass s (registered_of s name request is_sync is_refused answer is_full).state
LetsAllPass-registered_of names s name request is_sync true answer is_full right within idle e ends = absurd (cc)
LetsAllPass-registered_of names s name request is_sync false (Some answer) is_full right within idle e ends =
    let leads = Leads-answered s s.held s.line request answer right.kind e in
    let passed : LetsAllPass s (round_complete passed_value s leads.size leads.round) = LetsAllPass-complete names s leads.size leads.round right.kept in
    record {
      nobody = ap (λ (o : Object). o.line) leads.state;
      none = ap arrivals leads.state;
      answered = λ other asked was_sync at.
          let apart : other ≡ name → ⊥ = λ same.
          (let idle_there : is_idle (entry_at s.book other) ≡ true = ap (λ n. is_idle (entry_at s.book n)) same ∙ idle refl in
          let busy : is_idle (entry_at s.book other) ≡ false = ap is_idle at in cc) in
          entry_at-other answer.state.book name other (Answered answer.reply request is_sync false) apart
          ∙ ap (λ (o : Object). entry_at o.book other) leads.state
          ∙ passed.answered other asked was_sync at;
    }
LetsAllPass-registered_of names s name request is_sync false None true right within idle e ends = absurd (cc)
LetsAllPass-registered_of names s name request is_sync false None false right within idle e ends =
    let waits : is_leader (entry_at (set s.book name (Waiting request is_sync)) name) ≡ false = ap is_leader (entry_at-same s.book name (Waiting request is_sync) within) in
    let no : false ≡ true = rw waits at ends in
    absurd (cc)

-- every command
pub LetsAllPass-done : (names : ℕ) (command : CommandOf BarrierCall (Unit {0})) (s : Object) → IsWithin names command
    → IsRight IsIncomplete names s
    → completes_round (step_of arrive_request barrier_step barrier_value command s) ≡ true
    → LetsAllPass s (done arrive_request barrier_step barrier_value command s).state
LetsAllPass-done names (Call call) s within right ends = LetsAllPass-call names call s right ends
LetsAllPass-done names (Register name ask is_sync) s within right ends =
    LetsAllPass-registered_of names s name (arrive_request ask) is_sync _ (answer_at_once s (arrive_request ask)) _ right
    (omega (arith, right.kept.size)) (λ e. or_false-left (is_idle (entry_at s.book name)) (asks_too_much s.held (arrive_request ask)) e) refl ends
LetsAllPass-done names (TryPoll name) s within right ends = absurd (cc)
LetsAllPass-done names (PollSync name) s within right ends = absurd (cc)
LetsAllPass-done names (PollAsync name) s within right ends = absurd (cc)
LetsAllPass-done names (Drop name) s within right ends = absurd (cc)
LetsAllPass-done names (Leave name) s within right ends = absurd (cc)

-- after every run
pub LetsAllPass-next : (size room names : ℕ) (commands : List (CommandOf BarrierCall (Unit {0}))) (next : CommandOf BarrierCall (Unit {0}))
    → All (IsWithin names) commands → IsWithin names next
    → completes_round (barrier_next size room names commands next) ≡ true
    → LetsAllPass (barrier_next size room names commands next).before (barrier_next size room names commands next).after.state
LetsAllPass-next size room names commands next within next_within ends =
    let right = IsRight-state_after IsIncomplete names arrive_request barrier_step barrier_value (KeepsRight-open names) commands
    (newly_made (OfBarrier size 0 0) room names) within
    (record { kept = IsKept-newly_made (OfBarrier size 0 0) room names; kind = λ some. some }) in
    LetsAllPass-done names next _ next_within right ends

-- A waiter is answered by nothing but a step that completes a round, and first where the size may change
answering-resized : (s : Object) (size arrived round name : ℕ) → is_waiting (entry_at s.book name) ≡ true
    → is_answered (entry_at (resized s size arrived round).book name) ≡ true → is_complete size (arrived + length s.line) ≡ true
answering-resized s size arrived round name waits there = elim (cases_Bool (is_complete size (arrived + length s.line))) [
  | inl e ↦ e
  | inr e ↦
      let still : is_answered (entry_at s.book name) ≡ true = rw e at there in
      let none = waiting-unanswered (entry_at s.book name) waits in absurd (cc)
]

-- an arrival that doesn't wait
answering-arrived_at : (s : Object) (held : Held) (name : ℕ) → is_waiting (entry_at s.book name) ≡ true
    → is_answered (entry_at (arrived_at s held).state.book name) ≡ true → ends_round DoArrive (arrived_at s held).reply s ≡ true
answering-arrived_at s (OfBarrier size arrived round) name waits there = elim (cases_Bool (nat_lt 0 size)) [
  | inl e ↦ rw e (answering-resized s size (arrived + 1) round name waits (rw e at there))
  | inr e ↦
      let still : is_answered (entry_at s.book name) ≡ true = rw e at there in
      let none = waiting-unanswered (entry_at s.book name) waits in absurd (cc)
]
answering-arrived_at s (OfSemaphore bound out) name waits there = let none = waiting-unanswered (entry_at s.book name) waits in absurd (cc)
answering-arrived_at s (OfShutSemaphore bound out) name waits there = let none = waiting-unanswered (entry_at s.book name) waits in absurd (cc)
answering-arrived_at s (OfLock lock) name waits there = let none = waiting-unanswered (entry_at s.book name) waits in absurd (cc)
answering-arrived_at s (OfGate gate) name waits there = let none = waiting-unanswered (entry_at s.book name) waits in absurd (cc)

-- one task less
answering-left_by_one : (s : Object) (held : Held) (name : ℕ) → is_waiting (entry_at s.book name) ≡ true
    → is_answered (entry_at (left_by_one s held).state.book name) ≡ true → ends_round LeaveOne (left_by_one s held).reply s ≡ true
answering-left_by_one s (OfBarrier size arrived round) name waits there = elim (cases_Bool (nat_lt 0 size)) [
  | inl e ↦ rw e (answering-resized s (size - 1) arrived round name waits (rw e at there))
  | inr e ↦
      let still : is_answered (entry_at s.book name) ≡ true = rw e at there in
      let none = waiting-unanswered (entry_at s.book name) waits in absurd (cc)
]
answering-left_by_one s (OfSemaphore bound out) name waits there = let none = waiting-unanswered (entry_at s.book name) waits in absurd (cc)
answering-left_by_one s (OfShutSemaphore bound out) name waits there = let none = waiting-unanswered (entry_at s.book name) waits in absurd (cc)
answering-left_by_one s (OfLock lock) name waits there = let none = waiting-unanswered (entry_at s.book name) waits in absurd (cc)
answering-left_by_one s (OfGate gate) name waits there = let none = waiting-unanswered (entry_at s.book name) waits in absurd (cc)

-- one task more
answering-joined_by : (s : Object) (held : Held) (name : ℕ) → s.held ≡ held → IsIncomplete held s.line → is_waiting (entry_at s.book name) ≡ true
    → is_answered (entry_at (joined_by s held).state.book name) ≡ true → ends_round Join (joined_by s held).reply s ≡ true
answering-joined_by s (OfBarrier size arrived round) name is fine waits there = elim (cases_Bool (nat_lt size max_tasks)) [
  | inl e ↦
      let complete : is_complete (size + 1) (arrived + length s.line) ≡ true = answering-resized s (size + 1) arrived round name waits (rw e at there) in
      rw (e, is) (sym (complete-joined size (arrived + length s.line) fine) ∙ complete)
  | inr e ↦
      let still : is_answered (entry_at s.book name) ≡ true = rw e at there in
      let none = waiting-unanswered (entry_at s.book name) waits in absurd (cc)
]
answering-joined_by s (OfSemaphore bound out) name is fine waits there = absurd fine
answering-joined_by s (OfShutSemaphore bound out) name is fine waits there = absurd fine
answering-joined_by s (OfLock lock) name is fine waits there = absurd fine
answering-joined_by s (OfGate gate) name is fine waits there = absurd fine

-- every call
answering-call : (call : BarrierCall) (s : Object) (name : ℕ) → IsIncomplete s.held s.line → is_waiting (entry_at s.book name) ≡ true
    → is_answered (entry_at (barrier_step call s).state.book name) ≡ true → ends_round call (barrier_step call s).reply s ≡ true
answering-call Count s name fine waits there = let none = waiting-unanswered (entry_at s.book name) waits in absurd (cc)
answering-call DoArrive s name fine waits there = answering-arrived_at s s.held name waits there
answering-call Join s name fine waits there = answering-joined_by s s.held name refl fine waits there
answering-call LeaveOne s name fine waits there = answering-left_by_one s s.held name waits there
answering-call Round s name fine waits there = let none = waiting-unanswered (entry_at s.book name) waits in absurd (cc)

-- a registration, by its four cases
answering-registered_of : (s : Object) (name other : ℕ) (request : Request) (is_sync is_refused : Bool) (answer : Option (After ℕ)) (is_full : Bool)
    → other < length s.book → answer_at_once s request ≡ answer → IsIncomplete s.held s.line → is_waiting (entry_at s.book name) ≡ true
    → is_answered (entry_at (registered_of s other request is_sync is_refused answer is_full).state.book name) ≡ true
    → ((is_registered (registered_of s other request is_sync is_refused answer is_full).reply
    && is_leader (entry_at (registered_of s other request is_sync is_refused answer is_full).state.book other)) || false) ≡ true
answering-registered_of s name other request is_sync true answer is_full within e fine waits there =
    let none = waiting-unanswered (entry_at s.book name) waits in absurd (cc)
answering-registered_of s name other request is_sync false (Some answer) is_full within e fine waits there =
    let leads = Leads-answered s s.held s.line request answer fine e in
    let leader : is_leader (entry_at (set answer.state.book other (Answered answer.reply request is_sync false)) other) ≡ true =
    ap is_leader (entry_at-same answer.state.book other (Answered answer.reply request is_sync false) (omega (arith, leads.book)))
    ∙ ap (λ v. eqb v leader_value) leads.reply in
    rw leader refl
answering-registered_of s name other request is_sync false None true within e fine waits there =
    let none = waiting-unanswered (entry_at s.book name) waits in absurd (cc)
answering-registered_of s name other request is_sync false None false within e fine waits there =
    let none = waiting-unanswered (entry_at s.book name) waits in
    let still : is_answered (entry_at (set s.book other (Waiting request is_sync)) name) ≡ false = elim (cases_eq name other) [
      | inl same ↦ rw same (ap is_answered (entry_at-same s.book other (Waiting request is_sync) within))
      | inr apart ↦ ap is_answered (entry_at-other s.book other name (Waiting request is_sync) apart) ∙ none
    ] in
    absurd (cc)

-- a barrier's book isn't changed by what a name leaves, nor by what is given back
book-left_of : (s : Object) (held : Held) (line : List Waiter) → IsIncomplete held line → (left_of s held).book ≡ s.book
book-left_of s (OfBarrier size arrived round) line fine = refl
book-left_of s (OfSemaphore bound out) line fine = absurd fine
book-left_of s (OfShutSemaphore bound out) line fine = absurd fine
book-left_of s (OfLock lock) line fine = absurd fine
book-left_of s (OfGate gate) line fine = absurd fine

book-undone_of : (s : Object) (held : Held) (line : List Waiter) (request : Request) → IsIncomplete held line → (undone_of s held request).book ≡ s.book
book-undone_of s (OfBarrier size arrived round) line request fine = refl
book-undone_of s (OfSemaphore bound out) line request fine = absurd fine
book-undone_of s (OfShutSemaphore bound out) line request fine = absurd fine
book-undone_of s (OfLock lock) line request fine = absurd fine
book-undone_of s (OfGate gate) line request fine = absurd fine

-- a drop answers nobody
unanswered-dropped_of : (s : Object) (name other : ℕ) (entry : Entry) → IsIncomplete s.held s.line → is_answered (entry_at s.book name) ≡ false
    → is_answered (entry_at (dropped_of s other entry).book name) ≡ false
unanswered-dropped_of s name other Idle fine none = none
unanswered-dropped_of s name other (Waiting request is_sync) fine none =
    ap (λ b. is_answered (entry_at b name)) (book-left_of (record (with_entry s other Idle) { line = without other s.line }) s.held s.line fine)
    ∙ waits-emptied s name other none
unanswered-dropped_of s name other (Answered value request is_sync slotted) fine none = elim (cases_Bool (eqb value granted_value)) [
  | inl e ↦ rw e (ap (λ b. is_answered (entry_at b name)) (book-undone_of (with_entry s other Idle) s.held s.line request fine) ∙ waits-emptied s name other none)
  | inr e ↦ rw e (waits-emptied s name other none)
]

-- every command
pub answering-done : (names : ℕ) (command : CommandOf BarrierCall (Unit {0})) (s : Object) (name : ℕ) → IsWithin names command
    → IsRight IsIncomplete names s → is_waiting (entry_at s.book name) ≡ true
    → is_answered (entry_at (done arrive_request barrier_step barrier_value command s).state.book name) ≡ true
    → completes_round (step_of arrive_request barrier_step barrier_value command s) ≡ true
answering-done names (Call call) s name within right waits there = answering-call call s name right.kind waits there
answering-done names (Register other ask is_sync) s name within right waits there =
    answering-registered_of s name other (arrive_request ask) is_sync _ (answer_at_once s (arrive_request ask)) _ (omega (arith, right.kept.size)) refl right.kind waits there
answering-done names (TryPoll other) s name within right waits there = absurd (poll-answers s name other Try waits there)
answering-done names (PollSync other) s name within right waits there = absurd (poll-answers s name other Sync waits there)
answering-done names (PollAsync other) s name within right waits there = absurd (poll-answers s name other Async waits there)
answering-done names (Drop other) s name within right waits there =
    let none = unanswered-dropped_of s name other (entry_at s.book other) right.kind (waiting-unanswered (entry_at s.book name) waits) in absurd (cc)
answering-done names (Leave other) s name within right waits there =
    let none : is_answered (entry_at (withdrawn_of s other (entry_at s.book other)).book name) ≡ false =
    ap (λ (o : Object). is_answered (entry_at o.book name)) (withdrawn-dropped s other (entry_at s.book other) (no_gate-open s.held s.line right.kind))
    ∙ unanswered-dropped_of s name other (entry_at s.book other) right.kind (waiting-unanswered (entry_at s.book name) waits) in
    absurd (cc)

-- after every run
pub answering-next : (size room names : ℕ) (commands : List (CommandOf BarrierCall (Unit {0}))) (next : CommandOf BarrierCall (Unit {0})) (name : ℕ)
    → All (IsWithin names) commands → IsWithin names next
    → is_waiting (entry_at (barrier_next size room names commands next).before.book name) ≡ true
    → is_answered (entry_at (barrier_next size room names commands next).after.state.book name) ≡ true
    → completes_round (barrier_next size room names commands next) ≡ true
answering-next size room names commands next name within next_within waits there =
    let right = IsRight-state_after IsIncomplete names arrive_request barrier_step barrier_value (KeepsRight-open names) commands
    (newly_made (OfBarrier size 0 0) room names) within
    (record { kept = IsKept-newly_made (OfBarrier size 0 0) room names; kind = λ some. some }) in
    answering-done names next _ name next_within right waits there

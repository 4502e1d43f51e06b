-- What every step of a barrier keeps, whose size may change, and so every run.
use Rattle.std.proofs.Common.{◌≡◌, ℕ, ◌+◌, ◌-◌, ◌<◌, ◌≤◌, true, false, nat_lt, min, eqb, List, [], ◌∷◌, ◌++◌, length, Some, None, refl, arith, All, length-append, inl, inr, subst}
use Rattle.std.proofs.lemmas.Bool.{cases_Bool, eqb-false}
use Rattle.std.proofs.lemmas.Bool.Decides.{nat_tests}
use Rattle.std.proofs.lemmas.Option.{cond_some}
use Rattle.std.specs.Prelude.{nat_le}
use Rattle.saa_core_spec.specs.declared.request.Request.{Request}
use Rattle.saa_core_spec.specs.declared.barrier.BarrierCall.{BarrierCall}
use Rattle.saa_core_spec.specs.declared.barrier.BarrierCall.TheVariants.{Count, Arrive as DoArrive, Join, Leave as LeaveOne, Round}
use Rattle.saa_core_spec.specs.declared.barrier.BarrierAnswer.{BarrierAnswer}
use Rattle.saa_core_spec.specs.declared.run.CommandOf.{CommandOf}
use Rattle.saa_core_spec.specs.Held.{Held, OfSemaphore, OfShutSemaphore, OfLock, OfGate, OfBarrier, max_tasks, max_rounds}
use Rattle.saa_core_spec.specs.Object.{Object, After, Idle, Waiter, newly_made, with_entry, without}
use Rattle.saa_core_spec.specs.Settling.{round_complete}
use Rattle.saa_core_spec.specs.Asking.{answer_in}
use Rattle.saa_core_spec.specs.Polling.{left_of, undone_of}
use Rattle.saa_core_spec.specs.Values.{barrier_value, passed_value, leader_value}
use Rattle.saa_core_spec.specs.Barrier.{size_of, arrived_of, is_complete, resized, arrived_at, joined_by, left_by_one, barrier_step, arrive_request}
use Rattle.saa_core_spec.specs.Run.{IsWithin, state_after}
use Rattle.saa_core_spec.proofs.Counts.{length-without}
use Rattle.saa_core_spec.proofs.Leaving.{quiet-left}
use Rattle.saa_core_laws.specs.Laws.{IsOpenBarrier}
use Rattle.saa_core_laws.proofs.Kept.{IsKept, IsKept-held, IsInOrder-kept, IsKept-newly_made, IsKept-all_answered, is_waiting-all_answered}
use Rattle.saa_core_laws.proofs.Commands.{IsRight, IsRightAnswer, KeepsRight, IsRight-state_after, cond_none}

-- a barrier whose round is incomplete, where one ever completes
abbrev pub IsIncomplete : Held → List Waiter → Type 0
IsIncomplete (OfBarrier size arrived round) line = 0 < size → arrived + length line < size
IsIncomplete (OfSemaphore bound out) line = ⊥
IsIncomplete (OfShutSemaphore bound out) line = ⊥
IsIncomplete (OfLock lock) line = ⊥
IsIncomplete (OfGate gate) line = ⊥

-- the round is complete, and the next begins
pub IsRight-round_complete : (names : ℕ) (s : Object) (size round : ℕ) → IsKept names s
    → IsRight IsIncomplete names (round_complete passed_value s size round)
IsRight-round_complete names s size round kept = record {
  kept = IsKept-all_answered names passed_value (record s { held = OfBarrier size 0 (min (round + 1) max_rounds) })
      (IsKept-held names s (OfBarrier size 0 (min (round + 1) max_rounds)) kept);
  kind = λ some. some;
}

-- where it isn't complete, fewer have arrived than pass together, where anybody ever does
pub incomplete-fewer : (size n : ℕ) → is_complete size n ≡ false → 0 < size → n < size
incomplete-fewer size n e some = elim (cases_Bool (nat_lt 0 n)) [
  | inl has ↦ elim (cases_Bool (nat_le size n)) [
    | inl all ↦ let yes : is_complete size n ≡ true = rw (has, all) refl in cc
    | inr few ↦ grind (arith, nat_tests)
  ]
  | inr none ↦ let zero : n ≡ 0 = grind (arith, nat_tests) in omega (arith, zero, some)
]

-- a barrier of another size
pub IsRight-resized : (names : ℕ) (s : Object) (size arrived round : ℕ) → IsKept names s → IsRight IsIncomplete names (resized s size arrived round)
IsRight-resized names s size arrived round kept = elim (cases_Bool (is_complete size (arrived + length s.line))) [
  | inl e ↦ rw e (IsRight-round_complete names s size round kept)
  | inr e ↦ rw e (record {
    kept = IsKept-held names s (OfBarrier size arrived round) kept;
    kind = incomplete-fewer size (arrived + length s.line) e;
  })
]

-- an arrival for which nobody waits
pub IsRight-arrived_at : (names : ℕ) (s : Object) (held : Held) → IsRight IsIncomplete names s → IsRight IsIncomplete names (arrived_at s held).state
IsRight-arrived_at names s (OfBarrier size arrived round) right = elim (cases_Bool (nat_lt 0 size)) [
  | inl e ↦ rw e (IsRight-resized names s size (arrived + 1) round right.kept)
  | inr e ↦ rw e right
]
IsRight-arrived_at names s (OfSemaphore bound out) right = right
IsRight-arrived_at names s (OfShutSemaphore bound out) right = right
IsRight-arrived_at names s (OfLock lock) right = right
IsRight-arrived_at names s (OfGate gate) right = right

-- one task more
pub IsRight-joined_by : (names : ℕ) (s : Object) (held : Held) → IsRight IsIncomplete names s → IsRight IsIncomplete names (joined_by s held).state
IsRight-joined_by names s (OfBarrier size arrived round) right = elim (cases_Bool (nat_lt size max_tasks)) [
  | inl e ↦ rw e (IsRight-resized names s (size + 1) arrived round right.kept)
  | inr e ↦ rw e right
]
IsRight-joined_by names s (OfSemaphore bound out) right = right
IsRight-joined_by names s (OfShutSemaphore bound out) right = right
IsRight-joined_by names s (OfLock lock) right = right
IsRight-joined_by names s (OfGate gate) right = right

-- one task less
pub IsRight-left_by_one : (names : ℕ) (s : Object) (held : Held) → IsRight IsIncomplete names s → IsRight IsIncomplete names (left_by_one s held).state
IsRight-left_by_one names s (OfBarrier size arrived round) right = elim (cases_Bool (nat_lt 0 size)) [
  | inl e ↦ rw e (IsRight-resized names s (size - 1) arrived round right.kept)
  | inr e ↦ rw e right
]
IsRight-left_by_one names s (OfSemaphore bound out) right = right
IsRight-left_by_one names s (OfShutSemaphore bound out) right = right
IsRight-left_by_one names s (OfLock lock) right = right
IsRight-left_by_one names s (OfGate gate) right = right

-- every call of a barrier
pub IsRight-open_step : (names : ℕ) (call : BarrierCall) (s : Object) → IsRight IsIncomplete names s → IsRight IsIncomplete names (barrier_step call s).state
IsRight-open_step names Count s right = right
IsRight-open_step names DoArrive s right = IsRight-arrived_at names s s.held right
IsRight-open_step names Join s right = IsRight-joined_by names s s.held right
IsRight-open_step names LeaveOne s right = IsRight-left_by_one names s s.held right
IsRight-open_step names Round s right = right

-- the last arrival of a round lets all waiters pass
pub IsRightAnswer-open : (names : ℕ) (s : Object) (held : Held) (line : List Waiter) (request : Request) (answer : After ℕ) → IsIncomplete held line
    → answer_in s held request ≡ Some answer → IsRight IsIncomplete names s → IsRightAnswer IsIncomplete names s answer
IsRightAnswer-open names s (OfBarrier size arrived round) line request answer fine e right =
    let parts = cond_some (eqb (arrived + length s.line + 1) size) (record { state = round_complete passed_value s size round; reply = leader_value }) answer e in
    let next : Object = record s { held = OfBarrier size 0 (min (round + 1) max_rounds) } in
    rw (← parts.1) (record {
      right = IsRight-round_complete names s size round right.kept;
      still = λ name before. is_waiting-all_answered names passed_value next name (IsKept-held names s (OfBarrier size 0 (min (round + 1) max_rounds)) right.kept);
    })
IsRightAnswer-open names s (OfSemaphore bound out) line request answer fine e right = absurd fine
IsRightAnswer-open names s (OfShutSemaphore bound out) line request answer fine e right = absurd fine
IsRightAnswer-open names s (OfLock lock) line request answer fine e right = absurd fine
IsRightAnswer-open names s (OfGate gate) line request answer fine e right = absurd fine

-- another arrival waits, and the round is still incomplete
pub IsIncomplete-joined : (s : Object) (held : Held) (waiter : Waiter) (request : Request) → IsIncomplete held s.line
    → answer_in s held request ≡ None → IsIncomplete held (s.line ++ waiter ∷ [])
IsIncomplete-joined s (OfBarrier size arrived round) waiter request fine e =
    let last = eqb-false (arrived + length s.line + 1) size (cond_none (eqb (arrived + length s.line + 1) size) _ e) in
    λ some. omega (arith, fine some, last, length-append s.line (waiter ∷ []))
IsIncomplete-joined s (OfSemaphore bound out) waiter request fine e = absurd fine
IsIncomplete-joined s (OfShutSemaphore bound out) waiter request fine e = absurd fine
IsIncomplete-joined s (OfLock lock) waiter request fine e = absurd fine
IsIncomplete-joined s (OfGate gate) waiter request fine e = absurd fine

-- a barrier at which no more wait
pub IsIncomplete-fewer : (held : Held) (line fewer : List Waiter) → length fewer ≤ length line → IsIncomplete held line → IsIncomplete held fewer
IsIncomplete-fewer (OfBarrier size arrived round) line fewer less fine = λ some. omega (arith, fine some, less)
IsIncomplete-fewer (OfSemaphore bound out) line fewer less fine = fine
IsIncomplete-fewer (OfShutSemaphore bound out) line fewer less fine = fine
IsIncomplete-fewer (OfLock lock) line fewer less fine = fine
IsIncomplete-fewer (OfGate gate) line fewer less fine = fine

-- a name that waited has left
pub IsRight-open_left : (names : ℕ) (left : Object) (held : Held) (line : List Waiter) → IsIncomplete held line → IsRight IsIncomplete names left
    → IsRight IsIncomplete names (left_of left held)
IsRight-open_left names left (OfBarrier size arrived round) line fine right = right
IsRight-open_left names left (OfSemaphore bound out) line fine right = absurd fine
IsRight-open_left names left (OfShutSemaphore bound out) line fine right = absurd fine
IsRight-open_left names left (OfLock lock) line fine right = absurd fine
IsRight-open_left names left (OfGate gate) line fine right = absurd fine

-- a dropped answer gives nothing back
pub IsRight-open_undone : (names : ℕ) (s : Object) (held : Held) (line : List Waiter) (request : Request) → IsIncomplete held line
    → IsRight IsIncomplete names s → IsRight IsIncomplete names (undone_of s held request)
IsRight-open_undone names s (OfBarrier size arrived round) line request fine right = right
IsRight-open_undone names s (OfSemaphore bound out) line request fine right = absurd fine
IsRight-open_undone names s (OfShutSemaphore bound out) line request fine right = absurd fine
IsRight-open_undone names s (OfLock lock) line request fine right = absurd fine
IsRight-open_undone names s (OfGate gate) line request fine right = absurd fine

-- what is there once a name has left the line
pub IsRight-one_left : (names : ℕ) (s : Object) (name : ℕ) → IsRight IsIncomplete names s
    → IsKept names (record (with_entry s name Idle) { line = without name s.line })
    → IsRight IsIncomplete names (record (with_entry s name Idle) { line = without name s.line })
IsRight-one_left names s name right kept = record {
  kept = kept;
  kind = IsIncomplete-fewer s.held s.line (without name s.line) (omega (arith, length-without name s.line)) right.kind;
}

-- every step of a barrier
pub KeepsRight-open : (names : ℕ) → KeepsRight BarrierCall BarrierAnswer (Unit {0}) IsIncomplete names arrive_request barrier_step
KeepsRight-open names = record {
  calls = IsRight-open_step names;
  answers = λ s ask answer right e. IsRightAnswer-open names s s.held s.line (arrive_request ask) answer right.kind e right;
  joins = λ s name ask right e not_too_much. IsIncomplete-joined s s.held (name, arrive_request ask) (arrive_request ask) right.kind e;
  leaves = λ s name right kept.
      IsRight-open_left names (record (with_entry s name Idle) { line = without name s.line }) s.held s.line right.kind (IsRight-one_left names s name right kept);
  quiet = λ s name right kept.
      rw (quiet-left (record (with_entry s name Idle) { line = without name s.line }) s.held (λ gate is. subst (λ (h : Held). IsIncomplete h s.line) is right.kind))
      (IsRight-open_left names (record (with_entry s name Idle) { line = without name s.line }) s.held s.line right.kind (IsRight-one_left names s name right kept));
  undoes = λ s asked right. IsRight-open_undone names s s.held s.line asked right.kind right;
}

-- a barrier is one of some size
pub open-bounded : (held : Held) (line : List Waiter) → IsIncomplete held line
    → (size : ℕ) × (arrived : ℕ) × (round : ℕ) × (held ≡ OfBarrier size arrived round)
open-bounded (OfBarrier size arrived round) line fine = (size, arrived, round, refl)
open-bounded (OfSemaphore bound out) line fine = absurd fine
open-bounded (OfShutSemaphore bound out) line fine = absurd fine
open-bounded (OfLock lock) line fine = absurd fine
open-bounded (OfGate gate) line fine = absurd fine

pub open-incomplete : (held : Held) (line : List Waiter) → IsIncomplete held line → 0 < size_of held → arrived_of held + length line < size_of held
open-incomplete (OfBarrier size arrived round) line fine = fine
open-incomplete (OfSemaphore bound out) line fine = absurd fine
open-incomplete (OfShutSemaphore bound out) line fine = absurd fine
open-incomplete (OfLock lock) line fine = absurd fine
open-incomplete (OfGate gate) line fine = absurd fine

-- every run of a newly made barrier leaves its round incomplete
pub open-in_order : (size room names : ℕ) (commands : List (CommandOf BarrierCall (Unit {0}))) → All (IsWithin names) commands
    → IsOpenBarrier (state_after arrive_request barrier_step barrier_value commands (newly_made (OfBarrier size 0 0) room names))
open-in_order size room names commands within =
    let right = IsRight-state_after IsIncomplete names arrive_request barrier_step barrier_value
    (KeepsRight-open names) commands (newly_made (OfBarrier size 0 0) room names) within
    (record { kept = IsKept-newly_made (OfBarrier size 0 0) room names; kind = λ some. some }) in
    record {
      order = IsInOrder-kept names _ right.kept;
      bounded = open-bounded _ _ right.kind;
      incomplete = open-incomplete _ _ right.kind;
    }

-- What every step of a barrier keeps, and so every run.
use Rattle.std.proofs.Common.{◌≡◌, ℕ, ◌+◌, ◌<◌, ◌≤◌, Bool, false, min, ◌∙◌, eqb, List, [], ◌∷◌, ◌++◌, length, Some, None, refl, ap, arith, All, length-append, subst}
use Rattle.std.specs.Prelude.{Result}
use Rattle.std.specs.List.{AllByRecursion}
use Rattle.std.proofs.lemmas.Bool.{eqb-false}
use Rattle.std.proofs.lemmas.List.Elements.{recursion_from_All}
use Rattle.std.proofs.lemmas.Option.{cond_some}
use Rattle.saa_core_spec.specs.declared.gate.State.{State}
use Rattle.saa_core_spec.specs.declared.request.Request.{Request}
use Rattle.saa_core_spec.specs.declared.barrier.BarrierCall.{BarrierCall}
use Rattle.saa_core_spec.specs.declared.barrier.BarrierCall.TheVariants.{Count, Arrive as DoArrive, Join, Leave as LeaveOne, Round}
use Rattle.saa_core_spec.specs.declared.barrier.BarrierAnswer.TheVariants.{Bool as SaysBool}
use Rattle.saa_core_spec.specs.declared.barrier.BarrierAnswer.{BarrierAnswer}
use Rattle.saa_core_spec.specs.declared.polling.Error.{Error}
use Rattle.saa_core_spec.specs.declared.run.CommandOf.{CommandOf}
use Rattle.saa_core_spec.specs.declared.run.CommandOf.TheVariants.{Call, Register, TryPoll, PollSync, PollAsync, Drop, Leave}
use Rattle.saa_core_spec.specs.declared.run.ReplyOf.{ReplyOf}
use Rattle.saa_core_spec.specs.Held.{Held, OfSemaphore, OfShutSemaphore, OfLock, OfGate, OfBarrier, max_rounds}
use Rattle.saa_core_spec.specs.Object.{Object, After, Idle, Waiter, newly_made, with_entry, without}
use Rattle.saa_core_spec.specs.Settling.{round_complete}
use Rattle.saa_core_spec.specs.Asking.{answer_in}
use Rattle.saa_core_spec.specs.Polling.{left_of, quietly_left_of, undone_of}
use Rattle.saa_core_spec.specs.Values.{barrier_value, passed_value, leader_value}
use Rattle.saa_core_spec.specs.Barrier.{barrier_step, arrive_request}
use Rattle.saa_core_spec.specs.Run.{IsWithin, done, state_after}
use Rattle.saa_core_laws.specs.Laws.{IsBarrierInOrder}
use Rattle.saa_core_laws.specs.Leaders.{IsOfFixedSize}
use Rattle.saa_core_laws.proofs.Kept.{IsKept, IsKept-held, IsInOrder-kept, IsKept-newly_made, IsKept-all_answered, is_waiting-all_answered}
use Rattle.saa_core_laws.proofs.Commands.{IsRight, IsRightAnswer, KeepsRight, IsRight-state_after, cond_none}
use Rattle.saa_core_spec.proofs.Counts.{length-without}
use Rattle.saa_core_spec.proofs.Leaving.{quiet-left}

-- a barrier of this size whose round is incomplete, where one ever completes
abbrev pub IsFineBarrier : ℕ → Held → List Waiter → Type 0
IsFineBarrier most (OfBarrier size arrived round) line = (size ≡ most) × (0 < most → length line < most) × (arrived ≡ 0)
IsFineBarrier most (OfSemaphore bound out) line = ⊥
IsFineBarrier most (OfShutSemaphore bound out) line = ⊥
IsFineBarrier most (OfLock lock) line = ⊥
IsFineBarrier most (OfGate gate) line = ⊥

-- a barrier at which no more wait is fine
pub IsFineBarrier-fewer : (most : ℕ) (held : Held) (line fewer : List Waiter) → length fewer ≤ length line → IsFineBarrier most held line
    → IsFineBarrier most held fewer
IsFineBarrier-fewer most (OfBarrier size arrived round) line fewer less fine = (fine.0, λ some. omega (arith, fine.1 some), fine.2)
IsFineBarrier-fewer most (OfSemaphore bound out) line fewer less fine = fine
IsFineBarrier-fewer most (OfShutSemaphore bound out) line fewer less fine = fine
IsFineBarrier-fewer most (OfLock lock) line fewer less fine = fine
IsFineBarrier-fewer most (OfGate gate) line fewer less fine = fine

-- a barrier whose size stays: the calls that would change it do nothing
abbrev pub fixed_step : BarrierCall → Object → After BarrierAnswer
fixed_step Count s = barrier_step Count s
fixed_step Round s = barrier_step Round s
fixed_step DoArrive s = record { state = s; reply = SaysBool false }
fixed_step Join s = record { state = s; reply = SaysBool false }
fixed_step LeaveOne s = record { state = s; reply = SaysBool false }

-- every call of it changes nothing
pub IsRight-fixed_step : (most names : ℕ) (call : BarrierCall) (s : Object) → IsRight (IsFineBarrier most) names s
    → IsRight (IsFineBarrier most) names (fixed_step call s).state
IsRight-fixed_step most names Count s right = right
IsRight-fixed_step most names Round s right = right
IsRight-fixed_step most names DoArrive s right = right
IsRight-fixed_step most names Join s right = right
IsRight-fixed_step most names LeaveOne s right = right

-- the last arrival of a round lets all waiters pass
pub IsRightAnswer-arrived : (most names : ℕ) (s : Object) (held : Held) (line : List Waiter) (request : Request) (answer : After ℕ)
    → IsFineBarrier most held line
    → answer_in s held request ≡ Some answer
    → IsRight (IsFineBarrier most) names s → IsRightAnswer (IsFineBarrier most) names s answer
IsRightAnswer-arrived most names s (OfBarrier size arrived round) line request answer fine e right =
    let parts = cond_some (eqb (arrived + length s.line + 1) size) (record { state = round_complete passed_value s size round; reply = leader_value }) answer e in
    let next : Object = record s { held = OfBarrier size 0 (min (round + 1) max_rounds) } in
    let kept : IsKept names next = IsKept-held names s (OfBarrier size 0 (min (round + 1) max_rounds)) right.kept in
    rw (← parts.1) (record {
      right = record {
        kept = IsKept-all_answered names passed_value next kept;
        kind = (fine.0, λ some. omega arith, refl);
      };
      still = λ name before. is_waiting-all_answered names passed_value next name kept;
    })
IsRightAnswer-arrived most names s (OfSemaphore bound out) line request answer fine e right = absurd fine
IsRightAnswer-arrived most names s (OfShutSemaphore bound out) line request answer fine e right = absurd fine
IsRightAnswer-arrived most names s (OfLock lock) line request answer fine e right = absurd fine
IsRightAnswer-arrived most names s (OfGate gate) line request answer fine e right = absurd fine

-- another arrival waits, and the round is still incomplete
pub IsFineBarrier-joined : (most : ℕ) (s : Object) (held : Held) (waiter : Waiter) (request : Request) → IsFineBarrier most held s.line
    → answer_in s held request ≡ None → IsFineBarrier most held (s.line ++ waiter ∷ [])
IsFineBarrier-joined most s (OfBarrier size arrived round) waiter request fine e =
    let incomplete = eqb-false (arrived + length s.line + 1) size (cond_none (eqb (arrived + length s.line + 1) size) _ e) in
    (fine.0, λ some. omega (arith, fine.0, fine.2, fine.1 some, length-append s.line (waiter ∷ [])), fine.2)
IsFineBarrier-joined most s (OfSemaphore bound out) waiter request fine e = absurd fine
IsFineBarrier-joined most s (OfShutSemaphore bound out) waiter request fine e = absurd fine
IsFineBarrier-joined most s (OfLock lock) waiter request fine e = absurd fine
IsFineBarrier-joined most s (OfGate gate) waiter request fine e = absurd fine

-- a name that waited has left
pub IsRight-barrier_left : (most names : ℕ) (left : Object) (held : Held) (line : List Waiter) → IsFineBarrier most held line
    → IsRight (IsFineBarrier most) names left → IsRight (IsFineBarrier most) names (left_of left held)
IsRight-barrier_left most names left (OfBarrier size arrived round) line fine right = right
IsRight-barrier_left most names left (OfSemaphore bound out) line fine right = absurd fine
IsRight-barrier_left most names left (OfShutSemaphore bound out) line fine right = absurd fine
IsRight-barrier_left most names left (OfLock lock) line fine right = absurd fine
IsRight-barrier_left most names left (OfGate gate) line fine right = absurd fine

-- no barrier is a gate
pub no_gate-barrier : (most : ℕ) (held : Held) (line : List Waiter) → IsFineBarrier most held line → (gate : State) → held ≡ OfGate gate → ⊥
no_gate-barrier most held line fine gate is = subst (λ (h : Held). IsFineBarrier most h line) is fine

-- a name that waited has left quietly
pub IsRight-barrier_left_quietly : (most names : ℕ) (left : Object) (held : Held) (line : List Waiter) → IsFineBarrier most held line
    → IsRight (IsFineBarrier most) names left → IsRight (IsFineBarrier most) names (quietly_left_of left held)
IsRight-barrier_left_quietly most names left held line fine right =
    rw (quiet-left left held (no_gate-barrier most held line fine)) (IsRight-barrier_left most names left held line fine right)

-- a dropped answer of a barrier gives nothing back
pub IsRight-barrier_undone : (most names : ℕ) (s : Object) (held : Held) (line : List Waiter) (request : Request) → IsFineBarrier most held line
    → IsRight (IsFineBarrier most) names s → IsRight (IsFineBarrier most) names (undone_of s held request)
IsRight-barrier_undone most names s (OfBarrier size arrived round) line request fine right = right
IsRight-barrier_undone most names s (OfSemaphore bound out) line request fine right = absurd fine
IsRight-barrier_undone most names s (OfShutSemaphore bound out) line request fine right = absurd fine
IsRight-barrier_undone most names s (OfLock lock) line request fine right = absurd fine
IsRight-barrier_undone most names s (OfGate gate) line request fine right = absurd fine

-- every step of a barrier
pub KeepsRight-barrier : (most names : ℕ) → KeepsRight BarrierCall BarrierAnswer (Unit {0}) (IsFineBarrier most) names arrive_request fixed_step
KeepsRight-barrier most names = record {
  calls = IsRight-fixed_step most names;
  answers = λ s ask answer right e. IsRightAnswer-arrived most names s s.held s.line (arrive_request ask) answer right.kind e right;
  joins = λ s name ask right e not_too_much. IsFineBarrier-joined most s s.held (name, arrive_request ask) (arrive_request ask) right.kind e;
  leaves = λ s name right kept.
      IsRight-barrier_left most names (record (with_entry s name Idle) { line = without name s.line }) s.held s.line right.kind
      (record { kept = kept; kind = IsFineBarrier-fewer most s.held s.line (without name s.line) (omega (arith, length-without name s.line)) right.kind });
  quiet = λ s name right kept.
      IsRight-barrier_left_quietly most names (record (with_entry s name Idle) { line = without name s.line }) s.held s.line right.kind
      (record { kept = kept; kind = IsFineBarrier-fewer most s.held s.line (without name s.line) (omega (arith, length-without name s.line)) right.kind });
  undoes = λ s asked right. IsRight-barrier_undone most names s s.held s.line asked right.kind right;
}

-- a fine barrier is one of this size
pub barrier-bounded : (most : ℕ) (held : Held) (line : List Waiter) → IsFineBarrier most held line
    → (round : ℕ) × (held ≡ OfBarrier most 0 round)
barrier-bounded most (OfBarrier size arrived round) line fine =
    (round, ap (λ (n : ℕ). OfBarrier n arrived round) fine.0 ∙ ap (λ (n : ℕ). OfBarrier most n round) fine.2)
barrier-bounded most (OfSemaphore bound out) line fine = absurd fine
barrier-bounded most (OfShutSemaphore bound out) line fine = absurd fine
barrier-bounded most (OfLock lock) line fine = absurd fine
barrier-bounded most (OfGate gate) line fine = absurd fine

-- whose round is incomplete
pub barrier-incomplete : (most : ℕ) (held : Held) (line : List Waiter) → IsFineBarrier most held line → 0 < most → length line < most
barrier-incomplete most (OfBarrier size arrived round) line fine = fine.1
barrier-incomplete most (OfSemaphore bound out) line fine = absurd fine
barrier-incomplete most (OfShutSemaphore bound out) line fine = absurd fine
barrier-incomplete most (OfLock lock) line fine = absurd fine
barrier-incomplete most (OfGate gate) line fine = absurd fine

-- A command by which a barrier keeps its size does the same there
pub done-fixed : (command : CommandOf BarrierCall (Unit {0})) (s : Object) → IsOfFixedSize command
    → done arrive_request barrier_step barrier_value command s ≡ done arrive_request fixed_step barrier_value command s
done-fixed (Call Count) s fixed = refl
done-fixed (Call Round) s fixed = refl
done-fixed (Call DoArrive) s fixed = cc
done-fixed (Call Join) s fixed = cc
done-fixed (Call LeaveOne) s fixed = cc
done-fixed (Register name ask is_sync) s fixed = refl
done-fixed (TryPoll name) s fixed = refl
done-fixed (PollSync name) s fixed = refl
done-fixed (PollAsync name) s fixed = refl
done-fixed (Drop name) s fixed = refl
done-fixed (Leave name) s fixed = refl

-- and so does every list of them
pub state_after-fixed : (commands : List (CommandOf BarrierCall (Unit {0}))) (s : Object) → AllByRecursion IsOfFixedSize commands
    → state_after arrive_request barrier_step barrier_value commands s ≡ state_after arrive_request fixed_step barrier_value commands s
state_after-fixed [] s fixed = refl
state_after-fixed (command ∷ commands) s fixed =
    ap (λ (after : After (ReplyOf BarrierAnswer (Result Bool Error))). state_after arrive_request barrier_step barrier_value commands after.state) (done-fixed command s fixed.0)
    ∙ state_after-fixed commands (done arrive_request fixed_step barrier_value command s).state fixed.1

-- every run by which it keeps its size leaves a newly made barrier in order
pub barrier-in_order : (size room names : ℕ) (commands : List (CommandOf BarrierCall (Unit {0}))) → All (IsWithin names) commands → All IsOfFixedSize commands
    → IsBarrierInOrder size (state_after arrive_request barrier_step barrier_value commands (newly_made (OfBarrier size 0 0) room names))
barrier-in_order size room names commands within fixed =
    let right = IsRight-state_after (IsFineBarrier size) names arrive_request fixed_step barrier_value
    (KeepsRight-barrier size names) commands (newly_made (OfBarrier size 0 0) room names) within
    (record { kept = IsKept-newly_made (OfBarrier size 0 0) room names; kind = (refl, λ some. some, refl) }) in
    rw (state_after-fixed commands (newly_made (OfBarrier size 0 0) room names) (recursion_from_All IsOfFixedSize commands fixed))
    (record {
      order = IsInOrder-kept names _ right.kept;
      bounded = barrier-bounded size _ _ right.kind;
      incomplete = barrier-incomplete size _ _ right.kind;
    })

-- What every step of a semaphore keeps, and so every run.
use Rattle.std.proofs.Common.{◌≡◌, ℕ, ◌+◌, ◌-◌, ◌≤◌, min, true, false, ◌⊎◌, inl, inr, leb, List, Some, refl, sym, ap, ◌∙◌, arith, All}
use Rattle.std.proofs.lemmas.Bool.{leb-true, ltb-false, le-leb}
use Rattle.std.proofs.lemmas.Option.{cond_some}
use Rattle.saa_core_spec.specs.declared.request.Request.{Request}
use Rattle.saa_core_spec.specs.declared.request.Request.TheVariants.{Exclusive as AskExclusive, Shared as AskShared, WaitExclusive, WaitShared, Permits, Enter, Arrive}
use Rattle.saa_core_spec.specs.declared.semaphore.SemaphoreCall.{SemaphoreCall}
use Rattle.saa_core_spec.specs.declared.semaphore.SemaphoreCall.TheVariants.{TryAcquireMany, ReleaseMany, AvailablePermits, IsOpen, IsClosed, Shut, IsShut}
use Rattle.saa_core_spec.specs.declared.semaphore.SemaphoreAnswer.{SemaphoreAnswer}
use Rattle.saa_core_spec.specs.declared.run.CommandOf.{CommandOf}
use Rattle.saa_core_spec.specs.Held.{Held, OfSemaphore, OfShutSemaphore, OfLock, OfGate, OfBarrier, fits, plus, less, asks_too_much, refuses_all}
use Rattle.saa_core_spec.specs.Object.{Object}
use Rattle.saa_core_spec.specs.Settling.{fitting_front}
use Rattle.saa_core_spec.specs.Values.{semaphore_value, closed_value}
use Rattle.saa_core_spec.specs.Semaphore.{semaphore_step, new_semaphore, is_shut, shut_of}
use Rattle.saa_core_spec.specs.Run.{IsWithin, state_after}
use Rattle.saa_core_laws.specs.Laws.{IsSemaphoreInOrder, IsSemaphoreWith}
use Rattle.saa_core_laws.proofs.Fronts.{IsSettledAt-from_front}
use Rattle.saa_core_laws.proofs.Kept.{IsInOrder-kept, IsKept-newly_made, IsKept-held, IsKept-all_answered}
use Rattle.saa_core_laws.proofs.Commands.{IsRight, KeepsRight, IsRight-state_after}
use Rattle.saa_core_laws.proofs.Grants.{Grants, KeepsFine, nobody-fits, IsRight-given_back, IsRight-tried, IsRightAnswer-answered, Grants-waits, IsRight-left_of, IsRight-quietly_left_of, IsRight-undone_of}

-- a semaphore with this bound and no more permits out, shut or not
abbrev pub IsFineSemaphore : ℕ → Held → Type 0
IsFineSemaphore most (OfSemaphore bound out) = (bound ≡ most) × (out ≤ most)
IsFineSemaphore most (OfShutSemaphore bound out) = (bound ≡ most) × (out ≤ most)
IsFineSemaphore most (OfLock lock) = ⊥
IsFineSemaphore most (OfGate gate) = ⊥
IsFineSemaphore most (OfBarrier size arrived round) = ⊥

-- a grant of what fits keeps it
pub IsFineSemaphore-plus : (most : ℕ) (held : Held) (request : Request) → IsFineSemaphore most held → fits held request ≡ true
    → IsFineSemaphore most (plus held request)
IsFineSemaphore-plus most (OfSemaphore bound out) (Permits n) fine fit = (fine.0, omega (arith, fine.0, leb-true (out + n) bound fit))
IsFineSemaphore-plus most (OfSemaphore bound out) AskExclusive fine fit = cc
IsFineSemaphore-plus most (OfSemaphore bound out) AskShared fine fit = cc
IsFineSemaphore-plus most (OfSemaphore bound out) WaitExclusive fine fit = cc
IsFineSemaphore-plus most (OfSemaphore bound out) WaitShared fine fit = cc
IsFineSemaphore-plus most (OfSemaphore bound out) Enter fine fit = cc
IsFineSemaphore-plus most (OfSemaphore bound out) Arrive fine fit = cc
IsFineSemaphore-plus most (OfShutSemaphore bound out) request fine fit = cc
IsFineSemaphore-plus most (OfLock lock) request fine fit = absurd fine
IsFineSemaphore-plus most (OfGate gate) request fine fit = absurd fine
IsFineSemaphore-plus most (OfBarrier size arrived round) request fine fit = absurd fine

-- and so does what is given back
pub IsFineSemaphore-less : (most : ℕ) (held rest : Held) (request : Request) → IsFineSemaphore most held → less held request ≡ Some rest
    → IsFineSemaphore most rest
IsFineSemaphore-less most (OfSemaphore bound out) rest (Permits n) fine e =
    let parts = cond_some (leb n out) (OfSemaphore bound (out - n)) rest e in
    rw (← parts.1) (fine.0, omega (arith, fine.1))
IsFineSemaphore-less most (OfSemaphore bound out) rest AskExclusive fine e = cc
IsFineSemaphore-less most (OfSemaphore bound out) rest AskShared fine e = cc
IsFineSemaphore-less most (OfSemaphore bound out) rest WaitExclusive fine e = cc
IsFineSemaphore-less most (OfSemaphore bound out) rest WaitShared fine e = cc
IsFineSemaphore-less most (OfSemaphore bound out) rest Enter fine e = cc
IsFineSemaphore-less most (OfSemaphore bound out) rest Arrive fine e = cc
IsFineSemaphore-less most (OfShutSemaphore bound out) rest (Permits n) fine e =
    let parts = cond_some (leb n out) (OfShutSemaphore bound (out - n)) rest e in
    rw (← parts.1) (fine.0, omega (arith, fine.1))
IsFineSemaphore-less most (OfShutSemaphore bound out) rest AskExclusive fine e = cc
IsFineSemaphore-less most (OfShutSemaphore bound out) rest AskShared fine e = cc
IsFineSemaphore-less most (OfShutSemaphore bound out) rest WaitExclusive fine e = cc
IsFineSemaphore-less most (OfShutSemaphore bound out) rest WaitShared fine e = cc
IsFineSemaphore-less most (OfShutSemaphore bound out) rest Enter fine e = cc
IsFineSemaphore-less most (OfShutSemaphore bound out) rest Arrive fine e = cc
IsFineSemaphore-less most (OfLock lock) rest request fine e = absurd fine
IsFineSemaphore-less most (OfGate gate) rest request fine e = absurd fine
IsFineSemaphore-less most (OfBarrier size arrived round) rest request fine e = absurd fine

-- so a semaphore grants what fits
pub KeepsFine-semaphore : (most : ℕ) → KeepsFine (IsFineSemaphore most)
KeepsFine-semaphore most = record {
  adds = IsFineSemaphore-plus most;
  takes = IsFineSemaphore-less most;
  no_gate = λ gate fine. fine;
  no_barrier = λ size arrived round fine. fine;
}

-- what isn't too much would fit if nothing were out
pub fits-not_too_much : (most n : ℕ) (held : Held) → IsFineSemaphore most held → asks_too_much held (Permits n) ≡ false
    → fits (OfSemaphore most 0) (Permits n) ≡ true
fits-not_too_much most n (OfSemaphore bound out) fine e = le-leb (0 + n) most (omega (arith, fine.0, ltb-false bound n e))
fits-not_too_much most n (OfShutSemaphore bound out) fine e = le-leb (0 + n) most (omega (arith, fine.0, ltb-false bound n e))
fits-not_too_much most n (OfLock lock) fine e = absurd fine
fits-not_too_much most n (OfGate gate) fine e = absurd fine
fits-not_too_much most n (OfBarrier size arrived round) fine e = absurd fine

-- a semaphore that is shut leaves nobody waiting
pub IsRight-shut_of : (most names : ℕ) (s : Object) (held : Held) → IsFineSemaphore most held
    → IsRight (Grants (IsFineSemaphore most) (OfSemaphore most 0)) names s
    → IsRight (Grants (IsFineSemaphore most) (OfSemaphore most 0)) names (shut_of s held).state
IsRight-shut_of most names s (OfSemaphore bound out) fine right = record {
  kept = IsKept-all_answered names closed_value (record s { held = OfShutSemaphore bound out }) (IsKept-held names s (OfShutSemaphore bound out) right.kept);
  kind = record { fine = fine; front = refl; asks = tt; refused = λ refuses. refl };
}
IsRight-shut_of most names s (OfShutSemaphore bound out) fine right = right
IsRight-shut_of most names s (OfLock lock) fine right = right
IsRight-shut_of most names s (OfGate gate) fine right = right
IsRight-shut_of most names s (OfBarrier size arrived round) fine right = right

-- every call of a semaphore
pub IsRight-semaphore_step : (most names : ℕ) (call : SemaphoreCall) (s : Object)
    → IsRight (Grants (IsFineSemaphore most) (OfSemaphore most 0)) names s
    → IsRight (Grants (IsFineSemaphore most) (OfSemaphore most 0)) names (semaphore_step call s).state
IsRight-semaphore_step most names (TryAcquireMany count) s right =
    IsRight-tried (IsFineSemaphore most) (OfSemaphore most 0) names (KeepsFine-semaphore most) s (Permits count) right
IsRight-semaphore_step most names (ReleaseMany count) s right =
    IsRight-given_back (IsFineSemaphore most) (OfSemaphore most 0) names (KeepsFine-semaphore most) s (Permits count) right
IsRight-semaphore_step most names AvailablePermits s right = right
IsRight-semaphore_step most names IsOpen s right = right
IsRight-semaphore_step most names IsClosed s right = right
IsRight-semaphore_step most names Shut s right = IsRight-shut_of most names s s.held right.kind.fine right
IsRight-semaphore_step most names IsShut s right = right

-- every step of a semaphore
pub KeepsRight-semaphore : (most names : ℕ)
    → KeepsRight SemaphoreCall SemaphoreAnswer ℕ (Grants (IsFineSemaphore most) (OfSemaphore most 0)) names Permits semaphore_step
KeepsRight-semaphore most names = record {
  calls = IsRight-semaphore_step most names;
  answers = λ s ask answer right e.
      IsRightAnswer-answered (IsFineSemaphore most) (OfSemaphore most 0) names (KeepsFine-semaphore most) s s.held (Permits ask) answer right.kind.fine e right;
  joins = λ s name ask right e not_too_much.
      Grants-waits (IsFineSemaphore most) (OfSemaphore most 0) names (KeepsFine-semaphore most) s s.held name (Permits ask) refl right.kind.fine e
      (fits-not_too_much most ask s.held right.kind.fine not_too_much) right.kind;
  leaves = λ s name right kept.
      IsRight-left_of (IsFineSemaphore most) (OfSemaphore most 0) names (KeepsFine-semaphore most) s s.held name right.kind.fine right kept;
  quiet = λ s name right kept.
      IsRight-quietly_left_of (IsFineSemaphore most) (OfSemaphore most 0) names (KeepsFine-semaphore most) s s.held name right.kind.fine right kept;
  undoes = λ s asked right.
      IsRight-undone_of (IsFineSemaphore most) (OfSemaphore most 0) names (KeepsFine-semaphore most) s s.held asked right;
}

-- a fine semaphore is one with this bound, shut or not
pub semaphore-bounded : (most : ℕ) (held : Held) → IsFineSemaphore most held → (out : ℕ) × IsSemaphoreWith most out held × (out ≤ most)
semaphore-bounded most (OfSemaphore bound out) fine = (out, inl (ap (λ b. OfSemaphore b out) fine.0), fine.1)
semaphore-bounded most (OfShutSemaphore bound out) fine = (out, inr (ap (λ b. OfShutSemaphore b out) fine.0), fine.1)
semaphore-bounded most (OfLock lock) fine = absurd fine
semaphore-bounded most (OfGate gate) fine = absurd fine
semaphore-bounded most (OfBarrier size arrived round) fine = absurd fine

-- a shut semaphore refuses every request
pub shut-refuses : (held : Held) → is_shut held ≡ true → refuses_all held ≡ true
shut-refuses (OfShutSemaphore bound out) e = refl
shut-refuses (OfSemaphore bound out) e = cc
shut-refuses (OfLock lock) e = cc
shut-refuses (OfGate gate) e = cc
shut-refuses (OfBarrier size arrived round) e = cc

-- a semaphore that is right is in order
pub IsSemaphoreInOrder-right : (most names : ℕ) (s : Object) → IsRight (Grants (IsFineSemaphore most) (OfSemaphore most 0)) names s
    → IsSemaphoreInOrder most s
IsSemaphoreInOrder-right most names s right = record {
  order = IsInOrder-kept names s right.kept;
  bounded = semaphore-bounded most s.held right.kind.fine;
  oldest = IsSettledAt-from_front s.held s.line right.kind.front;
  idle = λ nothing_out. nobody-fits (OfSemaphore most 0) s.line right.kind.asks (sym (ap (λ held. fitting_front held s.line) nothing_out) ∙ right.kind.front);
  shut = λ shut. right.kind.refused (shut-refuses s.held shut);
}

-- every run of a newly made semaphore leaves it in order
pub semaphore-in_order : (bound permits room names : ℕ) (commands : List (CommandOf SemaphoreCall ℕ)) → All (IsWithin names) commands
    → IsSemaphoreInOrder bound (state_after Permits semaphore_step semaphore_value commands (new_semaphore bound permits room names))
semaphore-in_order bound permits room names commands within =
    IsSemaphoreInOrder-right bound names _
    (IsRight-state_after (Grants (IsFineSemaphore bound) (OfSemaphore bound 0)) names Permits semaphore_step semaphore_value
    (KeepsRight-semaphore bound names) commands (new_semaphore bound permits room names) within
    (record {
      kept = IsKept-newly_made (OfSemaphore bound (bound - min permits bound)) room names;
      kind = record { fine = (refl, omega arith); front = refl; asks = tt; refused = λ refuses. refl };
    }))

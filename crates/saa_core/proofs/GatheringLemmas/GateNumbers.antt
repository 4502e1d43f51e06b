-- The numbers that a gate answers: what keeps them, and what each means to a poll.
use Rattle.std.proofs.Common.{◌≡◌, ℕ, suc, zero, true, false, List, [], ◌∷◌, Option, Some, None, Result, Ok, Err, IfOk, OnErr, ◌==◌, replicate, set, refl, ap, ◌∙◌, inl, inr, arith}
use Rattle.std.proofs.lemmas.Bool.{cases_Bool}
use Rattle.std.proofs.lemmas.Bool.Decides.{nat_tests}
use Rattle.saa_core_spec.specs.Object.{Waiter}
use Rattle.saa_core_spec.specs.Values.{gate_value}
use Rattle.saa_core_spec.specs.declared.polling.Error.{Error}
use Rattle.saa_core.specs.Slots.{Slots, answer_in, answered_slots}
use Rattle.saa_core.specs.declared.ticket.Registration.{Registration}
use Rattle.saa_core.specs.declared.ticket.Registration.TheVariants.{Unregistered, AtOnce, InSlot}
use Rattle.saa_core.specs.SlotStates.{IsTakenFrom}
use Rattle.saa_core.specs.GatePolls.{is_gate_number, is_answer, is_gate_result, IsGateAnswer, AreGateAnswers, IsGateTicket}

-- no answer is there among none
pub gate_answers-none : (room : ℕ) → AreGateAnswers (replicate room None)
gate_answers-none zero = tt
gate_answers-none (suc room) = (tt, gate_answers-none room)

-- one more answer of a gate is written
pub gate_answers-set : (answers : List (Option ℕ)) (slot : ℕ) (answer : Option ℕ) → IsGateAnswer answer → AreGateAnswers answers
    → AreGateAnswers (set answers slot answer)
gate_answers-set [] slot answer is are = tt
gate_answers-set (first ∷ rest) zero answer is are = (is, are.1)
gate_answers-set (first ∷ rest) (suc slot) answer is are = (are.0, gate_answers-set rest slot answer is are.1)

-- waiters are answered with a number of a gate
pub gate_answers-answered : (value : ℕ) (line : List Waiter) (answers : List (Option ℕ)) → is_gate_number value ≡ true → AreGateAnswers answers
    → AreGateAnswers (answered_slots value line answers)
gate_answers-answered value [] answers is are = are
gate_answers-answered value (waiter ∷ waiters) answers is are =
    gate_answers-answered value waiters (set answers waiter.0 (Some value)) is (gate_answers-set answers waiter.0 (Some value) is are)

-- the answer of a slot is one of them
pub gate_answers-at : (answers : List (Option ℕ)) (slot value : ℕ) → answer_in answers slot ≡ Some value → AreGateAnswers answers
    → is_gate_number value ≡ true
gate_answers-at [] slot value there are = absurd (cc)
gate_answers-at (None ∷ rest) zero value there are = absurd (cc)
gate_answers-at (Some first ∷ rest) zero value there are =
    let same : value ≡ first = cc in
    ap is_gate_number same ∙ are.0
gate_answers-at (first ∷ rest) (suc slot) value there are = gate_answers-at rest slot value there are.1

-- a poll takes an answer of a gate, and leaves the others
pub gate_answers-polled : (ticket : Registration) (old new : Slots) (result : Result ℕ Error)
    → IfOk result (λ value. IsTakenFrom ticket old new value) → OnErr result (new ≡ old)
    → AreGateAnswers old.answers → AreGateAnswers new.answers
gate_answers-polled ticket old new (Err error) taken unchanged are = rw unchanged are
gate_answers-polled Unregistered old new (Ok value) taken unchanged are = absurd taken
gate_answers-polled (AtOnce kept r m) old new (Ok value) taken unchanged are = rw taken.1 are
gate_answers-polled (InSlot slot r m) old new (Ok value) taken unchanged are = rw taken.1 (gate_answers-set old.answers slot None tt are)

pub gate_number-polled : (ticket : Registration) (old new : Slots) (result : Result ℕ Error)
    → IfOk result (λ value. IsTakenFrom ticket old new value)
    → AreGateAnswers old.answers → IsGateTicket ticket → IfOk result (λ number. is_gate_number number ≡ true)
gate_number-polled ticket old new (Err error) taken are own = tt
gate_number-polled Unregistered old new (Ok value) taken are own = absurd taken
gate_number-polled (AtOnce kept r m) old new (Ok value) taken are own = ap is_gate_number taken.0 ∙ own
gate_number-polled (InSlot slot r m) old new (Ok value) taken are own = gate_answers-at old.answers slot value taken.0 are

-- what holds of each of the numbers holds of a number of a gate
gate_numbers : (P : ℕ → Type 0) (value : ℕ) → is_gate_number value ≡ true → P 0 → P 2 → P 4 → P 9 → P 12 → P value
gate_numbers P value is p0 p2 p4 p9 p12 =
    elim (cases_Bool (value == 0)) [
      | inl e0 ↦ let e : value ≡ 0 = grind (arith, nat_tests) in rw e p0
      | inr a0 ↦ elim (cases_Bool (value == 2)) [
        | inl e2 ↦ let e : value ≡ 2 = grind (arith, nat_tests) in rw e p2
        | inr a2 ↦ elim (cases_Bool (value == 4)) [
          | inl e4 ↦ let e : value ≡ 4 = grind (arith, nat_tests) in rw e p4
          | inr a4 ↦ elim (cases_Bool (value == 9)) [
            | inl e9 ↦ let e : value ≡ 9 = grind (arith, nat_tests) in rw e p9
            | inr a9 ↦ elim (cases_Bool (value == 12)) [
              | inl e12 ↦ let e : value ≡ 12 = grind (arith, nat_tests) in rw e p12
              | inr a12 ↦
                  let none : is_gate_number value ≡ false = rw (a0, a2, a4, a9, a12) refl in
                  absurd (cc)
            ]
          ]
        ]
      ]
    ]

-- each is an answer to the poll that takes it, and one of a gate's
pub gate_number-answers : (value : ℕ) → is_gate_number value ≡ true → is_answer (gate_value (Ok value)) ≡ true
gate_number-answers value is = gate_numbers (λ n. is_answer (gate_value (Ok n)) ≡ true) value is refl refl refl refl refl

pub gate_number-result : (value : ℕ) → is_gate_number value ≡ true → is_gate_result (gate_value (Ok value)) ≡ true
gate_number-result value is = gate_numbers (λ n. is_gate_result (gate_value (Ok n)) ≡ true) value is refl refl refl refl refl

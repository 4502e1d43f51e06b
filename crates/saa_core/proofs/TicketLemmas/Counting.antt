-- How often a slot is held, and how many slots are held, as the line and the answers change.
use Rattle.std.proofs.Common.{◌≡◌, ◌≢◌, ℕ, suc, zero, ◌+◌, ◌<◌, ◌≤◌, true, ◌==◌, List, [], ◌∷◌, length, take, get_or, Option, Some, None, is_some, slice_set, nat_lt, refl, sym, ap, ◌∙◌, arith, inl, inr}
use Rattle.std.proofs.lemmas.Bool.Decides.{nat_tests}
use Rattle.std.proofs.lemmas.List.{get_or-set_same, get_or-set_other}
use Rattle.std.proofs.Math.ListN.{length-set}
use Rattle.saa_core_spec.specs.Object.{Waiter, one_if, times}
use Rattle.saa_core.specs.Slots.{Slots, answer_in, answer_count, answered_slots, held_times, room_of, IsSound}
use Rattle.saa_core_spec.proofs.Counts.{bool_cases, same_number, other_number}
use Rattle.saa_core_spec.proofs.Counts.{number_same, below_true, one_if-le, times-take_drop}

-- a slot that is held at all is below the room
pub held-below : (slots : Slots) → IsSound slots → (slot : ℕ) → 0 < held_times slots slot → slot < room_of slots
held-below slots sound slot held =
    elim (bool_cases (nat_lt slot (room_of slots))) [
      | inl e ↦ grind (arith, nat_tests)
      | inr e ↦ absurd (omega (arith, sound.each slot, ap one_if e))
    ]

-- no slot is held twice
pub held-once : (slots : Slots) → IsSound slots → (slot : ℕ) → held_times slots slot ≤ 1
held-once slots sound slot = omega (arith, sound.each slot, one_if-le (nat_lt slot (room_of slots)))

-- a slot without an answer gets one
pub answer_count-some : (answers : List (Option ℕ)) (slot v : ℕ) → slot < length answers → answer_in answers slot ≡ None → answer_count (slice_set answers slot (Some v)) ≡ answer_count answers + 1
answer_count-some [] slot v within none = absurd (omega arith)
answer_count-some (a ∷ answers) zero v within none = omega (arith, ap (λ x. one_if (is_some x)) none)
answer_count-some (a ∷ answers) (suc slot) v within none = omega (arith, answer_count-some answers slot v (omega arith) none)

-- a slot with an answer loses it
pub answer_count-none : (answers : List (Option ℕ)) (slot v : ℕ) → answer_in answers slot ≡ Some v → answer_count (slice_set answers slot None) + 1 ≡ answer_count answers
answer_count-none [] slot v some = cc
answer_count-none (a ∷ answers) zero v some = omega (arith, ap (λ x. one_if (is_some x)) some)
answer_count-none (a ∷ answers) (suc slot) v some = omega (arith, answer_count-none answers slot v some)

-- an answer is at a slot of the room
pub answer-below : (answers : List (Option ℕ)) (slot v : ℕ) → answer_in answers slot ≡ Some v → slot < length answers
answer-below [] slot v some = cc
answer-below (a ∷ answers) zero v some = omega arith
answer-below (a ∷ answers) (suc slot) v some = omega (arith, answer-below answers slot v some)

-- answers of several slots change no number of slots
pub length-answered_slots : (v : ℕ) (ws : List Waiter) (answers : List (Option ℕ)) → length (answered_slots v ws answers) ≡ length answers
length-answered_slots v [] answers = refl
length-answered_slots v (w ∷ ws) answers = length-answered_slots v ws (slice_set answers w.0 (Some v)) ∙ length-set answers w.0 (Some v)

-- What settling needs of those that are answered: each has no answer, stands there once and is below the room
pub record AreUnanswered (ws : List Waiter) (answers : List (Option ℕ)) : Type 0 where
  pub each : (slot : ℕ) → times slot ws + one_if (is_some (answer_in answers slot)) ≤ one_if (nat_lt slot (length answers))

-- what isn't there is None
pub no_answer : (a : Option ℕ) → one_if (is_some a) ≡ 0 → a ≡ None
no_answer None h = refl
no_answer (Some v) h = absurd (omega arith)

-- what is there is Some
pub some_answer : (a : Option ℕ) → 0 < one_if (is_some a) → (v : ℕ) × (a ≡ Some v)
some_answer None h = absurd (omega arith)
some_answer (Some v) h = (v, refl)

-- the first of those has no answer, and is below the room
pub unanswered-first : (w : Waiter) (ws : List Waiter) (answers : List (Option ℕ)) → AreUnanswered (w ∷ ws) answers → (w.0 < length answers) × (answer_in answers w.0 ≡ None)
unanswered-first w ws answers un =
    let here : one_if (w.0 == w.0) ≡ 1 = ap one_if (number_same w.0) in
    let most = un.each w.0 in (
      elim (bool_cases (nat_lt w.0 (length answers))) [
        | inl e ↦ grind (arith, nat_tests)
        | inr e ↦ absurd (omega (arith, ap one_if e))
      ],
      no_answer (answer_in answers w.0) (omega (arith, one_if-le (nat_lt w.0 (length answers)))),
    )

-- the others are as they were, once the first is answered
pub unanswered-rest : (v : ℕ) (w : Waiter) (ws : List Waiter) (answers : List (Option ℕ)) → AreUnanswered (w ∷ ws) answers → AreUnanswered ws (slice_set answers w.0 (Some v))
unanswered-rest v w ws answers un = record {
  each = λ slot.
      let first = unanswered-first w ws answers un in
      let room : length (slice_set answers w.0 (Some v)) ≡ length answers = length-set answers w.0 (Some v) in
      elim (bool_cases (w.0 == slot)) [
        | inl e ↦
            let same : w.0 ≡ slot = same_number w.0 slot e in
            let here : answer_in (slice_set answers w.0 (Some v)) slot ≡ Some v = ap (λ k. get_or (slice_set answers w.0 (Some v)) k None) (sym same) ∙ get_or-set_same answers w.0 (Some v) None first.0 in
            let below : nat_lt slot (length (slice_set answers w.0 (Some v))) ≡ true = below_true slot (length (slice_set answers w.0 (Some v))) (omega (arith, first.0)) in
            omega (arith, un.each slot, ap one_if e, ap (λ x. one_if (is_some x)) here, ap one_if below, one_if-le (nat_lt slot (length answers)))
        | inr e ↦
            let apart : slot ≢ w.0 = λ same. other_number w.0 slot e (sym same) in
            let here : answer_in (slice_set answers w.0 (Some v)) slot ≡ answer_in answers slot = get_or-set_other answers w.0 slot (Some v) None apart in
            omega (arith, un.each slot, ap one_if e, ap (λ x. one_if (is_some x)) here, ap (λ n. one_if (nat_lt slot n)) room)
      ];
}

-- as many answers more as were given
pub answer_count-answered : (v : ℕ) (ws : List Waiter) (answers : List (Option ℕ)) → AreUnanswered ws answers → answer_count (answered_slots v ws answers) ≡ answer_count answers + length ws
answer_count-answered v [] answers un = omega arith
answer_count-answered v (w ∷ ws) answers un =
    let first = unanswered-first w ws answers un in
    omega (arith, answer_count-answered v ws (slice_set answers w.0 (Some v)) (unanswered-rest v w ws answers un), answer_count-some answers w.0 v first.0 first.1)

-- a slot is held as often after it is answered
pub held-answered : (v : ℕ) (ws : List Waiter) (answers : List (Option ℕ)) (slot : ℕ) → AreUnanswered ws answers → one_if (is_some (answer_in (answered_slots v ws answers) slot)) ≡ times slot ws + one_if (is_some (answer_in answers slot))
held-answered v [] answers slot un = omega arith
held-answered v (w ∷ ws) answers slot un =
    let first = unanswered-first w ws answers un in
    let rest = held-answered v ws (slice_set answers w.0 (Some v)) slot (unanswered-rest v w ws answers un) in
    elim (bool_cases (w.0 == slot)) [
      | inl e ↦
          let same : w.0 ≡ slot = same_number w.0 slot e in
          let here : answer_in (slice_set answers w.0 (Some v)) slot ≡ Some v = ap (λ k. get_or (slice_set answers w.0 (Some v)) k None) (sym same) ∙ get_or-set_same answers w.0 (Some v) None first.0 in
          let before : answer_in answers slot ≡ None = ap (λ k. get_or answers k None) (sym same) ∙ first.1 in
          omega (arith, rest, ap one_if e, ap (λ x. one_if (is_some x)) here, ap (λ x. one_if (is_some x)) before)
      | inr e ↦
          let apart : slot ≢ w.0 = λ same. other_number w.0 slot e (sym same) in
          let here : answer_in (slice_set answers w.0 (Some v)) slot ≡ answer_in answers slot = get_or-set_other answers w.0 slot (Some v) None apart in
          omega (arith, rest, ap one_if e, ap (λ x. one_if (is_some x)) here)
    ]

-- a front of a sound line can be answered
pub unanswered-take : (slots : Slots) → IsSound slots → (k : ℕ) → AreUnanswered (take k slots.line) slots.answers
unanswered-take slots sound k = record { each = λ slot. omega (arith, sound.each slot, times-take_drop slot k slots.line) }

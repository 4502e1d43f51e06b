-- What every run of the abstract state keeps: a line that isn't open is settled, no more is held than there ever is, and each place is
-- held once at most.
use Rattle.std.proofs.Common.{◌≡◌, ℕ, suc, zero, ◌+◌, ◌≤◌, ◌<◌, Bool, true, false, not, ◌||◌, List, [], ◌∷◌, ◌++◌, take, drop, Option, Some, None, is_some, ◌==◌, ◌-◌, nat_le, refl, sym, ap, subst, ◌∙◌, arith, inl, inr}
use Rattle.std.proofs.lemmas.Bool.{cases_Bool}
use Rattle.std.proofs.lemmas.Bool.Decides.{nat_tests}
use Rattle.saa_core_spec.specs.Object.{one_if, times, without}
use Rattle.saa_core_spec.proofs.Counts.{one_if-le, number_same, same_number}
use Rattle.saa_word_steps.specs.Needs.{Needs, AreNeeds, fits_count, left_count, permit_needs}
use Rattle.saa_word_steps.specs.declared.event.Event.{Event}
use Rattle.saa_word_steps.specs.declared.event.Event.TheVariants.{Acquired, Refused, Joined, Released, ReleasedNothing, Lowered, NotLowered, AskedPoisoned, Cancelled, Closed, Poisoned, NotPoisoned, Cleared, NotCleared, NotReady, Granted, Showed, AnswerTaken, Read}
use Rattle.saa_word_steps.proofs.Giving.{kept-small}
use Rattle.saa_word_steps.specs.AbstractState.{AbstractState, IsEnabled, after_event, IsRun, IsFront, IsSettledAt, is_empty, is_in, takes_of, answered_with, with_answer, count_or, held_by}

-- what each event keeps every run keeps
pub run-keeps : (needs : Needs) (P : AbstractState → Type 0)
    → ((state : AbstractState) (place : ℕ) (event : Event) → IsEnabled needs state place event → P state → P (after_event needs state place event))
    → (state : AbstractState) (events : List (ℕ × Event)) (last : AbstractState) → IsRun needs state events last → P state → P last
run-keeps needs P step state [] last h p = subst P h p
run-keeps needs P step state (event ∷ events) last h p =
    run-keeps needs P step (after_event needs state event.0 event.1) events last h.1 (step state event.0 event.1 h.0 p)

-- Settled where it isn't open

-- a line that nobody is seen in is empty
empty-or : (line : List (ℕ × ℕ)) (other : Bool) → not (is_empty line) || other ≡ false → line ≡ []
empty-or [] other closed = refl
empty-or (asker ∷ rest) other closed = absurd (cc)

empty-not : (line : List (ℕ × ℕ)) → not (is_empty line) ≡ false → line ≡ []
empty-not [] closed = refl
empty-not (asker ∷ rest) closed = absurd (cc)

-- who joins must wait, so a line that was settled still is
pub joined-settled : (needs : Needs) (count place request : ℕ) (line : List (ℕ × ℕ))
    → not (is_empty line) || not (fits_count needs count request) ≡ true → IsSettledAt needs count line → IsSettledAt needs count (line ++ (place, request) ∷ [])
joined-settled needs count place request [] waits settled =
    elim (cases_Bool (fits_count needs count request)) [
      | inl fits ↦ let wrong : false ≡ true = rw fits at waits in absurd (cc)
      | inr unfit ↦ unfit
    ]
joined-settled needs count place request (asker ∷ rest) waits settled = settled

settled-step : (needs : Needs) (state : AbstractState) (place : ℕ) (event : Event) → IsEnabled needs state place event
    → (state.unclosed ≡ false → IsSettledAt needs state.count state.line)
    → (after_event needs state place event).unclosed ≡ false → IsSettledAt needs (after_event needs state place event).count (after_event needs state place event).line
settled-step needs state place (Acquired request) allowed was closed = subst (λ line. IsSettledAt needs (state.count + needs.takes request) line) (sym allowed.1) tt
settled-step needs state place (Refused request) allowed was closed = was closed
settled-step needs state place (Joined request) allowed was closed = joined-settled needs state.count place request state.line allowed.1 (was closed)
settled-step needs state place (Released request) allowed was closed =
    subst (λ line. IsSettledAt needs (count_or state.count (left_count needs state.count request)) line) (sym (empty-or state.line state.unclosed closed)) tt
settled-step needs state place (ReleasedNothing request) allowed was closed = was closed
settled-step needs state place Lowered allowed was closed = subst (λ line. IsSettledAt needs 1 line) (sym (empty-or state.line state.unclosed closed)) tt
settled-step needs state place NotLowered allowed was closed = was closed
settled-step needs state place AskedPoisoned allowed was closed = was closed
settled-step needs state place Cancelled allowed was closed = subst (λ line. IsSettledAt needs state.count line) (sym (empty-not (without place state.line) closed)) tt
settled-step needs state place (Granted askers) allowed was closed =
    let differ : true ≡ false = sym allowed.0 ∙ closed in absurd (cc)
settled-step needs state place Closed allowed was closed = allowed.1
settled-step needs state place Poisoned allowed was closed = tt
settled-step needs state place NotPoisoned allowed was closed = was closed
settled-step needs state place Cleared allowed was closed = was closed
settled-step needs state place NotCleared allowed was closed = was closed
settled-step needs state place NotReady allowed was closed = was closed
settled-step needs state place (Showed shown_place) allowed was closed = was closed
settled-step needs state place (AnswerTaken value) allowed was closed = was closed
settled-step needs state place (Read count poisoned) allowed was closed = was closed

pub run-settled : (needs : Needs) (state : AbstractState) (events : List (ℕ × Event)) (last : AbstractState) → IsRun needs state events last
    → (state.unclosed ≡ false → IsSettledAt needs state.count state.line) → last.unclosed ≡ false → IsSettledAt needs last.count last.line
run-settled needs state events last run was =
    run-keeps needs (λ z. z.unclosed ≡ false → IsSettledAt needs z.count z.line) (settled-step needs) state events last run was

-- No more is held than there ever is

-- a front that fits stays within the greatest count
pub front-bounded : (needs : Needs) → AreNeeds needs → (count : ℕ) (front : List (ℕ × ℕ)) → IsFront needs count front → count ≤ needs.top → count + takes_of needs front ≤ needs.top
front-bounded needs lawful count [] fits small = omega (arith, small)
front-bounded needs lawful count (asker ∷ rest) fits small =
    omega (arith, front-bounded needs lawful (count + needs.takes asker.1) rest fits.1 (lawful.bounded count asker.1 fits.0))

bounded-step : (needs : Needs) → AreNeeds needs → (state : AbstractState) (place : ℕ) (event : Event) → IsEnabled needs state place event
    → state.count ≤ needs.top → (after_event needs state place event).count ≤ needs.top
bounded-step needs lawful state place (Acquired request) allowed was = lawful.bounded state.count request allowed.2
bounded-step needs lawful state place (Refused request) allowed was = was
bounded-step needs lawful state place (Joined request) allowed was = was
bounded-step needs lawful state place (Released request) allowed was =
    let less = lawful.shrinks state.count request allowed.1.0 allowed.1.1 in
    rw allowed.1.1 (omega (arith, less, was))
bounded-step needs lawful state place (ReleasedNothing request) allowed was = was
bounded-step needs lawful state place Lowered allowed was = omega (arith, allowed.1, was)
bounded-step needs lawful state place NotLowered allowed was = was
bounded-step needs lawful state place AskedPoisoned allowed was = was
bounded-step needs lawful state place Cancelled allowed was = was
bounded-step needs lawful state place (Granted askers) allowed was = front-bounded needs lawful state.count (take askers state.line) allowed.3 was
bounded-step needs lawful state place Closed allowed was = was
bounded-step needs lawful state place Poisoned allowed was = omega (arith, was, kept-small needs state.count)
bounded-step needs lawful state place NotPoisoned allowed was = was
bounded-step needs lawful state place Cleared allowed was = was
bounded-step needs lawful state place NotCleared allowed was = was
bounded-step needs lawful state place NotReady allowed was = was
bounded-step needs lawful state place (Showed shown_place) allowed was = was
bounded-step needs lawful state place (AnswerTaken value) allowed was = was
bounded-step needs lawful state place (Read count poisoned) allowed was = was

pub run-bounded : (needs : Needs) → AreNeeds needs → (state : AbstractState) (events : List (ℕ × Event)) (last : AbstractState) → IsRun needs state events last
    → state.count ≤ needs.top → last.count ≤ needs.top
run-bounded needs lawful state events last run was = run-keeps needs (λ z. z.count ≤ needs.top) (bounded-step needs lawful) state events last run was

-- Each place is held once at most

-- a place that isn't seen in a line doesn't wait there, and one that is does
pub waits-none : (place : ℕ) (line : List (ℕ × ℕ)) → is_in place line ≡ false → times place line ≡ 0
waits-none place [] none = refl
waits-none place (asker ∷ rest) none =
    elim (cases_Bool (asker.0 == place)) [
      | inl same ↦ let wrong : true ≡ false = rw same at none in absurd (cc)
      | inr apart ↦ omega (arith, ap one_if apart, waits-none place rest (rw apart at none))
    ]

pub waits-some : (place : ℕ) (line : List (ℕ × ℕ)) → is_in place line ≡ true → 0 < times place line
waits-some place [] some = absurd (cc)
waits-some place (asker ∷ rest) some =
    elim (cases_Bool (asker.0 == place)) [
      | inl same ↦ omega (arith, ap one_if same)
      | inr apart ↦ omega (arith, waits-some place rest (rw apart at some))
    ]

waits-push : (place : ℕ) (line : List (ℕ × ℕ)) (last : ℕ × ℕ) → times place (line ++ last ∷ []) ≡ times place line + one_if (last.0 == place)
waits-push place [] last = omega arith
waits-push place (asker ∷ rest) last = omega (arith, waits-push place rest last)

waits-without : (place other : ℕ) (line : List (ℕ × ℕ)) → times other (without place line) ≤ times other line
waits-without place other [] = omega arith
waits-without place other (asker ∷ rest) =
    elim (cases_Bool (asker.0 == place)) [
      | inl same ↦ rw same (omega (arith, waits-without place other rest))
      | inr apart ↦ rw apart (omega (arith, waits-without place other rest))
    ]

pub waits-parts : (place askers : ℕ) (line : List (ℕ × ℕ)) → times place (take askers line) + times place (drop askers line) ≡ times place line
waits-parts place zero line = omega arith
waits-parts place (suc askers) [] = omega arith
waits-parts place (suc askers) (asker ∷ rest) = omega (arith, waits-parts place askers rest)

-- a place that is answered out of the line was held there
pub answered-once : (place value : ℕ) (askers : List (ℕ × ℕ)) (answers : ℕ → Option ℕ) (others : ℕ)
    → times place askers + others + one_if (is_some (answers place)) ≤ 1
    → others + one_if (is_some (answered_with value askers answers place)) ≤ 1
answered-once place value askers answers others was =
    elim (cases_Bool (is_in place askers)) [
      | inl some ↦ rw some (omega (arith, was, waits-some place askers some))
      | inr none ↦ rw none (omega (arith, was))
    ]

-- a map with one answer changed
with_answer-same : (place : ℕ) (answer : Option ℕ) (answers : ℕ → Option ℕ) (other : ℕ) → place ≡ other → with_answer place answer answers other ≡ answer
with_answer-same place answer answers other same =
    let test : other == place ≡ true = ap (λ (n : ℕ). other == n) same ∙ number_same other in
    rw test refl

with_answer-other : (place : ℕ) (answer : Option ℕ) (answers : ℕ → Option ℕ) (other : ℕ) → other == place ≡ false → with_answer place answer answers other ≡ answers other
with_answer-other place answer answers other apart = rw apart refl

once-step : (needs : Needs) (state : AbstractState) (place : ℕ) (event : Event) → IsEnabled needs state place event
    → ((other : ℕ) → held_by other state ≤ 1) → (other : ℕ) → held_by other (after_event needs state place event) ≤ 1
once-step needs state place (Acquired request) allowed was other = was other
once-step needs state place (Refused request) allowed was other = was other
once-step needs state place (Joined request) allowed was other =
    elim (cases_Bool (place == other)) [
      | inl same ↦
          let is : place ≡ other = same_number place other same in
          let waits : times other state.line ≡ 0 = ap (λ (n : ℕ). times n state.line) (sym is) ∙ waits-none place state.line allowed.2 in
          let granted : one_if (is_some (state.granted other)) ≡ 0 = ap (λ (n : ℕ). one_if (is_some (state.granted n))) (sym is) ∙ ap (λ (a : Option ℕ). one_if (is_some a)) allowed.3 in
          let answered : one_if (is_some (state.answered other)) ≡ 0 = ap (λ (n : ℕ). one_if (is_some (state.answered n))) (sym is) ∙ ap (λ (a : Option ℕ). one_if (is_some a)) allowed.4 in
          omega (arith, waits, granted, answered, waits-push other state.line (place, request), one_if-le (place == other))
      | inr apart ↦ omega (arith, was other, waits-push other state.line (place, request), ap one_if apart)
    ]
once-step needs state place (Released request) allowed was other = was other
once-step needs state place (ReleasedNothing request) allowed was other = was other
once-step needs state place Lowered allowed was other = was other
once-step needs state place NotLowered allowed was other = was other
once-step needs state place AskedPoisoned allowed was other = was other
once-step needs state place Cancelled allowed was other = omega (arith, was other, waits-without place other state.line)
once-step needs state place (Granted askers) allowed was other =
    let parts = waits-parts other askers state.line in
    omega (arith, answered-once other 0 (take askers state.line) state.granted (times other (drop askers state.line) + one_if (is_some (state.answered other))) (omega (arith, was other, parts)))
once-step needs state place Closed allowed was other = was other
once-step needs state place Poisoned allowed was other =
    omega (arith, answered-once other 2 state.line state.granted (one_if (is_some (state.answered other))) (omega (arith, was other)))
once-step needs state place NotPoisoned allowed was other = was other
once-step needs state place Cleared allowed was other = was other
once-step needs state place NotCleared allowed was other = was other
once-step needs state place NotReady allowed was other = was other
once-step needs state place (Showed shown_place) allowed was other =
    elim (cases_Bool (other == shown_place)) [
      | inl same ↦
          let is : shown_place ≡ other = sym (same_number other shown_place same) in
          let granted : one_if (is_some (state.granted other)) ≡ 1 = ap (λ (n : ℕ). one_if (is_some (state.granted n))) (sym is) ∙ ap one_if allowed.0 in
          rw same (omega (arith, was other, granted, one_if-le (is_some (state.granted shown_place))))
      | inr apart ↦ rw apart (was other)
    ]
once-step needs state place (AnswerTaken value) allowed was other =
    elim (cases_Bool (other == place)) [
      | inl same ↦ rw same (omega (arith, was other))
      | inr apart ↦ rw apart (was other)
    ]
once-step needs state place (Read count poisoned) allowed was other = was other

pub run-once : (needs : Needs) (state : AbstractState) (events : List (ℕ × Event)) (last : AbstractState) → IsRun needs state events last
    → ((other : ℕ) → held_by other state ≤ 1) → (other : ℕ) → held_by other last ≤ 1
run-once needs state events last run was = run-keeps needs (λ z. (other : ℕ) → held_by other z ≤ 1) (once-step needs) state events last run was

-- The needs of a semaphore are those of a form

-- what is left of permits that are given back
permits-left : (bound count request left : ℕ) → left_count (permit_needs bound) count request ≡ Some left → left ≤ count
permits-left bound count request left is =
    elim (cases_Bool (nat_le request count)) [
      | inl enough ↦
          let now : left_count (permit_needs bound) count request ≡ Some (count - request) = rw enough refl in
          let both : Some (count - request) ≡ Some left = sym now ∙ is in
          let same : count - request ≡ left = cc in
          omega (arith, same)
      | inr more ↦
          let none : left_count (permit_needs bound) count request ≡ None = rw more refl in
          absurd (cc)
    ]

pub permits-lawful : (bound : ℕ) → AreNeeds (permit_needs bound)
permits-lawful bound = record {
  adds = λ count request fits. refl;
  bounded = λ count request fits. grind (arith, nat_tests);
  lower = λ lower count request less fits. grind (arith, nat_tests);
  shrinks = λ count request left is. permits-left bound count request left is;
}

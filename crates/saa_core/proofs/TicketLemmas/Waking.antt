-- The pending wakes after each change that a core makes of its line: of the waiters that it answered, and of no other.
use Rattle.std.proofs.Common.{◌≡◌, ℕ, ◌<◌, Bool, true, false, ◌==◌, List, [], ◌∷◌, ◌++◌, length, take, drop, Option, Some, None, is_some, slice_set, nat_lt, refl, sym, ap, subst, ◌∙◌, arith, inl, inr}
use Rattle.std.proofs.lemmas.List.{take-append-drop, append-nil}
use Rattle.std.proofs.Math.ListN.{length-set}
use Rattle.saa_core_spec.specs.declared.request.Request.{Request}
use Rattle.saa_core_spec.specs.Object.{Waiter, one_if, times, without}
use Rattle.saa_core.specs.Slots.{Slots, answer_in, answered_of, answered_slots, all_slots_answered, pending_after, slots_answered, IsSound, WakesAnswered}
use Rattle.saa_core_spec.proofs.Counts.{bool_cases, same_number, one_if-same, times-take_drop, times-without_same}
use Rattle.saa_core.proofs.TicketLemmas.Counting.{held-once, held-answered, no_answer, unanswered-take}
use Rattle.saa_core.proofs.TicketLemmas.Steps.{slots_joined, slots_taken, slots_left, held-taken, held-left}
use Rattle.saa_core.proofs.TicketLemmas.Answering.{all_answered-front}

-- Who has an answer

-- what counts is true
one_if-true : (b : Bool) → 0 < one_if b → b ≡ true
one_if-true true some = refl
one_if-true false some = absurd (omega arith)

-- and what doesn't is false
one_if-false : (b : Bool) → one_if b ≡ 0 → b ≡ false
one_if-false true none = absurd (omega arith)
one_if-false false none = refl

-- none of waiters that have no answers
answered_of-none : (ws : List Waiter) (answers : List (Option ℕ)) → ((slot : ℕ) → 0 < times slot ws → is_some (answer_in answers slot) ≡ false) → answered_of ws answers ≡ []
answered_of-none [] answers none = refl
answered_of-none (w ∷ ws) answers none =
    let here : 0 < times w.0 (w ∷ ws) = omega (arith, one_if-same w.0) in
    let first : is_some (answer_in answers w.0) ≡ false = none w.0 here in
    rw first (answered_of-none ws answers (λ slot some. none slot (omega arith)))

-- all of waiters that all have one
answered_of-all : (ws : List Waiter) (answers : List (Option ℕ)) → ((slot : ℕ) → 0 < times slot ws → is_some (answer_in answers slot) ≡ true) → answered_of ws answers ≡ ws
answered_of-all [] answers all = refl
answered_of-all (w ∷ ws) answers all =
    let here : 0 < times w.0 (w ∷ ws) = omega (arith, one_if-same w.0) in
    let first : is_some (answer_in answers w.0) ≡ true = all w.0 here in
    rw first (ap (λ (l : List Waiter). w ∷ l) (answered_of-all ws answers (λ slot some. all slot (omega arith))))

-- those of both parts of a line
answered_of-append : (xs ys : List Waiter) (answers : List (Option ℕ)) → answered_of (xs ++ ys) answers ≡ answered_of xs answers ++ answered_of ys answers
answered_of-append [] ys answers = refl
answered_of-append (x ∷ xs) ys answers =
    elim (bool_cases (is_some (answer_in answers x.0))) [
      | inl e ↦ rw e (ap (λ (l : List Waiter). x ∷ l) (answered_of-append xs ys answers))
      | inr e ↦ rw e (answered_of-append xs ys answers)
    ]

-- a slot without an answer isn't missed
answered_of-without : (slot : ℕ) (ws : List Waiter) (answers : List (Option ℕ)) → answer_in answers slot ≡ None → answered_of (without slot ws) answers ≡ answered_of ws answers
answered_of-without slot [] answers none = refl
answered_of-without slot (w ∷ ws) answers none =
    elim (bool_cases (w.0 == slot)) [
      | inl e ↦
          let own : is_some (answer_in answers w.0) ≡ false = ap (λ k. is_some (answer_in answers k)) (same_number w.0 slot e) ∙ ap (λ (a : Option ℕ). is_some a) none in
          rw (e, own) (answered_of-without slot ws answers none)
      | inr e ↦
          elim (bool_cases (is_some (answer_in answers w.0))) [
            | inl a ↦ rw (e, a) (ap (λ (l : List Waiter). w ∷ l) (answered_of-without slot ws answers none))
            | inr a ↦ rw (e, a) (answered_of-without slot ws answers none)
          ]
    ]

-- the front is what has an answer once it is answered
answered_of-front : (v k : ℕ) (slots : Slots) → IsSound slots → answered_of slots.line (answered_slots v (take k slots.line) slots.answers) ≡ take k slots.line
answered_of-front v k slots sound =
    let front : List Waiter = take k slots.line in
    let back : List Waiter = drop k slots.line in
    let after : List (Option ℕ) = answered_slots v front slots.answers in
    let counts = λ (slot : ℕ). held-answered v front slots.answers slot (unanswered-take slots sound k) in
    let all : answered_of front after ≡ front =
    answered_of-all front after (λ slot some. one_if-true (is_some (answer_in after slot)) (omega (arith, counts slot))) in
    let none : answered_of back after ≡ [] =
    answered_of-none back after (λ slot some. one_if-false (is_some (answer_in after slot)) (omega (arith, counts slot, times-take_drop slot k slots.line, held-once slots sound slot))) in
    ap (λ (l : List Waiter). answered_of l after) (sym (take-append-drop k slots.line))
    ∙ answered_of-append front back after
    ∙ ap (λ (l : List Waiter). l ++ answered_of back after) all
    ∙ ap (λ (l : List Waiter). front ++ l) none
    ∙ append-nil front

-- What is owed

-- a call that leaves the line and the answers as they are owes nobody
pub wakes-same : (slots : Slots) → IsSound slots → WakesAnswered slots slots
wakes-same slots sound = record {
  exact =
      let nobody : answered_of slots.line slots.answers ≡ [] =
      answered_of-none slots.line slots.answers (λ slot some. one_if-false (is_some (answer_in slots.answers slot)) (omega (arith, held-once slots sound slot))) in
      ap (λ (l : List Waiter). pending_after l slots.pending_wakes) (sym nobody);
}

-- the wakes pending after a call follow from the waiters before it, and the wakes pending then
pub wakes-from : (old mid new : Slots) → mid.line ≡ old.line → mid.pending_wakes ≡ old.pending_wakes → WakesAnswered mid new → WakesAnswered old new
wakes-from old mid new line pending_wakes owes = record {
  exact = owes.exact ∙ ap (λ (l : List Waiter). pending_after (answered_of l new.answers) mid.pending_wakes) line ∙ ap (λ (o : List ℕ). pending_after (answered_of old.line new.answers) o) pending_wakes;
}

-- and of the answers after it, and what is owed then
pub wakes-to : (old mid new : Slots) → mid.answers ≡ new.answers → mid.pending_wakes ≡ new.pending_wakes → WakesAnswered old mid → WakesAnswered old new
wakes-to old mid new answers pending_wakes owes = record {
  exact = sym pending_wakes ∙ owes.exact ∙ ap (λ (a : List (Option ℕ)). pending_after (answered_of old.line a) old.pending_wakes) answers;
}

-- a slot that joins is owed nothing
pub wakes-joined : (slots : Slots) (slot : ℕ) (r : Request) → IsSound slots → WakesAnswered slots (slots_joined slots slot r)
wakes-joined slots slot r sound = wakes-to slots slots (slots_joined slots slot r) refl refl (wakes-same slots sound)

-- the front that is answered is owed
pub wakes-front : (v k : ℕ) (slots : Slots) → IsSound slots → WakesAnswered slots (slots_answered v k slots)
wakes-front v k slots sound = record {
  exact = ap (λ (l : List Waiter). pending_after l slots.pending_wakes) (sym (answered_of-front v k slots sound));
}

-- and so are all who are answered
pub wakes-all : (v : ℕ) (slots : Slots) → IsSound slots → WakesAnswered slots (all_slots_answered v slots)
wakes-all v slots sound = subst (λ (s : Slots). WakesAnswered slots s) (all_answered-front v slots) (wakes-front v (length slots.line) slots sound)

-- A slot is freed

-- its answer is taken
pub sound-taken : (slots : Slots) (slot v : ℕ) → IsSound slots → answer_in slots.answers slot ≡ Some v → IsSound (slots_taken slots slot)
sound-taken slots slot v sound there =
    let size : length (slice_set slots.answers slot None) ≡ length slots.answers = length-set slots.answers slot None in
    record {
      each = λ other. omega (arith, held-taken slots slot v other there, sound.each other, ap (λ n. one_if (nat_lt other n)) size);
      pending_once = λ other. omega (arith, sound.pending_once other, ap (λ n. one_if (nat_lt other n)) size);
      small = omega (arith, size, sound.small);
    }

-- it leaves the line
pub sound-left : (slots : Slots) (slot : ℕ) → IsSound slots → 0 < times slot slots.line → IsSound (slots_left slots slot)
sound-left slots slot sound waits = record {
  each = λ other. omega (arith, held-left slots slot other (held-once slots sound slot) waits, sound.each other);
  pending_once = sound.pending_once;
  small = sound.small;
}

-- what is owed a wake after an answer was taken was owed one before
pub wakes-taken : (slots new : Slots) (slot : ℕ) → WakesAnswered (slots_taken slots slot) new → WakesAnswered slots new
wakes-taken slots new slot owes = wakes-from slots (slots_taken slots slot) new refl refl owes

-- a slot that left is owed nothing where it has no answer afterwards
wakes-left : (slots new : Slots) (slot : ℕ) → answer_in new.answers slot ≡ None → WakesAnswered (slots_left slots slot) new → WakesAnswered slots new
wakes-left slots new slot none owes = record {
  exact = owes.exact ∙ ap (λ (l : List Waiter). pending_after l slots.pending_wakes) (answered_of-without slot slots.line new.answers none);
}

-- the front of those behind a slot that left is owed
pub wakes-left_front : (v k : ℕ) (slots : Slots) (slot : ℕ) → IsSound slots → 0 < times slot slots.line → WakesAnswered slots (slots_answered v k (slots_left slots slot))
wakes-left_front v k slots slot sound waits =
    let left : Slots = slots_left slots slot in
    let left_sound : IsSound left = sound-left slots slot sound waits in
    let after : List (Option ℕ) = answered_slots v (take k left.line) left.answers in
    let none : answer_in after slot ≡ None =
    no_answer (answer_in after slot) (omega (arith, held-answered v (take k left.line) left.answers slot (unanswered-take left left_sound k), times-take_drop slot k left.line, times-without_same slot slots.line, held-once slots sound slot)) in
    wakes-left slots (slots_answered v k left) slot none (wakes-front v k left left_sound)

-- and so are all the others
pub wakes-left_all : (v : ℕ) (slots : Slots) (slot : ℕ) → IsSound slots → 0 < times slot slots.line → WakesAnswered slots (all_slots_answered v (slots_left slots slot))
wakes-left_all v slots slot sound waits =
    subst (λ (s : Slots). WakesAnswered slots s) (all_answered-front v (slots_left slots slot)) (wakes-left_front v (length (without slot slots.line)) slots slot sound waits)

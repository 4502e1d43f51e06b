-- The events of a call that moves alone between two moments when the object is at rest.
use Rattle.std.proofs.Common.{◌≡◌, ◌⊎◌, ℕ, ◌+◌, true, false, List, [], ◌∷◌, ◌++◌, take, drop, Some, None, refl, sym, ap, subst, ◌∙◌, arith, inl, inr, append_assoc}
use Rattle.std.proofs.lemmas.List.{take-append-drop}
use Rattle.std.proofs.lemmas.Bool.{cases_Bool}
use Rattle.std.proofs.lemmas.Bool.Decides.{nat_tests}
use Rattle.saa_word_steps.specs.Needs.{Needs, kept}
use Rattle.saa_word_steps.specs.declared.event.Event.{Event}
use Rattle.saa_word_steps.specs.declared.event.Event.TheVariants.{Granted, Showed, Poisoned}
use Rattle.saa_word_steps.specs.AbstractState.{AbstractState, IsEnabled, after_event, IsRun, IsFront, IsSettledAt, is_in, takes_of, answered_with}
use Rattle.saa_word_proofs.specs.History.{is_named, named, of_place}
use Rattle.saa_word_proofs.proofs.RefinementLemmas.Lists.{in-append, front-append, takes-append}
use Rattle.saa_word_proofs.specs.Promises.{WordsAreQuiescent}

-- Lists of events

pub run-append : (needs : Needs) (me : ℕ) (first second : List Event) (start middle last : AbstractState)
    → IsRun needs start (of_place me first) middle → IsRun needs middle (of_place me second) last → IsRun needs start (of_place me (first ++ second)) last
run-append needs me [] second start middle last one other = subst (λ (z : AbstractState). IsRun needs z (of_place me second) last) (sym one) other
run-append needs me (event ∷ first) second start middle last one other =
    (one.0, run-append needs me first second (after_event needs start me event) middle last one.1 other)

pub named-append : (first second : List Event) → named (first ++ second) ≡ named first ++ named second
named-append [] second = refl
named-append (event ∷ first) second = grind (arith, named-append first second)

-- nothing is open, and no answer due
abbrev pub IsCalm : AbstractState → Type 0
IsCalm state = (state.unclosed ≡ false) × ((place : ℕ) → state.granted place ≡ None)

-- then nothing happens that no answer names
nothing-else : (needs : Needs) (state : AbstractState) (me : ℕ) (event : Event) → IsCalm state → is_named event ≡ false → IsEnabled needs state me event → ⊥
nothing-else needs state me (Showed shown_place) calm unnamed allowed = grind (arith, allowed, calm.1 shown_place)
nothing-else needs state me _ calm unnamed allowed = grind (arith, allowed, calm.0, unnamed)

-- a list of events of a place leads from one state to another, and answers name these of them
pub record NamedRun (needs : Needs) (me : ℕ) (start last : AbstractState) (names : List Event) : Type 0 where
  pub events : List Event
  pub run : IsRun needs start (of_place me events) last
  pub named : named events ≡ names

-- what holds at the start, and behind each event that no answer names, holds at the end where answers name none
unnamed-keep : (needs : Needs) (me : ℕ) (P : AbstractState → Type 0)
    → ((state : AbstractState) (event : Event) → is_named event ≡ false → IsEnabled needs state me event → P state → P (after_event needs state me event))
    → (events : List Event) (state last : AbstractState) → named events ≡ [] → IsRun needs state (of_place me events) last → P state → P last
unnamed-keep needs me P keeps [] state last names run was = subst P run was
unnamed-keep needs me P keeps (event ∷ rest) state last names run was =
    elim (cases_Bool (is_named event)) [
      | inl is ↦ absurd (grind (arith, is, names))
      | inr unnamed ↦
          unnamed-keep needs me P keeps rest (after_event needs state me event) last (rw unnamed at names) run.1 (keeps state event unnamed run.0 was)
    ]

-- where answers name nothing, nothing happens
pub no-events : {needs : Needs} {me : ℕ} {state last : AbstractState} → IsCalm state → NamedRun needs me state last [] → state ≡ last
no-events {needs} {me} {state} {last} calm leads =
    unnamed-keep needs me (λ z. state ≡ z) (λ z event unnamed allowed same. absurd (nothing-else needs state me event calm unnamed (rw (← same) at allowed)))
    leads.events state last leads.named leads.run refl

-- what answers name first comes first, and what they name behind it comes behind
pub first-event : {needs : Needs} {me : ℕ} {state last : AbstractState} {event : Event} {more : List Event} → IsCalm state
    → NamedRun needs me state last (event ∷ more) → IsEnabled needs state me event × NamedRun needs me (after_event needs state me event) last more
first-event {needs} {me} {state} {last} {event} {more} calm leads = from leads.events leads.named leads.run
  where
    from : (events : List Event) → named events ≡ event ∷ more → IsRun needs state (of_place me events) last
        → IsEnabled needs state me event × NamedRun needs me (after_event needs state me event) last more
    from [] names run = absurd (cc)
    from (head ∷ rest) names run =
        elim (cases_Bool (is_named head)) [
          | inl is ↦
              let both : head ∷ named rest ≡ event ∷ more = rw is at names in
              let same : head ≡ event = cc in
              subst (λ e. IsEnabled needs state me e × NamedRun needs me (after_event needs state me e) last more) same
              (run.0, record { events = rest; run = run.1; named = cc })
          | inr unnamed ↦ absurd (nothing-else needs state me head calm unnamed run.0)
        ]

-- Answers

-- the answer of a place of a front is due or shown, and that of each other place is as it was
abbrev pub IsPaid : ℕ → AbstractState → List (ℕ × ℕ) → AbstractState → ℕ → Type 0
IsPaid value start front state place =
    ((state.granted place ≡ Some value) × (is_in place front ≡ true)) ⊎ ((state.granted place ≡ None) × (state.answered place ≡ answered_with value front start.answered place))

-- Grants

-- a front of the line was granted since the start, one after another; whether every request is refused stays as it was
pub record Grants (needs : Needs) (start state : AbstractState) : Type 0 where
  pub front : List (ℕ × ℕ)
  pub parts : start.line ≡ front ++ state.line
  pub fits : IsFront needs start.count front
  pub count : state.count ≡ start.count + takes_of needs front
  pub same : state.poisoned ≡ start.poisoned
  pub paid : (place : ℕ) → IsPaid 0 start front state place

-- it is shown, and what is left of the line is settled behind it
pub record Settles (needs : Needs) (start last : AbstractState) : Type 0 where
  pub grants : Grants needs start last
  pub open grants use *
  pub answered : (place : ℕ) → last.answered place ≡ answered_with 0 front start.answered place
  pub settled : IsSettledAt needs last.count last.line

-- an event that no answer names grants more of the line, or none
grants-event : (needs : Needs) (start state : AbstractState) (me : ℕ) (event : Event) → is_named event ≡ false → IsEnabled needs state me event
    → Grants needs start state → Grants needs start (after_event needs state me event)
grants-event needs start state me (Granted askers) unnamed allowed was =
    let more : List (ℕ × ℕ) = take askers state.line in
    let whole : state.line ≡ more ++ drop askers state.line = sym (take-append-drop askers state.line) in
    record {
      front = was.front ++ more;
      parts = was.parts ∙ ap (λ (l : List (ℕ × ℕ)). was.front ++ l) whole ∙ sym (append_assoc was.front more (drop askers state.line));
      fits = front-append needs start.count was.front more was.fits (subst (λ (n : ℕ). IsFront needs n more) was.count allowed.3);
      count = omega (arith, was.count, takes-append needs was.front more);
      same = was.same;
      paid = λ place. grind (arith, was.paid place, in-append place was.front more);
    }
grants-event needs start state me event unnamed allowed was = record {
  front = was.front;
  parts = grind (arith, was.parts, unnamed);
  fits = was.fits;
  count = grind (arith, was.count, unnamed);
  same = grind (arith, was.same, unnamed);
  paid = λ place. grind (arith, nat_tests, was.paid place, allowed, unnamed);
}

-- Where answers name nothing more, and nothing is due, the front of the line that fits is granted until the object is at rest
pub settles : {needs : Needs} {me : ℕ} {start last : AbstractState} (row : ℕ → ℕ) → NamedRun needs me start last [] → ((place : ℕ) → start.granted place ≡ None)
    → WordsAreQuiescent needs row last → Settles needs start last
settles {needs} {me} {start} {last} row leads paid rests =
    let g : Grants needs start last =
    unnamed-keep needs me (Grants needs start) (λ z event unnamed allowed was. grants-event needs start z me event unnamed allowed was)
    leads.events start last leads.named leads.run
    (record { front = []; parts = refl; fits = tt; count = omega arith; same = refl; paid = λ place. inr (paid place, refl) }) in
    record { grants = g; answered = λ place. grind (arith, g.paid place, rests.paid place); settled = rests.settled }

-- Poison

-- the answers of all waiters are due or shown since the lock was poisoned, or the semaphore shut, and nothing else changed
record Tells (needs : Needs) (start state : AbstractState) : Type 0 where
  poison : state.poisoned ≡ true
  count : state.count ≡ kept needs start.count
  closed : state.unclosed ≡ false
  line : state.line ≡ []
  paid : (place : ℕ) → IsPaid 2 start start.line state place

tells-event : (needs : Needs) (start state : AbstractState) (me : ℕ) (event : Event) → is_named event ≡ false → IsEnabled needs state me event
    → Tells needs start state → Tells needs start (after_event needs state me event)
tells-event needs start state me event unnamed allowed was = record {
  poison = grind (arith, was.poison, unnamed);
  count = grind (arith, was.count, was.closed, allowed, unnamed);
  closed = grind (arith, was.closed, unnamed);
  line = grind (arith, was.line, was.closed, allowed, unnamed);
  paid = λ place. grind (arith, nat_tests, was.paid place, was.closed, allowed, unnamed);
}

-- Behind poison all waiters are shown that, until nothing is due
pub tells : (needs : Needs) (me : ℕ) (start : AbstractState) {last : AbstractState} → NamedRun needs me (after_event needs start me Poisoned) last []
    → IsCalm start → ((place : ℕ) → last.granted place ≡ None)
    → (last.poisoned ≡ true) × (last.line ≡ []) × ((place : ℕ) → last.answered place ≡ answered_with 2 start.line start.answered place)
    × (last.count ≡ kept needs start.count)
tells needs me start {last} leads calm none =
    let t : Tells needs start last =
    unnamed-keep needs me (Tells needs start) (λ z event unnamed allowed was. tells-event needs start z me event unnamed allowed was)
    leads.events (after_event needs start me Poisoned) last leads.named leads.run
    (record { poison = refl; count = refl; closed = calm.0; line = refl; paid = λ place. grind (arith, calm.1 place) }) in
    (t.poison, t.line, λ place. grind (arith, t.paid place, none place), t.count)

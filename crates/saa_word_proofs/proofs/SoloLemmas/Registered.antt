-- What a call that starts answers, and what its place is registered as then and behind each event that its answer names. A waiter is registered in the
-- line with what it asks: events keep that, since they change the line and what their place is registered as together.
use Rattle.std.proofs.Common.{◌≡◌, ℕ, ◌<◌, true, refl, arith, Bool, false, List, [], ◌∷◌, ◌++◌, ◌==◌, Option, if◌then◌else◌, suc, zero, ◌≤◌, drop, ap}
use Rattle.saa_word_steps.specs.declared.call.WordCall.{WordCall}
use Rattle.saa_word_steps.specs.declared.place.Place.{Place}
use Rattle.saa_word_steps.specs.declared.place.Registration.{Registration}
use Rattle.saa_word_steps.specs.declared.place.Registration.TheVariants.{Idle, AnsweredAtOnce, Queued}
use Rattle.saa_word_steps.specs.Needs.{Needs}
use Rattle.saa_word_steps.specs.Steps.{started, next_of}
use Rattle.saa_word_proofs.specs.CallStages.{IsReadyNext, IsStartedAs, IsLeft, IsUnder}
use Rattle.saa_word_proofs.specs.Registering.{is_slot, registration_after_start, starting_answer, registration_after_event, registration_after, AreRegistered}
use Rattle.saa_word_steps.specs.declared.place.Stage.TheVariants.{Quiet, AcquireExchange, ReleaseExchange}
use Rattle.saa_core_words.specs.Words.{count_bits, word_number}
use Rattle.saa_word_steps.specs.declared.place.Ask.{Ask}
use Rattle.saa_word_steps.specs.declared.place.Stage.{Stage}
use Rattle.saa_word_steps.specs.declared.place.Next.{Next}
use Rattle.saa_word_steps.specs.declared.event.Event.{Event}
use Rattle.saa_word_proofs.specs.StepRefinement.{named_at}
use Rattle.saa_word_proofs.specs.Calls.{asked_by}
use Rattle.std.proofs.lemmas.Bool.Decides.{nat_tests}
use Rattle.saa_core_spec.specs.Object.{one_if, without}
use Rattle.saa_core_spec.proofs.Counts.{number_same}
use Rattle.saa_word_steps.specs.declared.event.Event.TheVariants.{Acquired, Joined, AskedPoisoned, Cancelled, Poisoned, Granted, AnswerTaken}
use Rattle.saa_word_steps.specs.AbstractState.{AbstractState, IsEnabled, after_event, IsRun, is_in, held_by}
use Rattle.saa_word_steps.proofs.AbstractRuns.{run-once, waits-some}
use Rattle.saa_word_proofs.specs.Rows.{updated}
use Rattle.saa_word_proofs.specs.History.{is_named, named, of_place}
use Rattle.saa_word_proofs.proofs.RefinementLemmas.Lists.{in-none}

ready-of : (needs : Needs) (places me : ℕ) (place : Place) (call : WordCall) (registration : Registration) → (is_slot registration ≡ true → me < places)
    → IsReadyNext needs places me (started needs (record place { registration = registration }) call)
ready-of needs places me place _ Idle here = grind arith
ready-of needs places me place _ (AnsweredAtOnce value request) here = grind arith
ready-of needs places me place _ (Queued request) here = grind (arith, here refl)

-- A call that starts
pub started-ready-anyone : (needs : Needs) (places me : ℕ) (place : Place) (call : WordCall) → (is_slot place.registration ≡ true → me < places)
    → IsReadyNext needs places me (started needs place call)
started-ready-anyone needs places me place call here = ready-of needs places me place call place.registration here

pub started-ready : (needs : Needs) (places me : ℕ) (place : Place) (call : WordCall) → me < places → IsReadyNext needs places me (started needs place call)
started-ready needs places me place call here = started-ready-anyone needs places me place call (λ slot. here)

started-of : (needs : Needs) (place : Place) (call : WordCall) (registration : Registration) → place.stage ≡ Quiet
    → IsStartedAs (starting_answer needs call registration) (registration_after_start call registration) (started needs (record place { registration = registration }) call)
started-of needs place _ Idle quiet = grind arith
started-of needs place _ (AnsweredAtOnce value request) quiet = grind arith
started-of needs place _ (Queued request) quiet = grind arith

-- A call that starts answers by what its place is registered as
pub started-as : (needs : Needs) (place : Place) (call : WordCall) → place.stage ≡ Quiet
    → IsStartedAs (starting_answer needs call place.registration) (registration_after_start call place.registration) (started needs place call)
started-as needs place call quiet = started-of needs place call place.registration quiet

pub left-append : (first second : List Event) (asks : Option Ask) (was : Registration)
    → registration_after (first ++ second) asks was ≡ registration_after second asks (registration_after first asks was)
left-append [] second asks was = refl
left-append (event ∷ first) second asks was = left-append first second asks (registration_after_event event asks was)

-- by a test a step names events, and goes on so that its place is registered
named-if : (test : Bool) (asks : Option Ask) (was : Registration) (these those : List Event) (one other : Next) → IsLeft was (registration_after these asks was) one
    → IsLeft was (registration_after those asks was) other → IsLeft was (registration_after (if test then these else those) asks was) (if test then one else other)
named-if true asks was these those one other left also = left
named-if false asks was these those one other left also = also

-- Behind each step of a call its place is registered so
pub left-next : (needs : Needs) (call : WordCall) (registered : Registration) (me : ℕ) (place : Place) (stage : Stage) (found : ℕ) (events : List Event)
    → IsUnder needs call registered place.back stage events
    → IsLeft place.registration (registration_after (named_at needs stage found) (asked_by call) place.registration) (next_of needs me place stage found)
left-next needs call registered me place (AcquireExchange ask seen) found events h =
    named-if (found == word_number count_bits seen) _ _ _ _ _ _ (grind (arith, h.0)) (grind (arith, h.0))
left-next needs call registered me place (ReleaseExchange what seen) found events h = named-if (found == word_number count_bits seen) _ _ _ _ _ _ (grind arith) (grind arith)
left-next needs call registered me place stage found events h = grind (arith, h)

-- Lines

-- a place that isn't in the line may be registered as anything
others-registered : (registered : ℕ → Registration) (me : ℕ) (one other : Registration) (line : List (ℕ × ℕ)) → is_in me line ≡ false
    → AreRegistered (updated registered me one) line → AreRegistered (updated registered me other) line
others-registered registered me one other [] out are = tt
others-registered registered me one other (asker ∷ rest) out are =
    grind (arith, out, are.0, others-registered registered me one other rest (grind (arith, out)) are.1)

without-registered : (registered : ℕ → Registration) (me : ℕ) (line : List (ℕ × ℕ)) → AreRegistered registered line
    → AreRegistered registered (without me line)
without-registered registered me [] are = tt
without-registered registered me (asker ∷ rest) are = grind (arith, are.0, without-registered registered me rest are.1)

without-out : (me : ℕ) (line : List (ℕ × ℕ)) → is_in me (without me line) ≡ false
without-out me [] = refl
without-out me (asker ∷ rest) = grind (arith, without-out me rest)

drop-registered : (registered : ℕ → Registration) (askers : ℕ) (line : List (ℕ × ℕ)) → AreRegistered registered line → AreRegistered registered (drop askers line)
drop-registered registered zero line are = are
drop-registered registered (suc askers) [] are = tt
drop-registered registered (suc askers) (asker ∷ rest) are = drop-registered registered askers rest are.1

push-registered : (registered : ℕ → Registration) (place request : ℕ) (line : List (ℕ × ℕ)) → AreRegistered registered line → registered place ≡ Queued request
    → AreRegistered registered (line ++ (place, request) ∷ [])
push-registered registered place request [] are last = (last, tt)
push-registered registered place request (asker ∷ rest) are last = (are.0, push-registered registered place request rest are.1 last)

-- Events

-- a poisoned lock has nobody in line
pub barren-step : (needs : Needs) (state : AbstractState) (place : ℕ) (event : Event) → IsEnabled needs state place event → (state.poisoned ≡ true → state.line ≡ [])
    → (after_event needs state place event).poisoned ≡ true → (after_event needs state place event).line ≡ []
barren-step needs state place Cancelled allowed was poisoned = ap (without place) (was poisoned)
barren-step needs state place (Granted askers) allowed was poisoned = absurd (grind (arith, allowed.1, allowed.2, was poisoned))
barren-step needs state place _ allowed was poisoned = grind (arith, allowed, was, poisoned)

-- what a place is registered as behind an event, where an answer names that
abbrev left_by_named : Event → Option Ask → Registration → Registration
left_by_named event asks was = if is_named event then registration_after_event event asks was else was

event-registered : (needs : Needs) (state : AbstractState) (me : ℕ) (event : Event) (asks : Option Ask) (registered : ℕ → Registration) (was : Registration)
    → IsEnabled needs state me event → held_by me state ≤ 1 → (state.poisoned ≡ true → state.line ≡ []) → AreRegistered (updated registered me was) state.line
    → AreRegistered (updated registered me (left_by_named event asks was)) (after_event needs state me event).line
event-registered needs state me (Acquired request) asks registered was allowed once barren are = rw allowed.1 tt
event-registered needs state me (Joined request) asks registered was allowed once barren are =
    push-registered (updated registered me (Queued request)) me request state.line (others-registered registered me was (Queued request) state.line allowed.2 are)
    (rw (number_same me) refl)
event-registered needs state me AskedPoisoned asks registered was allowed once barren are = rw (barren allowed) tt
event-registered needs state me Cancelled asks registered was allowed once barren are =
    others-registered registered me was Idle (without me state.line) (without-out me state.line)
    (without-registered (updated registered me was) me state.line are)
event-registered needs state me (Granted askers) asks registered was allowed once barren are = drop-registered (updated registered me was) askers state.line are
event-registered needs state me Poisoned asks registered was allowed once barren are = tt
event-registered needs state me (AnswerTaken value) asks registered was allowed once barren are =
    others-registered registered me was Idle state.line (in-none me state.line (grind (arith, once, allowed))) are
event-registered needs state me _ asks registered was allowed once barren are = are

-- a list of events of one place
pub run-registered : (needs : Needs) (state last : AbstractState) (me : ℕ) (events : List Event) (asks : Option Ask) (registered : ℕ → Registration) (was : Registration)
    → IsRun needs state (of_place me events) last → ((other : ℕ) → held_by other state ≤ 1) → (state.poisoned ≡ true → state.line ≡ [])
    → AreRegistered (updated registered me was) state.line → AreRegistered (updated registered me (registration_after (named events) asks was)) last.line
run-registered needs state last me [] asks registered was run once barren are = rw run at are
run-registered needs state last me (event ∷ events) asks registered was run once barren are =
    let after : AbstractState = after_event needs state me event in
    let behind = run-registered needs after last me events asks registered (left_by_named event asks was) run.1
    (run-once needs state ((me, event) ∷ []) after (run.0, refl) once) (barren-step needs state me event run.0 barren)
    (event-registered needs state me event asks registered was run.0 (once me) barren are) in
    grind (arith, behind)

-- a call that starts leaves each place that is registered in the line as it is
begun-slot : (call : WordCall) (registration : Registration) → is_slot registration ≡ true → registration_after_start call registration ≡ registration
begun-slot _ _ slot = grind arith

keeps-registered : (registered : ℕ → Registration) (me : ℕ) (now : Registration) (line : List (ℕ × ℕ)) → (is_in me line ≡ true → now ≡ registered me)
    → AreRegistered registered line → AreRegistered (updated registered me now) line
keeps-registered registered me now [] same are = tt
keeps-registered registered me now (asker ∷ rest) same are =
    grind (arith, nat_tests, same, are.0, keeps-registered registered me now rest (λ there. grind (arith, same, there)) are.1)

pub begun-registered-line : (state : AbstractState) (registered : ℕ → Registration) (me : ℕ) (call : WordCall) → held_by me state ≡ one_if (is_slot (registered me))
    → AreRegistered registered state.line → AreRegistered (updated registered me (registration_after_start call (registered me))) state.line
begun-registered-line state registered me call held are =
    keeps-registered registered me (registration_after_start call (registered me)) state.line
    (λ there. begun-slot call (registered me) (grind (arith, held, waits-some me state.line there))) are

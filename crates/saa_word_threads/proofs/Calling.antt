-- A call goes on: what it has named so far, how its place's view has grown, and what the place is registered as.
use Rattle.std.proofs.Common.{◌≡◌, ℕ, ◌<◌, ◌⊎◌, ◌==◌, ◌%◌, nat_lt, if◌then◌else◌, Bool, true, false, List, [], ◌++◌, Option, Some, None, refl, sym, ap, subst, ◌∙◌, inl, inr}
use Rattle.std.specs.Prelude.{Ok}
use Rattle.std.proofs.lemmas.Bool.{cases_Bool}
use Rattle.saa_core_spec.specs.Values.{granted_value}
use Rattle.saa_word_steps.specs.declared.call.Answer.{Answer}
use Rattle.saa_word_steps.specs.declared.call.Answer.TheVariants.{Bool as Says, Taken}
use Rattle.saa_word_steps.specs.declared.call.WordCall.{WordCall}
use Rattle.saa_word_steps.specs.declared.call.WordCall.TheVariants.{Try, Register, Release, Available, Shut, IsShut, TryLock, TryShare, RegisterMode, ReleaseLock, ReleaseShare, Downgrade, PoisonLock, ClearPoison, IsFree, IsLocked, IsShared, IsPoisoned, TryPoll, Poll, Cancel}
use Rattle.saa_word_steps.specs.declared.event.Event.{Event}
use Rattle.saa_word_steps.specs.declared.place.Next.{Next}
use Rattle.saa_word_steps.specs.declared.place.Next.TheVariants.{Going, Waits, Done}
use Rattle.saa_word_steps.specs.declared.place.Place.{Place}
use Rattle.saa_word_steps.specs.declared.place.Registration.{Registration}
use Rattle.saa_word_steps.specs.declared.place.Registration.TheVariants.{Idle, AnsweredAtOnce, Queued}
use Rattle.saa_word_steps.specs.declared.place.Stage.{Stage}
use Rattle.saa_word_steps.specs.declared.place.Stage.TheVariants.{Quiet, AcquireLoad, Take}
use Rattle.saa_word_steps.specs.declared.place.PollMode.{PollMode}
use Rattle.saa_word_steps.specs.declared.place.PollMode.TheVariants.{Tries, Awaits}
use Rattle.saa_core_words.specs.Words.{answer_of}
use Rattle.saa_word_steps.specs.declared.place.AfterWalk.{AfterWalk}
use Rattle.saa_word_steps.specs.Needs.{Needs}
use Rattle.saa_word_steps.specs.Steps.{cancelled_as, going, next_of, polled_as, started, taken_answer}
use Rattle.saa_word_steps.specs.Readings.{is_idle, is_taken, mode_number}
use Rattle.saa_word_proofs.specs.Calls.{asked_by, is_taken_up}
use Rattle.saa_word_proofs.specs.CallStages.{IsBegun, IsLeft, IsReadyNext, IsStartedAs, IsUnderNext}
use Rattle.saa_word_proofs.specs.Registering.{registration_after_start, is_slot, registration_after, starting_answer}
use Rattle.saa_word_proofs.specs.StepRefinement.{named_at, place_after}
use Rattle.saa_word_proofs.specs.History.{named}
use Rattle.saa_word_proofs.proofs.RefinementLemmas.Calls.{under-next}
use Rattle.saa_word_proofs.proofs.RefinementLemmas.Starting.{call-begun}
use Rattle.saa_word_proofs.proofs.SoloLemmas.Registered.{left-append, left-next, started-ready-anyone, started-as}
use Rattle.saa_word_threads.specs.declared.table.View.{View}
use Rattle.saa_word_threads.specs.Called.{HasEvents, IsCalled, IsCalledFrom, InCall, InCallNext, is_single}
use Rattle.saa_word_threads.specs.Public.{is_granted}
use Rattle.saa_word_threads.specs.Moves.{Extends, RestsAfter, IsLookOnly, Moves, MovesOrStays, is_showing, prepares, resting_as, taken_once, unless_joining}
use Rattle.saa_word_threads.proofs.Growing.{extends-append, extends-none, named-append}

-- a place that is done rests where it stands
rest-same : (registration : Registration) (stage : Stage) (back : AfterWalk)
    → (let place : Place = record { registration = registration; stage = stage; back = back } in place ≡ resting_as place (is_idle registration))
rest-same Idle stage back = refl
rest-same (AnsweredAtOnce value request) stage back = refl
rest-same (Queued request) stage back = refl

pub since-done : (place : Place) → place.stage ≡ Quiet → RestsAfter place place
since-done place quiet = (quiet, rest-same place.registration place.stage place.back)

-- The start of a call

started-going : (said : Option Answer) (now : Registration) (first : Place) → IsStartedAs said now (Going first) → (said ≡ None) × (first.registration ≡ now)
started-going None now first is = (refl, is)
started-going (Some answer) now first is = absurd is

started-done : (said : Option Answer) (now : Registration) (place : Place) (answer : Answer) → IsStartedAs said now (Done place answer)
    → (said ≡ Some answer) × (place.registration ≡ now) × (place.stage ≡ Quiet)
started-done None now place answer is = absurd is
started-done (Some said) now place answer is = (ap (λ (a : Answer). Some a) (sym is.0), is.1, is.2)

started-waits : (said : Option Answer) (now : Registration) → IsStartedAs said now Waits → ⊥
started-waits None now is = is
started-waits (Some said) now is = is

module _ (needs : Needs) (call : WordCall) (rest : Place) (quiet : rest.stage ≡ Quiet) where
  so : (next : Next) → started needs rest call ≡ next → IsStartedAs (starting_answer needs call rest.registration) (registration_after_start call rest.registration) next
  so next is =
      subst (IsStartedAs (starting_answer needs call rest.registration) (registration_after_start call rest.registration)) is (started-as needs rest call quiet)

  -- it never waits
  pub never-waits : started needs rest call ≡ Waits → ⊥
  never-waits is = started-waits (starting_answer needs call rest.registration) (registration_after_start call rest.registration) (so Waits is)

module _ (needs : Needs) (withheld : ℕ) (call : WordCall) (rest : Place) (quiet : rest.stage ≡ Quiet) where
  -- it has the events that it has where it goes on
  pub going-called : (first : Place) (answer : Answer) (now : Registration) (v w : View) → started needs rest call ≡ Going first
      → HasEvents needs withheld call rest.registration answer now v w → IsCalled needs withheld call rest.registration answer now v w
  going-called first answer now v w is has =
      subst (λ (s : Option Answer). IsCalledFrom s needs withheld call rest.registration answer now v w)
      (sym (started-going (starting_answer needs call rest.registration) (registration_after_start call rest.registration) first (so needs call rest quiet (Going first) is)).0) has

  -- it is done at once
  pub done-called : (place : Place) (answer : Answer) (v w : View) → started needs rest call ≡ Done place answer → w ≡ v
      → IsCalled needs withheld call rest.registration answer place.registration v w
  done-called place answer v w is same =
      let done = started-done (starting_answer needs call rest.registration) (registration_after_start call rest.registration) place answer (so needs call rest quiet (Done place answer) is) in
      subst (λ (s : Option Answer). IsCalledFrom s needs withheld call rest.registration answer place.registration v w) (sym done.0) (refl, done.1, same)

-- a poll of what was answered at once
pub once-polled : (needs : Needs) (withheld : ℕ) (was : Registration) (value request : ℕ) (v : View) → was ≡ AnsweredAtOnce value request
    → (answer : Answer) × (value == granted_value ≡ is_granted answer) × IsCalled needs withheld Poll was answer Idle v v
once-polled needs withheld was value request v is = (
  Taken (Ok (value == granted_value)),
  granted-is (value == granted_value),
  subst (λ (r : Registration). IsCalled needs withheld Poll r (Taken (Ok (value == granted_value))) Idle v v) (sym is) (refl, refl, refl),
)
  where
    granted-is : (test : Bool) → test ≡ is_granted (Taken (Ok test))
    granted-is true = refl
    granted-is false = refl

-- what is left of a place's back where a call is done at once
back_of : Place → Next → AfterWalk
back_of rest (Going place) = rest.back
back_of rest Waits = rest.back
back_of rest (Done place answer) = place.back

registering-back : (rest : Place) (request : ℕ) (registration : Registration)
    → back_of rest (if is_idle registration then going rest (AcquireLoad (record { request = request; joins = true })) else Done rest (Says false)) ≡ rest.back
unfolding back_of
registering-back rest request Idle = refl
registering-back rest request (AnsweredAtOnce value asked) = refl
registering-back rest request (Queued asked) = refl

polling-back : (rest : Place) (taking : PollMode) (registration : Registration) → back_of rest (polled_as rest taking registration) ≡ rest.back
unfolding back_of
polling-back rest taking Idle = refl
polling-back rest taking (AnsweredAtOnce value request) = refl
polling-back rest taking (Queued request) = refl

cancelling-back : (needs : Needs) (rest : Place) (registration : Registration) → back_of rest (cancelled_as needs rest registration) ≡ rest.back
unfolding back_of
cancelling-back needs rest Idle = refl
cancelling-back needs rest (AnsweredAtOnce value request) =
    elim (cases_Bool (is_taken_up needs request value)) [
      | inl up ↦ rw up refl
      | inr free ↦ rw free refl
    ]
cancelling-back needs rest (Queued request) = refl

started-back : (needs : Needs) (rest : Place) (call : WordCall) → back_of rest (started needs rest call) ≡ rest.back
unfolding back_of
started-back needs rest (Try count) =
    elim (cases_Bool (nat_lt needs.top count)) [
      | inl more ↦ rw more refl
      | inr fits ↦ rw fits refl
    ]
started-back needs rest (Register count) =
    elim (cases_Bool (nat_lt needs.top count)) [
      | inl more ↦ rw more refl
      | inr fits ↦ rw fits (registering-back rest count rest.registration)
    ]
started-back needs rest (Release count) =
    elim (cases_Bool (nat_lt needs.top count)) [
      | inl more ↦ rw more refl
      | inr fits ↦
          elim (cases_Bool (count == 0)) [
            | inl nothing ↦ rw (fits, nothing) refl
            | inr some ↦ rw (fits, some) refl
          ]
    ]
started-back needs rest Available = refl
started-back needs rest Shut = refl
started-back needs rest IsShut = refl
started-back needs rest TryLock = refl
started-back needs rest TryShare = refl
started-back needs rest (RegisterMode mode) = registering-back rest (mode_number mode) rest.registration
started-back needs rest ReleaseLock = refl
started-back needs rest ReleaseShare = refl
started-back needs rest Downgrade = refl
started-back needs rest PoisonLock = refl
started-back needs rest ClearPoison = refl
started-back needs rest IsFree = refl
started-back needs rest IsLocked = refl
started-back needs rest IsShared = refl
started-back needs rest IsPoisoned = refl
started-back needs rest TryPoll = polling-back rest Tries rest.registration
started-back needs rest Poll = polling-back rest Awaits rest.registration
started-back needs rest Cancel = cancelling-back needs rest rest.registration

begun-cases : (call : WordCall) (registration : Registration)
    → (registration_after_start call registration ≡ registration)
    ⊎ ((value : ℕ) × (request : ℕ) × (registration ≡ AnsweredAtOnce value request) × (registration_after_start call registration ≡ Idle))
begun-cases TryPoll Idle = inl refl
begun-cases TryPoll (AnsweredAtOnce value request) = inr (value, request, refl, refl)
begun-cases TryPoll (Queued request) = inl refl
begun-cases Poll Idle = inl refl
begun-cases Poll (AnsweredAtOnce value request) = inr (value, request, refl, refl)
begun-cases Poll (Queued request) = inl refl
begun-cases Cancel Idle = inl refl
begun-cases Cancel (AnsweredAtOnce value request) = inr (value, request, refl, refl)
begun-cases Cancel (Queued request) = inl refl
begun-cases call registration = inl refl

-- a place that rests still does where it takes what was given at once
since-begun : (was rest : Place) (call : WordCall) → RestsAfter was rest → RestsAfter was (record rest { registration = registration_after_start call rest.registration })
since-begun was rest call since =
    elim (begun-cases call rest.registration) [
      | inl same ↦ subst (λ (r : Registration). RestsAfter was (record rest { registration = r })) (sym same) since
      | inr once ↦
          let idles : is_idle rest.registration ≡ false = ap is_idle once.2 in
          let is : rest ≡ was = since.1 ∙ ap (resting_as was) idles in
          let took : taken_once was.registration ≡ Idle = ap taken_once (ap (λ (p : Place). p.registration) (sym is) ∙ once.2) in
          subst (λ (r : Registration). RestsAfter was (record rest { registration = r })) (sym once.3)
          (since.0, ap (λ (p : Place). record p { registration = Idle }) is ∙ ap (λ (r : Registration). record was { registration = r }) (sym took))
    ]

-- a call that is done at once leaves its place at rest
pub since-started : (needs : Needs) (was rest : Place) (call : WordCall) (place : Place) (answer : Answer) → RestsAfter was rest
    → started needs rest call ≡ Done place answer → RestsAfter was place
unfolding back_of
since-started needs was rest call place answer since is =
    let done =
    started-done (starting_answer needs call rest.registration) (registration_after_start call rest.registration) place answer (so needs call rest since.0 (Done place answer) is) in
    let back : rest.back ≡ place.back = sym (started-back needs rest call) ∙ ap (back_of rest) is in
    subst (λ (b : AfterWalk). RestsAfter was (record place { back = b })) back
    (subst (λ (r : Registration). RestsAfter was (record { registration = r; stage = place.stage; back = rest.back })) (sym done.1)
    (subst (λ (s : Stage). RestsAfter was (record { registration = registration_after_start call rest.registration; stage = s; back = rest.back })) (since.0 ∙ sym done.2)
    (since-begun was rest call since)))

-- The steps of a call

-- it has named nothing where it starts
pub in-call-begins : (needs : Needs) (places me : ℕ) (call : WordCall) (rest first : Place) (v : View)
    → (is_slot rest.registration ≡ true → me < places) → RestsAfter v.position rest
    → is_taken needs.is_lock call ≡ true → started needs rest call ≡ Going first → InCall needs places me call rest.registration v first v
in-call-begins needs places me call rest first v here since takes is = record {
  events = [];
  under = subst (IsBegun needs call rest.registration) is (call-begun needs rest call since.0 takes);
  extends = extends-none v;
  registered = (started-going (starting_answer needs call rest.registration) (registration_after_start call rest.registration) first (so needs call rest since.0 (Going first) is)).1;
  begins = inr (rest, call, since, takes, ap (place_after rest) (sym is));
  ready = subst (IsReadyNext needs places me) is (started-ready-anyone needs places me rest call here);
}

-- the same at a place
pub in-call-first : (needs : Needs) (places me : ℕ) (call : WordCall) (rest first : Place) (v : View) → me < places → RestsAfter v.position rest
    → is_taken needs.is_lock call ≡ true → started needs rest call ≡ Going first → InCall needs places me call rest.registration v first v
in-call-first needs places me call rest first v here since takes is = in-call-begins needs places me call rest first v (λ slot. here) since takes is

module _ (needs : Needs) (withheld places me : ℕ) (call : WordCall) (was : Registration) (began : View) (place : Place) (v w : View) (found : ℕ)
    (m : InCall needs places me call was began place v) (number : v.number ≡ me) where
  module _ (next : Next) (is : next ≡ next_of needs me place place.stage found) (moved : Moves needs withheld places place next found v w) where
    names : named (m.events ++ moved.events) ≡ named m.events ++ named_at needs place.stage found
    names = named-append m.events moved.events ∙ ap (λ (l : List Event). named m.events ++ l) moved.names

    under : IsUnderNext needs call was place.back place.stage (named (m.events ++ moved.events)) next
    under =
        subst (λ (n : Next). IsUnderNext needs call was place.back place.stage (named (m.events ++ moved.events)) n) (sym is)
        (subst (λ (l : List Event). IsUnderNext needs call was place.back place.stage l (next_of needs me place place.stage found)) (sym names)
        (under-next needs call was me place place.stage found (named m.events) m.under))

    left : IsLeft place.registration (registration_after (named (m.events ++ moved.events)) (asked_by call) (registration_after_start call was)) next
    left =
        subst (λ (r : Registration). IsLeft place.registration r next)
        (ap (registration_after (named_at needs place.stage found) (asked_by call)) m.registered
        ∙ sym (ap (λ (l : List Event). registration_after l (asked_by call) (registration_after_start call was)) names
        ∙ left-append (named m.events) (named_at needs place.stage found) (asked_by call) (registration_after_start call was)))
        (subst (λ (n : Next). IsLeft place.registration (registration_after (named_at needs place.stage found) (asked_by call) place.registration) n) (sym is)
        (left-next needs call was me place place.stage found (named m.events) m.under))

    grown : Extends began (m.events ++ moved.events) w
    grown = extends-append began v w m.events moved.events m.extends moved.extends

    ready : (behind : Place) → place_after place next ≡ behind → IsReadyNext needs places me (Going behind)
    ready behind at =
        subst (λ (p : Place). IsReadyNext needs places me (Going p)) (moved.position ∙ at)
        (subst (λ (n : ℕ). IsReadyNext needs places n (Going w.position)) number moved.ready)

  pub in-call-going : (next : Place) → Going next ≡ next_of needs me place place.stage found → Moves needs withheld places place (Going next) found v w
      → InCall needs places me call was began next w
  in-call-going next is moved = record {
    events = m.events ++ moved.events;
    under = under (Going next) is moved;
    extends = grown (Going next) is moved;
    registered = left (Going next) is moved;
    begins = inl (sym moved.position);
    ready = ready (Going next) is moved next refl;
  }

  pub in-call-waits : Waits ≡ next_of needs me place place.stage found → Moves needs withheld places place Waits found v w
      → InCall needs places me call was began place w
  in-call-waits is moved = record {
    events = m.events ++ moved.events;
    under = under Waits is moved;
    extends = grown Waits is moved;
    registered = left Waits is moved;
    begins = inl (sym moved.position);
    ready = ready Waits is moved place refl;
  }

  pub in-call-done : (behind : Place) (answer : Answer) → Done behind answer ≡ next_of needs me place place.stage found
      → Moves needs withheld places place (Done behind answer) found v w → HasEvents needs withheld call was answer behind.registration began w
  in-call-done behind answer is moved = record {
    events = m.events ++ moved.events;
    extends = grown (Done behind answer) is moved;
    legal = moved.legal;
    shown = moved.shown
        (ap (λ (p : Place). is_showing p.stage) moved.position ∙ ap is_showing (left (Done behind answer) is moved).1);
    own = moved.own;
    answers = under (Done behind answer) is moved;
    registered = (left (Done behind answer) is moved).0;
  }

  pub in-call-since : (behind : Place) (answer : Answer) → Done behind answer ≡ next_of needs me place place.stage found
      → Moves needs withheld places place (Done behind answer) found v w → RestsAfter w.position behind
  in-call-since behind answer is moved =
      subst (λ (p : Place). RestsAfter p behind) (sym moved.position) (since-done behind (left (Done behind answer) is moved).1)

  pub in-call-next : (next : Next) → next ≡ next_of needs me place place.stage found → Moves needs withheld places place next found v w
      → InCallNext needs withheld places me call was began place w next
  in-call-next (Going next) is moved = in-call-going next is moved
  in-call-next Waits is moved = in-call-waits is moved
  in-call-next (Done behind answer) is moved = (in-call-done behind answer is moved, in-call-since behind answer is moved)

-- a place that stands where it stood goes on as it went on
pub in-call-stays : (needs : Needs) (withheld places me : ℕ) (call : WordCall) (was : Registration) (began : View) (place : Place) (v w : View) (next : Next)
    → InCall needs places me call was began place v → v.number ≡ me → MovesOrStays needs withheld places me place next v w
    → InCallNext needs withheld places me call was began place w next
in-call-stays needs withheld places me call was began place v w next m number (inl moved) =
    in-call-next needs withheld places me call was began place v w moved.0 m number next moved.1 moved.2
in-call-stays needs withheld places me call was began place v w next m number (inr stays) =
    subst (λ (n : Next). InCallNext needs withheld places me call was began place w n) (sym stays.0)
    (subst (λ (u : View). InCall needs places me call was began place u) (sym stays.1) m)

-- a look is a step, or nothing
pub look-stays : (needs : Needs) (withheld places me : ℕ) (place : Place) (found : ℕ) (v w : View) → IsLookOnly needs withheld places me place found v w
    → MovesOrStays needs withheld places me place (unless_joining place (next_of needs me place place.stage found)) v w
look-stays needs withheld places me place found v w looked =
    elim (cases_Bool (prepares (next_of needs me place place.stage found))) [
      | inl joins ↦ (let same : w ≡ v = rw joins at looked in rw joins (inr (refl, same)))
      | inr goes ↦
          let moved : Moves needs withheld places place (next_of needs me place place.stage found) found v w = rw goes at looked in
          rw goes (inl (found, refl, moved))
    ]

pub stays-same : (needs : Needs) (withheld places me : ℕ) (place : Place) (next : Next) (v w : View) → MovesOrStays needs withheld places me place next v w
    → (w.role ≡ v.role) × (w.number ≡ v.number)
stays-same needs withheld places me place next v w (inl moved) = (moved.2.extends.role, moved.2.extends.number)
stays-same needs withheld places me place next v w (inr stays) = (ap (λ (u : View). u.role) stays.1, ap (λ (u : View). u.number) stays.1)

-- The calls of one step at most

-- whether a place is done
abbrev is_done : Next → Bool
is_done (Done place answer) = true
is_done next = false

done-form : (next : Next) → is_done next ≡ true → (place : Place) × (answer : Answer) × (next ≡ Done place answer)
done-form (Done place answer) is = (place, answer, refl)
done-form (Going place) is = absurd (cc)
done-form Waits is = absurd (cc)

-- a place that reads, or tries to take its answer, is done with its first step
abbrev IsSingleNext : Needs → ℕ → Next → Type 0
IsSingleNext needs me (Going first) = (found : ℕ) → is_done (next_of needs me first first.stage found) ≡ true
IsSingleNext needs me next = Unit {0}

tries-done : (needs : Needs) (place : Place) (answer : Option ℕ) → is_done (taken_answer needs place Tries answer) ≡ true
tries-done needs place None = refl
tries-done needs place (Some value) = refl

try-single : (needs : Needs) (me : ℕ) (rest : Place) (registration : Registration) → IsSingleNext needs me (polled_as rest Tries registration)
try-single needs me rest Idle = tt
try-single needs me rest (AnsweredAtOnce value request) = tt
try-single needs me rest (Queued request) = λ found. tries-done needs (record rest { stage = Take Tries }) (answer_of (found % 65536))

single-next : (needs : Needs) (me : ℕ) (rest : Place) (call : WordCall) → is_single call ≡ true → IsSingleNext needs me (started needs rest call)
single-next needs me rest Available single = λ found. refl
single-next needs me rest IsShut single = λ found. refl
single-next needs me rest IsFree single = λ found. refl
single-next needs me rest IsLocked single = λ found. refl
single-next needs me rest IsShared single = λ found. refl
single-next needs me rest IsPoisoned single = λ found. refl
single-next needs me rest TryPoll single = try-single needs me rest rest.registration
single-next needs me rest call single = absurd (cc)

pub single-done : (needs : Needs) (me : ℕ) (rest first : Place) (call : WordCall) (found : ℕ) (next : Next) → is_single call ≡ true
    → started needs rest call ≡ Going first → next ≡ next_of needs me first first.stage found → (place : Place) × (answer : Answer) × (next ≡ Done place answer)
single-done needs me rest first call found next single is goes =
    done-form next (ap is_done goes ∙ subst (IsSingleNext needs me) is (single-next needs me rest call single) found)

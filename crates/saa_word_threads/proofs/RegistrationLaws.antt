-- What a place is registered as behind a registration, a poll and a cancel, whatever its form needs.
use Rattle.std.proofs.Common.{◌≡◌, ◌≢◌, ℕ, ◌≤◌, ◌==◌, ◌&&◌, nat_lt, if◌then◌else◌, Bool, true, false, List, [], ◌∷◌, Some, None, refl, sym, ap, subst, ◌∙◌, arith, inl, inr}
use Rattle.std.specs.Prelude.{Err}
use Rattle.std.proofs.lemmas.Bool.{cases_Bool}
use Rattle.std.proofs.lemmas.Bool.Decides.{nat_tests}
use Rattle.saa_core_spec.specs.declared.lock.Mode.{Mode}
use Rattle.saa_core_spec.specs.declared.polling.Error.TheVariants.{NotReady as NotYet}
use Rattle.saa_word_steps.specs.declared.call.Answer.{Answer}
use Rattle.saa_word_steps.specs.declared.call.Answer.TheVariants.{Bool as Says, Taken, Unit as Ended}
use Rattle.saa_word_steps.specs.declared.call.WordCall.{WordCall}
use Rattle.saa_word_steps.specs.declared.call.WordCall.TheVariants.{Register, RegisterMode, TryPoll, Poll, Cancel}
use Rattle.saa_word_steps.specs.declared.event.Event.{Event}
use Rattle.saa_word_steps.specs.declared.event.Event.TheVariants.{Acquired, Refused, AskedPoisoned, Joined, NotReady, AnswerTaken}
use Rattle.saa_word_steps.specs.declared.place.Registration.{Registration}
use Rattle.saa_word_steps.specs.declared.place.Registration.TheVariants.{Idle, AnsweredAtOnce, Queued}
use Rattle.saa_word_steps.specs.Needs.{Needs}
use Rattle.saa_word_steps.specs.Readings.{is_idle, mode_number}
use Rattle.saa_word_proofs.specs.Calls.{IsCancelled, IsDropped, ask_named, asked_by, is_taken_up, poll_named}
use Rattle.saa_word_proofs.specs.History.{named}
use Rattle.saa_word_proofs.specs.Registering.{registering_answer, registration_after, registration_after_event, registration_after_start}
use Rattle.saa_word_threads.specs.declared.table.View.{View}
use Rattle.saa_word_threads.specs.Called.{HasEvents, IsCalled, IsCalledFrom}

-- The one event of a poll

taken-idle : (event : Event) (answer : Answer) (was : Registration) → poll_named false event ≡ Some answer → registration_after_event event None was ≡ Idle
taken-idle (AnswerTaken value) answer was is = refl
taken-idle event answer was is = absurd (cc)

tried-idle : (event : Event) (answer : Answer) (was : Registration) → poll_named true event ≡ Some answer → answer ≢ Taken (Err NotYet)
    → registration_after_event event None was ≡ Idle
tried-idle (AnswerTaken value) answer was is other = refl
tried-idle NotReady answer was is other = let none : answer ≡ Taken (Err NotYet) = cc in absurd (other none)
tried-idle event answer was is other = absurd (cc)

tried-stays : (event : Event) (answer : Answer) (was : Registration) → poll_named true event ≡ Some answer → answer ≡ Taken (Err NotYet)
    → registration_after_event event None was ≡ was
tried-stays (AnswerTaken value) answer was is none = absurd (cc)
tried-stays NotReady answer was is none = refl
tried-stays event answer was is none = absurd (cc)

-- The events of a cancel

dropped-idle : (request : ℕ) (events : List Event) → IsDropped request events → registration_after events None Idle ≡ Idle
dropped-idle request events (inl is) = ap (λ (l : List Event). registration_after l None Idle) is
dropped-idle request events (inr is) = ap (λ (l : List Event). registration_after l None Idle) is

cancelled-idle : (needs : Needs) (request : ℕ) (events : List Event) → IsCancelled needs (Queued request) events
    → registration_after events None (Queued request) ≡ Idle
cancelled-idle needs request events (inl is) = ap (λ (l : List Event). registration_after l None (Queued request)) is
cancelled-idle needs request events (inr (inl took)) = ap (λ (l : List Event). registration_after l None (Queued request)) took.1
cancelled-idle needs request events (inr (inr took)) =
    ap (λ (l : List Event). registration_after l None (Queued request)) took.1.1 ∙ dropped-idle request took.1.0 took.1.2

-- The one event of a registration

said-if : (test : Bool) (said answer : Answer) → (if test then Some said else None) ≡ Some answer → answer ≡ said
said-if true said answer is = cc
said-if false said answer is = absurd (cc)

said-both : (test : Bool) (said answer : Answer) → (if test && true then Some said else None) ≡ Some answer → answer ≡ said
said-both true said answer is = cc
said-both false said answer is = absurd (cc)

said-never : (test : Bool) (said answer : Answer) → (if test && false then Some said else None) ≡ Some answer → ⊥
said-never true said answer is = absurd (cc)
said-never false said answer is = absurd (cc)

made-by : (needs : Needs) (request : ℕ) (event : Event) (answer : Answer) → ask_named needs (record { request = request; joins = true }) event ≡ Some answer
    → (answer ≡ Says true) × (is_idle (registration_after_event event (Some (record { request = request; joins = true })) Idle) ≡ false)
made-by needs request (Acquired asked) answer is = (said-if (asked == request) (Says true) answer is, refl)
made-by needs request (Refused asked) answer is = absurd (said-never (asked == request) _ answer is)
made-by needs request (Joined asked) answer is = (said-both (asked == request) (Says true) answer is, refl)
made-by needs request AskedPoisoned answer is = (cc, refl)
made-by needs request event answer is = absurd (cc)

busy : (now after : Registration) → now ≡ after → is_idle after ≡ false → now ≢ Idle
busy now after is taken idle = let wrong : true ≡ false = ap is_idle (sym idle ∙ is) ∙ taken in absurd (cc)

module _ (needs : Needs) (withheld : ℕ) (v w : View) where
  -- the one event of a call says what its place is registered as
  after-one : (call : WordCall) (was now : Registration) (answer : Answer) (has : HasEvents needs withheld call was answer now v w) (event : Event)
      → named has.events ≡ event ∷ [] → now ≡ registration_after_event event (asked_by call) (registration_after_start call was)
  after-one call was now answer has event is =
      has.registered ∙ ap (λ (events : List Event). registration_after events (asked_by call) (registration_after_start call was)) is

  made : (count : ℕ) (now : Registration) (answer : Answer) → HasEvents needs withheld (Register count) Idle answer now v w → (answer ≡ Says true) × (now ≢ Idle)
  made count now answer has =
      let event = has.answers.0 in
      let by = made-by needs count event answer has.answers.2 in
      (by.0, busy now _ (after-one (Register count) Idle now answer has event has.answers.1) by.1)

  made-mode : (mode : Mode) (now : Registration) (answer : Answer) → HasEvents needs withheld (RegisterMode mode) Idle answer now v w
      → (answer ≡ Says true) × (now ≢ Idle)
  made-mode mode now answer has =
      let event = has.answers.0 in
      let by = made-by needs (mode_number mode) event answer has.answers.2 in
      (by.0, busy now _ (after-one (RegisterMode mode) Idle now answer has event has.answers.1) by.1)

  refused-from : (count : ℕ) (was now : Registration) (answer : Answer) → IsCalledFrom (registering_answer was) needs withheld (Register count) was answer now v w
      → answer ≡ Says false → now ≡ was
  refused-from count Idle now answer called is = let said : answer ≡ Says true = (made count now answer called).0 in absurd (cc)
  refused-from count (AnsweredAtOnce value request) now answer called is = called.1
  refused-from count (Queued request) now answer called is = called.1

-- The calls

pub polled : (needs : Needs) (withheld : ℕ) (was now : Registration) (answer : Answer) (v w : View) → IsCalled needs withheld Poll was answer now v w → now ≡ Idle
polled needs withheld Idle now answer v w called = called.1
polled needs withheld (AnsweredAtOnce value request) now answer v w called = called.1
polled needs withheld (Queued request) now answer v w called =
    after-one needs withheld v w Poll (Queued request) now answer called called.answers.0 called.answers.1
    ∙ taken-idle called.answers.0 answer (Queued request) called.answers.2

pub tried : (needs : Needs) (withheld : ℕ) (was now : Registration) (answer : Answer) (v w : View) → IsCalled needs withheld TryPoll was answer now v w
    → answer ≢ Taken (Err NotYet) → now ≡ Idle
tried needs withheld Idle now answer v w called other = called.1
tried needs withheld (AnsweredAtOnce value request) now answer v w called other = called.1
tried needs withheld (Queued request) now answer v w called other =
    after-one needs withheld v w TryPoll (Queued request) now answer called called.answers.0 called.answers.1
    ∙ tried-idle called.answers.0 answer (Queued request) called.answers.2 other

pub not-ready : (needs : Needs) (withheld : ℕ) (was now : Registration) (answer : Answer) (v w : View) → IsCalled needs withheld TryPoll was answer now v w
    → answer ≡ Taken (Err NotYet) → now ≡ was
not-ready needs withheld Idle now answer v w called none = called.1
not-ready needs withheld (AnsweredAtOnce value request) now answer v w called none = let said = called.0 in absurd (cc)
not-ready needs withheld (Queued request) now answer v w called none =
    after-one needs withheld v w TryPoll (Queued request) now answer called called.answers.0 called.answers.1
    ∙ tried-stays called.answers.0 answer (Queued request) called.answers.2 none

pub cancelled : (needs : Needs) (withheld : ℕ) (was now : Registration) (answer : Answer) (v w : View) → IsCalled needs withheld Cancel was answer now v w
    → now ≡ Idle
cancelled needs withheld Idle now answer v w called = called.1
cancelled needs withheld (AnsweredAtOnce value request) now answer v w called =
    elim (cases_Bool (is_taken_up needs request value)) [
      | inl up ↦
          let has = subst (λ (b : Bool). IsCalledFrom (if b then None else Some Ended) needs withheld Cancel (AnsweredAtOnce value request) answer now v w) up called in
          has.registered ∙ dropped-idle request (named has.events) has.answers.1.1
      | inr free ↦
          let done = subst (λ (b : Bool). IsCalledFrom (if b then None else Some Ended) needs withheld Cancel (AnsweredAtOnce value request) answer now v w) free called in
          done.1
    ]
cancelled needs withheld (Queued request) now answer v w called = called.registered ∙ cancelled-idle needs request (named called.events) called.answers.1

pub registered : (needs : Needs) (withheld count : ℕ) (now : Registration) (answer : Answer) (v w : View) → count ≤ needs.top
    → IsCalled needs withheld (Register count) Idle answer now v w → (answer ≡ Says true) × (now ≢ Idle)
registered needs withheld count now answer v w within called =
    let fits : nat_lt needs.top count ≡ false = grind (arith, nat_tests) in
    made needs withheld v w count now answer
    (subst (λ (b : Bool). IsCalledFrom (if b then Some (Says false) else None) needs withheld (Register count) Idle answer now v w) fits called)

pub registered-mode : (needs : Needs) (withheld : ℕ) (mode : Mode) (now : Registration) (answer : Answer) (v w : View)
    → IsCalled needs withheld (RegisterMode mode) Idle answer now v w → (answer ≡ Says true) × (now ≢ Idle)
registered-mode needs withheld mode now answer v w called = made-mode needs withheld v w mode now answer called

pub refused : (needs : Needs) (withheld count : ℕ) (was now : Registration) (answer : Answer) (v w : View)
    → IsCalled needs withheld (Register count) was answer now v w → answer ≡ Says false → now ≡ was
refused needs withheld count was now answer v w called is =
    elim (cases_Bool (nat_lt needs.top count)) [
      | inl above ↦
          let done =
          subst (λ (b : Bool). IsCalledFrom (if b then Some (Says false) else registering_answer was) needs withheld (Register count) was answer now v w)
          above called in
          done.1
      | inr fits ↦
          refused-from needs withheld v w count was now answer
          (subst (λ (b : Bool). IsCalledFrom (if b then Some (Says false) else registering_answer was) needs withheld (Register count) was answer now v w)
          fits called) is
    ]

pub refused-mode : (needs : Needs) (withheld : ℕ) (mode : Mode) (was now : Registration) (answer : Answer) (v w : View)
    → IsCalled needs withheld (RegisterMode mode) was answer now v w → answer ≡ Says false → now ≡ was
refused-mode needs withheld mode Idle now answer v w called is =
    let said : answer ≡ Says true = (registered-mode needs withheld mode now answer v w called).0 in absurd (cc)
refused-mode needs withheld mode (AnsweredAtOnce value request) now answer v w called is = called.1
refused-mode needs withheld mode (Queued request) now answer v w called is = called.1

-- A call that moves alone, from its start to its last step: its events, its answer and the registration that it leaves. A poll of a place that stands
-- in the line finds no answer, and leaves all as it is; no other call waits: each of its steps lowers its step bound, and it is done.
use Rattle.std.proofs.Common.{◌^◌, ◌≡◌, ◌⊎◌, ℕ, zero, suc, ◌<◌, List, [], ◌++◌, Option, true, refl, sym, ap, ◌∙◌, inl, inr, arith, false, Some, None, is_some, ◌==◌, ◌+◌, ◌%◌, subst, ◌*◌, ◌≤◌, length}
use Rattle.saa_core_words.specs.Words.{count_bits, answer_number, answer_of}
use Rattle.saa_word_steps.specs.declared.place.Ask.{Ask}
use Rattle.saa_word_steps.specs.declared.place.Place.{Place}
use Rattle.saa_word_steps.specs.declared.place.Registration.{Registration}
use Rattle.saa_word_steps.specs.declared.place.Stage.TheVariants.{Quiet, Take, FlagLoad, FlagExchange, PoisonLoad, PoisonExchange}
use Rattle.saa_word_steps.specs.declared.place.Next.{Next}
use Rattle.saa_word_steps.specs.declared.place.Next.TheVariants.{Going, Waits, Done}
use Rattle.saa_word_steps.specs.declared.call.Answer.{Answer}
use Rattle.saa_word_steps.specs.declared.call.WordCall.{WordCall}
use Rattle.saa_word_steps.specs.Needs.{Needs, AreNeeds}
use Rattle.saa_word_steps.specs.declared.event.Event.{Event}
use Rattle.saa_word_steps.specs.AbstractState.{AbstractState, is_in}
use Rattle.saa_word_steps.specs.Steps.{word_at, operation_of, started, next_of, going, polled_as, taken_answer}
use Rattle.saa_word_steps.specs.Readings.{is_taken}
use Rattle.saa_word_proofs.specs.Refinement.{Invariant, is_holder}
use Rattle.saa_word_proofs.specs.Registering.{registration_after, is_slot}
use Rattle.saa_word_proofs.specs.Rows.{updated, main_of}
use Rattle.saa_word_proofs.specs.StepRefinement.{StepRefines, named_at, place_after, row_after}
use Rattle.saa_word_proofs.specs.Calls.{asked_by, IsAnswered}
use Rattle.saa_word_proofs.specs.CallStages.{IsLeft, IsUnder, IsUnderNext, IsBegun}
use Rattle.saa_word_proofs.specs.Alone.{Configuration, PlacesAreQuiescent, put, next_at, stepped, IsEither, IsDoneIn, IsLeftWaiting, WaitsBehind, IsKeptWaiting}
use Rattle.saa_word_proofs.proofs.RefinementLemmas.Lists.{all-same, updated-at, updated-other, updated-same, in-some}
use Rattle.saa_word_proofs.proofs.RefinementLemmas.Steps.{step}
use Rattle.saa_word_proofs.proofs.RefinementLemmas.Calls.{under-next}
use Rattle.saa_word_proofs.proofs.RefinementLemmas.Starting.{starts, call-begun}
use Rattle.saa_word_proofs.proofs.SoloLemmas.Events.{NamedRun, run-append, named-append}
use Rattle.saa_word_proofs.proofs.SoloLemmas.Registered.{left-append, left-next}
use Rattle.std.proofs.lemmas.Bool.Decides.{nat_tests}
use Rattle.saa_core_spec.specs.Object.{one_if, times}
use Rattle.saa_word_steps.specs.declared.place.Registration.TheVariants.{Queued, Idle, AnsweredAtOnce}
use Rattle.saa_word_steps.specs.declared.place.Stage.{Stage}
use Rattle.saa_word_steps.specs.declared.place.PollMode.TheVariants.{Awaits, Gives}
use Rattle.saa_word_steps.specs.declared.call.WordCall.TheVariants.{Poll}
use Rattle.saa_word_proofs.proofs.RefinementLemmas.Polls.{only-stalls}
use Rattle.saa_word_proofs.proofs.RefinementLemmas.Showing.{answer-again}
use Rattle.saa_word_proofs.specs.Blocking.{IsBlockedAt}
use Rattle.saa_word_proofs.proofs.SoloLemmas.Quiet.{at-rest, nobody-holds, all-shown, quiet-unshown, slot-is, waits-slot}
use Rattle.std.proofs.lemmas.List.{length-append}
use Rattle.saa_word_steps.proofs.AbstractRuns.{waits-none}
use Rattle.saa_word_proofs.specs.StepBound.{IsLower, step_bound, way}
use Rattle.saa_word_proofs.proofs.StepBoundLemmas.Lowered.{lowered}
use Rattle.saa_word_proofs.proofs.StepBoundLemmas.Ways.{way-length}
use Rattle.saa_word_proofs.proofs.StepBoundLemmas.Lines.{uncut-way}
use Rattle.saa_word_proofs.specs.Ends.{Ends}

updated-twice : {A : Type 0} (old : ℕ → A) (at : ℕ) (one two : A) → updated (updated old at one) at two ≡ updated old at two
updated-twice old at one two =
    all-same (updated (updated old at one) at two) (updated old at two) (λ other. grind arith)

-- A call of a place that asks so moves alone since a state: behind its start the place was registered as `was`, and what the answers of its events
-- name says what it is registered as now
pub record Course (needs : Needs) (places me : ℕ) (asks : Option Ask) (was : Registration) (start : AbstractState) (first : ℕ → Place) (now : Configuration) : Type 0 where
  pub state : AbstractState
  pub invariant : Invariant needs places now.row now.standing state
  pub names : List Event
  pub far : NamedRun needs me start state names
  pub left : (now.standing me).registration ≡ registration_after names asks was
  pub others : now.standing ≡ updated first me (now.standing me)

-- it is in the middle of its call, or done with an answer
pub record Moves (needs : Needs) (places me : ℕ) (call : WordCall) (registered was : Registration) (start : AbstractState) (first : ℕ → Place) (now : Configuration) : Type 0 where
  pub course : Course needs places me (asked_by call) was start first now
  pub under : IsUnder needs call registered (now.standing me).back (now.standing me).stage course.names

pub record Arrives (needs : Needs) (places me : ℕ) (call : WordCall) (registered was : Registration) (start : AbstractState) (first : ℕ → Place)
    (answer : Answer) (last : Configuration) : Type 0 where
  pub course : Course needs places me (asked_by call) was start first last
  pub answered : IsAnswered needs call registered course.names answer
  pub quiet : (last.standing me).stage ≡ Quiet

-- how a call goes on that is in the middle of it or done
pub going-or-done : (next : Next) (goes : Type 0) (done : Answer → Type 0) → IsEither next goes done
    → ((place : Place) × (next ≡ Going place) × goes) ⊎ ((place : Place) × (said : Answer) × (next ≡ Done place said) × done said)
going-or-done (Going place) goes done h = inl (place, refl, h)
going-or-done Waits goes done h = absurd h
going-or-done (Done place said) goes done h = inr (place, said, refl, h)

left-behind : (place : Place) (now : Registration) (next : Next) → IsLeft place.registration now next → (place_after place next).registration ≡ now
left-behind place now _ left = grind (arith, left)

-- behind a start that isn't the end
pub moves-first : {needs : Needs} {places me : ℕ} {now : Configuration} {state : AbstractState} → needs.top < 2 ^ count_bits → Invariant needs places now.row now.standing state
    → PlacesAreQuiescent now.standing → me < places → (call : WordCall) → is_taken needs.is_lock call ≡ true
    → (place : Place) → started needs (now.standing me) call ≡ Going place
    → Moves needs places me call (now.standing me).registration place.registration state now.standing (put me (Going place) now)
moves-first {needs} {places} {me} {now} {state} small s quiet here call taken place is =
    let was : Registration = (now.standing me).registration in
    let at : updated now.standing me place me ≡ place = updated-at now.standing me place in
    record {
      course = record {
        state = state;
        invariant = rw is at (starts needs small places now.row now.standing state me call here s (quiet me) taken);
        names = [];
        far = record { events = []; run = refl; named = refl };
        left = ap (λ (p : Place). p.registration) at;
        others = ap (λ (p : Place). updated now.standing me p) (sym at);
      };
      under = rw at (rw is at (call-begun needs (now.standing me) call (quiet me) taken));
    }

module _ {needs : Needs} (lawful : AreNeeds needs) (small : needs.top < 2 ^ count_bits) {places me : ℕ} (room : places < 65536) (here : me < places)
    (call : WordCall) (registered : Registration) {was : Registration} {start : AbstractState} {first : ℕ → Place} where
  -- behind a step
  step-course : (now : Configuration) (m : Moves needs places me call registered was start first now)
      → (c : Course needs places me (asked_by call) was start first (stepped needs places me now))
      × IsUnderNext needs call registered (now.standing me).back (now.standing me).stage c.names (next_at needs places me now)
  step-course now m =
      let c = m.course in
      let place : Place = now.standing me in
      let found : ℕ = now.row (word_at (operation_of needs places me place.stage)) in
      let made : StepRefines needs places now.row now.standing c.state me place.stage =
      step needs lawful small places now.row now.standing c.state me room here c.invariant place.stage refl in
      let named : List Event = named_at needs place.stage found in
      let after : Place = place_after place (next_at needs places me now) in
      let at : updated now.standing me after me ≡ after = updated-at now.standing me after in (
        record {
          state = made.last;
          invariant = made.invariant;
          names = c.names ++ named;
          far = record {
            events = c.far.events ++ made.events;
            run = run-append needs me c.far.events made.events start c.state made.last c.far.run made.run;
            named = named-append c.far.events made.events ∙ (λ i. c.far.named i ++ made.names i);
          };
          left = ap (λ (p : Place). p.registration) at
              ∙ left-behind place (registration_after named (asked_by call) place.registration) (next_at needs places me now)
              (left-next needs call registered me place place.stage found c.names m.under)
              ∙ ap (registration_after named (asked_by call)) c.left ∙ sym (left-append c.names named (asked_by call) was);
          others = ap (λ (f : ℕ → Place). updated f me after) c.others ∙ updated-twice first me place after
              ∙ ap (λ (p : Place). updated first me p) (sym at);
        },
        under-next needs call registered me place place.stage found c.names m.under,
      )

  -- with which it isn't done
  pub moves-on : (now : Configuration) → Moves needs places me call registered was start first now → (place : Place) → next_at needs places me now ≡ Going place
      → Moves needs places me call registered was start first (stepped needs places me now)
  moves-on now m place is =
      let c = step-course now m in
      let there : (stepped needs places me now).standing me ≡ place =
      updated-at now.standing me (place_after (now.standing me) (next_at needs places me now)) ∙ ap (place_after (now.standing me)) is in
      record { course = c.0; under = rw there (rw is at c.1) }

  pub along : (answer : Answer) (last : Configuration) (steps : ℕ) (now : Configuration) → Moves needs places me call registered was start first now
      → IsDoneIn needs places me steps now answer last → Arrives needs places me call registered was start first answer last
  along answer last zero now m h = absurd h
  along answer last (suc more) now m h =
      let next : Next = next_at needs places me now in
      let after : Configuration = stepped needs places me now in
      elim (going-or-done next (IsDoneIn needs places me more after answer last) (λ said. (more ≡ 0) × (said ≡ answer) × (after ≡ last)) h) [
        | inl goes ↦ along answer last more after (moves-on now m goes.0 goes.1) goes.2
        | inr done ↦
            let c = step-course now m in
            let place : Place = now.standing me in
            let left = left-next needs call registered me place place.stage (now.row (word_at (operation_of needs places me place.stage))) m.course.names m.under in
            rw (← done.3.2, ← done.3.1)
            (record {
              course = c.0;
              answered = rw done.2 at c.1;
              quiet = ap (λ (p : Place). p.stage) (updated-at now.standing me (place_after place next) ∙ ap (place_after place) done.2) ∙ (rw done.2 at left).1;
            })
      ]

-- A poll that starts

-- how a place that looks for its answer goes on, by what is shown to it
pub poll-next : (needs : Needs) (places me : ℕ) (now : Configuration) (answer : Option ℕ) → now.row (places + me + 1) ≡ answer_number answer
    → ((value : ℕ) → answer ≡ Some value → value < 256)
    → next_at needs places me (put me (going (now.standing me) (Take Awaits)) now)
    ≡ taken_answer needs (record (now.standing me) { stage = Take Awaits }) Awaits answer
poll-next needs places me now answer number small =
    let place : Place = record (now.standing me) { stage = Take Awaits } in
    ap (λ (p : Place). next_of needs me p p.stage (now.row (word_at (operation_of needs places me p.stage)))) (updated-at now.standing me place)
    ∙ ap (taken_answer needs place Awaits) (ap (λ (n : ℕ). answer_of (n % 65536)) number ∙ answer-again answer small)

-- a place that looks for its answer, where there is none
waits-there : (needs : Needs) (places me : ℕ) (now : Configuration) → now.row (places + me + 1) ≡ 0
    → let begun : Configuration = put me (going (now.standing me) (Take Awaits)) now in
    (next_at needs places me begun ≡ Waits) × (stepped needs places me begun ≡ begun)
waits-there needs places me now none =
    let place : Place = record (now.standing me) { stage = Take Awaits } in
    let begun : Configuration = put me (going (now.standing me) (Take Awaits)) now in
    let here : begun.standing me ≡ place = updated-at now.standing me place in
    let waits : next_at needs places me begun ≡ Waits = poll-next needs places me now None none (λ value is. absurd (cc)) in
    let row : row_after now.row (operation_of needs places me (begun.standing me).stage) ≡ now.row =
    ap (λ (p : Place). row_after now.row (operation_of needs places me p.stage)) here
    ∙ updated-same now.row (places + me + 1) 0 (sym none) in
    let standing : updated begun.standing me (place_after (begun.standing me) (next_at needs places me begun)) ≡ begun.standing =
    updated-same begun.standing me (place_after (begun.standing me) (next_at needs places me begun)) (ap (place_after (begun.standing me)) waits) in
    (waits, λ i. record { row = row i; standing = standing i })

-- A poll of a place that stands in the line
pub left-waiting : (needs : Needs) (places me : ℕ) (now : Configuration) (state : AbstractState) → Invariant needs places now.row now.standing state → me < places
    → is_in me state.line ≡ true → IsLeftWaiting needs places me Poll now
left-waiting needs places me now state s here there =
    let waits = waits-slot places me now.standing state s.seats there in
    let slot = slot-is (now.standing me).registration waits.0 in
    let none : now.row (places + me + 1) ≡ 0 = s.answers.words me here ∙ ap answer_number waits.1 in
    subst
    (λ (registration : Registration).
    let begun : Configuration = put me (polled_as (now.standing me) Awaits registration) now in
    (next_at needs places me begun ≡ Waits) × (stepped needs places me begun ≡ begun))
    (sym slot.1) (waits-there needs places me now none)

-- While one place moves alone

-- no other place is in a call
abbrev pub AreQuietBut : ℕ → (ℕ → Place) → Type 0
AreQuietBut me standing = (other : ℕ) → other == me ≡ false → (standing other).stage ≡ Quiet

-- it waits for its own answer only
alone-stalls : {needs : Needs} {places : ℕ} {row : ℕ → ℕ} {standing : ℕ → Place} {state : AbstractState} (me : ℕ) → me < places
    → (s : Invariant needs places row standing state) → AreQuietBut me standing → (stage : Stage) → (standing me).stage ≡ stage
    → next_of needs me (standing me) stage (row (word_at (operation_of needs places me stage))) ≡ Waits → stage ≡ Take Awaits
alone-stalls {needs} {places} {row} {standing} {state} me here s quiet stage at waits =
    by-stage stage at (only-stalls needs places row standing state me here s stage at waits).0
  where
    unflagged : {A : Type 0} → is_holder (standing me).stage ≡ false → (main_of row).is_flagged ≡ true → A
    unflagged mine flagged =
        absurd (grind (arith, flagged, s.main.flag, nobody-holds s (λ place. grind (arith, nat_tests, mine, quiet place))))

    by-stage : (stage : Stage) → (standing me).stage ≡ stage → IsBlockedAt needs state me (main_of row) stage → stage ≡ Take Awaits
    by-stage (Take Awaits) at blocked = refl
    by-stage (Take (Gives request)) at blocked =
        let mine : s.unshown me ≡ [] = rw at at (s.stages.showing me) in
        absurd (grind (arith, blocked, all-shown s (λ other. grind (arith, nat_tests, mine, quiet other, quiet-unshown s other)) me))
    by-stage FlagLoad at blocked = unflagged (ap is_holder at) blocked
    by-stage (FlagExchange seen) at blocked = unflagged (ap is_holder at) blocked
    by-stage PoisonLoad at blocked = unflagged (ap is_holder at) blocked.2
    by-stage (PoisonExchange seen) at blocked = unflagged (ap is_holder at) blocked.2
    by-stage stage at blocked = absurd blocked

module _ {needs : Needs} {places me : ℕ} (here : me < places) (call : WordCall) (registered : Registration) {was : Registration} {start : AbstractState}
    {first : ℕ → Place} (quiet : PlacesAreQuiescent first) where
  -- if it waits it polls
  pub moves-waits : (now : Configuration) → Moves needs places me call registered was start first now → next_at needs places me now ≡ Waits → call ≡ Poll
  moves-waits now m waits =
      let c = m.course in
      let others : AreQuietBut me now.standing = λ other apart.
      ap (λ (f : ℕ → Place). (f other).stage) c.others ∙ ap (λ (p : Place). p.stage) (updated-other first me (now.standing me) other apart) ∙ quiet other in
      let at = alone-stalls me here c.invariant others (now.standing me).stage refl waits in
      let under = rw at at m.under in
      grind (arith, under.0)

  -- a call that waits behind some steps is a poll
  waits-poll : (lawful : AreNeeds needs) (small : needs.top < 2 ^ count_bits) (room : places < 65536) (steps : ℕ) (now : Configuration)
      → Moves needs places me call registered was start first now → WaitsBehind needs places me steps now → call ≡ Poll
  waits-poll lawful small room zero now m h = moves-waits now m h
  waits-poll lawful small room (suc more) now m h =
      let after : Configuration = stepped needs places me now in
      elim (going-or-done (next_at needs places me now) (WaitsBehind needs places me more after) (λ said. ⊥) h) [
        | inl goes ↦ waits-poll lawful small room more after (moves-on lawful small room here call registered now m goes.0 goes.1) goes.2
        | inr done ↦ absurd done.3
      ]

-- a poll that finds an answer is done
shown-done : (needs : Needs) (places me : ℕ) (steps : ℕ) (begun : Configuration) (place : Place) (value : ℕ)
    → next_at needs places me begun ≡ taken_answer needs place Awaits (Some value) → WaitsBehind needs places me steps begun → ⊥
shown-done needs places me zero begun place value done h = absurd (cc)
shown-done needs places me (suc more) begun place value done h = rw done at h

-- a poll that waits is one of a place that stands in the line
poll-only : (needs : Needs) (places me : ℕ) (steps : ℕ) (now : Configuration) (state : AbstractState) → Invariant needs places now.row now.standing state → me < places
    → state.granted me ≡ None → (registration : Registration) → (now.standing me).registration ≡ registration
    → IsEither (polled_as (now.standing me) Awaits registration)
    (WaitsBehind needs places me steps (put me (polled_as (now.standing me) Awaits registration) now)) (λ said. ⊥)
    → is_in me state.line ≡ true
poll-only needs places me steps now state s here granted (Queued request) is h = shown-or (state.answered me) refl
  where
    shown-or : (answered : Option ℕ) → state.answered me ≡ answered → is_in me state.line ≡ true
    shown-or None none = grind (arith, s.seats.held me, is, granted, none, in-some me state.line)
    shown-or (Some value) some =
        absurd (shown-done needs places me steps (put me (going (now.standing me) (Take Awaits)) now) (record (now.standing me) { stage = Take Awaits }) value
        (poll-next needs places me now (Some value) (s.answers.words me here ∙ ap answer_number some) (λ v is. s.answers.small me v (some ∙ is))) h)
poll-only needs places me steps now state s here granted _ is h = absurd h

-- Only a poll of a place that stands in the line waits
pub only-polls : (needs : Needs) → AreNeeds needs → (places me : ℕ) (call : WordCall) (steps : ℕ) (now : Configuration) (state : AbstractState)
    → needs.top < 2 ^ count_bits → places < 65536 → Invariant needs places now.row now.standing state → PlacesAreQuiescent now.standing → me < places
    → is_taken needs.is_lock call ≡ true → IsKeptWaiting needs places me call steps now → (call ≡ Poll) × (is_in me state.line ≡ true)
only-polls needs lawful places me call steps now state small room s quiet here taken h =
    let start : Next = started needs (now.standing me) call in
    let registered : Registration = (now.standing me).registration in
    let polls : call ≡ Poll =
    elim (going-or-done start (WaitsBehind needs places me steps (put me start now)) (λ said. ⊥) h) [
      | inl goes ↦
          waits-poll here call registered quiet lawful small room steps (put me (Going goes.0) now) (moves-first small s quiet here call taken goes.0 goes.1)
          (subst (λ (next : Next). WaitsBehind needs places me steps (put me next now)) goes.1 goes.2)
      | inr done ↦ absurd done.3
    ] in
    let rests = at-rest needs places now.row now.standing state s quiet in (
      polls,
      poll-only needs places me steps now state s here (rests.paid me) registered refl
          (subst (λ (c : WordCall). IsKeptWaiting needs places me c steps now) polls h),
    )

-- a place is done in so many steps at most, from a moment on
abbrev pub Finishes : Needs → ℕ → ℕ → Configuration → ℕ → Type 0
Finishes needs places me now most = (steps : ℕ) × (answer : Answer) × (last : Configuration) × IsDoneIn needs places me steps now answer last × (steps ≤ most)

-- a call that goes on so, or has started so, is done
abbrev Closes : Needs → ℕ → ℕ → Next → Configuration → ℕ → Type 0
Closes needs places me next after most =
    (steps : ℕ) × (answer : Answer) × (last : Configuration)
    × IsEither next (IsDoneIn needs places me steps after answer last) (λ said. (steps ≡ 0) × (said ≡ answer) × (after ≡ last)) × (steps ≤ most)

module _ (needs : Needs) (places me : ℕ) where
  closes : (next : Next) (after : Configuration) (most : ℕ) → (next ≡ Waits → ⊥)
      → ((place : Place) → next ≡ Going place → Finishes needs places me after most) → Closes needs places me next after most
  closes (Going place) after most never more = more place refl
  closes Waits after most never more = absurd (never refl)
  closes (Done place answer) after most never more = (zero, answer, after, (refl, refl, refl), omega arith)

  onward : (now : Configuration) (most before : ℕ) → most < before → (next_at needs places me now ≡ Waits → ⊥)
      → ((place : Place) → next_at needs places me now ≡ Going place → Finishes needs places me (stepped needs places me now) most)
      → Finishes needs places me now before
  onward now most before less never more =
      let rest = closes (next_at needs places me now) (stepped needs places me now) most never more in
      (suc rest.0, rest.1, rest.2, rest.3, omega (arith, rest.4, less))

-- some steps are left before each step
some-left : (ways : ℕ → ℕ) (number before : ℕ) (next : Next) → IsLower ways number before next → 0 < before
some-left ways number before _ lower = grind (arith, lower)

-- how many steps its place has left at most
abbrev bound_at : ℕ → ℕ → Configuration → ℕ
bound_at places me now = step_bound places now.row (now.standing me).back (now.standing me).stage

-- A call that doesn't poll is done, with as many steps as its step bound at most
module _ {needs : Needs} (lawful : AreNeeds needs) (small : needs.top < 2 ^ count_bits) {places me : ℕ} (room : places < 65536) (here : me < places)
    (call : WordCall) (registered : Registration) {was : Registration} {start : AbstractState} {first : ℕ → Place} (quiet : PlacesAreQuiescent first)
    (other : call ≡ Poll → ⊥) where
  lowers : (now : Configuration) → Moves needs places me call registered was start first now
      → (0 < bound_at places me now) × ((place : Place) → next_at needs places me now ≡ Going place → bound_at places me (stepped needs places me now) < bound_at places me now)
  lowers now m =
      let was : Place = now.standing me in
      let row : ℕ → ℕ = row_after now.row (operation_of needs places me was.stage) in
      let next : Next = next_at needs places me now in
      let lower : IsLower (way places row) (row 0) (bound_at places me now) next =
      lowered needs lawful small places now.row now.standing m.course.state me m.course.invariant was.stage refl
      (λ is. rw is at m.under) in (
        some-left (way places row) (row 0) (bound_at places me now) next lower,
        λ place is.
            let there : (stepped needs places me now).standing me ≡ place = updated-at now.standing me (place_after was next) ∙ ap (place_after was) is in
            rw there (rw is at lower),
      )

  finishes : (most : ℕ) (now : Configuration) → Moves needs places me call registered was start first now → bound_at places me now ≤ most
      → Finishes needs places me now most
  finishes zero now m bounded = absurd (omega (arith, (lowers now m).0, bounded))
  finishes (suc most) now m bounded =
      onward needs places me now most (suc most) (omega arith) (λ waits. other (moves-waits here call registered quiet now m waits))
      (λ place is. finishes most (stepped needs places me now) (moves-on lawful small room here call registered now m place is)
      (omega (arith, (lowers now m).1 place is, bounded)))

-- what is left of a call that starts so
abbrev IsFew : ℕ → (ℕ → ℕ) → ℕ → Next → Type 0
IsFew places row most (Going place) = step_bound places row place.back place.stage ≤ most
IsFew places row most _ = Unit {0}

-- few steps are left where a call starts
start-few : (needs : Needs) (places : ℕ) (row : ℕ → ℕ) (most : ℕ) (place : Place) (call : WordCall) (registration : Registration)
    → 8 * way places row (main_of row).tail + 11 ≤ most → IsFew places row most (started needs (record place { registration = registration }) call)
start-few needs places row most place _ Idle small = grind arith
start-few needs places row most place _ (AnsweredAtOnce value request) small = grind arith
start-few needs places row most place _ (Queued request) small = grind arith

-- a place that has joined, isn't in the line and has no answer to come has its answer
has-answer : (waits : ℕ) (granted answered : Option ℕ) → waits ≡ 0 → granted ≡ None → waits + one_if (is_some granted) + one_if (is_some answered) ≡ 1
    → (value : ℕ) × (answered ≡ Some value)
has-answer waits granted None none nobody held = absurd (omega (arith, none, held, ap (λ (a : Option ℕ). one_if (is_some a)) nobody))
has-answer waits granted (Some value) none nobody held = (value, refl)

-- a poll of a place that isn't in the line is done in one step
polled : (needs : Needs) (places me : ℕ) (now : Configuration) (state : AbstractState) (most : ℕ) → me < places → Invariant needs places now.row now.standing state
    → PlacesAreQuiescent now.standing → is_in me state.line ≡ false → 0 < most
    → (registration : Registration) → (now.standing me).registration ≡ registration
    → (place : Place) → polled_as (now.standing me) Awaits registration ≡ Going place
    → Finishes needs places me (put me (polled_as (now.standing me) Awaits registration) now) most
polled needs places me now state most here s quiet absent some (Queued request) is place goes =
    let rest = at-rest needs places now.row now.standing state s quiet in
    let found = has-answer (times me state.line) (state.granted me) (state.answered me) (waits-none me state.line absent) (rest.paid me)
    (s.seats.held me ∙ ap (λ (r : Registration). one_if (is_slot r)) is) in
    let done =
    poll-next needs places me now (Some found.0) (s.answers.words me here ∙ ap answer_number found.1) (λ value it. s.answers.small me value (found.1 ∙ it)) in
    onward needs places me (put me (going (now.standing me) (Take Awaits)) now) 0 most some (λ waits. absurd (cc)) (λ place goes. absurd (cc))
polled needs places me now state most here s quiet absent some _ is place goes = absurd (cc)

is-poll : (call : WordCall) → (call ≡ Poll) ⊎ (call ≡ Poll → ⊥)
is-poll Poll = inl refl
is-poll call = inr (λ same. absurd (cc))

-- Whatever call it is
pub ends : (needs : Needs) → AreNeeds needs → needs.top < 2 ^ count_bits → (places : ℕ) (row : ℕ → ℕ) (standing : ℕ → Place) (state : AbstractState) (me : ℕ) (call : WordCall)
    → places < 65536 → me < places → Invariant needs places row standing state → PlacesAreQuiescent standing → is_taken needs.is_lock call ≡ true
    → (call ≡ Poll → is_in me state.line ≡ false)
    → Ends needs places me call (record { row = row; standing = standing }) (8 * length state.line + 24)
ends needs lawful small places row standing state me call room here s quiet taken absent =
    let now : Configuration = record { row = row; standing = standing } in
    let most : ℕ = 8 * length state.line + 24 in
    let way_is = way-length places row (main_of row).tail s.uncut (uncut-way needs places row standing state s) in
    let parts : length state.line ≡ length s.cut + length s.uncut = ap length s.line.parts ∙ length-append s.cut s.uncut in
    let bounded : 8 * way places row (main_of row).tail + 11 ≤ most = omega (arith, way_is, parts) in
    let next : Next = started needs (standing me) call in
    let done : Closes needs places me next (put me next now) most =
    closes needs places me next (put me next now) most
    (λ waits. subst (IsBegun needs call (standing me).registration) waits (call-begun needs (standing me) call (quiet me) taken))
    (λ place is.
    elim (is-poll call) [
      | inl poll ↦
          let polls : started needs (standing me) call ≡ polled_as (standing me) Awaits (standing me).registration = ap (started needs (standing me)) poll in
          rw polls
          (polled needs places me now state most here s quiet (absent poll) (omega arith) (standing me).registration refl place (sym polls ∙ is))
      | inr other ↦
          let begun : IsFew places row most (Going place) =
          subst (λ (n : Next). IsFew places row most n) is (start-few needs places row most (standing me) call (standing me).registration bounded) in
          subst (λ (n : Next). Finishes needs places me (put me n now) most) (sym is)
          (finishes lawful small room here call (standing me).registration quiet other most (put me (Going place) now)
          (moves-first small s quiet here call taken place is)
          (subst (λ (p : Place). step_bound places row p.back p.stage ≤ most) (sym (updated-at standing me place)) begun))
    ]) in
    record { steps = done.0; answer = done.1; last = done.2; called = done.3; bounded = done.4 }

-- Each move of a machine simulates events, and the trace behind them tracks the machine.
use Rattle.std.proofs.Common.{◌≡◌, ℕ, ◌+◌, ◌*◌, ◌<◌, ◌≤◌, ◌^◌, ◌∷◌, ◌++◌, Bool, true, false, List, [], length, Option, Some, None, refl, sym, subst, ◌∙◌, ap, arith, inl, inr, append-nil, ◌/◌, ◌%◌}
use Rattle.std.proofs.Math.ListN.{set, length-set}
use Rattle.std.proofs.lemmas.Bool.{cases_Bool}
use Rattle.std.specs.Prelude.{◌==◌, replicate}
use Rattle.saa_core_words.specs.Words.{count_bits}
use Rattle.saa_word_steps.specs.declared.rules.Rules.{Rules}
use Rattle.saa_core_spec.proofs.Counts.{number_same, same_number}
use Rattle.saa_word_steps.specs.declared.operation.Operation.{Operation}
use Rattle.saa_word_steps.specs.declared.call.WordCall.{WordCall}
use Rattle.saa_word_steps.specs.declared.call.Answer.{Answer}
use Rattle.saa_word_steps.specs.declared.place.Place.{Place}
use Rattle.saa_word_steps.specs.declared.place.Next.{Next}
use Rattle.saa_word_steps.specs.declared.place.Next.TheVariants.{Going as GoesOn, Waits as HasToWait, Done as IsDone}
use Rattle.saa_word_steps.specs.declared.place.Stage.{Stage}
use Rattle.saa_word_steps.specs.declared.place.Stage.TheVariants.{Quiet}
use Rattle.saa_word_steps.specs.declared.place.Registration.{Registration}
use Rattle.saa_word_steps.specs.Needs.{Needs, needs_of, permit_needs}
use Rattle.saa_word_steps.specs.AbstractState.{AbstractState, IsRun, HasShownAll, after_event, is_in, opening}
use Rattle.saa_word_proofs.proofs.ConservationLemmas.{opening-granted, run-balanced, run-granted, run-pending, run-permits}
use Rattle.saa_word_proofs.specs.Registering.{AreRegistered, registration_after_start, is_slot, registration_after, starting_answer}
use Rattle.saa_word_proofs.specs.CallStages.{IsBegun, IsLeft, IsStartedAs, IsUnder, IsUnderNext}
use Rattle.saa_word_proofs.proofs.SoloLemmas.Registered.{left-next, started-as, begun-registered-line, run-registered}
use Rattle.saa_core_spec.specs.Object.{one_if}
use Rattle.saa_word_steps.specs.declared.event.Event.{Event}
use Rattle.saa_word_steps.specs.Steps.{next_of, started, word_at, written_by}
use Rattle.saa_word_steps.specs.Readings.{is_taken}
use Rattle.saa_word_proofs.specs.Rows.{main_of, updated}
use Rattle.saa_word_proofs.specs.Refinement.{IsShowing, is_holder}
use Rattle.saa_word_proofs.specs.StepRefinement.{named_at, place_after, row_after}
use Rattle.saa_word_proofs.specs.History.{named, of_place}
use Rattle.saa_word_proofs.specs.Calls.{asked_by}
use Rattle.saa_word_proofs.specs.Promises.{WordsAreQuiescent, WordsShow, idle_place}
use Rattle.saa_word_proofs.proofs.SoloLemmas.Quiet.{at-rest}
use Rattle.saa_word_proofs.proofs.RefinementLemmas.Lists.{all-same, updated-at, updated-same}
use Rattle.saa_word_proofs.proofs.RefinementLemmas.Calls.{under-next}
use Rattle.saa_word_proofs.proofs.RefinementLemmas.Starting.{call-begun}
use Rattle.saa_word_proofs.proofs.RefinementLemmas.Promises.{says-so}
use Rattle.saa_word_proofs.proofs.RefinementLemmas.Silence.{silent-step}
use Rattle.saa_word_proofs.specs.StepBound.{AreWithin, IsCounted, step_bound, counted, steps_made_by}
use Rattle.saa_word_proofs.proofs.StepBoundLemmas.Bounds.{step_bound-bounded}
use Rattle.saa_word_proofs.proofs.StepBoundLemmas.Counted.{counted-within}
use Rattle.saa_word_proofs.proofs.SoloLemmas.Alone.{rules-lawful}
use Rattle.saa_word.specs.declared.moves.Move.{Move}
use Rattle.saa_word.specs.declared.moves.Move.TheVariants.{Start, Go}
use Rattle.saa_word.specs.declared.moves.Step.{Step}
use Rattle.saa_word.specs.declared.moves.Step.TheVariants.{Idle, Busy, Done}
use Rattle.saa_word.specs.Machine.{IsMove, IsOneStep, State, is_lock, opened, place_in, place_of, row_of}
use Rattle.saa_word.specs.Tracks.{IsFresh, IsIn, RefinesAs, Tracks}
use Rattle.saa_word.specs.Moves.{found_by, gone, is_quiet, operation_at, followed, step_of, worked_at}
use Rattle.saa_word.specs.Trace.{beginning, IsQuiescent, Trace, PendingCall}
use Rattle.saa_word.specs.Simulation.{Conserves, AnswersAsNamed, IsSilent, IsWaiting, Simulates, WaitsRightly, asked_in, call_after, holder_after, holds_after, made_after, mine_after, mover, registered_after, started_step, trace_after}
use Rattle.saa_word.proofs.Holding.{held-after, held-same, not-false}
use Rattle.saa_word.proofs.Keeping.{begun-exact, worked-exact, opened-sized, opened-stands, other-place, quiet-stage, replicated, set-updated, work-stands, work-sized, start-stands, start-sized}
use Rattle.saa_word.proofs.Seeking.{fresh-begun, fresh-next, seeks-on}
use Rattle.saa_word.proofs.Waits.{not-quiet, waiting}

-- two runs are one
pub run-append : (needs : Needs) (abstract middle last : AbstractState) (front rest : List (ℕ × Event)) → IsRun needs abstract front middle → IsRun needs middle rest last
    → IsRun needs abstract (front ++ rest) last
run-append needs abstract middle last [] rest one other = subst (λ (z : AbstractState). IsRun needs z rest last) (sym one) other
run-append needs abstract middle last (event ∷ front) rest one other =
    (one.0, run-append needs (after_event needs abstract event.0 event.1) middle last front rest one.1 other)

-- Permits are conserved along every run
pub conserves : (state : State) (trace : Trace) → IsRun (needs_of state.rules) (opening trace.withheld) trace.history trace.state → Conserves state trace
conserves state trace run bound rules =
    let needs : Needs = permit_needs bound in
    let same : IsRun needs (opening trace.withheld) trace.history trace.state =
    subst (λ (r : Rules). IsRun (needs_of r) (opening trace.withheld) trace.history trace.state) rules run in
    let may = run-granted needs refl trace.withheld trace.history trace.state same in
    record {
      balanced = run-balanced bound trace.withheld trace.history trace.state same;
      pending = λ place. (run-pending needs trace.withheld trace.history trace.state same).pending place;
      answers = λ place value. (may.granted place value, may.answered place value);
      events = run-permits needs refl (opening trace.withheld) trace.history trace.state (opening-granted trace.withheld) same;
    }

-- the call that a place is in behind its step
in-next : (needs : Needs) (registered : Registration) (holds : Bool) (underway : Option PendingCall) (me : ℕ) (place : Place) (events : List Event) (next : Next)
    → IsIn needs underway place → is_quiet place.stage ≡ false
    → ((u : PendingCall) → underway ≡ Some u → IsUnderNext needs u.call u.registered place.back place.stage (u.events ++ events) next)
    → ((behind : Place) (answer : Answer) → next ≡ IsDone behind answer → behind.stage ≡ Quiet)
    → IsIn needs (call_after registered holds underway (Go me) events (step_of next)) (place_after place next)
    × AnswersAsNamed needs registered underway (Go me) events (step_of next)
in-next needs registered holds None me place events next is busy under quiet = absurd (not-quiet place.stage busy is)
in-next needs registered holds (Some underway) me place events (GoesOn behind) is busy under quiet = (under underway refl, tt)
in-next needs registered holds (Some underway) me place events HasToWait is busy under quiet = (is, tt)
in-next needs registered holds (Some underway) me place events (IsDone behind answer) is busy under quiet = (quiet behind answer refl, under underway refl)

-- and behind its start
in-begun : (needs : Needs) (holds : Bool) (underway : Option PendingCall) (me : ℕ) (call : WordCall) (place : Place) (next : Next) → IsIn needs underway place
    → IsBegun needs call place.registration next → place.stage ≡ Quiet
    → IsIn needs (call_after place.registration holds underway (Start me call) [] (step_of next)) (place_after place next)
in-begun needs holds underway me call place (GoesOn behind) is begun quiet = begun
in-begun needs holds underway me call place HasToWait is begun quiet = absurd begun
in-begun needs holds None me call place (IsDone behind answer) is begun quiet = begun
in-begun needs holds (Some underway) me call place (IsDone behind answer) is begun quiet =
    absurd (subst (λ stage. IsUnder needs underway.call underway.registered place.back stage underway.events) quiet is)

-- what a trace says of the calls that places are in, it says still once one of them moved
calls-next : (Says : Option PendingCall → Place → Type 0) (places : List Place) (calls : ℕ → Option PendingCall) (me : ℕ) (place : Place) (underway : Option PendingCall)
    → me < length places → ((other : ℕ) → Says (calls other) (place_in places other)) → Says underway place
    → (other : ℕ) → Says (updated calls me underway other) (place_in (set places me place) other)
calls-next Says places calls me place underway here was is other =
    subst (λ (f : ℕ → Place). Says (updated calls me underway other) (f other)) (sym (set-updated places me place idle_place here))
    (elim (cases_Bool (other == me)) [
      | inl same ↦ rw same is
      | inr apart ↦ rw apart (was other)
    ])

-- the same of what places are registered as
registered-next : (places : List Place) (registered : ℕ → Registration) (me : ℕ) (place : Place) (now : Registration)
    → me < length places → ((other : ℕ) → (place_in places other).registration ≡ registered other) → place.registration ≡ now
    → (other : ℕ) → (place_in (set places me place) other).registration ≡ updated registered me now other
registered-next places registered me place now here was is other =
    subst (λ (f : ℕ → Place). (f other).registration ≡ updated registered me now other) (sym (set-updated places me place idle_place here))
    (elim (cases_Bool (other == me)) [
      | inl same ↦ rw same is
      | inr apart ↦ rw apart (was other)
    ])

-- a place that goes on is registered as its step left it
left-after : (was now : Registration) (place : Place) (next : Next) → place.registration ≡ was → IsLeft was now next → (place_after place next).registration ≡ now
left-after was now place (GoesOn behind) is left = left
left-after was now place HasToWait is left = is ∙ left
left-after was now place (IsDone behind answer) is left = left.0

-- and is at rest where it is done
left-quiet : (was now : Registration) (next : Next) → IsLeft was now next → (behind : Place) (answer : Answer) → next ≡ IsDone behind answer → behind.stage ≡ Quiet
left-quiet was now (GoesOn place) left behind answer is = absurd (cc)
left-quiet was now HasToWait left behind answer is = absurd (cc)
left-quiet was now (IsDone place other) left behind answer is =
    let same : place ≡ behind = cc in ap (λ (p : Place). p.stage) (sym same) ∙ left.1

-- what the step of a call leaves its place registered as
step-left : (needs : Needs) (underway : Option PendingCall) (me : ℕ) (place : Place) (found : ℕ) (events : List Event) → IsIn needs underway place
    → is_quiet place.stage ≡ false → events ≡ named_at needs place.stage found
    → IsLeft place.registration (registration_after events (asked_in underway) place.registration) (next_of needs me place place.stage found)
step-left needs None me place found events is busy names = absurd (not-quiet place.stage busy is)
step-left needs (Some underway) me place found events is busy names =
    subst (λ (e : List Event). IsLeft place.registration (registration_after e (asked_by underway.call) place.registration) (next_of needs me place place.stage found))
    (sym names) (left-next needs underway.call underway.registered me place place.stage found underway.events is)

-- what a call that starts leaves its place registered as, and what it answers
started-left : (answer : Option Answer) (now : Registration) (place : Place) (next : Next) → IsStartedAs answer now next → (place_after place next).registration ≡ now
started-left None now place (GoesOn behind) is = is
started-left None now place HasToWait is = absurd is
started-left None now place (IsDone behind said) is = absurd is
started-left (Some answer) now place (GoesOn behind) is = absurd is
started-left (Some answer) now place HasToWait is = absurd is
started-left (Some answer) now place (IsDone behind said) is = is.1

started-answers : (answer : Option Answer) (now : Registration) (next : Next) → IsStartedAs answer now next → step_of next ≡ started_step answer
started-answers None now (GoesOn behind) is = refl
started-answers None now HasToWait is = absurd is
started-answers None now (IsDone behind said) is = absurd is
started-answers (Some answer) now (GoesOn behind) is = absurd is
started-answers (Some answer) now HasToWait is = absurd is
started-answers (Some answer) now (IsDone behind said) is = ap Done is.0

begun-registered : (underway : Option PendingCall) (me : ℕ) (call : WordCall) (events : List Event) (was : Registration) (next : Next)
    → registered_after underway (Start me call) events (step_of next) was ≡ registration_after_start call was
begun-registered underway me call events was (GoesOn behind) = refl
begun-registered underway me call events was HasToWait = refl
begun-registered underway me call events was (IsDone behind answer) = refl

-- what a step counts
mine-made : (made me : ℕ) (next : Next) → steps_made_by made next ≡ mine_after made (Go me) (step_of next)
mine-made made me (GoesOn place) = refl
mine-made made me HasToWait = refl
mine-made made me (IsDone place answer) = refl

counted-made : (made : ℕ → ℕ) (me : ℕ) (next : Next) (same : Bool) → counted made me next same ≡ made_after made (Go me) (step_of next) same
counted-made made me next same =
    all-same (counted made me next same) (made_after made (Go me) (step_of next) same) (λ place.
    elim (cases_Bool (place == me)) [
      | inl here ↦ rw here (mine-made (made place) me next)
      | inr apart ↦ rw apart refl
    ])

-- a place that waits leaves words and places
waits-right : (state machine : State) (trace : Trace) (me : ℕ) (next : Next) → (next ≡ HasToWait → IsWaiting state machine trace me)
    → WaitsRightly state machine trace (Go me) (step_of next)
waits-right state machine trace me (GoesOn place) waiting = tt
waits-right state machine trace me HasToWait waiting = waiting refl
waits-right state machine trace me (IsDone place answer) waiting = tt

-- a step that waits is no event
silent-next : (me : ℕ) (next : Next) (events : List Event) → (next ≡ HasToWait → events ≡ []) → IsSilent (Go me) (step_of next) events
silent-next me (GoesOn place) events none = tt
silent-next me HasToWait events none = none refl
silent-next me (IsDone place answer) events none = tt

-- a place in no call has shown all that it granted
has-shown-all : (state : State) (trace : Trace) → Tracks state trace → (place : ℕ) → trace.calls place ≡ None → HasShownAll place trace.state
has-shown-all state trace tracks place none other granted mine =
    let s = tracks.refines in
    let quiet : (place_of state place).stage ≡ Quiet =
    subst (λ (underway : Option PendingCall). IsIn (needs_of state.rules) underway (place_of state place)) none (tracks.calls place) in
    let nothing : s.unshown place ≡ [] = subst (λ (stage : Stage). IsShowing (s.unshown place) (s.answer_value place) stage) quiet (s.stages.showing place) in
    let there : is_in other (s.unshown (trace.state.granter other)) ≡ true = s.grants.unshown_by other granted in
    let wrong : true ≡ false = sym there ∙ ap (λ (n : ℕ). is_in other (s.unshown n)) mine ∙ ap (is_in other) nothing in
    absurd (cc)

-- While no place is in a call all is at rest
pub rests : (state : State) (trace : Trace) → Tracks state trace → IsQuiescent trace → WordsAreQuiescent (needs_of state.rules) (row_of state) trace.state
rests state trace tracks quiescent =
    at-rest (needs_of state.rules) (length state.places) (row_of state) (place_of state) trace.state tracks.refines
    (λ place. subst (λ (u : Option PendingCall). IsIn (needs_of state.rules) u (place_of state place)) (quiescent place) (tracks.calls place))

-- A Go of a place in a call
pub went : (state : State) (trace : Trace) (me : ℕ) → me < length state.places → Tracks state trace → is_quiet (place_of state me).stage ≡ false
    → Simulates state (Go me) (worked_at state me) trace
went state trace me here tracks busy =
    let needs : Needs = needs_of state.rules in
    let place : Place = place_of state me in
    let operation : Operation = operation_at state me in
    let found : ℕ = found_by state operation in
    let next : Next = next_of needs me place place.stage found in
    let silent = silent-step needs (rules-lawful state.rules) tracks.sized.wide (length state.places) (row_of state) (place_of state) trace.state me
    tracks.sized.bounded here tracks.refines in
    let stepped = silent.0 in
    let events : List Event = stepped.events in
    let machine : State = (worked_at state me).machine in
    let refines : RefinesAs machine stepped.last =
    work-stands state trace.state me tracks.sized.wide tracks.sized.bounded tracks.sized.words here tracks.refines stepped in
    let left = step-left needs (trace.calls me) me place found (named events) (tracks.calls me) busy stepped.names in
    let holds : Bool = holds_after state (Go me) (worked_at state me) trace in
    let goes = in-next needs (trace.registered me) holds (trace.calls me) me place (named events) next (tracks.calls me) busy
    (λ u is. subst (λ (l : List Event). IsUnderNext needs u.call u.registered place.back place.stage (u.events ++ l) next) (sym stepped.names)
    (under-next needs u.call u.registered me place place.stage found u.events (subst (λ (o : Option PendingCall). IsIn needs o place) is (tracks.calls me))))
    (left-quiet place.registration (registration_after (named events) (asked_in (trace.calls me)) place.registration) next left) in
    let row_is : row_of machine ≡ row_after (row_of state) operation =
    set-updated state.row (word_at operation) (written_by operation found) 0 (omega (arith, stepped.inside, tracks.sized.words)) in
    let place_is : place_of machine ≡ updated (place_of state) me (place_after place next) =
    set-updated state.places me (place_after place next) idle_place here in
    let count : IsCounted needs (length state.places) (row_of state) (place_of state) me trace.steps_since_change place.stage =
    counted-within needs (rules-lawful state.rules) tracks.sized.wide (length state.places) (row_of state) (place_of state) trace.state me trace.steps_since_change tracks.refines
    (not-quiet place.stage busy) tracks.within in
    let made : ℕ → ℕ = made_after trace.steps_since_change (Go me) (step_of next) (row_of machine 0 == row_of state 0) in
    let made_is : counted trace.steps_since_change me next (row_after (row_of state) operation 0 == row_of state 0) ≡ made =
    counted-made trace.steps_since_change me next (row_after (row_of state) operation 0 == row_of state 0)
    ∙ ap (λ (r : ℕ → ℕ). made_after trace.steps_since_change (Go me) (step_of next) (r 0 == row_of state 0)) (sym row_is) in
    let within_here : AreWithin (length state.places) (row_of machine) (place_of machine) made =
    subst (λ (r : ℕ → ℕ). AreWithin (length state.places) r (place_of machine) made) (sym row_is)
    (subst (λ (f : ℕ → Place). AreWithin (length state.places) (row_after (row_of state) operation) f made) (sym place_is)
    (subst (λ (m : ℕ → ℕ). AreWithin (length state.places) (row_after (row_of state) operation) (updated (place_of state) me (place_after place next)) m) made_is count)) in
    let within : AreWithin (length machine.places) (row_of machine) (place_of machine) made =
    subst (λ n. AreWithin n (row_of machine) (place_of machine) made) (sym (length-set state.places me (place_after place next))) within_here in
    let apart : (other : ℕ) → other == me ≡ false → place_of machine other ≡ place_of state other =
    λ other differs. ap (λ (f : ℕ → Place). f other) place_is ∙ other-place (place_of state) me other (place_after place next) differs in
    let run : IsRun needs (opening trace.withheld) (trace.history ++ of_place me events) stepped.last =
    run-append needs (opening trace.withheld) trace.state stepped.last trace.history (of_place me events) tracks.run stepped.run in
    let shown : WordsShow needs (length state.places) (row_of machine) stepped.last =
    subst (λ n. WordsShow needs n (row_of machine) stepped.last) (length-set state.places me (place_after place next))
    (says-so needs (length machine.places) (row_of machine) (place_of machine) stepped.last refines) in
    let registered : (other : ℕ) → (place_of machine other).registration
    ≡ updated trace.registered me (registration_after (named events) (asked_in (trace.calls me)) (trace.registered me)) other =
    registered-next state.places trace.registered me (place_after place next)
    (registration_after (named events) (asked_in (trace.calls me)) (trace.registered me)) here tracks.registered
    (left-after place.registration (registration_after (named events) (asked_in (trace.calls me)) place.registration) place next refl left
    ∙ ap (registration_after (named events) (asked_in (trace.calls me))) (tracks.registered me)) in
    let shown_before : WordsShow needs (length state.places) (row_of state) trace.state =
    says-so needs (length state.places) (row_of state) (place_of state) trace.state tracks.refines in
    let after : Trace = trace_after state (Go me) (worked_at state me) trace events stepped.last in
    let holder : refines.holder ≡ after.holder =
    held-after needs (length state.places) (length machine.places) (row_of state) (row_of machine) (place_of state) (place_of machine) trace.state stepped.last me
    tracks.refines refines apart
    ∙ ap (λ (h : ℕ). holder_after h me (main_of (row_of state)) (main_of (row_of machine))) tracks.holder in
    let one : is_holder (place_after place next).stage ≡ holds =
    ap (λ (p : Place). is_holder p.stage) (sym (updated-at (place_of state) me (place_after place next)) ∙ ap (λ (f : ℕ → Place). f me) (sym place_is))
    ∙ refines.stages.one me ∙ ap (λ (h : ℕ). h == me + 1) holder in
    let then : Tracks machine after = record {
      sized = work-sized state me tracks.sized;
      run = run;
      refines = refines;
      registered = registered;
      held = λ other. refines.seats.held other ∙ ap (λ (r : Registration). one_if (is_slot r)) (registered other);
      asks = run-registered needs trace.state stepped.last me events (asked_in (trace.calls me)) trace.registered (trace.registered me) stepped.run
          shown_before.once (λ poisoned. (tracks.refines.main.barren poisoned).1)
          (subst (λ (f : ℕ → Registration). AreRegistered f trace.state.line) (sym (updated-same trace.registered me (trace.registered me) refl)) tracks.asks);
      holder = holder;
      calls = calls-next (IsIn needs) state.places trace.calls me (place_after place next)
          (call_after (trace.registered me) holds (trace.calls me) (Go me) (named events) (step_of next)) here tracks.calls goes.0;
      fresh = calls-next (λ underway p. IsFresh underway p.stage) state.places trace.calls me (place_after place next)
          (call_after (trace.registered me) holds (trace.calls me) (Go me) (named events) (step_of next)) here tracks.fresh
          (fresh-next (trace.registered me) holds (trace.calls me) me (named events) place next (tracks.fresh me) (seeks-on needs me place place.stage found refl) one);
      within = within;
    } in
    (record {
      exact = worked-exact me state operation found place next;
      rules = refl;
      places = length-set state.places me (place_after place next);
      events = events;
      last = stepped.last;
      run = stepped.run;
      silent = silent-next me next events silent.1;
      answers = goes.1;
      waits = waits-right state machine trace me next (waiting state trace me here tracks busy);
      words = shown;
      leads = record { last = stepped.last; run = run; shown = shown };
      conserved = conserves state (trace_after state (Go me) (worked_at state me) trace events stepped.last) run;
      bounded = λ one. omega (arith, within_here one);
      shown = has-shown-all machine after then;
      quiet = rests machine after then;
      tracks = then;
    })

-- what the mover has made once it started a call
start-mine : (needs : Needs) (places : ℕ) (row : ℕ → ℕ) (made me : ℕ) (place : Place) (call : WordCall) (next : Next)
    → made + step_bound places row place.back place.stage ≤ 16 * places + 48 → IsBegun needs call place.registration next
    → mine_after made (Start me call) (step_of next) + step_bound places row (place_after place next).back (place_after place next).stage ≤ 16 * places + 48
start-mine needs places row made me place call (GoesOn behind) was begun = omega (arith, step_bound-bounded places row behind.back behind.stage)
start-mine needs places row made me place call HasToWait was begun = absurd begun
start-mine needs places row made me place call (IsDone behind answer) was begun =
    let none : step_bound places row behind.back behind.stage ≡ 0 = ap (step_bound places row behind.back) begun in
    omega (arith, was, none)

-- A Start at a place in no call
pub begun : (state : State) (trace : Trace) (me : ℕ) (call : WordCall) → me < length state.places → is_taken (is_lock state) call ≡ true → Tracks state trace
    → is_quiet (place_of state me).stage ≡ true
    → Simulates state (Start me call) (followed state me (started (needs_of state.rules) (place_of state me) call)) trace
begun state trace me call here taken tracks quiet =
    let needs : Needs = needs_of state.rules in
    let place : Place = place_of state me in
    let next : Next = started needs place call in
    let behind : Place = place_after place next in
    let after : State = record state { places = set state.places me behind } in
    let none : place.stage ≡ Quiet = quiet-stage place.stage quiet in
    let starts : IsBegun needs call place.registration next = call-begun needs place call none taken in
    let refines : RefinesAs after trace.state = start-stands state trace.state me call tracks.sized.wide here tracks.refines quiet taken in
    let place_is : place_of after ≡ updated (place_of state) me behind = set-updated state.places me behind idle_place here in
    let made : ℕ → ℕ = made_after trace.steps_since_change (Start me call) (step_of next) (row_of state 0 == row_of state 0) in
    let within_here : AreWithin (length state.places) (row_of state) (place_of after) made =
    subst (λ (f : ℕ → Place). AreWithin (length state.places) (row_of state) f made) (sym place_is)
    (λ other.
    elim (cases_Bool (other == me)) [
      | inl same ↦
          let is : other ≡ me = same_number other me same in
          rw same (subst (λ n. mine_after (trace.steps_since_change n) (Start me call) (step_of next) + step_bound (length state.places) (row_of state) behind.back behind.stage
          ≤ 16 * length state.places + 48) (sym is)
          (start-mine needs (length state.places) (row_of state) (trace.steps_since_change me) me place call next (tracks.within me) starts))
      | inr apart ↦ rw (apart, number_same (row_of state 0)) (tracks.within other)
    ]) in
    let answered = started-as needs place call none in
    let apart : (other : ℕ) → other == me ≡ false → place_of after other ≡ place_of state other =
    λ other differs. ap (λ (f : ℕ → Place). f other) place_is ∙ other-place (place_of state) me other behind differs in
    let run : IsRun needs (opening trace.withheld) (trace.history ++ []) trace.state =
    subst (λ (h : List (ℕ × Event)). IsRun needs (opening trace.withheld) h trace.state) (sym (append-nil trace.history)) tracks.run in
    let shown : WordsShow needs (length state.places) (row_of state) trace.state =
    subst (λ n. WordsShow needs n (row_of state) trace.state) (length-set state.places me behind)
    (says-so needs (length after.places) (row_of state) (place_of after) trace.state refines) in
    let registered : (other : ℕ) → (place_of after other).registration
    ≡ updated trace.registered me (registered_after (trace.calls me) (Start me call) [] (step_of next) (trace.registered me)) other =
    registered-next state.places trace.registered me behind
    (registered_after (trace.calls me) (Start me call) [] (step_of next) (trace.registered me)) here tracks.registered
    (started-left (starting_answer needs call place.registration) (registration_after_start call place.registration) place next answered
    ∙ ap (registration_after_start call) (tracks.registered me) ∙ sym (begun-registered (trace.calls me) me call [] (trace.registered me) next)) in
    let behind_it : Trace = trace_after state (Start me call) (followed state me next) trace [] trace.state in
    let holds : Bool = holds_after state (Start me call) (followed state me next) trace in
    let then : Tracks after behind_it = record {
      sized = start-sized state me behind tracks.sized;
      run = run;
      refines = refines;
      registered = registered;
      held = λ other. refines.seats.held other ∙ ap (λ (r : Registration). one_if (is_slot r)) (registered other);
      asks = subst (λ (r : Registration). AreRegistered (updated trace.registered me r) trace.state.line)
          (sym (begun-registered (trace.calls me) me call [] (trace.registered me) next))
          (begun-registered-line trace.state trace.registered me call (tracks.held me) tracks.asks);
      holder = held-after needs (length state.places) (length after.places) (row_of state) (row_of state) (place_of state) (place_of after) trace.state trace.state me
          tracks.refines refines apart
          ∙ ap (λ (h : ℕ). holder_after h me (main_of (row_of state)) (main_of (row_of state))) tracks.holder;
      calls = calls-next (IsIn needs) state.places trace.calls me behind (call_after (trace.registered me) holds (trace.calls me) (Start me call) [] (step_of next)) here tracks.calls
          (subst (λ (r : Registration). IsIn needs (call_after r holds (trace.calls me) (Start me call) [] (step_of next)) behind) (tracks.registered me)
          (in-begun needs holds (trace.calls me) me call place next (tracks.calls me) starts none));
      fresh = calls-next (λ underway p. IsFresh underway p.stage) state.places trace.calls me behind
          (call_after (trace.registered me) holds (trace.calls me) (Start me call) [] (step_of next)) here tracks.fresh
          (fresh-begun needs (trace.registered me) holds (trace.calls me) me call place next (tracks.calls me) starts none);
      within = subst (λ n. AreWithin n (row_of state) (place_of after) made) (sym (length-set state.places me behind)) within_here;
    } in
    (record {
      exact = begun-exact me call state place next;
      rules = refl;
      places = length-set state.places me behind;
      events = [];
      last = trace.state;
      run = refl;
      silent = refl;
      answers = start-right needs (trace.registered me) (trace.calls me) me call place next (tracks.calls me) none
          (started-answers (starting_answer needs call place.registration) (registration_after_start call place.registration) next answered
          ∙ ap (λ (r : Registration). started_step (starting_answer needs call r)) (tracks.registered me));
      waits = tt;
      words = shown;
      leads = record { last = trace.state; run = run; shown = shown };
      conserved = conserves state (trace_after state (Start me call) (followed state me next) trace [] trace.state) run;
      bounded = λ one. omega (arith, within_here one);
      shown = has-shown-all after behind_it then;
      quiet = rests after behind_it then;
      tracks = then;
    })
  where
    start-right : (needs : Needs) (registered : Registration) (underway : Option PendingCall) (me : ℕ) (call : WordCall) (place : Place) (next : Next)
        → IsIn needs underway place → place.stage ≡ Quiet → step_of next ≡ started_step (starting_answer needs call registered)
        → AnswersAsNamed needs registered underway (Start me call) [] (step_of next)
    start-right needs registered None me call place next is none same = same
    start-right needs registered (Some underway) me call place next is none same =
        absurd (subst (λ stage. IsUnder needs underway.call underway.registered place.back stage underway.events) none is)

-- a move that does nothing leaves its trace
pub idled : (state : State) (trace : Trace) (move : Move) (step : Step)
    → ((registered : Registration) (holds : Bool) (underway : Option PendingCall) → call_after registered holds underway move [] step ≡ underway)
    → ((underway : Option PendingCall) (was : Registration) → registered_after underway move [] step was ≡ was)
    → ((made : ℕ) → mine_after made move step ≡ made) → IsOneStep move step state state
    → IsSilent move step [] → AnswersAsNamed (needs_of state.rules) (trace.registered (mover move)) (trace.calls (mover move)) move [] step
    → WaitsRightly state state trace move step
    → Tracks state trace → Simulates state move (record { step = step; machine = state }) trace
idled state trace move step calls registered made exact silent right waits tracks =
    record {
      exact = exact;
      rules = refl;
      places = refl;
      events = [];
      last = trace.state;
      run = refl;
      silent = silent;
      answers = right;
      waits = waits;
      words = shown;
      leads = record { last = trace.state; run = run; shown = shown };
      conserved = conserves state (trace_after state move (record { step = step; machine = state }) trace [] trace.state) run;
      bounded = λ one. subst (λ (m : ℕ → ℕ). m one ≤ 16 * length state.places + 48) (sym made_is) (omega (arith, tracks.within one));
      shown = has-shown-all state (trace_after state move (record { step = step; machine = state }) trace [] trace.state) (subst (λ (t : Trace). Tracks state t) (sym trace_is) tracks);
      quiet = rests state (trace_after state move (record { step = step; machine = state }) trace [] trace.state) (subst (λ (t : Trace). Tracks state t) (sym trace_is) tracks);
      tracks = subst (λ (t : Trace). Tracks state t) (sym trace_is) tracks;
    }
  where
    shown : WordsShow (needs_of state.rules) (length state.places) (row_of state) trace.state
    shown = says-so (needs_of state.rules) (length state.places) (row_of state) (place_of state) trace.state tracks.refines

    run : IsRun (needs_of state.rules) (opening trace.withheld) (trace.history ++ []) trace.state
    run = subst (λ (h : List (ℕ × Event)). IsRun (needs_of state.rules) (opening trace.withheld) h trace.state) (sym (append-nil trace.history)) tracks.run

    made_is : made_after trace.steps_since_change move step (row_of state 0 == row_of state 0) ≡ trace.steps_since_change
    made_is = all-same (made_after trace.steps_since_change move step (row_of state 0 == row_of state 0)) trace.steps_since_change (λ place.
        elim (cases_Bool (place == mover move)) [
          | inl same ↦ rw same (made (trace.steps_since_change place))
          | inr apart ↦ rw (apart, number_same (row_of state 0)) refl
        ])

    holds : Bool
    holds = holds_after state move (record { step = step; machine = state }) trace

    mine : Option PendingCall
    mine = call_after (trace.registered (mover move)) holds (trace.calls (mover move)) move [] step

    calls_is : updated trace.calls (mover move) mine ≡ trace.calls
    calls_is = updated-same trace.calls (mover move) mine (calls (trace.registered (mover move)) holds (trace.calls (mover move)))

    own : Registration
    own = registered_after (trace.calls (mover move)) move [] step (trace.registered (mover move))

    registered_is : updated trace.registered (mover move) own ≡ trace.registered
    registered_is = updated-same trace.registered (mover move) own (registered (trace.calls (mover move)) (trace.registered (mover move)))

    holder_is : holder_after trace.holder (mover move) (main_of (row_of state)) (main_of (row_of state)) ≡ trace.holder
    holder_is =
        ap (λ (h : ℕ). holder_after h (mover move) (main_of (row_of state)) (main_of (row_of state))) (sym tracks.holder)
        ∙ held-same (needs_of state.rules) (length state.places) (row_of state) (place_of state) trace.state (mover move) tracks.refines ∙ tracks.holder

    trace_is : trace_after state move (record { step = step; machine = state }) trace [] trace.state ≡ trace
    trace_is = λ i. record {
      withheld = trace.withheld;
      history = append-nil trace.history i;
      state = trace.state;
      registered = registered_is i;
      holder = holder_is i;
      calls = calls_is i;
      steps_since_change = made_is i;
    }

-- Every move
pub simulates : (state : State) (move : Move) (trace : Trace) → IsMove (is_lock state) (length state.places) move → Tracks state trace
    → Simulates state move (gone state move) trace
simulates state (Start me call) trace is tracks =
    elim (cases_Bool (is_quiet (place_of state me).stage)) [
      | inl quiet ↦ rw quiet (begun state trace me call is.0 is.1 tracks quiet)
      | inr busy ↦ rw busy (idled state trace (Start me call) Busy (start-kept me call) (λ underway was. refl) (λ made. refl) refl refl
          (start-busy (trace.registered me) (trace.calls me) me call (tracks.calls me) busy) tt tracks)
    ]
  where
    start-kept : (me : ℕ) (call : WordCall) (registered : Registration) (holds : Bool) (underway : Option PendingCall)
        → call_after registered holds underway (Start me call) [] Busy ≡ underway
    start-kept me call registered holds None = refl
    start-kept me call registered holds (Some underway) = refl

    start-busy : (registered : Registration) (underway : Option PendingCall) (me : ℕ) (call : WordCall) → IsIn (needs_of state.rules) underway (place_of state me)
        → is_quiet (place_of state me).stage ≡ false → AnswersAsNamed (needs_of state.rules) registered underway (Start me call) [] Busy
    start-busy registered None me call is busy = absurd (not-quiet (place_of state me).stage busy is)
    start-busy registered (Some underway) me call is busy = refl
simulates state (Go me) trace is tracks =
    elim (cases_Bool (is_quiet (place_of state me).stage)) [
      | inl quiet ↦ rw quiet (idled state trace (Go me) Idle (go-kept me) (λ underway was. refl) (λ made. refl) refl refl
          (go-idle (trace.registered me) (trace.calls me) me (tracks.calls me) (quiet-stage (place_of state me).stage quiet)) tt tracks)
      | inr busy ↦ rw busy (went state trace me is tracks busy)
    ]
  where
    go-kept : (me : ℕ) (registered : Registration) (holds : Bool) (underway : Option PendingCall) → call_after registered holds underway (Go me) [] Idle ≡ underway
    go-kept me registered holds None = refl
    go-kept me registered holds (Some underway) = refl

    go-idle : (registered : Registration) (underway : Option PendingCall) (me : ℕ) → IsIn (needs_of state.rules) underway (place_of state me)
        → (place_of state me).stage ≡ Quiet → AnswersAsNamed (needs_of state.rules) registered underway (Go me) [] Idle
    go-idle registered None me is quiet = refl
    go-idle registered (Some underway) me is quiet =
        absurd (subst (λ stage. IsUnder (needs_of state.rules) underway.call underway.registered (place_of state me).back stage underway.events) quiet is)

-- the beginning tracks a machine that was just made
pub opened-tracks : (rules : Rules) (count places : ℕ) → (needs_of rules).top < 2 ^ count_bits → count ≤ (needs_of rules).top → places < 2 ^ 16
    → Tracks (opened rules count places) (beginning count)
opened-tracks rules count places wide small bounded =
    let sized = opened-sized rules count places wide bounded in
    let refines = opened-stands rules count places wide small in
    let clear : (main_of (row_of (opened rules count places))).is_flagged ≡ false =
    (let none : count / 2 ^ count_bits % 2 ≡ 0 = omega (arith, small, wide) in rw none refl) in
    record {
      sized = sized;
      run = refl;
      refines = refines;
      registered = λ place. ap (λ (p : Place). p.registration) (replicated places idle_place place);
      held = λ place. refl;
      asks = tt;
      holder = same_number refines.holder 0 (not-false (refines.holder == 0) (sym refines.main.flag ∙ clear));
      calls = λ place. ap (λ (p : Place). p.stage) (replicated places idle_place place);
      fresh = λ place. tt;
      within = λ place. subst (λ (p : Place). 0 + step_bound (length (opened rules count places).places) (row_of (opened rules count places)) p.back p.stage
          ≤ 16 * length (opened rules count places).places + 48) (sym (replicated places idle_place place)) (omega arith);
    }

-- the same of what a call answered, and of a machine as it is written down by its parts
pub simulated-as : (state machine : State) (move : Move) (step : Step) (trace : Trace) → step ≡ (gone state move).step → machine ≡ (gone state move).machine
    → IsMove (is_lock state) (length state.places) move → Tracks state trace → Simulates state move (record { step = step; machine = machine }) trace
simulated-as state machine move step trace step_is machine_is is tracks =
    subst (λ (n : Step). Simulates state move (record { step = n; machine = machine }) trace) (sym step_is)
    (subst (λ (m : State). Simulates state move (record { step = (gone state move).step; machine = m }) trace) (sym machine_is) (simulates state move trace is tracks))

pub made-tracks : (rules : Rules) (row : List ℕ) (places : List Place) (operations last_word count many : ℕ) → (needs_of rules).top < 2 ^ count_bits
    → count ≤ (needs_of rules).top → many < 2 ^ 16 → row ≡ count ∷ replicate (2 * many) 0 → places ≡ replicate many idle_place → operations ≡ 0 → last_word ≡ 0
    → Tracks (record { rules = rules; row = row; places = places; operations = operations; last_word = last_word }) (beginning count)
made-tracks rules row places operations last_word count many wide small bounded row_is places_is operations_is last_is =
    subst (λ (s : State). Tracks s (beginning count))
    (λ i. record { rules = rules; row = sym row_is i; places = sym places_is i; operations = sym operations_is i; last_word = sym last_is i })
    (opened-tracks rules count many wide small bounded)

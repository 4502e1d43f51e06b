-- A place that has to wait is in a call that is blocked, and leaves words and places as they are.
use Rattle.std.proofs.Common.{get_or, ◌≡◌, ◌≢◌, ℕ, ◌+◌, ◌<◌, ◌==◌, Bool, true, false, if◌then◌else◌, List, [], length, Option, Some, None, refl, sym, subst, ◌∙◌, ap, inl, inr}
use Rattle.std.proofs.Math.ListN.{set}
use Rattle.saa_word_steps.specs.declared.operation.Operation.{Operation}
use Rattle.saa_word_steps.specs.declared.call.WordCall.{WordCall}
use Rattle.saa_word_steps.specs.declared.place.Place.{Place}
use Rattle.saa_word_steps.specs.declared.place.Next.{Next}
use Rattle.saa_word_steps.specs.declared.place.Next.TheVariants.{Waits as HasToWait}
use Rattle.saa_word_steps.specs.declared.place.Stage.{Stage}
use Rattle.saa_word_steps.specs.declared.place.Stage.TheVariants.{Quiet, ReadLoad, AcquireLoad, AcquireExchange, Prepare, Join, ReleaseLoad, ReleaseExchange, BackLoad, BackStore, Forward, CutToClose, CutForRetry, Close, Empty, Retry, ShowLoad, ShowStore, Take, FlagLoad, FlagExchange, LookLoad, LookStore, Unlink, DropTail, PoisonLoad, PoisonExchange, Clear}
use Rattle.saa_word_steps.specs.declared.place.PollMode.TheVariants.{Tries, Awaits, Gives}
use Rattle.saa_word_steps.specs.declared.place.AfterWalk.{AfterWalk}
use Rattle.saa_word_steps.specs.declared.place.AfterWalk.TheVariants.{Tells as TellsLine, Ends, Takes}
use Rattle.saa_word_steps.specs.declared.place.Registration.{Registration}
use Rattle.saa_core_words.specs.declared.word.Word.{Word}
use Rattle.saa_word_steps.specs.Needs.{Needs, needs_of}
use Rattle.saa_word_steps.specs.declared.event.Event.{Event}
use Rattle.saa_word_steps.specs.AbstractState.{AbstractState, is_in}
use Rattle.saa_core_spec.proofs.Counts.{number_same, same_number}
use Rattle.saa_word_steps.specs.Steps.{next_of, operation_of, word_at, written_by}
use Rattle.saa_word_proofs.specs.Refinement.{IsLocallyTrue, IsLeaving, IsShowing, is_holder}
use Rattle.saa_word_proofs.specs.Registering.{is_slot}
use Rattle.saa_word_proofs.specs.Rows.{IsOwnedAndFlagged, IsRefusableAndFlagged, main_of}
use Rattle.saa_word_proofs.specs.StepRefinement.{place_after}
use Rattle.saa_word_proofs.specs.CallStages.{IsLeavingLine, IsUnder, is_poisoning, taken_by}
use Rattle.saa_word_proofs.specs.Blocking.{IsBlockedAt}
use Rattle.saa_word_proofs.specs.Promises.{idle_place}
use Rattle.saa_word_proofs.proofs.RefinementLemmas.Lists.{updated-at}
use Rattle.saa_word_steps.specs.declared.call.WordCall.TheVariants.{Try, Register, Release, Available, Shut, IsShut, TryLock, TryShare, RegisterMode, ReleaseLock, ReleaseShare, Downgrade, PoisonLock, ClearPoison, IsFree, IsLocked, IsShared, IsPoisoned, TryPoll, Poll, Cancel}
use Rattle.saa_word_proofs.proofs.RefinementLemmas.Polls.{only-stalls}
use Rattle.std.proofs.lemmas.List.{set-get_or}
use Rattle.saa_word.specs.Machine.{State, place_of, row_of}
use Rattle.saa_word.specs.Moves.{found_by, is_quiet, operation_at, worked_at}
use Rattle.saa_word.specs.Trace.{Trace, PendingCall}
use Rattle.saa_word.specs.Tracks.{IsFresh, IsIn, Tracks, seeks_flag}
use Rattle.saa_word.specs.Simulation.{IsBlocked, IsHeldByAnother, IsWaiting}
use Rattle.saa_word.proofs.Holding.{not-true}

-- a test that finds a place in a call
pub not-quiet : (stage : Stage) → is_quiet stage ≡ false → stage ≢ Quiet
not-quiet stage busy is = let wrong : true ≡ false = ap is_quiet (sym is) ∙ busy in absurd (cc)

-- a call that takes an answer and waits for it polls
awaits-polls : (call : WordCall) → taken_by call ≡ Some Awaits → call ≡ Poll
awaits-polls (Try count) is = absurd (cc)
awaits-polls (Register count) is = absurd (cc)
awaits-polls (Release count) is = absurd (cc)
awaits-polls Available is = absurd (cc)
awaits-polls Shut is = absurd (cc)
awaits-polls IsShut is = absurd (cc)
awaits-polls TryLock is = absurd (cc)
awaits-polls TryShare is = absurd (cc)
awaits-polls (RegisterMode mode) is = absurd (cc)
awaits-polls ReleaseLock is = absurd (cc)
awaits-polls ReleaseShare is = absurd (cc)
awaits-polls Downgrade is = absurd (cc)
awaits-polls PoisonLock is = absurd (cc)
awaits-polls ClearPoison is = absurd (cc)
awaits-polls IsFree is = absurd (cc)
awaits-polls IsLocked is = absurd (cc)
awaits-polls IsShared is = absurd (cc)
awaits-polls IsPoisoned is = absurd (cc)
awaits-polls TryPoll is = absurd (cc)
awaits-polls Poll is = refl
awaits-polls Cancel is = absurd (cc)

-- a call that is to leave the line cancels
leaves-cancels : (call : WordCall) (registered : Registration) (back : AfterWalk) (events : List Event) → IsLeavingLine call registered back events → call ≡ Cancel
leaves-cancels call registered TellsLine events leaves = absurd leaves
leaves-cancels call registered Ends events leaves = absurd leaves
leaves-cancels call registered (Takes request) events leaves = leaves.0

-- a call that is to leave the line is registered in it
leaving-slot : (registration : Registration) (back : AfterWalk) → IsLeaving registration back → is_slot registration ≡ true
leaving-slot registration TellsLine leaves = absurd leaves
leaving-slot registration Ends leaves = absurd leaves
leaving-slot registration (Takes request) leaves = ap is_slot leaves

-- What is known where a place waits: another one holds the flag where it is set, and what the place is registered as is the trace's
record Configuration (trace : Trace) (me : ℕ) (seen : Word) (registration : Registration) : Type 0 where
  held : seen.is_flagged ≡ true → IsHeldByAnother trace me
  registered : registration ≡ trace.registered me

-- a lock that can be poisoned has one owner
lock-owned : (needs : Needs) (seen : Word) → needs.is_lock ≡ true → IsRefusableAndFlagged needs seen → IsOwnedAndFlagged seen
lock-owned needs seen lock stalled =
    let test : seen.count == 63 ≡ true = ap (λ (b : Bool). if b then seen.count == 63 else true) (sym lock) ∙ stalled.0 in
    (same_number seen.count 63 test, stalled.1, stalled.2)

-- poison and a shut that find the flag set are blocked
refusing-blocked : (needs : Needs) (trace : Trace) (places me : ℕ) (seen : Word) (call : WordCall) (held : Bool) → is_poisoning needs.is_lock call ≡ true
    → IsRefusableAndFlagged needs seen → IsHeldByAnother trace me → held ≡ false → IsBlocked trace places me seen 0 held call
refusing-blocked needs trace places me seen PoisonLock held poisons stalled other fresh = (refl, lock-owned needs seen poisons stalled, other, fresh)
refusing-blocked needs trace places me seen Shut held poisons stalled other fresh = (refl, stalled.1, stalled.2, other, fresh)
refusing-blocked needs trace places me seen call held poisons stalled other fresh = absurd (cc)

-- the call of a place that waits at its stage is blocked
held-up : (needs : Needs) (trace : Trace) (places me : ℕ) (seen : Word) (registration : Registration) (m : Configuration trace me seen registration) (call : WordCall) (registered : Registration) (back : AfterWalk) (stage : Stage) (events : List Event)
    → IsUnder needs call registered back stage events → IsLocallyTrue needs registration back stage → IsBlockedAt needs trace.state me seen stage → (held : Bool) → (seeks_flag stage ≡ true → held ≡ false)
    → IsBlocked trace places me seen (word_at (operation_of needs places me stage)) held call
held-up needs trace places me seen registration m call registered back Quiet events under alone stalled held fresh = absurd stalled
held-up needs trace places me seen registration m call registered back (ReadLoad reading) events under alone stalled held fresh = absurd stalled
held-up needs trace places me seen registration m call registered back (AcquireLoad ask) events under alone stalled held fresh = absurd stalled
held-up needs trace places me seen registration m call registered back (AcquireExchange ask old) events under alone stalled held fresh = absurd stalled
held-up needs trace places me seen registration m call registered back (Prepare request old) events under alone stalled held fresh = absurd stalled
held-up needs trace places me seen registration m call registered back (Join request old) events under alone stalled held fresh = absurd stalled
held-up needs trace places me seen registration m call registered back (ReleaseLoad given) events under alone stalled held fresh = absurd stalled
held-up needs trace places me seen registration m call registered back (ReleaseExchange given old) events under alone stalled held fresh = absurd stalled
held-up needs trace places me seen registration m call registered back (BackLoad old current newer) events under alone stalled held fresh = absurd stalled
held-up needs trace places me seen registration m call registered back (BackStore old current newer line) events under alone stalled held fresh = absurd stalled
held-up needs trace places me seen registration m call registered back (Forward old current count) events under alone stalled held fresh = absurd stalled
held-up needs trace places me seen registration m call registered back (CutToClose old current count line) events under alone stalled held fresh = absurd stalled
held-up needs trace places me seen registration m call registered back (CutForRetry old current count line) events under alone stalled held fresh = absurd stalled
held-up needs trace places me seen registration m call registered back (Close old count top) events under alone stalled held fresh = absurd stalled
held-up needs trace places me seen registration m call registered back (Empty old current count line) events under alone stalled held fresh = absurd stalled
held-up needs trace places me seen registration m call registered back (Retry old count top) events under alone stalled held fresh = absurd stalled
held-up needs trace places me seen registration m call registered back (ShowLoad current value afterwards) events under alone stalled held fresh = absurd stalled
held-up needs trace places me seen registration m call registered back (ShowStore current next value afterwards) events under alone stalled held fresh = absurd stalled
held-up needs trace places me seen registration m call registered back (Take Tries) events under alone stalled held fresh = absurd stalled
held-up needs trace places me seen registration m call registered back (LookLoad old current newer previous) events under alone stalled held fresh = absurd stalled
held-up needs trace places me seen registration m call registered back (LookStore old current newer line) events under alone stalled held fresh = absurd stalled
held-up needs trace places me seen registration m call registered back (Unlink old newer line older) events under alone stalled held fresh = absurd stalled
held-up needs trace places me seen registration m call registered back (DropTail old older) events under alone stalled held fresh = absurd stalled
held-up needs trace places me seen registration m call registered back Clear events under alone stalled held fresh = absurd stalled
held-up needs trace places me seen registration m call registered back (Take Awaits) events under alone stalled held fresh =
    subst (λ (c : WordCall). IsBlocked trace places me seen (places + me + 1) held c) (sym (awaits-polls call under.0)) (refl, stalled)
held-up needs trace places me seen registration m call registered back (Take (Gives request)) events under alone stalled held fresh =
    subst (λ (c : WordCall). IsBlocked trace places me seen (places + me + 1) held c) (sym under.0) (inl (refl, stalled))
held-up needs trace places me seen registration m call registered back FlagLoad events under alone stalled held fresh =
    subst (λ (c : WordCall). IsBlocked trace places me seen 0 held c) (sym (leaves-cancels call registered back events under))
    (inr (refl, stalled, m.held stalled, fresh refl, ap is_slot (sym m.registered) ∙ leaving-slot registration back alone))
held-up needs trace places me seen registration m call registered back (FlagExchange old) events under alone stalled held fresh =
    subst (λ (c : WordCall). IsBlocked trace places me seen 0 held c) (sym (leaves-cancels call registered back events under))
    (inr (refl, stalled, m.held stalled, fresh refl, ap is_slot (sym m.registered) ∙ leaving-slot registration back alone.0))
held-up needs trace places me seen registration m call registered back PoisonLoad events under alone stalled held fresh =
    refusing-blocked needs trace places me seen call held under.0 stalled (m.held stalled.2) (fresh refl)
held-up needs trace places me seen registration m call registered back (PoisonExchange old) events under alone stalled held fresh =
    refusing-blocked needs trace places me seen call held under.0 stalled (m.held stalled.2) (fresh refl)

-- the call of a place that waits at its stage has named nothing yet
none-leaving : (call : WordCall) (registered : Registration) (back : AfterWalk) (events : List Event) → IsLeavingLine call registered back events → events ≡ []
none-leaving call registered TellsLine events leaves = absurd leaves
none-leaving call registered Ends events leaves = absurd leaves
none-leaving call registered (Takes request) events leaves = leaves.2

none-named : (needs : Needs) (abstract : AbstractState) (me : ℕ) (seen : Word) (call : WordCall) (registered : Registration) (back : AfterWalk) (stage : Stage) (events : List Event)
    → IsUnder needs call registered back stage events → IsBlockedAt needs abstract me seen stage → events ≡ []
none-named needs abstract me seen call registered back (Take Tries) events under stalled = absurd stalled
none-named needs abstract me seen call registered back (Take Awaits) events under stalled = under.1
none-named needs abstract me seen call registered back (Take (Gives request)) events under stalled = under.2
none-named needs abstract me seen call registered back FlagLoad events under stalled = none-leaving call registered back events under
none-named needs abstract me seen call registered back (FlagExchange old) events under stalled = none-leaving call registered back events under
none-named needs abstract me seen call registered back PoisonLoad events under stalled = under.2
none-named needs abstract me seen call registered back (PoisonExchange old) events under stalled = under.2
none-named needs abstract me seen call registered back stage events under stalled = absurd stalled

-- and it is in a call
held-in : (needs : Needs) (trace : Trace) (places me : ℕ) (seen : Word) (underway : Option PendingCall) (place : Place) → Configuration trace me seen place.registration
    → IsIn needs underway place → IsFresh underway place.stage → is_quiet place.stage ≡ false → IsLocallyTrue needs place.registration place.back place.stage
    → IsBlockedAt needs trace.state me seen place.stage
    → (u : PendingCall) × (underway ≡ Some u) × (u.events ≡ []) × IsBlocked trace places me seen (word_at (operation_of needs places me place.stage)) u.held u.call
held-in needs trace places me seen None place m is fresh busy alone stalled = absurd (not-quiet place.stage busy is)
held-in needs trace places me seen (Some underway) place m is fresh busy alone stalled = (
  underway,
  refl,
  none-named needs trace.state me seen underway.call underway.registered place.back place.stage underway.events is stalled,
  held-up needs trace places me seen place.registration m underway.call underway.registered place.back place.stage underway.events is alone stalled underway.held fresh,
)

-- nobody holds the flag where it waits
waits-free : (needs : Needs) (abstract : AbstractState) (me : ℕ) (seen : Word) (stage : Stage) → IsBlockedAt needs abstract me seen stage → is_holder stage ≡ false
waits-free needs abstract me seen Quiet stalled = refl
waits-free needs abstract me seen (ReadLoad reading) stalled = refl
waits-free needs abstract me seen (AcquireLoad ask) stalled = refl
waits-free needs abstract me seen (AcquireExchange ask old) stalled = refl
waits-free needs abstract me seen (Prepare request old) stalled = refl
waits-free needs abstract me seen (Join request old) stalled = refl
waits-free needs abstract me seen (ReleaseLoad given) stalled = refl
waits-free needs abstract me seen (ReleaseExchange given old) stalled = refl
waits-free needs abstract me seen (Take taking) stalled = refl
waits-free needs abstract me seen FlagLoad stalled = refl
waits-free needs abstract me seen (FlagExchange old) stalled = refl
waits-free needs abstract me seen PoisonLoad stalled = refl
waits-free needs abstract me seen (PoisonExchange old) stalled = refl
waits-free needs abstract me seen Clear stalled = refl
waits-free needs abstract me seen stage stalled = absurd stalled

-- a place that waits has no answer to show
none-unshown : (needs : Needs) (abstract : AbstractState) (me : ℕ) (seen : Word) (unshown : List (ℕ × ℕ)) (answer_value : ℕ) (stage : Stage) → IsBlockedAt needs abstract me seen stage
    → IsShowing unshown answer_value stage → unshown ≡ []
none-unshown needs abstract me seen unshown answer_value (Take taking) stalled showing = showing
none-unshown needs abstract me seen unshown answer_value FlagLoad stalled showing = showing
none-unshown needs abstract me seen unshown answer_value (FlagExchange old) stalled showing = showing
none-unshown needs abstract me seen unshown answer_value PoisonLoad stalled showing = showing
none-unshown needs abstract me seen unshown answer_value (PoisonExchange old) stalled showing = showing
none-unshown needs abstract me seen unshown answer_value stage stalled showing = absurd stalled

pub waiting : (state : State) (trace : Trace) (me : ℕ) → me < length state.places → Tracks state trace → is_quiet (place_of state me).stage ≡ false
    → next_of (needs_of state.rules) me (place_of state me) (place_of state me).stage (found_by state (operation_at state me)) ≡ HasToWait
    → IsWaiting state (worked_at state me).machine trace me
waiting state trace me here tracks busy waits =
    let operation : Operation = operation_at state me in
    let s = tracks.refines in
    let only =
    only-stalls (needs_of state.rules) (length state.places) (row_of state) (place_of state) trace.state me here s (place_of state me).stage refl waits in
    let written : written_by operation (found_by state operation) ≡ get_or state.row (word_at operation) 0 =
    sym (updated-at (row_of state) (word_at operation) (written_by operation (found_by state operation))) ∙ ap (λ (r : ℕ → ℕ). r (word_at operation)) only.1 in
    let apart : s.holder == me + 1 ≡ false = sym (s.stages.one me) ∙ waits-free (needs_of state.rules) trace.state me (main_of (row_of state)) (place_of state me).stage only.0 in
    let free : trace.holder ≢ me + 1 = λ mine.
    let wrong : true ≡ false = sym (number_same (me + 1)) ∙ ap (λ (n : ℕ). n == me + 1) (sym (tracks.holder ∙ mine)) ∙ apart in absurd (cc) in
    let some : (main_of (row_of state)).is_flagged ≡ true → trace.holder ≢ 0 = λ set none.
    let wrong : true ≡ false = ap (λ (n : ℕ). n == 0) (sym (tracks.holder ∙ none)) ∙ not-true (s.holder == 0) (sym s.main.flag ∙ set) in absurd (cc) in
    record {
      blocked = held-in (needs_of state.rules) trace (length state.places) me (main_of (row_of state)) (trace.calls me) (place_of state me)
          (record { held = λ set. (some set, free); registered = tracks.registered me }) (tracks.calls me) (tracks.fresh me) busy (s.stages.alone me) only.0;
      free = free;
      clear = λ place granted mine.
          let none : s.unshown me ≡ [] =
          none-unshown (needs_of state.rules) trace.state me (main_of (row_of state)) (s.unshown me) (s.answer_value me) (place_of state me).stage only.0 (s.stages.showing me) in
          let there : is_in place (s.unshown me) ≡ true =
          subst (λ (n : ℕ). is_in place (s.unshown n) ≡ true) mine (s.grants.unshown_by place granted) in
          let wrong : false ≡ true = ap (is_in place) (sym none) ∙ there in absurd (cc);
      row = ap (set state.row (word_at operation)) written ∙ set-get_or state.row (word_at operation) 0;
      places = ap (λ (n : Next). set state.places me (place_after (place_of state me) n)) waits ∙ set-get_or state.places me idle_place;
    }

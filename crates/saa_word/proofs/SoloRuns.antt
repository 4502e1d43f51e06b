-- A solo run ends, with the answer of the sequential object.
use Rattle.std.proofs.Common.{◌≡◌, ℕ, zero, suc, ◌+◌, ◌-◌, ◌≤◌, take, ◌∷◌, ◌++◌, ◌<◌, Bool, true, false, List, [], length, replicate, get_or, append_assoc, arith, Option, Some, None, refl, sym, subst, ap, ◌∙◌}
use Rattle.std.specs.Prelude.{All, slice_index}
use Rattle.std.proofs.lemmas.List.{length-replicate, take_at}
use Rattle.saa_word_steps.specs.declared.call.Answer.{Answer}
use Rattle.saa_word_steps.specs.declared.call.WordCall.{WordCall}
use Rattle.saa_word_steps.specs.declared.call.WordCall.TheVariants.{Poll}
use Rattle.saa_word_steps.specs.declared.place.Place.{Place}
use Rattle.saa_word_steps.specs.declared.place.Next.{Next}
use Rattle.saa_word_steps.specs.declared.place.Next.TheVariants.{Going as GoesOn, Waits as HasToWait, Done as IsDone}
use Rattle.saa_word_steps.specs.declared.rules.Rules.{Rules}
use Rattle.saa_word_steps.specs.declared.event.Event.{Event}
use Rattle.saa_word_steps.specs.declared.place.Registration.{Registration}
use Rattle.saa_word_steps.specs.Needs.{Needs, needs_of}
use Rattle.saa_word_steps.specs.AbstractState.{AbstractState, held_by, is_in}
use Rattle.saa_word_steps.proofs.AbstractRuns.{waits-some}
use Rattle.saa_core_spec.specs.Object.{Object, one_if}
use Rattle.saa_word_steps.specs.declared.place.Registration.TheVariants.{Idle as IsIdle, AnsweredAtOnce, Queued}
use Rattle.saa_word_steps.specs.declared.place.PollMode.TheVariants.{Awaits}
use Rattle.saa_word_proofs.specs.Registering.{is_slot}
use Rattle.saa_word_proofs.proofs.SoloLemmas.Ends.{left-waiting}
use Rattle.saa_word_steps.specs.Steps.{polled_as, started}
use Rattle.saa_word_steps.specs.Readings.{is_taken}
use Rattle.saa_word_proofs.specs.CallStages.{IsUnder}
use Rattle.saa_word_proofs.specs.History.{named}
use Rattle.saa_word_proofs.proofs.RefinementLemmas.Lists.{updated-at}
use Rattle.saa_word_proofs.specs.Alone.{PlacesRepresent, Configuration, IsCalledAlone, IsDoneIn, IsEither, next_at, put, stepped}
use Rattle.saa_word.specs.declared.moves.Move.TheVariants.{Start, Go}
use Rattle.saa_word.specs.declared.moves.Step.{Step}
use Rattle.saa_word.specs.declared.moves.Move.{Move}
use Rattle.saa_word.specs.declared.moves.Step.TheVariants.{Idle, Going, Waits, Done}
use Rattle.saa_word_steps.specs.declared.place.Stage.TheVariants.{Quiet}
use Rattle.saa_word_proofs.specs.Rows.{main_of}
use Rattle.saa_word_proofs.specs.Promises.{WordsShow}
use Rattle.saa_word_proofs.specs.Represents.{Represents, called as called_by}
use Rattle.saa_word_proofs.proofs.RefinementLemmas.Lists.{all-same}
use Rattle.saa_word_proofs.proofs.RefinementLemmas.Promises.{says-so}
use Rattle.saa_word_proofs.proofs.SoloLemmas.Books.{mirrored, represents-same}
use Rattle.saa_word.specs.Machine.{IsMove, State, is_lock, place_in, place_of, row_of}
use Rattle.saa_word.specs.Moves.{gone, is_quiet, step_of}
use Rattle.saa_word.specs.Runs.{ran}
use Rattle.saa_word.specs.Trace.{IsQuiescent, Trace, PendingCall}
use Rattle.saa_word.specs.Tracks.{IsIn, Tracks}
use Rattle.saa_word.specs.Simulation.{IsWaiting, SimulatesAll, WaitsRightly, call_after, holds_after, trace_after}
use Rattle.saa_word.specs.Solo.{IsAnsweredAlone, IsSolo, solo_moves}
use Rattle.saa_word.proofs.Keeping.{gone-places, gone-rules, quiet-stage}
use Rattle.saa_word.proofs.Tracking.{rests, simulates}
use Rattle.saa_word.proofs.Histories.{ran-places, ran-rules, simulates-all}
use Rattle.saa_word.proofs.Solo.{agrees-alone, all-quiet, begins-alone, ends-alone, goes-alone, moment_of}

-- a place in a call is in the middle of it
in-middle : (needs : Needs) (place : Place) (underway : Option PendingCall) (u : PendingCall) → underway ≡ Some u → IsIn needs underway place → is_quiet place.stage ≡ false
in-middle needs place None u same is = absurd (cc)
in-middle needs place (Some underway) u same is = by-test (is_quiet place.stage) refl
  where
    by-test : (test : Bool) → is_quiet place.stage ≡ test → is_quiet place.stage ≡ false
    by-test false is_not = is_not
    by-test true quiet = absurd (subst (λ stage. IsUnder needs underway.call underway.registered place.back stage underway.events) (quiet-stage place.stage quiet) is)

-- the call that a place is in behind a step that goes on
goes-call : (underway : Option PendingCall) (u : PendingCall) (registered : Registration) (holds : Bool) (me : ℕ) (events : List Event) (step : Step) → underway ≡ Some u → step ≡ Going
    → (now : PendingCall) × (call_after registered holds underway (Go me) events step ≡ Some now)
goes-call None u registered holds me events step same goes = absurd (cc)
goes-call (Some underway) u registered holds me events step same goes =
    (_, ap (call_after registered holds (Some underway) (Go me) events) goes)

-- steps that are done, as moves: all but the last go on
abbrev IsRan : ℕ → State → ℕ → Answer → Configuration → Type 0
IsRan more state me answer last =
    ((ran state (replicate (suc more) (Go me))).steps ≡ replicate more Going ++ Done answer ∷ [])
    × (moment_of (ran state (replicate (suc more) (Go me))).machine ≡ last)

-- how a place goes on at a moment of a machine, with so many steps to come
abbrev IsOnward : ℕ → State → ℕ → Answer → Configuration → Next → Type 0
IsOnward more state me answer last next =
    IsEither next (IsDoneIn (needs_of state.rules) (length state.places) me more (stepped (needs_of state.rules) (length state.places) me (moment_of state)) answer last)
    (λ said. (more ≡ 0) × (said ≡ answer) × (stepped (needs_of state.rules) (length state.places) me (moment_of state) ≡ last))

goes-as : (state : State) (trace : Trace) (me : ℕ) (u : PendingCall) → Tracks state trace → me < length state.places → trace.calls me ≡ Some u
    → (moment_of (gone state (Go me)).machine ≡ stepped (needs_of state.rules) (length state.places) me (moment_of state))
    × ((gone state (Go me)).step ≡ step_of (next_at (needs_of state.rules) (length state.places) me (moment_of state)))
goes-as state trace me u tracks here calls =
    goes-alone state trace me tracks here (in-middle (needs_of state.rules) (place_of state me) (trace.calls me) u calls (tracks.calls me))

-- the last step
last-ran : (state : State) (trace : Trace) (me : ℕ) (u : PendingCall) (answer : Answer) (last : Configuration) → Tracks state trace → me < length state.places
    → trace.calls me ≡ Some u → (next : Next) → next_at (needs_of state.rules) (length state.places) me (moment_of state) ≡ next
    → IsOnward 0 state me answer last next → IsRan 0 state me answer last
last-ran state trace me u answer last tracks here calls HasToWait is done = absurd done
last-ran state trace me u answer last tracks here calls (GoesOn place) is done = absurd done
last-ran state trace me u answer last tracks here calls (IsDone place said) is done =
    let goes = goes-as state trace me u tracks here calls in
    ((λ i. (goes.1 ∙ ap step_of is ∙ ap Done done.1) i ∷ []), goes.0 ∙ done.2)

-- a step before the last one, where what comes behind it is known
next-ran : (more : ℕ) (state : State) (trace : Trace) (me : ℕ) (u : PendingCall) (answer : Answer) (last : Configuration) → Tracks state trace → me < length state.places
    → trace.calls me ≡ Some u
    → ((machine : State) (after : Trace) (v : PendingCall) → Tracks machine after → me < length machine.places → after.calls me ≡ Some v
    → IsDoneIn (needs_of machine.rules) (length machine.places) me (suc more) (moment_of machine) answer last → IsRan more machine me answer last)
    → (next : Next) → next_at (needs_of state.rules) (length state.places) me (moment_of state) ≡ next
    → IsOnward (suc more) state me answer last next → IsRan (suc more) state me answer last
next-ran more state trace me u answer last tracks here calls further HasToWait is done = absurd done
next-ran more state trace me u answer last tracks here calls further (GoesOn place) is done =
    let goes = goes-as state trace me u tracks here calls in
    let machine : State = (gone state (Go me)).machine in
    let one = simulates state (Go me) trace here tracks in
    let after : Trace = trace_after state (Go me) (gone state (Go me)) trace one.events one.last in
    let step : (gone state (Go me)).step ≡ Going = goes.1 ∙ ap step_of is in
    let call = goes-call (trace.calls me) u (trace.registered me) (holds_after state (Go me) (gone state (Go me)) trace) me (named one.events) (gone state (Go me)).step calls step in
    let rest = further machine after call.0 one.tracks (subst (λ n. me < n) (sym (gone-places state (Go me))) here)
    (updated-at trace.calls me (call_after (trace.registered me) (holds_after state (Go me) (gone state (Go me)) trace) (trace.calls me) (Go me) (named one.events) (gone state (Go me)).step) ∙ call.1)
    (subst (λ n. IsDoneIn (needs_of machine.rules) n me (suc more) (moment_of machine) answer last) (sym (gone-places state (Go me)))
    (subst (λ (r : Rules). IsDoneIn (needs_of r) (length state.places) me (suc more) (moment_of machine) answer last) (sym (gone-rules state (Go me)))
    (subst (λ (m : Configuration). IsDoneIn (needs_of state.rules) (length state.places) me (suc more) m answer last) (sym goes.0) done))) in
    ((λ i. step i ∷ rest.0 i), rest.1)
next-ran more state trace me u answer last tracks here calls further (IsDone place said) is done = (let wrong : suc more ≡ 0 = done.0 in absurd (cc))

done-ran : (more : ℕ) (state : State) (trace : Trace) (me : ℕ) (u : PendingCall) (answer : Answer) (last : Configuration) → Tracks state trace → me < length state.places
    → trace.calls me ≡ Some u → IsDoneIn (needs_of state.rules) (length state.places) me (suc more) (moment_of state) answer last → IsRan more state me answer last
done-ran zero state trace me u answer last tracks here calls done =
    last-ran state trace me u answer last tracks here calls (next_at (needs_of state.rules) (length state.places) me (moment_of state)) refl done
done-ran (suc more) state trace me u answer last tracks here calls done =
    next-ran more state trace me u answer last tracks here calls
    (λ machine after v then_tracks then_here then_calls then_done. done-ran more machine after me v answer last then_tracks then_here then_calls then_done)
    (next_at (needs_of state.rules) (length state.places) me (moment_of state)) refl done

-- a call that starts
begun-call : (registered : Registration) (holds : Bool) (underway : Option PendingCall) (me : ℕ) (call : WordCall) (events : List Event) (step : Step) → step ≡ Going
    → (now : PendingCall) × (call_after registered holds underway (Start me call) events step ≡ Some now)
begun-call registered holds underway me call events step goes = (_, ap (call_after registered holds underway (Start me call) events) goes)

-- A solo run
pub called-ran : (state : State) (trace : Trace) (me : ℕ) (call : WordCall) (goes : ℕ) (answer : Answer) (last : Configuration) → Tracks state trace
    → IsQuiescent trace → me < length state.places → is_taken (is_lock state) call ≡ true
    → IsCalledAlone (needs_of state.rules) (length state.places) me call goes (moment_of state) answer last
    → ((ran state (solo_moves me call goes)).steps ≡ replicate goes Going ++ Done answer ∷ []) × (moment_of (ran state (solo_moves me call goes)).machine ≡ last)
called-ran state trace me call goes answer last tracks rests here taken called =
    by-start goes (started (needs_of state.rules) (place_of state me) call) refl called
  where
    begins : (moment_of (gone state (Start me call)).machine ≡ put me (started (needs_of state.rules) (place_of state me) call) (moment_of state))
        × ((gone state (Start me call)).step ≡ step_of (started (needs_of state.rules) (place_of state me) call))
    begins = begins-alone state me call here (ap is_quiet (all-quiet state trace tracks rests me))

    by-start : (goes : ℕ) (next : Next) → started (needs_of state.rules) (place_of state me) call ≡ next
        → IsEither next (IsDoneIn (needs_of state.rules) (length state.places) me goes (put me (started (needs_of state.rules) (place_of state me) call) (moment_of state)) answer last)
        (λ said. (goes ≡ 0) × (said ≡ answer) × (put me (started (needs_of state.rules) (place_of state me) call) (moment_of state) ≡ last))
        → ((ran state (solo_moves me call goes)).steps ≡ replicate goes Going ++ Done answer ∷ []) × (moment_of (ran state (solo_moves me call goes)).machine ≡ last)
    by-start goes HasToWait is called = absurd called
    by-start zero (GoesOn place) is called = absurd called
    by-start (suc more) (GoesOn place) is called =
        let machine : State = (gone state (Start me call)).machine in
        let one = simulates state (Start me call) trace (here, taken) tracks in
        let after : Trace = trace_after state (Start me call) (gone state (Start me call)) trace one.events one.last in
        let step : (gone state (Start me call)).step ≡ Going = begins.1 ∙ ap step_of is in
        let now = begun-call (trace.registered me) (holds_after state (Start me call) (gone state (Start me call)) trace) (trace.calls me) me call (named one.events) (gone state (Start me call)).step step in
        let rest = done-ran more machine after me now.0 answer last one.tracks
        (subst (λ n. me < n) (sym (gone-places state (Start me call))) here) (updated-at trace.calls me (call_after (trace.registered me) (holds_after state (Start me call) (gone state (Start me call)) trace) (trace.calls me) (Start me call) (named one.events) (gone state (Start me call)).step) ∙ now.1)
        (subst (λ n. IsDoneIn (needs_of machine.rules) n me (suc more) (moment_of machine) answer last) (sym (gone-places state (Start me call)))
        (subst (λ (r : Rules). IsDoneIn (needs_of r) (length state.places) me (suc more) (moment_of machine) answer last) (sym (gone-rules state (Start me call)))
        (subst (λ (m : Configuration). IsDoneIn (needs_of state.rules) (length state.places) me (suc more) m answer last) (sym begins.0) called))) in
        ((λ i. step i ∷ rest.0 i), rest.1)
    by-start zero (IsDone place said) is called = ((λ i. (begins.1 ∙ ap step_of is ∙ ap Done called.1) i ∷ []), begins.0 ∙ called.2)
    by-start (suc more) (IsDone place said) is called = (let wrong : suc more ≡ 0 = called.0 in absurd (cc))

-- Moves behind moves

pub ran-both : (state : State) (front rest : List Move)
    → ((ran state (front ++ rest)).steps ≡ (ran state front).steps ++ (ran (ran state front).machine rest).steps)
    × ((ran state (front ++ rest)).machine ≡ (ran (ran state front).machine rest).machine)
ran-both state [] rest = (refl, refl)
ran-both state (move ∷ front) rest =
    let behind = ran-both (gone state move).machine front rest in
    (ap (λ (l : List Step). (gone state move).step ∷ l) behind.0, behind.1)

-- a place in no call does nothing
ran-idle : (idle : ℕ) (state : State) (me : ℕ) → is_quiet (place_of state me).stage ≡ true
    → ((ran state (replicate idle (Go me))).steps ≡ replicate idle Idle) × ((ran state (replicate idle (Go me))).machine ≡ state)
ran-idle zero state me quiet = (refl, refl)
ran-idle (suc more) state me quiet =
    let here : gone state (Go me) ≡ record { step = Idle; machine = state } = rw quiet refl in
    let rest = ran-idle more state me quiet in (
      (λ i. (here i).step ∷ (ran (here i).machine (replicate more (Go me))).steps) ∙ ap (λ (l : List Step). Idle ∷ l) rest.0,
      (λ i. (ran (here i).machine (replicate more (Go me))).machine) ∙ rest.1,
    )

-- so many and so many more
replicate-both : {A : Type 0} (many more : ℕ) (one : A) → replicate (many + more) one ≡ replicate many one ++ replicate more one
replicate-both zero more one = ap (λ (n : ℕ). replicate n one) (let none : 0 + more ≡ more = omega arith in none)
replicate-both (suc many) more one =
    ap (λ (n : ℕ). replicate n one) (let next : suc many + more ≡ suc (many + more) = omega arith in next)
    ∙ ap (λ (l : List _). one ∷ l) (replicate-both many more one)

-- those first of so many, and how many moves are answered
take-replicate : {A : Type 0} (bounded many : ℕ) (one : A) (rest : List A) → bounded ≤ many → take bounded (replicate many one ++ rest) ≡ replicate bounded one
take-replicate zero many one rest within = refl
take-replicate (suc bounded) zero one rest within = absurd (omega (arith, within))
take-replicate (suc bounded) (suc many) one rest within = ap (λ (l : List _). one ∷ l) (take-replicate bounded many one rest (omega (arith, within)))

length-ran : (state : State) (moves : List Move) → length (ran state moves).steps ≡ length moves
length-ran state [] = refl
length-ran state (move ∷ moves) = ap suc (length-ran (gone state move).machine moves)

-- each move of a solo run is one of the machine
solo-moves : (state : State) (me : ℕ) (call : WordCall) (goes : ℕ) → me < length state.places → is_taken (is_lock state) call ≡ true
    → All (IsMove (is_lock state) (length state.places)) (solo_moves me call goes)
solo-moves state me call goes here taken zero d inside = (here, taken)
solo-moves state me call goes here taken (suc k) d inside = each-go goes k d (omega (arith, inside))
  where
    each-go : (goes k : ℕ) (d : Move) → k < length {A = Move} (replicate goes (Go me)) → IsMove (is_lock state) (length state.places) (get_or (replicate goes (Go me)) k d)
    each-go zero k d inside = absurd (omega (arith, inside))
    each-go (suc goes) zero d inside = here
    each-go (suc goes) (suc k) d inside = each-go goes k d (omega (arith, inside))

-- a place that is quiet is in no call
quiet-none : (needs : Needs) (underway : Option PendingCall) (place : Place) → place.stage ≡ Quiet → IsIn needs underway place → underway ≡ None
quiet-none needs None place quiet is = refl
quiet-none needs (Some underway) place quiet is =
    absurd (subst (λ stage. IsUnder needs underway.call underway.registered place.back stage underway.events) quiet is)

-- what places are registered as is what the trace says
registered-same : (state : State) (trace : Trace) → Tracks state trace → (λ place. (place_of state place).registration) ≡ trace.registered
registered-same state trace tracks = all-same (λ place. (place_of state place).registration) trace.registered tracks.registered

-- a solo run whose call is done, with more moves behind it
ended-solo : (state : State) (trace : Trace) (me : ℕ) (call : WordCall) (needed idle : ℕ) (answer : Answer) (last : Configuration) → Tracks state trace → IsQuiescent trace
    → me < length state.places → is_taken (is_lock state) call ≡ true
    → IsCalledAlone (needs_of state.rules) (length state.places) me call needed (moment_of state) answer last
    → IsAnsweredAlone state trace me call needed idle (ran state (solo_moves me call (needed + idle))).steps (ran state (solo_moves me call (needed + idle))).machine
ended-solo state trace me call needed idle answer last tracks quiescent here taken called =
    let needs : Needs = needs_of state.rules in
    let front = called-ran state trace me call needed answer last tracks quiescent here taken called in
    let early : State = (ran state (solo_moves me call needed)).machine in
    let after : State = (ran state (solo_moves me call (needed + idle))).machine in
    let object = mirrored needs (length state.places) (place_of state) trace.state in
    let one = agrees-alone state trace me true call object.0 needed answer last tracks quiescent here taken object.1 called in
    let early_quiet : (place : ℕ) → (place_of early place).stage ≡ Quiet =
    λ place. ap (λ (m : Configuration). (m.standing place).stage) front.1 ∙ one.quiet place in
    let idles = ran-idle idle early me (ap is_quiet (early_quiet me)) in
    let split : solo_moves me call (needed + idle) ≡ solo_moves me call needed ++ replicate idle (Go me) =
    ap (λ (l : List Move). Start me call ∷ l) (replicate-both needed idle (Go me)) in
    let both = ran-both state (solo_moves me call needed) (replicate idle (Go me)) in
    let after_is : after ≡ early = ap (λ (l : List Move). (ran state l).machine) split ∙ both.1 ∙ idles.1 in
    let moment_is : moment_of after ≡ last = ap moment_of after_is ∙ front.1 in
    let simulates : SimulatesAll state (solo_moves me call (needed + idle)) (ran state (solo_moves me call (needed + idle))).steps after trace =
    simulates-all state (solo_moves me call (needed + idle)) trace (solo-moves state me call (needed + idle) here taken) tracks in
    let then : Tracks after simulates.last = simulates.tracks in
    let quiet : (place : ℕ) → (place_of after place).stage ≡ Quiet =
    λ place. ap (λ (m : Configuration). (m.standing place).stage) moment_is ∙ one.quiet place in
    let none : IsQuiescent simulates.last =
    λ place. quiet-none (needs_of after.rules) (simulates.last.calls place) (place_of after place) (quiet place) (then.calls place) in
    record {
      answer = answer;
      replies = ap (λ (l : List Move). (ran state l).steps) split ∙ both.0 ∙ ap (λ (l : List Step). l ++ (ran early (replicate idle (Go me))).steps) front.0
          ∙ ap (λ (l : List Step). (replicate needed Going ++ Done answer ∷ []) ++ l) idles.0
          ∙ append_assoc (replicate needed Going) (Done answer ∷ []) (replicate idle Idle);
      simulates = simulates;
      quiescent = none;
      agrees = λ is_sync s represented.
          let mirrors : PlacesRepresent needs (length state.places) (place_of state) trace.state s =
          subst (λ (r : ℕ → Registration). Represents needs (length state.places) r trace.state s) (sym (registered-same state trace tracks)) represented in
          let a = agrees-alone state trace me is_sync call s needed answer last tracks quiescent here taken mirrors called in
          let ended : Object = (called_by (is_lock state) me is_sync call s).state in
          let rules_are : after.rules ≡ state.rules = ran-rules state (solo_moves me call (needed + idle)) in
          let places_are : length after.places ≡ length state.places = ran-places state (solo_moves me call (needed + idle)) in
          let now : Tracks after simulates.last = then in
          let shows : WordsShow needs (length state.places) (row_of after) a.state =
          subst (λ (m : Configuration). WordsShow needs (length state.places) m.row a.state) (sym moment_is)
          (says-so needs (length state.places) last.row last.standing a.state a.invariant) in
          let also : WordsShow needs (length state.places) (row_of after) simulates.last.state =
          subst (λ (r : Rules). WordsShow (needs_of r) (length state.places) (row_of after) simulates.last.state) rules_are
          (subst (λ n. WordsShow (needs_of after.rules) n (row_of after) simulates.last.state) places_are
          (says-so (needs_of after.rules) (length after.places) (row_of after) (place_of after) simulates.last.state now.refines)) in
          let clear : (main_of (row_of after)).is_flagged ≡ false = (rests after simulates.last now none).clear in
          let standing : Represents needs (length state.places) (λ place. (place_of after place).registration) a.state ended =
          subst (λ (m : Configuration). Represents needs (length state.places) (λ place. (m.standing place).registration) a.state ended) (sym moment_is) a.mirrors in
          let registered : Represents needs (length state.places) simulates.last.registered a.state ended =
          subst (λ (r : ℕ → Registration). Represents needs (length state.places) r a.state ended) (registered-same after simulates.last now) standing in
          let shown : Represents needs (length state.places) simulates.last.registered simulates.last.state ended =
          represents-same needs (length state.places) (row_of after) simulates.last.registered a.state simulates.last.state ended clear shows also registered in (
            a.same,
            subst (λ (r : Rules). Represents (needs_of r) (length after.places) simulates.last.registered simulates.last.state ended) (sym rules_are)
                (subst (λ n. Represents needs n simulates.last.registered simulates.last.state ended) (sym places_are) shown),
          );
    }

-- a solo run with fewer steps than it needs
begun-solo : (state : State) (trace : Trace) (me : ℕ) (call : WordCall) (needed goes : ℕ) (answer : Answer) (last : Configuration) → Tracks state trace → IsQuiescent trace
    → me < length state.places → is_taken (is_lock state) call ≡ true
    → IsCalledAlone (needs_of state.rules) (length state.places) me call needed (moment_of state) answer last → goes < needed
    → (ran state (solo_moves me call goes)).steps ≡ replicate (goes + 1) Going
begun-solo state trace me call needed goes answer last tracks quiescent here taken called within =
    let front = called-ran state trace me call needed answer last tracks quiescent here taken called in
    let more : ℕ = needed - goes in
    let split : solo_moves me call needed ≡ solo_moves me call goes ++ replicate more (Go me) =
    ap (λ (n : ℕ). solo_moves me call n) (let all : needed ≡ goes + more = omega (arith, within) in all)
    ∙ ap (λ (l : List Move). Start me call ∷ l) (replicate-both goes more (Go me)) in
    let both = ran-both state (solo_moves me call goes) (replicate more (Go me)) in
    let bounded : length {A = Move} (replicate goes (Go me)) ≡ goes = length-replicate goes (Go me) in
    let many : length (ran state (solo_moves me call goes)).steps ≡ goes + 1 = omega (arith, length-ran state (solo_moves me call goes), bounded) in
    sym (take_at (ran state (solo_moves me call goes)).steps (ran (ran state (solo_moves me call goes)).machine (replicate more (Go me))).steps (goes + 1) many)
    ∙ ap (take (goes + 1)) (sym (ap (λ (l : List Move). (ran state l).steps) split ∙ both.0) ∙ front.0)
    ∙ take-replicate (goes + 1) needed Going (Done answer ∷ []) (omega (arith, within))

pub solo : (state : State) (trace : Trace) (me goes : ℕ) (call : WordCall) → Tracks state trace → IsQuiescent trace → me < length state.places
    → is_taken (is_lock state) call ≡ true → (call ≡ Poll → is_in me trace.state.line ≡ false)
    → IsSolo state trace me call goes (ran state (solo_moves me call goes)).steps (ran state (solo_moves me call goes)).machine
solo state trace me goes call tracks quiescent here taken absent =
    let e = ends-alone state trace me call tracks quiescent here taken absent in
    record {
      needed = e.steps;
      bounded = e.bounded;
      before = begun-solo state trace me call e.steps goes e.answer e.last tracks quiescent here taken e.called;
      ends = λ idle is.
          subst (λ n. IsAnsweredAlone state trace me call e.steps idle (ran state (solo_moves me call n)).steps (ran state (solo_moves me call n)).machine) (sym is)
          (ended-solo state trace me call e.steps idle e.answer e.last tracks quiescent here taken e.called);
    }

-- A poll of a place in the line waits

polls-going : (place : Place) (registration : Registration) → is_slot registration ≡ true → step_of (polled_as place Awaits registration) ≡ Going
polls-going place IsIdle slot = absurd (cc)
polls-going place (AnsweredAtOnce value request) slot = absurd (cc)
polls-going place (Queued request) slot = refl

in-slot : (abstract : AbstractState) (me : ℕ) (slot : Bool) → held_by me abstract ≡ one_if slot → is_in me abstract.line ≡ true → slot ≡ true
in-slot abstract me true held there = refl
in-slot abstract me false held there =
    let none : held_by me abstract ≡ 0 = held in absurd (omega (arith, none, waits-some me abstract.line there))

-- the call that a place is in behind a step that waits
waits-call : (underway : Option PendingCall) (u : PendingCall) (registered : Registration) (holds : Bool) (me : ℕ) (events : List Event) (step : Step) → underway ≡ Some u → step ≡ Waits
    → call_after registered holds underway (Go me) events step ≡ Some u
waits-call None u registered holds me events step same waits = absurd (cc)
waits-call (Some underway) u registered holds me events step same waits =
    ap (call_after registered holds (Some underway) (Go me) events) waits ∙ same

-- a place that waits leaves the moment as it was
same-moment : (state after : State) → after.row ≡ state.row → after.places ≡ state.places → moment_of after ≡ moment_of state
same-moment state after row places =
    λ i. record { row = λ index. slice_index (row i) index; standing = λ me. place_in (places i) me }

-- so it waits again, as often as it moves while no other place does
waits-on : (goes : ℕ) (state : State) (trace : Trace) (me : ℕ) (u : PendingCall) → Tracks state trace → me < length state.places → trace.calls me ≡ Some u
    → next_at (needs_of state.rules) (length state.places) me (moment_of state) ≡ HasToWait → (ran state (replicate goes (Go me))).steps ≡ replicate goes Waits
waits-on zero state trace me u tracks here calls waits = refl
waits-on (suc more) state trace me u tracks here calls waits =
    let goes = goes-as state trace me u tracks here calls in
    let step : (gone state (Go me)).step ≡ Waits = goes.1 ∙ ap step_of waits in
    let machine : State = (gone state (Go me)).machine in
    let one = simulates state (Go me) trace here tracks in
    let after : Trace = trace_after state (Go me) (gone state (Go me)) trace one.events one.last in
    let waiting : IsWaiting state machine trace me = subst (λ (s : Step). WaitsRightly state machine trace (Go me) s) step one.waits in
    let next : next_at (needs_of machine.rules) (length machine.places) me (moment_of machine) ≡ HasToWait =
    (λ i. next_at (needs_of (one.rules i)) (one.places i) me (same-moment state machine waiting.row waiting.places i)) ∙ waits in
    let rest = waits-on more machine after me u one.tracks (subst (λ n. me < n) (sym one.places) here)
    (updated-at trace.calls me (call_after (trace.registered me) (holds_after state (Go me) (gone state (Go me)) trace) (trace.calls me) (Go me) (named one.events) (gone state (Go me)).step)
    ∙ waits-call (trace.calls me) u (trace.registered me) (holds_after state (Go me) (gone state (Go me)) trace) me (named one.events) (gone state (Go me)).step calls step) next in
    λ i. step i ∷ rest i

pub poll-waits : (state : State) (trace : Trace) (me goes : ℕ) → Tracks state trace → IsQuiescent trace → me < length state.places → is_in me trace.state.line ≡ true
    → (ran state (solo_moves me Poll goes)).steps ≡ Going ∷ replicate goes Waits
poll-waits state trace me goes tracks quiescent here there =
    let needs : Needs = needs_of state.rules in
    let waiting = left-waiting needs (length state.places) me (moment_of state) trace.state tracks.refines here there in
    let begins = begins-alone state me Poll here (ap is_quiet (all-quiet state trace tracks quiescent me)) in
    let slot : is_slot (place_of state me).registration ≡ true =
    in-slot trace.state me (is_slot (place_of state me).registration) (tracks.refines.seats.held me) there in
    let step : (gone state (Start me Poll)).step ≡ Going = begins.1 ∙ polls-going (place_of state me) (place_of state me).registration slot in
    let machine : State = (gone state (Start me Poll)).machine in
    let one = simulates state (Start me Poll) trace (here, refl) tracks in
    let after : Trace = trace_after state (Start me Poll) (gone state (Start me Poll)) trace one.events one.last in
    let now = begun-call (trace.registered me) (holds_after state (Start me Poll) (gone state (Start me Poll)) trace) (trace.calls me) me Poll (named one.events) (gone state (Start me Poll)).step step in
    let next : next_at (needs_of machine.rules) (length machine.places) me (moment_of machine) ≡ HasToWait =
    (λ i. next_at (needs_of (gone-rules state (Start me Poll) i)) (gone-places state (Start me Poll) i) me (begins.0 i)) ∙ waiting.0 in
    let rest = waits-on goes machine after me now.0 one.tracks (subst (λ n. me < n) (sym (gone-places state (Start me Poll))) here)
    (updated-at trace.calls me (call_after (trace.registered me) (holds_after state (Start me Poll) (gone state (Start me Poll)) trace) (trace.calls me) (Start me Poll) (named one.events) (gone state (Start me Poll)).step) ∙ now.1) next in
    λ i. step i ∷ rest i

-- The same of moves that were answered so, and left this machine

first-move : (state : State) (moves : List Move) (me goes : ℕ) (call : WordCall) → moves ≡ solo_moves me call goes → All (IsMove (is_lock state) (length state.places)) moves
    → (me < length state.places) × (is_taken (is_lock state) call ≡ true)
first-move state moves me goes call same are =
    subst (λ (l : List Move). All (IsMove (is_lock state) (length state.places)) l) same are 0 (Start me call) (omega arith)

pub solo-as : (state after : State) (moves : List Move) (steps : List Step) (trace : Trace) (me goes : ℕ) (call : WordCall) → steps ≡ (ran state moves).steps
    → after ≡ (ran state moves).machine → All (IsMove (is_lock state) (length state.places)) moves → Tracks state trace → IsQuiescent trace → moves ≡ solo_moves me call goes
    → (call ≡ Poll → is_in me trace.state.line ≡ false) → IsSolo state trace me call goes steps after
solo-as state after moves steps trace me goes call steps_are after_is are tracks quiescent same absent =
    let first = first-move state moves me goes call same are in
    subst (λ (l : List Step). IsSolo state trace me call goes l after) (sym (steps_are ∙ ap (λ (l : List Move). (ran state l).steps) same))
    (subst (λ (s : State). IsSolo state trace me call goes (ran state (solo_moves me call goes)).steps s)
    (sym (after_is ∙ ap (λ (l : List Move). (ran state l).machine) same))
    (solo state trace me goes call tracks quiescent first.0 first.1 absent))

pub poll-waits-as : (state : State) (moves : List Move) (steps : List Step) (trace : Trace) (me goes : ℕ) → steps ≡ (ran state moves).steps
    → All (IsMove (is_lock state) (length state.places)) moves → Tracks state trace → IsQuiescent trace → moves ≡ solo_moves me Poll goes
    → is_in me trace.state.line ≡ true → steps ≡ Going ∷ replicate goes Waits
poll-waits-as state moves steps trace me goes steps_are are tracks quiescent same there =
    steps_are ∙ ap (λ (l : List Move). (ran state l).steps) same
    ∙ poll-waits state trace me goes tracks quiescent (first-move state moves me goes Poll same are).0 there

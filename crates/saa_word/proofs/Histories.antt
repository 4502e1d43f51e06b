-- A list of moves simulates: each move does, and their events are one run.
use Rattle.std.proofs.Common.{◌≡◌, ℕ, ◌+◌, ◌≤◌, ◌∷◌, ◌++◌, List, [], length, take, drop, suc, refl, sym, subst, ◌∙◌, ap, arith, append-nil, append_assoc}
use Rattle.std.specs.Prelude.{All}
use Rattle.std.proofs.lemmas.List.{drop_all, take_all}
use Rattle.saa_word_steps.specs.declared.event.Event.{Event}
use Rattle.saa_word_steps.specs.declared.rules.Rules.{Rules}
use Rattle.saa_word_steps.specs.AbstractState.{IsRun, opening}
use Rattle.saa_word_steps.specs.Needs.{needs_of}
use Rattle.saa_word_proofs.specs.History.{of_place}
use Rattle.saa_word_proofs.specs.Promises.{WordsShow}
use Rattle.saa_word_proofs.proofs.RefinementLemmas.Promises.{says-so}
use Rattle.saa_word.specs.declared.moves.Move.{Move}
use Rattle.saa_word.specs.declared.moves.Move.TheVariants.{Start, Go}
use Rattle.saa_word.specs.declared.moves.Step.{Step}
use Rattle.saa_word.specs.declared.moves.Step.TheVariants.{Idle, Busy, Going, Waits, Done}
use Rattle.saa_word.specs.Machine.{IsMove, IsOneStep, Moved, State, is_lock, place_of, row_of}
use Rattle.saa_word.specs.Moves.{gone}
use Rattle.saa_word.specs.Runs.{ran}
use Rattle.saa_word.specs.Trace.{Trace}
use Rattle.saa_word.specs.Tracks.{Tracks}
use Rattle.saa_word.specs.Simulation.{AllSimulate, Conserves, SimulatesAll, mover, trace_after}
use Rattle.saa_word.proofs.Keeping.{gone-exact, gone-places, gone-rules}
use Rattle.saa_word.proofs.Tracking.{conserves, run-append, simulates}

-- a machine is a lock behind a move where it was one
gone-lock : (state : State) (move : Move) → is_lock (gone state move).machine ≡ is_lock state
gone-lock state move = ap (λ (r : Rules). (needs_of r).is_lock) (gone-rules state move)

-- what moves are answered, and the machine behind them, with their events and the trace behind those
record Ran (state : State) (moves : List Move) (trace : Trace) : Type 0 where
  events : List (ℕ × Event)
  last : Trace
  each : AllSimulate state trace moves (ran state moves).steps events (ran state moves).machine last

-- each move of a list
all-simulate : (state : State) (moves : List Move) (trace : Trace) → All (IsMove (is_lock state) (length state.places)) moves → Tracks state trace
    → Ran state moves trace
all-simulate state [] trace are tracks = record { events = []; last = trace; each = (refl, refl, refl, refl) }
all-simulate state (move ∷ moves) trace are tracks =
    let one = simulates state move trace (are 0 move (omega arith)) tracks in
    let rest : Ran (gone state move).machine moves (trace_after state move (gone state move) trace one.events one.last) =
    all-simulate (gone state move).machine moves (trace_after state move (gone state move) trace one.events one.last)
    (subst (λ is_lock. All (IsMove is_lock (length (gone state move).machine.places)) moves) (sym (gone-lock state move))
    (subst (λ n. All (IsMove (is_lock state) n) moves) (sym (gone-places state move)) (λ k d inside. are (suc k) d (omega (arith, inside))))) one.tracks in
    record {
      events = of_place (mover move) one.events ++ rest.events;
      last = rest.last;
      each = ((gone state move).machine, one, rest.events, refl, rest.each);
    }

-- what a move did, of which the answer and the machine behind it are known
abbrev did : Step → State → Moved
did step machine = record { step = step; machine = machine }

-- the events of all moves are one run
all-run : (state : State) (trace : Trace) (moves : List Move) (steps : List Step) (events : List (ℕ × Event)) (after : State) (last : Trace)
    → AllSimulate state trace moves steps events after last → IsRun (needs_of state.rules) trace.state events last.state
all-run state trace [] steps events after last all =
    subst (λ (e : List (ℕ × Event)). IsRun (needs_of state.rules) trace.state e last.state) (sym all.1) (ap (λ (t : Trace). t.state) (sym all.3))
all-run state trace (move ∷ moves) [] events after last all = absurd all
all-run state trace (move ∷ moves) (step ∷ steps) events after last (machine, one, rest, split, tail) =
    subst (λ (e : List (ℕ × Event)). IsRun (needs_of state.rules) trace.state e last.state) (sym split)
    (run-append (needs_of state.rules) trace.state one.last last.state (of_place (mover move) one.events) rest one.run
    (subst (λ (r : Rules). IsRun (needs_of r) one.last rest last.state) one.rules
    (all-run machine (trace_after state move (did step machine) trace one.events one.last) moves steps rest after last tail)))

-- they go on with the history
all-history : (state : State) (trace : Trace) (moves : List Move) (steps : List Step) (events : List (ℕ × Event)) (after : State) (last : Trace)
    → AllSimulate state trace moves steps events after last → last.history ≡ trace.history ++ events
all-history state trace [] steps events after last all =
    ap (λ (t : Trace). t.history) all.3 ∙ sym (append-nil trace.history) ∙ ap (λ (e : List (ℕ × Event)). trace.history ++ e) (sym all.1)
all-history state trace (move ∷ moves) [] events after last all = absurd all
all-history state trace (move ∷ moves) (step ∷ steps) events after last (machine, one, rest, split, tail) =
    all-history machine (trace_after state move (did step machine) trace one.events one.last) moves steps rest after last tail
    ∙ append_assoc trace.history (of_place (mover move) one.events) rest ∙ ap (λ (e : List (ℕ × Event)). trace.history ++ e) (sym split)

all-withheld : (state : State) (trace : Trace) (moves : List Move) (steps : List Step) (events : List (ℕ × Event)) (after : State) (last : Trace)
    → AllSimulate state trace moves steps events after last → last.withheld ≡ trace.withheld
all-withheld state trace [] steps events after last all = ap (λ (t : Trace). t.withheld) all.3
all-withheld state trace (move ∷ moves) [] events after last all = absurd all
all-withheld state trace (move ∷ moves) (step ∷ steps) events after last (machine, one, rest, split, tail) =
    all-withheld machine (trace_after state move (did step machine) trace one.events one.last) moves steps rest after last tail

-- the trace behind them tracks the machine
all-tracks : (state : State) (trace : Trace) (moves : List Move) (steps : List Step) (events : List (ℕ × Event)) (after : State) (last : Trace)
    → Tracks state trace → AllSimulate state trace moves steps events after last → Tracks after last
all-tracks state trace [] steps events after last tracks all =
    subst (λ (s : State). Tracks s last) (sym all.2) (subst (λ (t : Trace). Tracks state t) (sym all.3) tracks)
all-tracks state trace (move ∷ moves) [] events after last tracks all = absurd all
all-tracks state trace (move ∷ moves) (step ∷ steps) events after last tracks (machine, one, rest, split, tail) =
    all-tracks machine (trace_after state move (did step machine) trace one.events one.last) moves steps rest after last one.tracks tail

-- no move makes a place or changes the rules
all-places : (state : State) (trace : Trace) (moves : List Move) (steps : List Step) (events : List (ℕ × Event)) (after : State) (last : Trace)
    → AllSimulate state trace moves steps events after last → length after.places ≡ length state.places
all-places state trace [] steps events after last all = ap (λ (s : State). length s.places) all.2
all-places state trace (move ∷ moves) [] events after last all = absurd all
all-places state trace (move ∷ moves) (step ∷ steps) events after last (machine, one, rest, split, tail) =
    all-places machine (trace_after state move (did step machine) trace one.events one.last) moves steps rest after last tail ∙ one.places

all-rules : (state : State) (trace : Trace) (moves : List Move) (steps : List Step) (events : List (ℕ × Event)) (after : State) (last : Trace)
    → AllSimulate state trace moves steps events after last → after.rules ≡ state.rules
all-rules state trace [] steps events after last all = ap (λ (s : State). s.rules) all.2
all-rules state trace (move ∷ moves) [] events after last all = absurd all
all-rules state trace (move ∷ moves) (step ∷ steps) events after last (machine, one, rest, split, tail) =
    all-rules machine (trace_after state move (did step machine) trace one.events one.last) moves steps rest after last tail ∙ one.rules

-- Moves that do are one run of events, which leads to the words that they leave
all-simulated : (state : State) (trace : Trace) (moves : List Move) (steps : List Step) (events : List (ℕ × Event)) (after : State) (last : Trace)
    → Tracks state trace → AllSimulate state trace moves steps events after last → SimulatesAll state moves steps after trace
all-simulated state trace moves steps events after last tracks all =
    let now : Tracks after last = all-tracks state trace moves steps events after last tracks all in
    let rules : after.rules ≡ state.rules = all-rules state trace moves steps events after last all in
    let run : IsRun (needs_of state.rules) (opening trace.withheld) (trace.history ++ events) last.state =
    run-append (needs_of state.rules) (opening trace.withheld) trace.state last.state trace.history events tracks.run
    (all-run state trace moves steps events after last all) in
    let shown : WordsShow (needs_of state.rules) (length state.places) (row_of after) last.state =
    subst (λ (r : Rules). WordsShow (needs_of r) (length state.places) (row_of after) last.state) rules
    (subst (λ n. WordsShow (needs_of after.rules) n (row_of after) last.state) (all-places state trace moves steps events after last all)
    (says-so (needs_of after.rules) (length after.places) (row_of after) (place_of after) last.state now.refines)) in
    let conserved : Conserves after last = conserves after last now.run in
    record {
      events = events;
      last = last;
      each = all;
      run = all-run state trace moves steps events after last all;
      history = all-history state trace moves steps events after last all;
      withheld = all-withheld state trace moves steps events after last all;
      leads = record { last = last.state; run = run; shown = shown };
      conserved = λ bound is. conserved bound (rules ∙ is);
      tracks = now;
    }

-- A list of moves simulates
pub simulates-all : (state : State) (moves : List Move) (trace : Trace) → All (IsMove (is_lock state) (length state.places)) moves → Tracks state trace
    → SimulatesAll state moves (ran state moves).steps (ran state moves).machine trace
simulates-all state moves trace are tracks =
    let all : Ran state moves trace = all-simulate state moves trace are tracks in
    all-simulated state trace moves (ran state moves).steps all.events (ran state moves).machine all.last tracks all.each

-- so do moves that were answered so, and left this machine
pub simulates-as : (state : State) (moves : List Move) (steps : List Step) (after : State) (trace : Trace) → steps ≡ (ran state moves).steps → after ≡ (ran state moves).machine
    → All (IsMove (is_lock state) (length state.places)) moves → Tracks state trace → SimulatesAll state moves steps after trace
simulates-as state moves steps after trace steps_are after_is are tracks =
    subst (λ (l : List Step). SimulatesAll state moves l after trace) (sym steps_are)
    (subst (λ (s : State). SimulatesAll state moves (ran state moves).steps s trace) (sym after_is) (simulates-all state moves trace are tracks))

-- once all moves are made, the steps are those of all, and so is the machine
pub ran-ended : (state after : State) (moves : List Move) (steps : List Step) (made : ℕ) → length moves ≤ made → length steps ≤ made
    → take made steps ++ (ran after (drop made moves)).steps ≡ (ran state moves).steps → (ran after (drop made moves)).machine ≡ (ran state moves).machine
    → (steps ≡ (ran state moves).steps) × (after ≡ (ran state moves).machine)
ran-ended state after moves steps made all whole steps_are after_is =
    let none : drop made moves ≡ [] = drop_all made moves all in (
      sym (append-nil steps) ∙ (λ i. sym (take_all made steps whole) i ++ (ran after (sym none i)).steps) ∙ steps_are,
      (λ i. (ran after (sym none i)).machine) ∙ after_is,
    )

-- no move makes a place or changes the rules
pub ran-places : (state : State) (moves : List Move) → length (ran state moves).machine.places ≡ length state.places
ran-places state [] = refl
ran-places state (move ∷ moves) = ran-places (gone state move).machine moves ∙ gone-places state move

pub ran-rules : (state : State) (moves : List Move) → (ran state moves).machine.rules ≡ state.rules
ran-rules state [] = refl
ran-rules state (move ∷ moves) = ran-rules (gone state move).machine moves ∙ gone-rules state move

-- each makes one operation at most, so the count of operations never falls
made-same : (before after : State) → after.operations ≡ before.operations → (before.operations ≤ after.operations) × (after.operations ≤ before.operations + 1)
made-same before after made = (omega (arith, made), omega (arith, made))

made-one : (before after : State) → after.operations ≡ before.operations + 1 → (before.operations ≤ after.operations) × (after.operations ≤ before.operations + 1)
made-one before after made = (omega (arith, made), omega (arith, made))

made-within : (move : Move) (step : Step) (before after : State) → IsOneStep move step before after
    → (before.operations ≤ after.operations) × (after.operations ≤ before.operations + 1)
made-within (Start me call) Idle before after exact = made-same before after (ap (λ (s : State). s.operations) exact.1)
made-within (Start me call) Busy before after exact = made-same before after (ap (λ (s : State). s.operations) exact)
made-within (Start me call) Going before after exact = made-same before after (ap (λ (s : State). s.operations) exact.1)
made-within (Start me call) Waits before after exact = made-same before after (ap (λ (s : State). s.operations) exact.1)
made-within (Start me call) (Done answer) before after exact = made-same before after (ap (λ (s : State). s.operations) exact.1)
made-within (Go me) Idle before after exact = made-same before after (ap (λ (s : State). s.operations) exact)
made-within (Go me) Busy before after exact = made-one before after (ap (λ (s : State). s.operations) exact.2)
made-within (Go me) Going before after exact = made-one before after (ap (λ (s : State). s.operations) exact.2)
made-within (Go me) Waits before after exact = made-one before after (ap (λ (s : State). s.operations) exact.2)
made-within (Go me) (Done answer) before after exact = made-one before after (ap (λ (s : State). s.operations) exact.2)

pub ran-made : (state : State) (moves : List Move)
    → (state.operations ≤ (ran state moves).machine.operations) × ((ran state moves).machine.operations ≤ state.operations + length moves)
ran-made state [] = (omega arith, omega arith)
ran-made state (move ∷ moves) =
    let one = made-within move (gone state move).step state (gone state move).machine (gone-exact state move) in
    let rest = ran-made (gone state move).machine moves in
    (omega (arith, one.0, rest.0), omega (arith, one.1, rest.1))

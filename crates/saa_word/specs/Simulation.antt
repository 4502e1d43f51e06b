-- How each move of a machine goes on with every trace that tracks it. A reader of the clauses has to believe this.
use Rattle.std.specs.Prelude.{◌≡◌, ◌≢◌, ℕ, ◌⊎◌, ◌+◌, ◌*◌, ◌≤◌, ◌==◌, ◌||◌, Bool, true, false, List, [], ◌∷◌, ◌++◌, Option, Some, None, is_some, length, if◌then◌else◌}
use Rattle.saa_core_spec.specs.Object.{one_if, times}
use Rattle.saa_word_steps.specs.declared.call.Answer.{Answer}
use Rattle.saa_word_steps.specs.declared.call.WordCall.{WordCall}
use Rattle.saa_word_steps.specs.declared.call.WordCall.TheVariants.{Poll, Cancel, PoisonLock, Shut}
use Rattle.saa_word_steps.specs.declared.event.Event.{Event}
use Rattle.saa_word_steps.specs.declared.place.Ask.{Ask}
use Rattle.saa_word_steps.specs.declared.place.Registration.{Registration}
use Rattle.saa_word_steps.specs.declared.rules.Rules.TheVariants.{Permits}
use Rattle.saa_word_steps.specs.Needs.{Needs, needs_of, permit_needs}
use Rattle.saa_word_steps.specs.AbstractState.{AbstractState, IsRun, HasShownAll, is_in}
use Rattle.saa_core_words.specs.declared.word.Word.{Word}
use Rattle.saa_word_proofs.specs.Rows.{IsOwnedAndFlagged, main_of, updated}
use Rattle.saa_word_proofs.specs.Calls.{IsAnswered, asked_by}
use Rattle.saa_word_proofs.specs.History.{LeadsTo, named, of_place}
use Rattle.saa_word_proofs.specs.Promises.{WordsAreQuiescent, WordsShow}
use Rattle.saa_word_proofs.specs.Conservation.{AreOfPermits, ConservesPermits, MayAnswer, is_grant, tally_of}
use Rattle.saa_word_proofs.specs.Registering.{registration_after_start, is_slot, registration_after, starting_answer}
use Rattle.saa_word.specs.declared.moves.Move.{Move}
use Rattle.saa_word.specs.declared.moves.Move.TheVariants.{Start, Go}
use Rattle.saa_word.specs.declared.moves.Step.{Step}
use Rattle.saa_word.specs.declared.moves.Step.TheVariants.{Idle, Busy, Going, Waits, Done}
use Rattle.saa_word.specs.Machine.{IsOneStep, Moved, State, row_of}
use Rattle.saa_word.specs.Trace.{IsQuiescent, Trace, PendingCall}
use Rattle.saa_word.specs.Tracks.{Tracks}

-- the place that moves
abbrev pub mover : Move → ℕ
mover (Start me call) = me
mover (Go me) = me

-- what the call that a place is in asks for
abbrev pub asked_in : Option PendingCall → Option Ask
asked_in None = None
asked_in (Some underway) = asked_by underway.call

-- what the mover is registered as behind a move that named these events
abbrev pub registered_after : Option PendingCall → Move → List Event → Step → Registration → Registration
registered_after underway (Start me call) events Busy was = was
registered_after underway (Start me call) events step was = registration_after_start call was
registered_after underway (Go me) events step was = registration_after events (asked_in underway) was

-- the flag's holder behind a move: nobody while it is clear, the holder so far while it stays set, and the mover where the move set it
abbrev pub holder_after : ℕ → ℕ → Word → Word → ℕ
holder_after holder me before after = if after.is_flagged then (if before.is_flagged then holder else me + 1) else 0

-- whether the mover holds the flag behind a move
abbrev pub holds_after : State → Move → Moved → Trace → Bool
holds_after state move moved trace =
    holder_after trace.holder (mover move) (main_of (row_of state)) (main_of (row_of moved.machine)) == mover move + 1

-- the call that the mover, registered so, is in behind a move that named these events, and behind which it holds the flag or not
abbrev pub call_after : Registration → (holds : Bool) → Option PendingCall → Move → List Event → Step → Option PendingCall
call_after registered holds underway (Start me call) events Going =
    Some (record { call = call; registered = registered; events = []; held = false })
call_after registered holds (Some underway) (Go me) events Going =
    Some (record underway { events = underway.events ++ events; held = underway.held || holds })
call_after registered holds underway (Go me) events (Done answer) = None
call_after registered holds underway _ events _ = underway

-- how many steps the mover has made behind a move
abbrev pub mine_after : ℕ → Move → Step → ℕ
mine_after made (Start me call) Going = 0
mine_after made (Go me) Going = made + 1
mine_after made (Go me) (Done answer) = made + 1
mine_after made _ _ = made

-- how many steps each place has made behind a move, by which the main word's number is the same or not
abbrev pub made_after : (ℕ → ℕ) → Move → Step → Bool → ℕ → ℕ
made_after made move step same place =
    if place == mover move then mine_after (made place) move step else (if same then made place else 0)

-- the trace behind a move that was these events and left this abstract state
abbrev pub trace_after : State → Move → Moved → Trace → List Event → AbstractState → Trace
trace_after state move moved trace events last = record {
  withheld = trace.withheld;
  history = trace.history ++ of_place (mover move) events;
  state = last;
  registered = updated trace.registered (mover move)
      (registered_after (trace.calls (mover move)) move (named events) moved.step (trace.registered (mover move)));
  holder = holder_after trace.holder (mover move) (main_of (row_of state)) (main_of (row_of moved.machine));
  calls = updated trace.calls (mover move)
      (call_after (trace.registered (mover move)) (holds_after state move moved trace) (trace.calls (mover move)) move (named events) moved.step);
  steps_since_change = made_after trace.steps_since_change move moved.step (row_of moved.machine 0 == row_of state 0);
}

-- a Start is no event, and neither is a Go that waits or finds no call
abbrev pub IsSilent : Move → Step → List Event → Type 0
IsSilent (Start me call) step events = events ≡ []
IsSilent (Go me) Waits events = events ≡ []
IsSilent (Go me) Idle events = events ≡ []
IsSilent (Go me) step events = Unit {0}

-- what a Start does: it answers at once, or the call goes on
abbrev pub started_step : Option Answer → Step
started_step None = Going
started_step (Some answer) = Done answer

-- A step is the one that the call of the mover and its events name. A Start is busy exactly in a call, and else answers by what the place is
-- registered as; a Go is idle exactly in no call, and an answer is the one that the call's events name
abbrev pub AnswersAsNamed : Needs → Registration → Option PendingCall → Move → List Event → Step → Type 0
AnswersAsNamed needs registered None (Start me call) events step = step ≡ started_step (starting_answer needs call registered)
AnswersAsNamed needs registered (Some underway) (Start me call) events step = step ≡ Busy
AnswersAsNamed needs registered None (Go me) events step = step ≡ Idle
AnswersAsNamed needs registered (Some underway) (Go me) events Idle = ⊥
AnswersAsNamed needs registered (Some underway) (Go me) events Busy = ⊥
AnswersAsNamed needs registered (Some underway) (Go me) events (Done answer) =
    IsAnswered needs underway.call underway.registered (underway.events ++ events) answer
AnswersAsNamed needs registered (Some underway) (Go me) events step = Unit {0}

-- another place holds the flag
abbrev pub IsHeldByAnother : Trace → ℕ → Type 0
IsHeldByAnother trace me = (trace.holder ≢ 0) × (trace.holder ≢ me + 1)

-- Why a call is blocked whose place has held the flag in it or not, at a step that read the word of this index, out of so many places: a poll reads
-- its own answer word, and its place is in the line, or its answer is due; a cancel does so where its answer is due, or it reads the main word while
-- it is registered in the line and another place holds the flag; and poison reads the main word, finds one owner, and another place holds the flag;
-- and a shut reads the main word of a semaphore that isn't shut, and another place holds the flag.
-- A place that has held the flag in its call never waits for the flag again
abbrev pub IsBlocked : Trace → ℕ → ℕ → Word → (read : ℕ) → (held : Bool) → WordCall → Type 0
IsBlocked trace places me seen read held Poll = (read ≡ places + me + 1) × ((is_in me trace.state.line || is_some (trace.state.granted me)) ≡ true)
IsBlocked trace places me seen read held Cancel =
    ((read ≡ places + me + 1) × (is_some (trace.state.granted me) ≡ true))
    ⊎ ((read ≡ 0) × (seen.is_flagged ≡ true) × IsHeldByAnother trace me × (held ≡ false) × (is_slot (trace.registered me) ≡ true))
IsBlocked trace places me seen read held PoisonLock = (read ≡ 0) × IsOwnedAndFlagged seen × IsHeldByAnother trace me × (held ≡ false)
IsBlocked trace places me seen read held Shut =
    (read ≡ 0) × (seen.is_poisoned ≡ false) × (seen.is_flagged ≡ true) × IsHeldByAnother trace me × (held ≡ false)
IsBlocked trace places me seen read held _ = ⊥

-- A place that waits is in a call that is blocked and has named no event yet: it waits no more once its call has left the line, taken its answer or
-- poisoned the lock, or shut the semaphore. It doesn't hold the flag, it has shown each answer that it granted, and words and places are as they were
pub record IsWaiting (state after : State) (trace : Trace) (me : ℕ) : Type 0 where
  pub blocked : (underway : PendingCall) × (trace.calls me ≡ Some underway) × (underway.events ≡ [])
      × IsBlocked trace (length state.places) me (main_of (row_of state)) after.last_word underway.held underway.call
  pub free : trace.holder ≢ me + 1
  pub clear : HasShownAll me trace.state
  pub row : after.row ≡ state.row
  pub places : after.places ≡ state.places

abbrev pub WaitsRightly : State → State → Trace → Move → Step → Type 0
WaitsRightly state after trace (Go me) Waits = IsWaiting state after trace me
WaitsRightly state after trace _ _ = Unit {0}

-- Permits are conserved along a trace: what is held and what was given back are what was withheld, what was got, and what is granted and not
-- taken. Each place whose grant is due or shown has one such grant, and no other has any. Each answer that is due, shown or taken is a grant, but
-- once the semaphore is shut, it may say that; it is shut once at most, and only behind that does an ask find it so
pub record IsConserved (needs : Needs) (trace : Trace) : Type 0 where
  pub balanced : ConservesPermits needs trace.withheld trace.state (tally_of needs trace.withheld trace.history)
  pub pending : (place : ℕ) → times place (tally_of needs trace.withheld trace.history).pending
      ≡ one_if (is_grant (trace.state.granted place)) + one_if (is_grant (trace.state.answered place))
  pub answers : (place value : ℕ) → (trace.state.granted place ≡ Some value → MayAnswer trace.state.poisoned value)
      × (trace.state.answered place ≡ Some value → MayAnswer trace.state.poisoned value)
  pub events : AreOfPermits trace.history

-- the permits of a semaphore are
abbrev pub Conserves : State → Trace → Type 0
Conserves state trace = (bound : ℕ) → state.rules ≡ Permits bound → IsConserved (permit_needs bound) trace

-- A move is one step of the machine; rules and places stay. It simulates a list of events, none where it starts a call or waits, each enabled where
-- it comes. What it answers is what its call and events name; the words show the abstract state then, and all events so far lead to them; permits are
-- conserved; no place has made too many steps; each place that is in no call then has shown each answer that it granted, and if no place is in one all is at
-- rest; and the trace after the events tracks the machine
pub record Simulates (state : State) (move : Move) (moved : Moved) (trace : Trace) : Type 0 where
  pub exact : IsOneStep move moved.step state moved.machine
  pub rules : moved.machine.rules ≡ state.rules
  pub places : length moved.machine.places ≡ length state.places
  pub events : List Event
  pub last : AbstractState
  pub run : IsRun (needs_of state.rules) trace.state (of_place (mover move) events) last
  pub silent : IsSilent move moved.step events
  pub answers : AnswersAsNamed (needs_of state.rules) (trace.registered (mover move)) (trace.calls (mover move)) move (named events) moved.step
  pub waits : WaitsRightly state moved.machine trace move moved.step
  pub words : WordsShow (needs_of state.rules) (length state.places) (row_of moved.machine) last
  pub leads : LeadsTo (needs_of state.rules) (length state.places) trace.withheld (trace.history ++ of_place (mover move) events) (row_of moved.machine)
  pub conserved : Conserves state (trace_after state move moved trace events last)
  pub bounded : (place : ℕ) → (trace_after state move moved trace events last).steps_since_change place ≤ 16 * length state.places + 48
  pub shown : (place : ℕ) → (trace_after state move moved trace events last).calls place ≡ None → HasShownAll place last
  pub quiet : IsQuiescent (trace_after state move moved trace events last) → WordsAreQuiescent (needs_of state.rules) (row_of moved.machine) last
  pub tracks : Tracks moved.machine (trace_after state move moved trace events last)

-- Each of a list of moves simulates, in order: from a machine and its trace they lead, by these answers and these events, to a machine and its trace
abbrev pub AllSimulate : State → Trace → List Move → List Step → List (ℕ × Event) → State → Trace → Type 0
AllSimulate state trace [] steps events after last = (steps ≡ []) × (events ≡ []) × (after ≡ state) × (last ≡ trace)
AllSimulate state trace (move ∷ moves) [] events after last = ⊥
AllSimulate state trace (move ∷ moves) (step ∷ steps) events after last =
    (machine : State) × (one : Simulates state move (record { step = step; machine = machine }) trace) × (rest : List (ℕ × Event))
    × (events ≡ of_place (mover move) one.events ++ rest)
    × AllSimulate machine (trace_after state move (record { step = step; machine = machine }) trace one.events one.last) moves steps rest after last

-- A list of moves that were answered so, and left this machine, simulates: each move does, and all their events are one run, which goes on with
-- the history so far. The trace after them tracks the machine that is left, all events so far lead to its words, and permits are conserved
pub record SimulatesAll (state : State) (moves : List Move) (steps : List Step) (after : State) (trace : Trace) : Type 0 where
  pub events : List (ℕ × Event)
  pub last : Trace
  pub each : AllSimulate state trace moves steps events after last
  pub run : IsRun (needs_of state.rules) trace.state events last.state
  pub history : last.history ≡ trace.history ++ events
  pub withheld : last.withheld ≡ trace.withheld
  pub leads : LeadsTo (needs_of state.rules) (length state.places) trace.withheld (trace.history ++ events) (row_of after)
  pub conserved : Conserves state last
  pub tracks : Tracks after last

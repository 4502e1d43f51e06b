-- A solo run: while no place is in a call, one place starts a call and moves alone. What it is answered and what it leaves are those of the
-- sequential semaphore or lock. A reader of the clauses has to believe this.
use Rattle.std.specs.Prelude.{◌≡◌, ℕ, ◌<◌, ◌+◌, ◌*◌, ◌≤◌, Bool, List, ◌∷◌, ◌++◌, length, replicate}
use Rattle.saa_core_spec.specs.Object.{Object}
use Rattle.saa_word_steps.specs.declared.call.Answer.{Answer}
use Rattle.saa_word_steps.specs.declared.call.WordCall.{WordCall}
use Rattle.saa_word_steps.specs.Needs.{needs_of}
use Rattle.saa_word_proofs.specs.Represents.{Represents, called}
use Rattle.saa_word.specs.declared.moves.Move.{Move}
use Rattle.saa_word.specs.declared.moves.Move.TheVariants.{Start, Go}
use Rattle.saa_word.specs.declared.moves.Step.{Step}
use Rattle.saa_word.specs.declared.moves.Step.TheVariants.{Idle, Going, Done}
use Rattle.saa_word.specs.Machine.{State, is_lock}
use Rattle.saa_word.specs.Simulation.{SimulatesAll}
use Rattle.saa_word.specs.Trace.{IsQuiescent, Trace}

-- the moves of a solo run: a call starts at a place, and then this place alone makes steps, as many as `goes` says
abbrev pub solo_moves : ℕ → WordCall → ℕ → List Move
solo_moves me call goes = Start me call ∷ replicate goes (Go me)

-- a sequential semaphore or lock represents a machine with this trace: its book is read off what the trace has each place registered as
abbrev pub IsRepresented : State → Trace → Object → Type 0
IsRepresented state trace s = Represents (needs_of state.rules) (length state.places) trace.registered trace.state s

-- A solo run of enough steps: each move before the answer goes on, each after it finds no call, and no place is in a call again. Whichever sequential
-- object represented the machine at first, and whether the call is taken as sync or async, the answer is the reply of that object, and what the
-- object is then represents what the run leaves
pub record IsAnsweredAlone (state : State) (trace : Trace) (me : ℕ) (call : WordCall) (needed idle : ℕ) (steps : List Step) (after : State) : Type 0 where
  pub answer : Answer
  pub replies : steps ≡ replicate needed Going ++ (Done answer ∷ replicate idle Idle)
  pub simulates : SimulatesAll state (solo_moves me call (needed + idle)) steps after trace
  pub quiescent : IsQuiescent simulates.last
  pub agrees : (is_sync : Bool) (s : Object) → IsRepresented state trace s
      → (answer ≡ (called (is_lock state) me is_sync call s).reply) × IsRepresented after simulates.last (called (is_lock state) me is_sync call s).state

-- A solo run needs 8 steps for each waiter and 24 more at most. Each move of one that has fewer than it needs goes on
pub record IsSolo (state : State) (trace : Trace) (me : ℕ) (call : WordCall) (goes : ℕ) (steps : List Step) (after : State) : Type 0 where
  pub needed : ℕ
  pub bounded : needed ≤ 8 * length trace.state.line + 24
  pub before : goes < needed → steps ≡ replicate (goes + 1) Going
  pub ends : (idle : ℕ) → goes ≡ needed + idle → IsAnsweredAlone state trace me call needed idle steps after

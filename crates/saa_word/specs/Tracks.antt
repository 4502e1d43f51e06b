-- How a trace tracks a machine. Internal: nobody has to believe this; it is an invariant of proofs, which every move goes on with. What a reader
-- concludes of a trace that tracks a machine is said in `specs/Simulation.antt`, of words, replies and events.
use Rattle.std.specs.Prelude.{◌≡◌, ℕ, ◌+◌, ◌*◌, ◌<◌, ◌^◌, Bool, true, false, Option, Some, None, length}
use Rattle.saa_core_spec.specs.Object.{one_if}
use Rattle.saa_core_words.specs.Words.{count_bits}
use Rattle.saa_word_steps.specs.declared.place.Place.{Place}
use Rattle.saa_word_steps.specs.declared.place.Stage.{Stage}
use Rattle.saa_word_steps.specs.declared.place.Stage.TheVariants.{Quiet, FlagLoad, FlagExchange, PoisonLoad, PoisonExchange}
use Rattle.saa_word_steps.specs.Needs.{Needs, needs_of}
use Rattle.saa_word_steps.specs.AbstractState.{AbstractState, IsRun, held_by, opening}
use Rattle.saa_word_proofs.specs.CallStages.{IsUnder}
use Rattle.saa_word_proofs.specs.Refinement.{Invariant}
use Rattle.saa_word_proofs.specs.Registering.{AreRegistered, is_slot}
use Rattle.saa_word_proofs.specs.StepBound.{AreWithin}
use Rattle.saa_word.specs.Machine.{State, place_of, row_of}
use Rattle.saa_word.specs.Trace.{Trace, PendingCall}

-- a machine that stands together with an abstract state
abbrev pub RefinesAs : State → AbstractState → Type 0
RefinesAs state abstract = Invariant (needs_of state.rules) (length state.places) (row_of state) (place_of state) abstract

-- a machine is of few places, each with its words
pub record IsSized (state : State) : Type 0 where
  pub wide : (needs_of state.rules).top < 2 ^ count_bits
  pub bounded : length state.places < 2 ^ 16
  pub words : length state.row ≡ 1 + 2 * length state.places

-- a place is in this call
abbrev pub IsIn : Needs → Option PendingCall → Place → Type 0
IsIn needs None place = place.stage ≡ Quiet
IsIn needs (Some underway) place = IsUnder needs underway.call underway.registered place.back place.stage underway.events

-- a stage of a place that is to set the flag, or to poison a lock or shut a semaphore while nobody holds it
abbrev pub seeks_flag : Stage → Bool
seeks_flag FlagLoad = true
seeks_flag (FlagExchange seen) = true
seeks_flag PoisonLoad = true
seeks_flag (PoisonExchange seen) = true
seeks_flag _ = false

-- a place that seeks the flag in its call hasn't held it there
abbrev pub IsFresh : Option PendingCall → Stage → Type 0
IsFresh None stage = Unit {0}
IsFresh (Some underway) stage = seeks_flag stage ≡ true → underway.held ≡ false

-- A trace tracks a machine: its events lead to the abstract state that words and places refine; each place is registered as the trace says,
-- in the line exactly where the abstract state holds it, and with what it asks there; the flag's holder is the one that the trace says; each
-- place is in the call that it says, and hasn't held the flag in it where it seeks the flag; and what each place has made and what it has left are
-- at most 16 steps for each place and 48 more
pub record Tracks (state : State) (trace : Trace) : Type 0 where
  pub sized : IsSized state
  pub run : IsRun (needs_of state.rules) (opening trace.withheld) trace.history trace.state
  pub refines : RefinesAs state trace.state
  pub registered : (place : ℕ) → (place_of state place).registration ≡ trace.registered place
  pub held : (place : ℕ) → held_by place trace.state ≡ one_if (is_slot (trace.registered place))
  pub asks : AreRegistered trace.registered trace.state.line
  pub holder : refines.holder ≡ trace.holder
  pub calls : (place : ℕ) → IsIn (needs_of state.rules) (trace.calls place) (place_of state place)
  pub fresh : (place : ℕ) → IsFresh (trace.calls place) (place_of state place).stage
  pub within : AreWithin (length state.places) (row_of state) (place_of state) trace.steps_since_change

-- What a machine always is: some trace tracks it
pub record IsMachine (state : State) : Type 0 where
  pub trace : Trace
  pub tracks : Tracks state trace

-- The leaders of a barrier: one for each full round of arrivals that weren't cancelled before it was complete. And its rounds, of
-- which those that no waiter's arrival completes have no leader.
use Rattle.std.specs.Prelude.{◌≡◌, ℕ, ◌+◌, Bool, true, false, ◌&&◌, ◌||◌, ◌==◌, nat_lt, List, [], Ok, Result, length}
use Rattle.saa_core_spec.specs.declared.request.Request.{Request}
use Rattle.saa_core_spec.specs.declared.polling.Error.{Error}
use Rattle.saa_core_spec.specs.declared.barrier.BarrierCall.{BarrierCall}
use Rattle.saa_core_spec.specs.declared.barrier.BarrierCall.TheVariants.{Count, Arrive as DoArrive, Join, Leave as LeaveOne, Round}
use Rattle.saa_core_spec.specs.declared.barrier.BarrierAnswer.{BarrierAnswer}
use Rattle.saa_core_spec.specs.declared.barrier.BarrierAnswer.TheVariants.{Bool as SaysBool}
use Rattle.saa_core_spec.specs.declared.run.CommandOf.{CommandOf}
use Rattle.saa_core_spec.specs.declared.run.CommandOf.TheVariants.{Call, Register, TryPoll, PollSync, PollAsync, Drop, Leave}
use Rattle.saa_core_spec.specs.declared.run.ReplyOf.{ReplyOf}
use Rattle.saa_core_spec.specs.declared.run.ReplyOf.TheVariants.{Answered as Replied, Registered, Polled}
use Rattle.saa_core_spec.specs.Held.{OfBarrier}
use Rattle.saa_core_spec.specs.Object.{Object, Entry, Idle, Waiting, Answered, entry_at, newly_made}
use Rattle.saa_core_spec.specs.Values.{barrier_value, passed_value, leader_value}
use Rattle.saa_core_spec.specs.Barrier.{size_of, arrivals, barrier_step, arrive_request}
use Rattle.saa_core_spec.specs.Run.{done, state_after}
use Rattle.saa_core_laws.specs.Laws.{is_waiting}
use Rattle.saa_core_laws.specs.Registrations.{is_registered}
use Rattle.saa_core_laws.specs.Steps.{Step, step_of, steps}

-- a step of a barrier
abbrev pub BarrierStep : Type 0
BarrierStep = Step BarrierCall (Unit {0}) BarrierAnswer (Result Bool Error)

-- whether a command with this reply is an arrival: a registration that is answered `Ok(true)`
abbrev pub arrives : {C K A V : Type 0} → CommandOf C K → ReplyOf A V → Bool
arrives (Register name ask is_sync) (Registered answer) = is_registered answer
arrives _ _ = false

-- whether a step is an arrival
abbrev pub is_arrival : BarrierStep → Bool
is_arrival step = arrives step.command step.after.reply

-- whether a command drops a name that waits in this book
abbrev pub drops_waiting : {C K : Type 0} → CommandOf C K → List Entry → Bool
drops_waiting (Drop name) book = is_waiting (entry_at book name)
drops_waiting (Leave name) book = is_waiting (entry_at book name)
drops_waiting _ book = false

-- whether an arrival is dropped while it waits
abbrev pub is_given_up : BarrierStep → Bool
is_given_up step = drops_waiting step.command step.before.book

-- whether an entry is the answer of a leader
abbrev pub is_leader : Entry → Bool
is_leader Idle = false
is_leader (Waiting request is_sync) = false
is_leader (Answered value request is_sync slotted) = value == leader_value

-- whether a command that arrives is the leader in the book that it leaves
abbrev pub leads : {C K A V : Type 0} → CommandOf C K → ReplyOf A V → List Entry → Bool
leads (Register name ask is_sync) (Registered answer) book = is_registered answer && is_leader (entry_at book name)
leads _ _ book = false

-- whether a step is the arrival of a leader
abbrev pub names_leader : BarrierStep → Bool
names_leader step = leads step.command step.after.reply step.after.state.book

-- whether a call of a barrier only asks: it changes no size, and arrives for nobody
abbrev pub only_asks : BarrierCall → Bool
only_asks Count = true
only_asks Round = true
only_asks DoArrive = false
only_asks Join = false
only_asks LeaveOne = false

-- a command by which a barrier keeps its size, and at which nobody arrives who doesn't wait
abbrev pub IsOfFixedSize : CommandOf BarrierCall (Unit {0}) → Type 0
IsOfFixedSize (Call call) = only_asks call ≡ true
IsOfFixedSize (Register name ask is_sync) = Unit {0}
IsOfFixedSize (TryPoll name) = Unit {0}
IsOfFixedSize (PollSync name) = Unit {0}
IsOfFixedSize (PollAsync name) = Unit {0}
IsOfFixedSize (Drop name) = Unit {0}
IsOfFixedSize (Leave name) = Unit {0}

-- whether a call with this answer completes a round of the barrier that it finds: an arrival that doesn't wait or a leave that says
-- so, or a join by which the waiters of size 0 pass
abbrev pub ends_round : BarrierCall → BarrierAnswer → Object → Bool
ends_round DoArrive (SaysBool is_last) s = is_last
ends_round LeaveOne (SaysBool is_last) s = is_last
ends_round Join (SaysBool is_larger) s = is_larger && (size_of s.held == 0 && nat_lt 0 (arrivals s))
ends_round _ _ s = false

-- whether a command is a call that completes a round; nobody is its leader
abbrev pub completes_by_call : {K V : Type 0} → CommandOf BarrierCall K → ReplyOf BarrierAnswer V → Object → Bool
completes_by_call (Call call) (Replied answer) s = ends_round call answer s
completes_by_call _ _ s = false

-- whether a step completes a round: the arrival of a leader, or a call
abbrev pub completes_round : BarrierStep → Bool
completes_round step = names_leader step || completes_by_call step.command step.after.reply step.before

-- What a step that completes a round does: nobody waits afterwards, and no arrival counts; all who waited are answered that they
-- pass
pub record LetsAllPass (before after : Object) : Type 0 where
  pub nobody : after.line ≡ []
  pub none : arrivals after ≡ 0
  pub answered : (name : ℕ) (request : Request) (is_sync : Bool) → entry_at before.book name ≡ Waiting request is_sync
      → entry_at after.book name ≡ Answered passed_value request is_sync true

-- the steps of a run of a newly made barrier of this size
abbrev pub barrier_run : (size room names : ℕ) → List (CommandOf BarrierCall (Unit {0})) → List BarrierStep
barrier_run size room names commands = steps arrive_request barrier_step barrier_value commands (newly_made (OfBarrier size 0 0) room names)

-- the step that comes next after a run of such a barrier
abbrev pub barrier_next : (size room names : ℕ) → List (CommandOf BarrierCall (Unit {0})) → CommandOf BarrierCall (Unit {0}) → BarrierStep
barrier_next size room names commands next =
    step_of arrive_request barrier_step barrier_value next
    (state_after arrive_request barrier_step barrier_value commands (newly_made (OfBarrier size 0 0) room names))

-- what a try to poll a name is answered
abbrev pub poll_reply : Object → ℕ → ReplyOf BarrierAnswer (Result Bool Error)
poll_reply s name = (done arrive_request barrier_step barrier_value (TryPoll name) s).reply

-- What a leader's arrival does: its round is complete with it, and nobody waits afterwards. Each of the others, all who
-- waited, is answered that it passes, and told that it isn't the leader; the one that arrived is told that it is
pub record CompletesRound (size : ℕ) (step : BarrierStep) : Type 0 where
  pub full : length step.before.line + 1 ≡ size
  pub empty : step.after.state.line ≡ []
  pub answered : (name : ℕ) (request : Request) (is_sync : Bool) → entry_at step.before.book name ≡ Waiting request is_sync
      → entry_at step.after.state.book name ≡ Answered passed_value request is_sync true
  pub others : (name : ℕ) (request : Request) (is_sync : Bool) → entry_at step.before.book name ≡ Waiting request is_sync
      → poll_reply step.after.state name ≡ Polled (Ok false)
  pub leader : (name : ℕ) (is_sync : Bool) → step.command ≡ Register name tt is_sync → poll_reply step.after.state name ≡ Polled (Ok true)

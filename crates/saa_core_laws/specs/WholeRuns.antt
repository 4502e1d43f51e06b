-- The laws of whole runs, each from a newly made primitive: what users may conclude from any list of commands.
use Rattle.std.specs.Prelude.{◌≡◌, ℕ, ◌+◌, ◌-◌, ◌/◌, ◌<◌, ◌≤◌, true, Bool, List, All, IsTrue, Result, min}
use Rattle.std.specs.List.{count_by, sum_by}
use Rattle.saa_core_spec.specs.declared.request.Request.TheVariants.{Permits}
use Rattle.saa_core_spec.specs.declared.semaphore.SemaphoreCall.{SemaphoreCall}
use Rattle.saa_core_spec.specs.declared.semaphore.SemaphoreAnswer.{SemaphoreAnswer}
use Rattle.saa_core_spec.specs.declared.lock.Mode.{Mode}
use Rattle.saa_core_spec.specs.declared.lock.LockCall.{LockCall}
use Rattle.saa_core_spec.specs.declared.lock.LockAnswer.{LockAnswer}
use Rattle.saa_core_spec.specs.declared.gate.State.{State}
use Rattle.saa_core_spec.specs.declared.gate.State.TheVariants.{Controlled}
use Rattle.saa_core_spec.specs.declared.gate.Error.{Error as GateError}
use Rattle.saa_core_spec.specs.declared.gate.GateCall.{GateCall}
use Rattle.saa_core_spec.specs.declared.gate.GateAnswer.{GateAnswer}
use Rattle.saa_core_spec.specs.declared.barrier.BarrierCall.{BarrierCall}
use Rattle.saa_core_spec.specs.declared.barrier.BarrierAnswer.{BarrierAnswer}
use Rattle.saa_core_spec.specs.declared.polling.Error.{Error}
use Rattle.saa_core_spec.specs.declared.run.CommandOf.{CommandOf}
use Rattle.saa_core_spec.specs.declared.run.CommandOf.TheVariants.{Drop}
use Rattle.saa_core_spec.specs.Held.{OfSemaphore, OfLock, OfGate, Free, Poisoned}
use Rattle.saa_core_spec.specs.Object.{Answered, entry_at}
use Rattle.saa_core_spec.specs.Values.{semaphore_value, lock_value, gate_value, barrier_value, granted_value}
use Rattle.saa_core_spec.specs.Semaphore.{semaphore_step, new_semaphore, out_of, is_shut}
use Rattle.saa_core_spec.specs.Lock.{lock_step, mode_request, new_lock}
use Rattle.saa_core_spec.specs.Gate.{gate_step, enter_request, new_gate}
use Rattle.saa_core_spec.specs.Barrier.{barrier_step, arrive_request}
use Rattle.saa_core_spec.specs.Run.{IsWithin, done, state_after}
use Rattle.saa_core_laws.specs.Laws.{is_waiting}
use Rattle.saa_core_laws.specs.RunLaws.{NobodyWaits, AnswersInOrder}
use Rattle.saa_core_laws.specs.Registrations.{AnswersOnce, is_answered}
use Rattle.saa_core_laws.specs.Leaders.{IsOfFixedSize, is_arrival, is_given_up, names_leader, barrier_run, barrier_next, CompletesRound}
use Rattle.saa_core_laws.specs.Conservation.{granted_by, given_back_by, released_by, taken_in_hand_by, semaphore_run}
use Rattle.saa_core_laws.specs.Steps.{step_of}

-- the order of grants: after every run and at every next command, no waiter of a semaphore or a lock is answered while an
-- older one still waits
pub record GrantsInOrder : Type 0 where
  pub semaphore : (bound permits room names : ℕ) (commands : List (CommandOf SemaphoreCall ℕ)) (next : CommandOf SemaphoreCall ℕ)
      → All (IsWithin names) commands → IsWithin names next
      → let s = state_after Permits semaphore_step semaphore_value commands (new_semaphore bound permits room names) in
      AnswersInOrder s (done Permits semaphore_step semaphore_value next s).state
  pub lock : (room names : ℕ) (commands : List (CommandOf LockCall Mode)) (next : CommandOf LockCall Mode)
      → All (IsWithin names) commands → IsWithin names next
      → let s = state_after mode_request lock_step lock_value commands (new_lock room names) in
      AnswersInOrder s (done mode_request lock_step lock_value next s).state

-- nobody waits for nothing: not at a semaphore with nothing out or that is shut, not at a lock that is free or poisoned,
-- and not at a gate that isn't controlled
pub record NobodyWaitsForNothing : Type 0 where
  pub semaphore : (bound permits room names : ℕ) (commands : List (CommandOf SemaphoreCall ℕ))
      → All (IsWithin names) commands
      → let s = state_after Permits semaphore_step semaphore_value commands (new_semaphore bound permits room names) in
      s.held ≡ OfSemaphore bound 0 → NobodyWaits s
  pub shut_semaphore : (bound permits room names : ℕ) (commands : List (CommandOf SemaphoreCall ℕ))
      → All (IsWithin names) commands
      → let s = state_after Permits semaphore_step semaphore_value commands (new_semaphore bound permits room names) in
      is_shut s.held ≡ true → NobodyWaits s
  pub free_lock : (room names : ℕ) (commands : List (CommandOf LockCall Mode))
      → All (IsWithin names) commands
      → let s = state_after mode_request lock_step lock_value commands (new_lock room names) in
      s.held ≡ OfLock Free → NobodyWaits s
  pub poisoned_lock : (room names : ℕ) (commands : List (CommandOf LockCall Mode))
      → All (IsWithin names) commands
      → let s = state_after mode_request lock_step lock_value commands (new_lock room names) in
      s.held ≡ OfLock Poisoned → NobodyWaits s
  pub gate : (room names : ℕ) (commands : List (CommandOf GateCall (Unit {0})))
      → All (IsWithin names) commands
      → let s = state_after enter_request gate_step gate_value commands (new_gate room names) in
      ¬ (s.held ≡ OfGate Controlled) → NobodyWaits s

-- the permits of a semaphore are conserved, drops counted too: what is out and all that was given back are what was
-- withheld at first and all that was granted. A drop gives back the whole grant wherever no more was released by calls
-- than was withheld, tried and polled
pub record PermitsConserved : Type 0 where
  pub conserved : (bound permits room names : ℕ) (commands : List (CommandOf SemaphoreCall ℕ))
      → All (IsWithin names) commands
      → let run = semaphore_run bound permits room names commands in
      let end = state_after Permits semaphore_step semaphore_value commands (new_semaphore bound permits room names) in
      out_of end.held + sum_by given_back_by run ≡ (bound - min permits bound) + sum_by granted_by run
  pub whole : (bound permits room names : ℕ) (commands : List (CommandOf SemaphoreCall ℕ)) (name n : ℕ) (is_sync slotted : Bool)
      → All (IsWithin names) commands
      → let run = semaphore_run bound permits room names commands in
      let end = state_after Permits semaphore_step semaphore_value commands (new_semaphore bound permits room names) in
      sum_by released_by run ≤ (bound - min permits bound) + sum_by taken_in_hand_by run
      → entry_at end.book name ≡ Answered granted_value (Permits n) is_sync slotted
      → given_back_by (step_of Permits semaphore_step semaphore_value (Drop name) end) ≡ n

-- a registration is answered at most once, and its answer is consumed at most once, in each of the four primitives
pub record RegistrationsAnsweredOnce : Type 0 where
  pub semaphore : AnswersOnce SemaphoreCall ℕ SemaphoreAnswer (Result (Unit {0}) Error) Permits semaphore_step semaphore_value
  pub lock : AnswersOnce LockCall Mode LockAnswer (Result Bool Error) mode_request lock_step lock_value
  pub gate : AnswersOnce GateCall (Unit {0}) GateAnswer (Result State GateError) enter_request gate_step gate_value
  pub barrier : AnswersOnce BarrierCall (Unit {0}) BarrierAnswer (Result Bool Error) arrive_request barrier_step barrier_value

-- the leaders of a barrier: one for each full round of arrivals, not counting those that were dropped while they waited;
-- it is the arrival that completes the round. This is so while the size stays, and nobody arrives who doesn't wait
pub record LeadersCounted : Type 0 where
  pub counted : (size room names : ℕ) (commands : List (CommandOf BarrierCall (Unit {0})))
      → 0 < size → All (IsWithin names) commands → All IsOfFixedSize commands
      → let run = barrier_run size room names commands in
      count_by names_leader run ≡ (count_by is_arrival run - count_by is_given_up run) / size
  pub round : (size room names : ℕ) (commands : List (CommandOf BarrierCall (Unit {0}))) (next : CommandOf BarrierCall (Unit {0}))
      → All (IsWithin names) commands → IsWithin names next → All IsOfFixedSize commands → IsOfFixedSize next
      → let step = barrier_next size room names commands next in
      IsTrue (names_leader step) → CompletesRound size step
  pub nothing_else : (size room names : ℕ) (commands : List (CommandOf BarrierCall (Unit {0}))) (next : CommandOf BarrierCall (Unit {0})) (name : ℕ)
      → All (IsWithin names) commands → IsWithin names next → All IsOfFixedSize commands → IsOfFixedSize next
      → let step = barrier_next size room names commands next in
      IsTrue (is_waiting (entry_at step.before.book name))
      → IsTrue (is_answered (entry_at step.after.state.book name))
      → IsTrue (names_leader step)

-- all of them
pub record WholeRuns : Type 0 where
  pub order : GrantsInOrder
  pub nothing : NobodyWaitsForNothing
  pub conserved : PermitsConserved
  pub once : RegistrationsAnsweredOnce
  pub leaders : LeadersCounted

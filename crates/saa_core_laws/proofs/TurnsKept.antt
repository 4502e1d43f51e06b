-- A semaphore and a lock answer in the order of the line, after every run and at every next command.
use Rattle.std.proofs.Common.{ℕ, ◌-◌, min, List, refl, arith, All}
use Rattle.saa_core_spec.specs.declared.request.Request.TheVariants.{Permits}
use Rattle.saa_core_spec.specs.declared.semaphore.SemaphoreCall.{SemaphoreCall}
use Rattle.saa_core_spec.specs.declared.lock.Mode.{Mode}
use Rattle.saa_core_spec.specs.declared.lock.LockCall.{LockCall}
use Rattle.saa_core_spec.specs.declared.run.CommandOf.{CommandOf}
use Rattle.saa_core_spec.specs.Held.{OfSemaphore, OfLock, Free}
use Rattle.saa_core_spec.specs.Object.{Object}
use Rattle.saa_core_spec.specs.Values.{semaphore_value, lock_value}
use Rattle.saa_core_spec.specs.Semaphore.{semaphore_step, new_semaphore}
use Rattle.saa_core_spec.specs.Lock.{lock_step, mode_request, new_lock}
use Rattle.saa_core_spec.specs.Run.{IsWithin, done, state_after}
use Rattle.saa_core_laws.specs.RunLaws.{AnswersInOrder}
use Rattle.saa_core_laws.proofs.Kept.{IsKept-newly_made}
use Rattle.saa_core_laws.proofs.Commands.{IsRight, IsRight-done, IsRight-state_after}
use Rattle.saa_core_laws.proofs.Grants.{Grants}
use Rattle.saa_core_laws.proofs.SemaphoreLaws.{IsFineSemaphore, KeepsFine-semaphore, KeepsRight-semaphore}
use Rattle.saa_core_laws.proofs.LockLaws.{IsFineLock, KeepsFine-lock, KeepsRight-lock}
use Rattle.saa_core_laws.proofs.Turns.{StandOnce-step, AnswersInOrder-turns, KeepsTurns-done, KeepsTurns-semaphore_step, KeepsTurns-lock_step}

-- at every semaphore that is right
pub semaphore-in_turn_at : (bound names : ℕ) (s : Object) (next : CommandOf SemaphoreCall ℕ) → IsWithin names next
    → IsRight (Grants (IsFineSemaphore bound) (OfSemaphore bound 0)) names s
    → AnswersInOrder s (done Permits semaphore_step semaphore_value next s).state
semaphore-in_turn_at bound names s next within right =
    let after = IsRight-done (Grants (IsFineSemaphore bound) (OfSemaphore bound 0)) names Permits semaphore_step semaphore_value
    (KeepsRight-semaphore bound names) next s within right in
    AnswersInOrder-turns s (done Permits semaphore_step semaphore_value next s).state after.kept.in_step
    (KeepsTurns-done (IsFineSemaphore bound) (KeepsFine-semaphore bound) Permits semaphore_step semaphore_value KeepsTurns-semaphore_step next s
    right.kind.fine (StandOnce-step s.line s.book right.kept.in_step))

-- after every run of one
pub semaphore-in_turn : (bound permits room names : ℕ) (commands : List (CommandOf SemaphoreCall ℕ)) (next : CommandOf SemaphoreCall ℕ)
    → All (IsWithin names) commands → IsWithin names next
    → AnswersInOrder (state_after Permits semaphore_step semaphore_value commands (new_semaphore bound permits room names))
    (done Permits semaphore_step semaphore_value next (state_after Permits semaphore_step semaphore_value commands (new_semaphore bound permits room names))).state
semaphore-in_turn bound permits room names commands next within next_within =
    semaphore-in_turn_at bound names (state_after Permits semaphore_step semaphore_value commands (new_semaphore bound permits room names)) next next_within
    (IsRight-state_after (Grants (IsFineSemaphore bound) (OfSemaphore bound 0)) names Permits semaphore_step semaphore_value
    (KeepsRight-semaphore bound names) commands (new_semaphore bound permits room names) within
    (record {
      kept = IsKept-newly_made (OfSemaphore bound (bound - min permits bound)) room names;
      kind = record { fine = (refl, omega arith); front = refl; asks = tt; refused = λ refuses. refl };
    }))

-- at every lock that is right
pub lock-in_turn_at : (names : ℕ) (s : Object) (next : CommandOf LockCall Mode) → IsWithin names next
    → IsRight (Grants IsFineLock (OfLock Free)) names s
    → AnswersInOrder s (done mode_request lock_step lock_value next s).state
lock-in_turn_at names s next within right =
    let after = IsRight-done (Grants IsFineLock (OfLock Free)) names mode_request lock_step lock_value (KeepsRight-lock names) next s within right in
    AnswersInOrder-turns s (done mode_request lock_step lock_value next s).state after.kept.in_step
    (KeepsTurns-done IsFineLock KeepsFine-lock mode_request lock_step lock_value KeepsTurns-lock_step next s
    right.kind.fine (StandOnce-step s.line s.book right.kept.in_step))

-- after every run of one
pub lock-in_turn : (room names : ℕ) (commands : List (CommandOf LockCall Mode)) (next : CommandOf LockCall Mode)
    → All (IsWithin names) commands → IsWithin names next
    → AnswersInOrder (state_after mode_request lock_step lock_value commands (new_lock room names))
    (done mode_request lock_step lock_value next (state_after mode_request lock_step lock_value commands (new_lock room names))).state
lock-in_turn room names commands next within next_within =
    lock-in_turn_at names (state_after mode_request lock_step lock_value commands (new_lock room names)) next next_within
    (IsRight-state_after (Grants IsFineLock (OfLock Free)) names mode_request lock_step lock_value (KeepsRight-lock names) commands (new_lock room names) within
    (record {
      kept = IsKept-newly_made (OfLock Free) room names;
      kind = record { fine = tt; front = refl; asks = tt; refused = λ refuses. refl };
    }))

-- The semaphore object: permits that are taken and given back, until it is shut; then they are only given back.
use Rattle.std.specs.Prelude.{ℕ, ◌-◌, Bool, true, false, ◌==◌, nat_lt, min}
use Rattle.saa_core_spec.specs.declared.request.Request.TheVariants.{Permits}
use Rattle.saa_core_spec.specs.declared.semaphore.SemaphoreCall.{SemaphoreCall}
use Rattle.saa_core_spec.specs.declared.semaphore.SemaphoreCall.TheVariants.{TryAcquireMany, ReleaseMany, AvailablePermits, IsOpen, IsClosed, Shut, IsShut}
use Rattle.saa_core_spec.specs.declared.semaphore.SemaphoreAnswer.{SemaphoreAnswer}
use Rattle.saa_core_spec.specs.declared.semaphore.SemaphoreAnswer.TheVariants.{Bool as SaysBool, Number}
use Rattle.saa_core_spec.specs.Held.{Held, OfSemaphore, OfShutSemaphore, OfLock, OfGate, OfBarrier}
use Rattle.saa_core_spec.specs.Object.{Object, After, newly_made}
use Rattle.saa_core_spec.specs.Settling.{all_answered}
use Rattle.saa_core_spec.specs.Asking.{tried}
use Rattle.saa_core_spec.specs.Polling.{given_back}
use Rattle.saa_core_spec.specs.Values.{closed_value}

-- the most permits that can be out; only a semaphore has any
abbrev pub bound_of : Held → ℕ
bound_of (OfSemaphore bound out) = bound
bound_of (OfShutSemaphore bound out) = bound
bound_of (OfLock lock) = 0
bound_of (OfGate gate) = 0
bound_of (OfBarrier size arrived round) = 0

-- the permits that are out; only a semaphore has any
abbrev pub out_of : Held → ℕ
out_of (OfSemaphore bound out) = out
out_of (OfShutSemaphore bound out) = out
out_of (OfLock lock) = 0
out_of (OfGate gate) = 0
out_of (OfBarrier size arrived round) = 0

-- how many permits are available
abbrev pub available : Held → ℕ
available held = bound_of held - out_of held

-- whether a semaphore is shut; nothing else is
abbrev pub is_shut : Held → Bool
is_shut (OfShutSemaphore bound out) = true
is_shut _ = false

-- a semaphore is shut once, and for good: every waiter is answered Closed, and what is out stays out until it is given back
abbrev pub shut_of : Object → Held → After Bool
shut_of s (OfSemaphore bound out) = record {
  state = all_answered closed_value (record s { held = OfShutSemaphore bound out });
  reply = true;
}
shut_of s _ = record { state = s; reply = false }

-- a call's answer in the answers' type
abbrev pub says_bool : After Bool → After SemaphoreAnswer
says_bool after = record { state = after.state; reply = SaysBool after.reply }

-- what each call of a semaphore answers, and leaves
abbrev pub semaphore_step : SemaphoreCall → Object → After SemaphoreAnswer
semaphore_step (TryAcquireMany count) s = says_bool (tried s (Permits count))
semaphore_step (ReleaseMany count) s = says_bool (given_back s (Permits count))
semaphore_step AvailablePermits s = record { state = s; reply = Number (available s.held) }
semaphore_step IsOpen s = record { state = s; reply = SaysBool (nat_lt (out_of s.held) (bound_of s.held)) }
semaphore_step IsClosed s = record { state = s; reply = SaysBool (out_of s.held == bound_of s.held) }
semaphore_step Shut s = says_bool (shut_of s s.held)
semaphore_step IsShut s = record { state = s; reply = SaysBool (is_shut s.held) }

-- a newly made semaphore that has at most so many permits available; the others are out, and may be released
abbrev pub new_semaphore : (bound permits room names : ℕ) → Object
new_semaphore bound permits room names = newly_made (OfSemaphore bound (bound - min permits bound)) room names

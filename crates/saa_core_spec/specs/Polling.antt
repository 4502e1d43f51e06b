-- Polling a name for its answer, and dropping what a name is registered for.
use Rattle.std.specs.Prelude.{ℕ, Bool, true, false, not, Option, Some, None, Result, Ok, Err, if◌then◌else◌, ◌==◌}
use Rattle.saa_core_spec.specs.declared.request.Request.{Request}
use Rattle.saa_core_spec.specs.declared.request.Request.TheVariants.{Permits}
use Rattle.saa_core_spec.specs.declared.polling.How.{How}
use Rattle.saa_core_spec.specs.declared.polling.How.TheVariants.{Try, Sync, Async}
use Rattle.saa_core_spec.specs.declared.polling.Error.{Error}
use Rattle.saa_core_spec.specs.declared.polling.Error.TheVariants.{NotRegistered, WrongMode, NotReady}
use Rattle.saa_core_spec.specs.Held.{Held, OfSemaphore, OfShutSemaphore, OfLock, OfGate, OfBarrier, less}
use Rattle.saa_core_spec.specs.Object.{Object, After, Entry, Idle, Waiting, Answered, entry_at, with_entry, without}
use Rattle.saa_core_spec.specs.Settling.{settled, all_answered}
use Rattle.saa_core_spec.specs.Values.{granted_value, spurious_value}

-- whether a name that was registered as sync, or not, may be polled in this way; a try has no wrong mode
abbrev pub is_right_mode : How → Bool → Bool
is_right_mode Try is_sync = true
is_right_mode Sync is_sync = is_sync
is_right_mode Async is_sync = not is_sync

-- a poll in the right mode: a name that waits isn't ready, and an answer is consumed, after which the name is idle
abbrev pub consumed_of : Object → ℕ → Entry → After (Result ℕ Error)
consumed_of s name Idle = record { state = s; reply = Err NotRegistered }
consumed_of s name (Waiting request is_sync) = record { state = s; reply = Err NotReady }
consumed_of s name (Answered value request is_sync slotted) =
    record { state = with_entry s name Idle; reply = Ok value }

-- a poll whose mode is right or not; a wrong mode changes nothing, even with an answer there
abbrev pub polled_in : Object → ℕ → Entry → Bool → After (Result ℕ Error)
polled_in s name entry true = consumed_of s name entry
polled_in s name entry false = record { state = s; reply = Err WrongMode }

-- Polling a name: the first case that applies decides.
-- It is idle: NotRegistered. It was registered in the other mode: WrongMode. It waits: NotReady.
-- It is answered: the value, and it is idle. The first three change nothing
abbrev pub polled_of : Object → ℕ → How → Entry → After (Result ℕ Error)
polled_of s name how Idle = record { state = s; reply = Err NotRegistered }
polled_of s name how (Waiting request is_sync) = polled_in s name (Waiting request is_sync) (is_right_mode how is_sync)
polled_of s name how (Answered value request is_sync slotted) =
    polled_in s name (Answered value request is_sync slotted) (is_right_mode how is_sync)

abbrev pub polled : Object → ℕ → How → After (Result ℕ Error)
polled s name how = polled_of s name how (entry_at s.book name)

-- whether a request is for no permits
abbrev pub is_for_nothing : Request → Bool
is_for_nothing (Permits n) = n == 0
is_for_nothing _ = false

-- giving back what a request took: true, and settled, where what is held has it; else false, and unchanged.
-- Giving no permits back is true and changes nothing
abbrev pub given_back_of : Object → Bool → Option Held → After Bool
given_back_of s true rest = record { state = s; reply = true }
given_back_of s false (Some rest) = record { state = settled (record s { held = rest }); reply = true }
given_back_of s false None = record { state = s; reply = false }

abbrev pub given_back : Object → Request → After Bool
given_back s request = given_back_of s (is_for_nothing request) (less s.held request)

-- a name that waited has left, and is idle: a semaphore and a lock settle, a barrier only forgets the arrival,
-- and a gate answers all others that somebody gave up
abbrev pub left_of : Object → Held → Object
left_of s (OfSemaphore bound out) = settled s
left_of s (OfShutSemaphore bound out) = settled s
left_of s (OfLock lock) = settled s
left_of s (OfGate gate) = all_answered spurious_value s
left_of s (OfBarrier size arrived round) = s

-- a semaphore and a lock get back what was granted; a gate and a barrier have nothing to get back
abbrev pub undone_of : Object → Held → Request → Object
undone_of s (OfSemaphore bound out) request = (given_back s request).state
undone_of s (OfShutSemaphore bound out) request = (given_back s request).state
undone_of s (OfLock lock) request = (given_back s request).state
undone_of s (OfGate gate) request = s
undone_of s (OfBarrier size arrived round) request = s

-- Dropping what a name is registered for; it is idle afterwards in every case.
-- An answer that granted something acts as the release of what was granted; any other answer is only consumed
abbrev pub dropped_of : Object → ℕ → Entry → Object
dropped_of s name Idle = s
dropped_of s name (Waiting request is_sync) =
    left_of (record (with_entry s name Idle) { line = without name s.line }) s.held
dropped_of s name (Answered value request is_sync slotted) =
    if value == granted_value
    then undone_of (with_entry s name Idle) s.held request
    else with_entry s name Idle

abbrev pub dropped : Object → ℕ → Object
dropped s name = dropped_of s name (entry_at s.book name)

-- a name that waited has left, and nobody is disturbed by it: at a gate all others wait on. Elsewhere it is as after a drop
abbrev pub quietly_left_of : Object → Held → Object
quietly_left_of s (OfSemaphore bound out) = left_of s (OfSemaphore bound out)
quietly_left_of s (OfShutSemaphore bound out) = left_of s (OfShutSemaphore bound out)
quietly_left_of s (OfLock lock) = left_of s (OfLock lock)
quietly_left_of s (OfGate gate) = s
quietly_left_of s (OfBarrier size arrived round) = left_of s (OfBarrier size arrived round)

-- Withdrawing what a name is registered for: dropping it, but for the others at a gate, which aren't told that a waiter
-- left. It is idle afterwards in every case
abbrev pub withdrawn_of : Object → ℕ → Entry → Object
withdrawn_of s name Idle = s
withdrawn_of s name (Waiting request is_sync) =
    quietly_left_of (record (with_entry s name Idle) { line = without name s.line }) s.held
withdrawn_of s name (Answered value request is_sync slotted) =
    dropped_of s name (Answered value request is_sync slotted)

abbrev pub withdrawn : Object → ℕ → Object
withdrawn s name = withdrawn_of s name (entry_at s.book name)

-- a poll whose answer is read as a primitive reads it
abbrev pub read_as : {V : Type 0} → (Result ℕ Error → V) → After (Result ℕ Error) → After V
read_as value after = record { state = after.state; reply = value after.reply }

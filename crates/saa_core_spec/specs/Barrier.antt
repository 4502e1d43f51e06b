-- The barrier object: as many tasks as its size pass together.
use Rattle.std.specs.Prelude.{ℕ, ◌+◌, ◌-◌, Bool, true, false, ◌&&◌, nat_le, nat_lt, length, min, if◌then◌else◌}
use Rattle.saa_core_spec.specs.declared.request.Request.{Request}
use Rattle.saa_core_spec.specs.declared.request.Request.TheVariants.{Arrive}
use Rattle.saa_core_spec.specs.declared.barrier.BarrierCall.{BarrierCall}
use Rattle.saa_core_spec.specs.declared.barrier.BarrierCall.TheVariants.{Count, Arrive as DoArrive, Join, Leave, Round}
use Rattle.saa_core_spec.specs.declared.barrier.BarrierAnswer.{BarrierAnswer}
use Rattle.saa_core_spec.specs.declared.barrier.BarrierAnswer.TheVariants.{Count as SaysCount, Bool as SaysBool, Round as SaysRound}
use Rattle.saa_core_spec.specs.Held.{Held, OfSemaphore, OfShutSemaphore, OfLock, OfGate, OfBarrier, max_tasks}
use Rattle.saa_core_spec.specs.Object.{Object, After, newly_made}
use Rattle.saa_core_spec.specs.Settling.{round_complete}
use Rattle.saa_core_spec.specs.Values.{passed_value}

-- the size of a barrier; nothing else has one
abbrev pub size_of : Held → ℕ
size_of (OfBarrier size arrived round) = size
size_of (OfSemaphore bound out) = 0
size_of (OfShutSemaphore bound out) = 0
size_of (OfLock lock) = 0
size_of (OfGate gate) = 0

-- how many arrivals of its round don't wait
abbrev pub arrived_of : Held → ℕ
arrived_of (OfBarrier size arrived round) = arrived
arrived_of (OfSemaphore bound out) = 0
arrived_of (OfShutSemaphore bound out) = 0
arrived_of (OfLock lock) = 0
arrived_of (OfGate gate) = 0

-- how many of its rounds are complete
abbrev pub round_of : Held → ℕ
round_of (OfBarrier size arrived round) = round
round_of (OfSemaphore bound out) = 0
round_of (OfShutSemaphore bound out) = 0
round_of (OfLock lock) = 0
round_of (OfGate gate) = 0

-- what every arrival asks
abbrev pub arrive_request : Unit {0} → Request
arrive_request ask = Arrive

-- how many have arrived in the round: the waiters, and the arrivals that don't wait
abbrev pub arrivals : Object → ℕ
arrivals s = arrived_of s.held + length s.line

-- whether a round is complete at this size: as many have arrived, or more, and some have
abbrev pub is_complete : (size arrivals : ℕ) → Bool
is_complete size arrivals = nat_lt 0 arrivals && nat_le size arrivals

-- A barrier of this size from now on, with so many arrivals that don't wait. If its round is complete at that size, all waiters
-- pass
abbrev pub resized : Object → (size arrived round : ℕ) → Object
resized s size arrived round =
    if is_complete size (arrived + length s.line)
    then round_complete passed_value s size round
    else record s { held = OfBarrier size arrived round }

-- An arrival that doesn't wait: it is counted, and the reply says whether it completes the round. At size 0 it changes nothing, and
-- the reply is false
abbrev pub arrived_at : Object → Held → After BarrierAnswer
arrived_at s (OfBarrier size arrived round) =
    if nat_lt 0 size
    then record { state = resized s size (arrived + 1) round; reply = SaysBool (is_complete size (arrived + 1 + length s.line)) }
    else record { state = s; reply = SaysBool false }
arrived_at s (OfSemaphore bound out) = record { state = s; reply = SaysBool false }
arrived_at s (OfShutSemaphore bound out) = record { state = s; reply = SaysBool false }
arrived_at s (OfLock lock) = record { state = s; reply = SaysBool false }
arrived_at s (OfGate gate) = record { state = s; reply = SaysBool false }

-- One task more: the size grows by 1, and the reply is true. At the greatest size nothing changes, and the reply is false. Waiters
-- of size 0 pass by this, as one arrival completes a round of size 1
abbrev pub joined_by : Object → Held → After BarrierAnswer
joined_by s (OfBarrier size arrived round) =
    if nat_lt size max_tasks
    then record { state = resized s (size + 1) arrived round; reply = SaysBool true }
    else record { state = s; reply = SaysBool false }
joined_by s (OfSemaphore bound out) = record { state = s; reply = SaysBool false }
joined_by s (OfShutSemaphore bound out) = record { state = s; reply = SaysBool false }
joined_by s (OfLock lock) = record { state = s; reply = SaysBool false }
joined_by s (OfGate gate) = record { state = s; reply = SaysBool false }

-- One task less: the size falls by 1, and the reply says whether that completes the round. At size 0 nothing changes, and the
-- reply is false
abbrev pub left_by_one : Object → Held → After BarrierAnswer
left_by_one s (OfBarrier size arrived round) =
    if nat_lt 0 size
    then record { state = resized s (size - 1) arrived round; reply = SaysBool (is_complete (size - 1) (arrived + length s.line)) }
    else record { state = s; reply = SaysBool false }
left_by_one s (OfSemaphore bound out) = record { state = s; reply = SaysBool false }
left_by_one s (OfShutSemaphore bound out) = record { state = s; reply = SaysBool false }
left_by_one s (OfLock lock) = record { state = s; reply = SaysBool false }
left_by_one s (OfGate gate) = record { state = s; reply = SaysBool false }

-- What each call of a barrier answers, and leaves. `Count` is the size less those that have arrived, and 0 for a barrier of size 0
abbrev pub barrier_step : BarrierCall → Object → After BarrierAnswer
barrier_step Count s = record { state = s; reply = SaysCount (size_of s.held - arrivals s) }
barrier_step DoArrive s = arrived_at s s.held
barrier_step Join s = joined_by s s.held
barrier_step Leave s = left_by_one s s.held
barrier_step Round s = record { state = s; reply = SaysRound (round_of s.held) }

-- a newly made barrier for at most 63 tasks
abbrev pub new_barrier : (count room names : ℕ) → Object
new_barrier count room names = newly_made (OfBarrier (min count max_tasks) 0 0) room names

-- Asking: a try that needs no ticket, and registering a name.
use Rattle.std.specs.Prelude.{ℕ, ◌+◌, Bool, true, false, ◌&&◌, ◌||◌, not, [], ◌∷◌, ◌++◌, length, Option, Some, None, Result, Ok, Err, if◌then◌else◌, ◌==◌, slice_set}
use Rattle.saa_core_spec.specs.declared.gate.State.{State}
use Rattle.saa_core_spec.specs.declared.gate.State.TheVariants.{Controlled, Sealed, Open}
use Rattle.saa_core_spec.specs.declared.request.Request.{Request}
use Rattle.saa_core_spec.specs.declared.request.Full.{Full}
use Rattle.saa_core_spec.specs.Held.{Held, OfSemaphore, OfShutSemaphore, OfLock, OfGate, OfBarrier, LockState, Free, Exclusive, Shared, Poisoned, fits, plus, asks_too_much}
use Rattle.saa_core_spec.specs.Object.{Object, After, Entry, Idle, Waiting, Answered, entry_at, with_entry, used, is_nobody}
use Rattle.saa_core_spec.specs.Settling.{round_complete}
use Rattle.saa_core_spec.specs.Values.{granted_value, closed_value, poisoned_value, leader_value, passed_value, opened_value, sealed_value}

-- whether a request is granted at once: nobody waits, and it fits. (What a semaphore never has doesn't fit.)
abbrev pub is_granted_at_once : Object → Request → Bool
is_granted_at_once s request = is_nobody s.line && fits s.held request

-- a try takes what is granted at once, and else changes nothing
abbrev pub tried : Object → Request → After Bool
tried s request =
    if is_granted_at_once s request
    then record { state = record s { held = plus s.held request }; reply = true }
    else record { state = s; reply = false }

-- what a registration takes and is answered, where that is at once. A lock and a semaphore grant what fits while
-- nobody waits
abbrev pub granted_at_once : Object → Request → Option (After ℕ)
granted_at_once s request =
    if is_granted_at_once s request
    then Some (record { state = record s { held = plus s.held request }; reply = granted_value })
    else None

-- a shut semaphore answers Closed
abbrev pub closed_answer : Object → Option (After ℕ)
closed_answer s = Some (record { state = s; reply = closed_value })

-- a poisoned lock answers Poisoned
abbrev pub lock_answers : Object → LockState → Request → Option (After ℕ)
lock_answers s Poisoned request = Some (record { state = s; reply = poisoned_value })
lock_answers s Free request = granted_at_once s request
lock_answers s Exclusive request = granted_at_once s request
lock_answers s (Shared n) request = granted_at_once s request

-- a gate that isn't controlled answers by its state
abbrev pub gate_answers : Object → State → Option (After ℕ)
gate_answers s Controlled = None
gate_answers s Sealed = Some (record { state = s; reply = sealed_value })
gate_answers s Open = Some (record { state = s; reply = opened_value })

-- the last arrival of a round lets all waiters pass, and is the leader
abbrev pub barrier_answers : Object → (size arrived round : ℕ) → Option (After ℕ)
barrier_answers s size arrived round =
    if arrived + length s.line + 1 == size
    then Some (record { state = round_complete passed_value s size round; reply = leader_value })
    else None

-- the state and the answer of a registration that needn't wait
abbrev pub answer_in : Object → Held → Request → Option (After ℕ)
answer_in s (OfSemaphore bound out) request = granted_at_once s request
answer_in s (OfShutSemaphore bound out) request = closed_answer s
answer_in s (OfLock lock) request = lock_answers s lock request
answer_in s (OfGate gate) request = gate_answers s gate
answer_in s (OfBarrier size arrived round) request = barrier_answers s size arrived round

abbrev pub answer_at_once : Object → Request → Option (After ℕ)
answer_at_once s request = answer_in s s.held request

-- whether an entry is idle
abbrev pub is_idle : Entry → Bool
is_idle Idle = true
is_idle (Waiting request is_sync) = false
is_idle (Answered value request is_sync slotted) = false

-- the name waits from now on, last in the line
abbrev pub joined : Object → ℕ → Request → Bool → Object
joined s name request is_sync = record s {
  line = s.line ++ (name, request) ∷ [];
  book = slice_set s.book name (Waiting request is_sync);
}

-- Registering a name: the first case that applies decides.
-- It isn't idle, or asks for more than there ever is: false. It is answered at once: true, and it holds no slot.
-- As many slots are held as there is room: Full. Else: true, and it waits. The first and the third change nothing
abbrev pub registered_of : Object → ℕ → Request → Bool → (is_refused : Bool) → Option (After ℕ) → (is_full : Bool) → After (Result Bool Full)
registered_of s name request is_sync true answer is_full = record { state = s; reply = Ok false }
registered_of s name request is_sync false (Some answer) is_full =
    record { state = with_entry answer.state name (Answered answer.reply request is_sync false); reply = Ok true }
registered_of s name request is_sync false None true = record { state = s; reply = Err (record {}) }
registered_of s name request is_sync false None false = record { state = joined s name request is_sync; reply = Ok true }

abbrev pub registered : Object → ℕ → Request → Bool → After (Result Bool Full)
registered s name request is_sync =
    registered_of s name request is_sync
    (not (is_idle (entry_at s.book name)) || asks_too_much s.held request)
    (answer_at_once s request)
    (used s == s.room)

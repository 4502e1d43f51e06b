-- How calls, what they answer, and the words of a poisoned lock and a shut semaphore are read. A reader of the clauses has to believe this, as the needs
-- (`specs/Needs.antt`) and the abstract state with its events (`specs/AbstractState.antt`).
use Rattle.std.specs.Prelude.{ℕ, ◌-◌, Bool, true, false, not, ◌&&◌, ◌==◌, if◌then◌else◌}
use Rattle.saa_core_spec.specs.declared.lock.Mode.{Mode}
use Rattle.saa_core_spec.specs.Held.{Free, Exclusive, request_number}
use Rattle.saa_core_spec.specs.Lock.{mode_request, try_answer}
use Rattle.saa_core_words.specs.declared.word.Word.{Word}
use Rattle.saa_core_words.specs.Words.{lock_count}
use Rattle.saa_word_steps.specs.declared.place.Registration.{Registration}
use Rattle.saa_word_steps.specs.declared.place.Registration.TheVariants.{Idle}
use Rattle.saa_word_steps.specs.declared.place.Reading.{Reading}
use Rattle.saa_word_steps.specs.declared.place.Reading.TheVariants.{Available as ReadsAvailable, IsFree as ReadsFree, IsLocked as ReadsLocked, IsShared as ReadsShared, IsPoisoned as ReadsPoisoned}
use Rattle.saa_word_steps.specs.declared.call.Answer.{Answer}
use Rattle.saa_word_steps.specs.declared.call.Answer.TheVariants.{Bool as Says, Number, Tried}
use Rattle.saa_word_steps.specs.declared.call.WordCall.{WordCall}
use Rattle.saa_word_steps.specs.declared.call.WordCall.TheVariants.{Try, Register, Release, Available, Shut, IsShut, TryPoll, Poll, Cancel}
use Rattle.saa_word_steps.specs.Needs.{Needs, kept}

-- the calls that a semaphore takes, and those that a lock takes
abbrev pub is_taken : Bool → WordCall → Bool
is_taken is_lock (Try count) = not is_lock
is_taken is_lock (Register count) = not is_lock
is_taken is_lock (Release count) = not is_lock
is_taken is_lock Available = not is_lock
is_taken is_lock Shut = not is_lock
is_taken is_lock IsShut = not is_lock
is_taken is_lock TryPoll = true
is_taken is_lock Poll = true
is_taken is_lock Cancel = true
is_taken is_lock _ = is_lock

-- the number of a mode
abbrev pub mode_number : Mode → ℕ
mode_number mode = request_number (mode_request mode)

-- whether a place is idle
abbrev pub is_idle : Registration → Bool
is_idle Idle = true
is_idle _ = false

-- what a try answers that is granted or refused, of a semaphore and of a lock
abbrev pub tried_answer : Needs → Bool → Answer
tried_answer needs is_granted = if needs.is_lock then Tried (try_answer is_granted false) else Says is_granted

-- what a try answers that finds a poisoned lock, or a shut semaphore
abbrev pub refusing_answer : Needs → Answer
refusing_answer needs = if needs.is_lock then Tried (try_answer false true) else Says false

-- what a reading call answers of a count and poison
abbrev pub read_as : Needs → Reading → ℕ → Bool → Answer
read_as needs ReadsAvailable count poisoned = Number (needs.top - count)
read_as needs ReadsFree count poisoned = Says ((count == lock_count Free) && not poisoned)
read_as needs ReadsLocked count poisoned = Says (count == lock_count Exclusive)
read_as needs ReadsShared count poisoned = Says (not (count == lock_count Free) && not (count == lock_count Exclusive))
read_as needs ReadsPoisoned count poisoned = Says poisoned

-- the main word of a poisoned lock
abbrev pub poisoned_word : Word
poisoned_word = record { count = 0; is_flagged = false; is_poisoned = true; tail = 0 }

-- the main word once a lock is poisoned, or a semaphore shut: nobody waits any more
abbrev pub refusing_word : Needs → Word → Word
refusing_word needs seen = record { count = kept needs seen.count; is_flagged = false; is_poisoned = true; tail = 0 }

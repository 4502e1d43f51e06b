-- How a call may try for what it asks before it registers.
use Rattle.std.specs.Prelude.{ℕ, Bool, true, false, not, ◌&&◌, Option, Some, None, Result, Ok, Err, ◌≡◌, ◌≤◌, ◌<◌, ◌-◌, ◌⊎◌}
use Rattle.saa_core_spec.specs.declared.lock.Mode.{Mode}
use Rattle.saa_core_spec.specs.declared.lock.Mode.TheVariants.{Exclusive, Shared, WaitExclusive, WaitShared}
use Rattle.saa_core_spec.specs.declared.lock.TryLockError.{TryLockError}
use Rattle.saa_core_spec.specs.declared.lock.TryLockError.TheVariants.{Poisoned, WouldBlock}
use Rattle.saa_core_spec.specs.declared.request.Request.TheVariants.{Exclusive as AskExclusive, Shared as AskShared, Permits}
use Rattle.saa_core_spec.specs.Asking.{tried}
use Rattle.saa_core_spec.specs.Held.{asks_too_much}
use Rattle.saa_core_spec.specs.Object.{Object, After}
use Rattle.saa_core_spec.specs.Semaphore.{is_shut}
use Rattle.saa_core_spec.specs.Values.{closed_value, poisoned_value}
use Rattle.saa_core_words.specs.declared.word.Word.{Word}
use Rattle.saa_core.specs.LockCalls.{lock_tried}

-- a step whose reply is read as a number, if it is an answer
abbrev pub with_number : {A : Type 0} → (A → Option ℕ) → After A → After (Option ℕ)
with_number number after = record { state = after.state; reply = number after.reply }

-- a try of a semaphore that is granted, or one whose every registration is answered that it was shut
abbrev pub permits_number : (is_closed is_granted : Bool) → Option ℕ
permits_number is_closed true = Some 0
permits_number true false = Some closed_value
permits_number false false = None

-- a try of a semaphore
abbrev pub permits_tried : ℕ → Object → After (Option ℕ)
permits_tried count s = with_number (permits_number (is_shut s.held && not (asks_too_much s.held (Permits count)))) (tried s (Permits count))

-- a try at a poisoned lock is answered that it is
abbrev pub lock_number : Result (Unit {0}) TryLockError → Option ℕ
lock_number (Ok granted) = Some 0
lock_number (Err Poisoned) = Some poisoned_value
lock_number (Err WouldBlock) = None

-- what is never tried: it changes nothing, and there is no answer
abbrev pub never_tried : {Ask : Type 0} → Ask → Object → After (Option ℕ)
never_tried ask s = record { state = s; reply = None }

-- a try of a lock, for the lock alone or a share; the wait modes aren't tried
abbrev pub mode_tried : Mode → Object → After (Option ℕ)
mode_tried Exclusive s = with_number lock_number (lock_tried s AskExclusive)
mode_tried Shared s = with_number lock_number (lock_tried s AskShared)
mode_tried WaitExclusive s = never_tried WaitExclusive s
mode_tried WaitShared s = never_tried WaitShared s

-- a try for so many permits may be answered at a semaphore of this word: nobody waits, and they aren't out; a shut one answers each
abbrev pub permits_fit : (bound count : ℕ) → Word → Type 0
permits_fit bound count word = (word.is_poisoned ≡ true) ⊎ ((word.tail ≡ 0) × (count ≤ bound - word.count))

-- a try may be answered at a lock of this word: nobody waits, and it is nobody's, or a share is left; a poisoned one answers each
abbrev pub mode_fits : Mode → Word → Type 0
mode_fits Exclusive word = (word.tail ≡ 0) × (word.count < 1)
mode_fits Shared word = (word.tail ≡ 0) × (word.count < 62)
mode_fits WaitExclusive word = ⊥
mode_fits WaitShared word = ⊥

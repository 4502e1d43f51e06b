-- The word's semaphore as a form: what its calls do.
use Rattle.std.specs.Prelude.{◌≡◌, ℕ, Bool, ◌⊎◌, true, false, Result, Ok, Err, [], ◌∷◌}
use Rattle.atomic_table.specs.Seated.{TableId}
use Rattle.saa_core_spec.specs.declared.lock.TryLockError.{TryLockError}
use Rattle.saa_core_spec.specs.declared.lock.TryLockError.TheVariants.{WouldBlock}
use Rattle.saa_core_spec.specs.declared.polling.Error.{Error}
use Rattle.saa_core_spec.specs.declared.polling.Error.TheVariants.{Closed}
use Rattle.saa_core_spec.specs.Values.{closed_value, granted_value}
use Rattle.saa_word_steps.specs.declared.call.Answer.{Answer}
use Rattle.saa_word_steps.specs.declared.call.WordCall.TheVariants.{Cancel, Poll, Register, Release, Try, TryPoll}
use Rattle.saa_word_steps.specs.declared.place.Registration.TheVariants.{Idle}
use Rattle.saa_word_threads.specs.declared.place.Place.{Place}
use Rattle.saa_word_threads.specs.declared.receipt.Receipt.{Receipt}
use Rattle.saa_word_threads.specs.declared.semaphore.SemaphoreOf.{SemaphoreOf}
use Rattle.saa_word_threads.specs.declared.visitor.Visitor.{Visitor}
use Rattle.saa_word_threads.specs.Kept.{departed}
use Rattle.saa_word_threads.specs.Public.{is_yes, polled, registered, view_of}
use Rattle.saa_word_threads.specs.Receipts.{IsReceiptAt, said}
use Rattle.saa_word_threads.specs.Semaphores.{IsMade, IsVisitedOnce, table_of}
use Rattle.saa_word_lock_free.specs.Calls.{IsReceivedBy}
use Rattle.saa_word_lock_free.specs.Places.{RestsIn}
use Rattle.saa_word_lock_free.specs.WordCalls.{WordCalls}

-- which table a place is of, and whether it is registered as nothing
abbrev pub home_of : Place → TableId
home_of place = place.seat.table_id

abbrev pub Rests : Place → Type 0
Rests place = registered place ≡ Idle

-- what a try tells: it was granted, or it would have to wait. One that finds the semaphore shut tells that, too: a call at a place is told why
abbrev pub try_result_of : Bool → Result (Unit {0}) TryLockError
try_result_of true = Ok tt
try_result_of false = Err WouldBlock

-- the number of what a poll tells: a grant, or that the semaphore was shut
abbrev pub number_of : Result (Unit {0}) Error → Result ℕ Error
number_of (Ok done) = Ok granted_value
number_of (Err Closed) = Ok closed_value
number_of (Err error) = Err error

-- a visitor that came for it tried for so many permits
abbrev pub IsTried : {max : ℕ} → SemaphoreOf max → ℕ → Result (Unit {0}) TryLockError → Visitor → Type 0
IsTried semaphore count reply visitor = (answer : Answer) × (reply ≡ try_result_of (is_yes answer)) × IsVisitedOnce semaphore (Try count) answer visitor

-- a visitor that came for it gave so many permits back
abbrev pub HasGivenBack : {max : ℕ} → SemaphoreOf max → ℕ → Visitor → Type 0
HasGivenBack semaphore count visitor = (answer : Answer) × IsVisitedOnce semaphore (Release count) answer visitor

-- a place was registered for so many permits, polled, and its registration cancelled
abbrev pub IsRegistered : {max : ℕ} → SemaphoreOf max → ℕ → Place → Bool → Place → Type 0
IsRegistered semaphore count old reply new = (answer : Answer) × (reply ≡ is_yes answer) × IsMade semaphore (Register count) old answer new

abbrev pub IsPolled : {max : ℕ} → SemaphoreOf max → Place → Result ℕ Error → Place → Type 0
IsPolled semaphore old reply new =
    (answer : Answer) × (reply ≡ number_of (polled answer)) × (IsMade semaphore Poll old answer new ⊎ IsMade semaphore TryPoll old answer new)

abbrev pub IsCancelled : {max : ℕ} → SemaphoreOf max → Place → Place → Type 0
IsCancelled semaphore old new = (answer : Answer) × IsMade semaphore Cancel old answer new

-- a receipt was given at the table of a place, and says what the place has seen
abbrev pub IsReceived : Place → Receipt → Type 0
IsReceived place receipt = IsReceiptAt (home_of place) receipt × (said receipt ≡ departed (view_of place) ∷ [])

-- the calls of a semaphore
abbrev pub calls_of : {max : ℕ} → SemaphoreOf max → WordCalls ℕ Place
calls_of semaphore = record {
  tries = IsTried semaphore;
  gives_back = HasGivenBack semaphore;
  rests = RestsIn home_of Rests (table_of semaphore);
  registers = IsRegistered semaphore;
  polls = IsPolled semaphore;
  cancels = IsCancelled semaphore;
  receives = IsReceived;
  receives_by = IsReceivedBy (table_of semaphore);
}

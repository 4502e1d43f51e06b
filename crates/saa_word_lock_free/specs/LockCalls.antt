-- What the calls of a lock are.
use Rattle.std.specs.Prelude.{◌≡◌, ◌==◌, ℕ, Bool, Option, Some, None, Result, Ok, Err}
use Rattle.saa_core_spec.specs.declared.lock.Mode.{Mode}
use Rattle.saa_core_spec.specs.declared.lock.TryLockError.{TryLockError}
use Rattle.saa_core_spec.specs.declared.polling.Error.{Error}
use Rattle.saa_core_spec.specs.Values.{granted_value}
use Rattle.saa_word_steps.specs.declared.call.Answer.{Answer}
use Rattle.saa_word_steps.specs.declared.call.WordCall.{WordCall}
use Rattle.saa_word_threads.specs.declared.lock.Lock.{Lock}
use Rattle.saa_word_threads.specs.declared.receipt.Receipt.{Receipt}
use Rattle.saa_word_threads.specs.declared.visitor.Visitor.{Visitor}
use Rattle.saa_word_threads.specs.Public.{is_yes}
use Rattle.saa_word_threads.specs.Locks.{IsVisitedOnce, table_of}
use Rattle.saa_word_lock_free.specs.Calls.{IsAcquired as IsAcquiredBy, IsAnswered as IsAnsweredBy, IsReceivedBy}
use Rattle.saa_word_lock_free.specs.OfLock.{IsTried, calls_of}

-- a visitor that came for it tried in a mode; and this is what it has seen
abbrev pub IsTriedIn : Lock → Mode → Result (Unit {0}) TryLockError → Type 0
IsTriedIn lock mode reply = (visitor : Visitor) × IsTried lock mode reply visitor

abbrev pub IsTriedWith : Lock → Mode → Result (Unit {0}) TryLockError → Receipt → Type 0
IsTriedWith lock mode reply receipt = (visitor : Visitor) × IsTried lock mode reply visitor × IsReceivedBy (table_of lock) visitor receipt

-- a visitor made a call, which is done or not, or reads yes or no; and this is what it has seen
abbrev pub IsDone : Lock → WordCall → Bool → Type 0
IsDone lock call is_done = (visitor : Visitor) × (answer : Answer) × (is_done ≡ is_yes answer) × IsVisitedOnce lock call answer visitor

abbrev pub IsDoneWith : Lock → WordCall → Bool → Receipt → Type 0
IsDoneWith lock call is_done receipt =
    (visitor : Visitor) × (answer : Answer) × (is_done ≡ is_yes answer) × IsVisitedOnce lock call answer visitor × IsReceivedBy (table_of lock) visitor receipt

-- a call in a mode was answered so: its visitor at once, or a place that waited; and this is what the one or the other has seen
abbrev pub IsAnswered : Lock → Mode → Result ℕ Error → Type 0
IsAnswered lock mode answer = IsAnsweredBy (calls_of lock) mode answer

abbrev pub IsAcquired : Lock → Mode → Result ℕ Error → Receipt → Type 0
IsAcquired lock mode answer receipt = IsAcquiredBy (calls_of lock) mode answer receipt

-- it was told whether it is granted
abbrev pub SaysGranted : Lock → Mode → Bool → Type 0
SaysGranted lock mode is_granted = (value : ℕ) × (is_granted ≡ (value == granted_value)) × IsAnswered lock mode (Ok value)

-- what a timed call tells: whether it is granted, or that its time is up
abbrev pub in_time : Result ℕ Error → Option Bool
in_time (Ok value) = Some (value == granted_value)
in_time (Err error) = None

-- The word's lock as a form: what its calls do.
use Rattle.std.specs.Prelude.{◌≡◌, ℕ, Bool, true, false, ◌⊎◌, Result, Ok, Err, [], ◌∷◌}
use Rattle.atomic_table.specs.Seated.{TableId}
use Rattle.saa_core_spec.specs.declared.lock.Mode.{Mode}
use Rattle.saa_core_spec.specs.declared.lock.Mode.TheVariants.{Exclusive, Shared, WaitExclusive, WaitShared}
use Rattle.saa_core_spec.specs.declared.lock.TryLockError.{TryLockError}
use Rattle.saa_core_spec.specs.declared.lock.TryLockError.TheVariants.{WouldBlock}
use Rattle.saa_core_spec.specs.declared.polling.Error.{Error}
use Rattle.saa_core_spec.specs.Values.{granted_value, poisoned_value}
use Rattle.saa_word_steps.specs.declared.call.Answer.{Answer}
use Rattle.saa_word_steps.specs.declared.call.WordCall.{WordCall}
use Rattle.saa_word_steps.specs.declared.call.WordCall.TheVariants.{Cancel, Poll, RegisterMode, ReleaseLock, ReleaseShare, TryLock, TryPoll, TryShare}
use Rattle.saa_word_steps.specs.declared.place.Registration.TheVariants.{Idle}
use Rattle.saa_word_threads.specs.declared.lock.Lock.{Lock}
use Rattle.saa_word_threads.specs.declared.lock.Place.{Place}
use Rattle.saa_word_threads.specs.declared.receipt.Receipt.{Receipt}
use Rattle.saa_word_threads.specs.declared.visitor.Visitor.{Visitor}
use Rattle.saa_word_threads.specs.Kept.{departed}
use Rattle.saa_word_threads.specs.Locks.{IsMade, IsVisitedOnce, about_of, table_of as table_of_lock}
use Rattle.saa_word_threads.specs.Public.{is_yes, polled_lock, registered, tried, view_of}
use Rattle.saa_word_threads.specs.Receipts.{IsReceiptAt, said}
use Rattle.saa_word_threads.specs.Visits.{IsNewVisitor}
use Rattle.saa_word_lock_free.specs.Calls.{IsReceivedBy}
use Rattle.saa_word_lock_free.specs.Places.{RestsIn}
use Rattle.saa_word_lock_free.specs.WordCalls.{WordCalls}

-- which table a place is of, and whether it is registered as nothing
abbrev pub home_of : Place → TableId
home_of place = place.inner.seat.table_id

abbrev pub Rests : Place → Type 0
Rests place = registered place.inner ≡ Idle

-- the number of what a poll tells: a grant, or that the lock was poisoned
abbrev pub number_of : Result Bool Error → Result ℕ Error
number_of (Ok true) = Ok granted_value
number_of (Ok false) = Ok poisoned_value
number_of (Err error) = Err error

-- a visitor that came for it tried
abbrev pub IsTriedBy : Lock → WordCall → Result (Unit {0}) TryLockError → Visitor → Type 0
IsTriedBy lock call reply visitor = (answer : Answer) × (reply ≡ tried answer) × IsVisitedOnce lock call answer visitor

-- a visitor that came for it tried in a mode; in a mode that takes nothing there is no try, and the visitor has made no call
abbrev pub IsTried : Lock → Mode → Result (Unit {0}) TryLockError → Visitor → Type 0
IsTried lock Exclusive reply visitor = IsTriedBy lock TryLock reply visitor
IsTried lock Shared reply visitor = IsTriedBy lock TryShare reply visitor
IsTried lock WaitExclusive reply visitor = (reply ≡ Err WouldBlock) × IsNewVisitor (table_of_lock lock) (about_of lock).places visitor
IsTried lock WaitShared reply visitor = (reply ≡ Err WouldBlock) × IsNewVisitor (table_of_lock lock) (about_of lock).places visitor

-- a visitor that came for it gave back what a mode takes; one that takes nothing needs no call
abbrev pub HasGivenBack : Lock → Mode → Visitor → Type 0
HasGivenBack lock Exclusive visitor = (answer : Answer) × IsVisitedOnce lock ReleaseLock answer visitor
HasGivenBack lock Shared visitor = (answer : Answer) × IsVisitedOnce lock ReleaseShare answer visitor
HasGivenBack lock WaitExclusive visitor = IsNewVisitor (table_of_lock lock) (about_of lock).places visitor
HasGivenBack lock WaitShared visitor = IsNewVisitor (table_of_lock lock) (about_of lock).places visitor

-- a place was registered in a mode, polled, and its registration cancelled
abbrev pub IsRegistered : Lock → Mode → Place → Bool → Place → Type 0
IsRegistered lock mode old reply new = (answer : Answer) × (reply ≡ is_yes answer) × IsMade (RegisterMode mode) old answer new

abbrev pub IsPolled : Lock → Place → Result ℕ Error → Place → Type 0
IsPolled lock old reply new = (answer : Answer) × (reply ≡ number_of (polled_lock answer)) × (IsMade Poll old answer new ⊎ IsMade TryPoll old answer new)

abbrev pub IsCancelled : Lock → Place → Place → Type 0
IsCancelled lock old new = (answer : Answer) × IsMade Cancel old answer new

-- a receipt was given at the table of a place, and says what the place has seen
abbrev pub IsReceived : Place → Receipt → Type 0
IsReceived place receipt = IsReceiptAt (home_of place) receipt × (said receipt ≡ departed (view_of place.inner) ∷ [])

-- the calls of a lock
abbrev pub calls_of : Lock → WordCalls Mode Place
calls_of lock = record {
  tries = IsTried lock;
  gives_back = HasGivenBack lock;
  rests = RestsIn home_of Rests (table_of_lock lock);
  registers = IsRegistered lock;
  polls = IsPolled lock;
  cancels = IsCancelled lock;
  receives = IsReceived;
  receives_by = IsReceivedBy (table_of_lock lock);
}

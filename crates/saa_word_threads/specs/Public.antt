-- What the calls of a form do, as their contracts say it.
use Rattle.std.specs.Prelude.{◌≡◌, ℕ, Bool, true, false, Result, Ok, Err}
use Rattle.saa_word_steps.specs.declared.call.Answer.{Answer}
use Rattle.saa_word_steps.specs.declared.call.Answer.TheVariants.{Bool as Says, Tried, Taken}
use Rattle.saa_word_steps.specs.declared.call.WordCall.{WordCall}
use Rattle.saa_word_steps.specs.declared.call.WordCall.TheVariants.{Poll, Cancel}
use Rattle.saa_word_steps.specs.declared.place.Registration.{Registration}
use Rattle.saa_word_steps.specs.Needs.{Needs}
use Rattle.saa_core_spec.specs.declared.lock.TryLockError.{TryLockError}
use Rattle.saa_core_spec.specs.declared.lock.TryLockError.TheVariants.{WouldBlock}
use Rattle.saa_core_spec.specs.declared.polling.Error.{Error}
use Rattle.saa_core_spec.specs.declared.polling.Error.TheVariants.{Closed}
use Rattle.saa_core_waits.specs.declared.spin_policy.SpinPolicy.{SpinPolicy}
use Rattle.saa_word_threads.specs.declared.place.Place.{Place}
use Rattle.saa_word_threads.specs.declared.place.Left.{Left}
use Rattle.saa_word_threads.specs.declared.table.View.{View}
use Rattle.saa_word_threads.specs.Called.{IsCalled}

-- what a place is registered as, and what it has seen and knows as its part
abbrev pub registered : Place → Registration
registered place = place.position.registration

abbrev pub view_of : Place → View
view_of place = place.seat.me.0

abbrev pub view_left : Left → View
view_left left = left.seat.me.0

-- the spin policy of the last call that asked at a place, or tried
abbrev pub spin_policy_of : Place → SpinPolicy
spin_policy_of place = place.last_ask.spin_policy

-- a place is another moment of a place: it has its number, and is of its table
abbrev pub IsSamePlace : Place → Place → Type 0
IsSamePlace old new = (new.number ≡ old.number) × (new.seat.table_id ≡ old.seat.table_id)

-- A call was made at a place, and answered so
abbrev pub IsMade : Needs → ℕ → WordCall → Place → Answer → Place → Type 0
IsMade needs withheld call old answer new = IsSamePlace old new × IsCalled needs withheld call (registered old) answer (registered new) (view_of old) (view_of new)

-- whether an answer is yes, and whether it is that of a poll that was granted
abbrev pub is_yes : Answer → Bool
is_yes (Says true) = true
is_yes _ = false

abbrev pub is_granted : Answer → Bool
is_granted (Taken (Ok true)) = true
is_granted _ = false

-- what a poll of a semaphore answers: one that is no grant says that the semaphore was shut
abbrev pub polled : Answer → Result (Unit {0}) Error
polled (Taken (Err error)) = Err error
polled (Taken (Ok false)) = Err Closed
polled _ = Ok tt

-- what a try of a lock answers, and what a poll of it does
abbrev pub tried : Answer → Result (Unit {0}) TryLockError
tried (Tried result) = result
tried _ = Err WouldBlock

abbrev pub polled_lock : Answer → Result Bool Error
polled_lock (Taken result) = result
polled_lock _ = Ok false

-- A wait is a registration, and then a poll where the registration was made
abbrev pub IsWaitedFrom : Bool → Needs → ℕ → Registration → Registration → View → View → Bool → Type 0
IsWaitedFrom false needs withheld was now v w result = (now ≡ was) × (w ≡ v) × (result ≡ false)
IsWaitedFrom true needs withheld was now v w result = (answer : Answer) × IsCalled needs withheld Poll was answer now v w × (result ≡ is_granted answer)

abbrev pub AcquiresAndPolls : Needs → ℕ → WordCall → Place → Bool → Place → Type 0
AcquiresAndPolls needs withheld registers old result new =
    IsSamePlace old new
    × ((answer : Answer) × (between : Registration) × (v : View)
    × IsCalled needs withheld registers (registered old) answer between (view_of old) v
    × IsWaitedFrom (is_yes answer) needs withheld between (registered new) v (view_of new) result)

-- A place has left: it has cancelled first
abbrev pub HasLeft : Needs → ℕ → Place → Left → Type 0
HasLeft needs withheld place left =
    (left.number ≡ place.number) × (left.seat.table_id ≡ place.seat.table_id)
    × ((answer : Answer) × (now : Registration) × IsCalled needs withheld Cancel (registered place) answer now (view_of place) (view_left left))

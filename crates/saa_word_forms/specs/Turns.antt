-- When a place has a turn at its lock.
use Rattle.std.specs.Prelude.{◌≡◌, ◌⊎◌, ℕ, zero, suc, Ok, Err, true, false}
use Rattle.saa_core_spec.specs.declared.lock.Mode.{Mode}
use Rattle.saa_core_spec.specs.declared.lock.Mode.TheVariants.{Exclusive, Shared}
use Rattle.saa_core_spec.specs.declared.lock.TryLockError.{TryLockError}
use Rattle.saa_word_steps.specs.declared.call.Answer.{Answer}
use Rattle.saa_word_steps.specs.declared.call.WordCall.{WordCall}
use Rattle.saa_word_steps.specs.declared.call.WordCall.TheVariants.{Cancel, ClearPoison, Downgrade, TryLock, TryShare}
use Rattle.saa_word_threads.specs.declared.lock.Place.{Place}
use Rattle.saa_word_threads.specs.Locks.{IsMade, AcquiresAndPolls}
use Rattle.saa_word_threads.specs.Public.{is_yes, tried}

-- a try of a place was granted
abbrev pub IsTriedAndGranted : WordCall → Place → Place → Type 0
IsTriedAndGranted call before place = (answer : Answer) × (tried answer ≡ Ok tt) × IsMade call before answer place

-- a try of a place was refused
abbrev pub IsTriedAndRefused : WordCall → Place → Place → Type 0
IsTriedAndRefused call before after =
    (answer : Answer) × (error : TryLockError) × (tried answer ≡ Err error) × IsMade call before answer after

-- A wait of a place was refused, and what may have refused it was cleared: the lock's poison, and what the place was registered as. It takes nothing
abbrev pub IsRefused : Mode → Place → Place → Type 0
IsRefused mode before after =
    (refused : Place) × (cleared : Place) × (said : Answer) × (answer : Answer)
    × AcquiresAndPolls mode before false refused × IsMade ClearPoison refused said cleared × IsMade Cancel cleared answer after

-- so many waits of a place were refused, one after another
abbrev pub AreRefused : Mode → ℕ → Place → Place → Type 0
AreRefused mode zero before after = after ≡ before
AreRefused mode (suc waits) before after = (between : Place) × AreRefused mode waits before between × IsRefused mode between after

-- a place waited, was refused so often, and then granted: only its last call took anything
abbrev pub IsWaitedFor : Mode → Place → Place → Type 0
IsWaitedFor mode before after = (refusals : ℕ) × (last : Place) × AreRefused mode refusals before last × AcquiresAndPolls mode last true after

-- a downgrade of a place lowered its lock to a share
abbrev pub IsLowered : Place → Place → Type 0
IsLowered before place = (answer : Answer) × (is_yes answer ≡ true) × IsMade Downgrade before answer place

-- the last call of a place took the lock for one owner alone: a try of it was granted, or a wait for it
abbrev pub TookLock : Place → Type 0
TookLock place = (before : Place) × (IsTriedAndGranted TryLock before place ⊎ AcquiresAndPolls Exclusive before true place)

abbrev pub HasLock : Place → Type 0
HasLock place = ∥ TookLock place ∥₁

-- a place that had the lock has a share: it was lowered to one, or it wasn't one owner's, and a share was waited for
abbrev pub IsLoweredOrWaitedFor : Place → Place → Type 0
IsLoweredOrWaitedFor before after =
    IsLowered before after
    ⊎ ((refused : Place) × (answer : Answer) × (is_yes answer ≡ false) × IsMade Downgrade before answer refused × IsWaitedFor Shared refused after)

-- the last call of a place took a share of the lock: a try of one was granted, or a wait for one, or a place that had the lock lowered it
abbrev pub TookShare : Place → Type 0
TookShare place =
    (before : Place)
    × (IsTriedAndGranted TryShare before place
    ⊎ (AcquiresAndPolls Shared before true place
    ⊎ (HasLock before × IsLowered before place)))

abbrev pub HasShare : Place → Type 0
HasShare place = ∥ TookShare place ∥₁

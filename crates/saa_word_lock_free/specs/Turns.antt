-- What a receipt says that a turn keeps.
use Rattle.std.specs.Prelude.{◌≡◌, ◌⊎◌, true, Ok}
use Rattle.saa_core_spec.specs.declared.lock.Mode.{Mode}
use Rattle.saa_core_spec.specs.declared.lock.Mode.TheVariants.{Shared}
use Rattle.saa_core_spec.specs.Values.{granted_value}
use Rattle.saa_word_steps.specs.declared.call.WordCall.TheVariants.{Downgrade}
use Rattle.saa_word_threads.specs.declared.lock.Lock.{Lock}
use Rattle.saa_word_threads.specs.declared.receipt.Receipt.{Receipt}
use Rattle.saa_word_lock_free.specs.LockCalls.{IsAcquired, IsDoneWith}
use Rattle.saa_word_lock_free.specs.OfLock.{calls_of}
use Rattle.saa_word_lock_free.specs.Pendings.{IsAnsweredLater}

-- A turn at a lock was granted in a mode: by a call that tried or waited, by a future, or, to be shared, by a downgrade of one owner's. The receipt
-- says what the visitor or the place that made the call had seen then
abbrev pub IsTurn : Lock → Mode → Receipt → Type 0
IsTurn lock mode receipt =
    IsAcquired lock mode (Ok granted_value) receipt
    ⊎ (IsAnsweredLater (calls_of lock) mode granted_value receipt
    ⊎ ((mode ≡ Shared) × IsDoneWith lock Downgrade true receipt))

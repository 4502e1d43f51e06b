-- The receipt of a turn was given at the table of its lock, since each call of a place leaves it at its table.
use Rattle.std.proofs.Common.{◌≡◌, ◌⊎◌, ◌∙◌, ℕ, zero, suc, inl, inr, Ok, Err, refl, subst}
use Rattle.std.proofs.Math.Logic.{∥∥₁_elim}
use denote.Struct.Props.{≡_prop}
use Rattle.atomic_table.specs.Seated.{table_id_coded}
use Rattle.std.specs.Prelude.{Result}
use Rattle.saa_core_spec.specs.declared.lock.Mode.{Mode}
use Rattle.saa_core_spec.specs.declared.lock.Mode.TheVariants.{Exclusive, Shared, WaitExclusive, WaitShared}
use Rattle.saa_core_spec.specs.declared.polling.Error.{Error}
use Rattle.saa_core_spec.specs.declared.polling.Error.TheVariants.{NotReady}
use Rattle.saa_core_spec.specs.Lock.{mode_request}
use Rattle.saa_core_spec.specs.Values.{granted_value}
use Rattle.saa_core_waits.specs.Waits.{CancelsUnanswered}
use Rattle.saa_word_steps.specs.declared.call.Answer.{Answer}
use Rattle.saa_word_steps.specs.declared.call.WordCall.TheVariants.{Poll, TryPoll}
use Rattle.saa_word_threads.specs.declared.lock.Lock.{Lock}
use Rattle.saa_word_threads.specs.declared.lock.Place.{Place}
use Rattle.saa_word_threads.specs.declared.receipt.Receipt.{Receipt}
use Rattle.saa_word_threads.specs.Locks.{IsMade, table_of}
use Rattle.saa_word_threads.specs.Receipts.{IsReceiptAt}
use Rattle.saa_word_lock_free.specs.Calls.{AcquiresAndPolls}
use Rattle.saa_word_lock_free.specs.LockCalls.{IsAcquired}
use Rattle.saa_word_lock_free.specs.OfLock.{IsCancelled, IsPolled, calls_of, home_of}
use Rattle.saa_word_lock_free.specs.Pendings.{ArePolledInVain, IsAnsweredLater, IsAwaited}
use Rattle.saa_word_lock_free.specs.Turns.{IsTurn}

-- a poll leaves a place at its table, in which way it was made
either-keeps : (old new : Place) (answer : Answer) → IsMade Poll old answer new ⊎ IsMade TryPoll old answer new → home_of new ≡ home_of old
either-keeps old new answer (inl made) = made.0.1
either-keeps old new answer (inr made) = made.0.1

poll-keeps : (lock : Lock) (old new : Place) (reply : Result ℕ Error) → IsPolled lock old reply new → home_of new ≡ home_of old
poll-keeps lock old new reply polled = either-keeps old new polled.0 polled.2

-- so do polls in vain
polls-keep : (lock : Lock) (count : ℕ) (old new : Place) → ArePolledInVain (calls_of lock) count old new → home_of new ≡ home_of old
polls-keep lock zero old new waited = cc
polls-keep lock (suc count) old new waited = poll-keeps lock waited.0 new (Err NotReady) waited.2 ∙ polls-keep lock count old waited.0 waited.1

-- and a cancel where there is no answer
end-keeps : (lock : Lock) (answer : Result ℕ Error) (old new : Place) → CancelsUnanswered (IsCancelled lock) answer old new → home_of new ≡ home_of old
end-keeps lock (Ok value) old new ended = cc
end-keeps lock (Err error) old new ended = ended.1.0.1

-- the receipt of a wait
wait-is-at : (lock : Lock) (mode : Mode) (answer : Result ℕ Error) (receipt : Receipt) → AcquiresAndPolls (calls_of lock) mode answer receipt
    → IsReceiptAt (table_of lock) receipt
wait-is-at lock mode answer receipt waited =
    waited.received.0
    ∙ end-keeps lock answer waited.after waited.last waited.ended
    ∙ poll-keeps lock waited.between waited.after answer waited.polled
    ∙ waited.registered.2.0.1
    ∙ waited.rested.0

-- a place that is awaited is at its table
await-is-at : (lock : Lock) (mode : Mode) (place : Place) → IsAwaited (calls_of lock) mode place → home_of place ≡ table_of lock
await-is-at lock mode place awaited = polls-keep lock awaited.count awaited.between place awaited.waited ∙ awaited.registered.2.0.1 ∙ awaited.rested.0

turn-is-at : (lock : Lock) (mode : Mode) (receipt : Receipt) → IsTurn lock mode receipt → IsReceiptAt (table_of lock) receipt
turn-is-at lock mode receipt (inl (inl at_once)) = at_once.4.0
turn-is-at lock mode receipt (inl (inr waited)) = wait-is-at lock mode (Ok 0) receipt waited
turn-is-at lock mode receipt (inr (inl (inl at_once))) = at_once.2.0
turn-is-at lock mode receipt (inr (inl (inr later))) =
    later.4.0 ∙ poll-keeps lock later.0 later.1 (Ok 0) later.3 ∙ await-is-at lock mode later.0 later.2
turn-is-at lock mode receipt (inr (inr lowered)) = lowered.1.4.0

pub turn-is-of-its-table : (lock : Lock) (mode : Mode) (receipt : Receipt) → ∥ IsTurn lock mode receipt ∥₁ → IsReceiptAt (table_of lock) receipt
turn-is-of-its-table lock mode receipt turn = ∥∥₁_elim turn (≡_prop table_id_coded _ _) (turn-is-at lock mode receipt)

-- a mode is known by its request
pub same-mode : (one other : Mode) → mode_request one ≡ mode_request other → one ≡ other
same-mode Exclusive Exclusive same = refl
same-mode Shared Shared same = refl
same-mode WaitExclusive WaitExclusive same = refl
same-mode WaitShared WaitShared same = refl
same-mode one other same = absurd (cc)

-- the answer of a call that waited, and of a future, is a turn where it is a grant
pub wait-is-turn : (lock : Lock) (mode : Mode) (value : ℕ) (receipt : Receipt) → value ≡ granted_value → IsAcquired lock mode (Ok value) receipt → ∥ IsTurn lock mode receipt ∥₁
wait-is-turn lock mode value receipt granted acquired = ∣ inl (subst (λ reply. IsAcquired lock mode (Ok reply) receipt) granted acquired) ∣₁

pub later-is-turn : (lock : Lock) (asked mode : Mode) (value : ℕ) (receipt : Receipt) → mode_request asked ≡ mode_request mode → value ≡ granted_value
    → IsAnsweredLater (calls_of lock) asked value receipt → ∥ IsTurn lock mode receipt ∥₁
later-is-turn lock asked mode value receipt same granted answered =
    let Q : Mode → Type 0 = λ reply. IsAnsweredLater (calls_of lock) reply granted_value receipt in
    let P : ℕ → Type 0 = λ reply. IsAnsweredLater (calls_of lock) asked reply receipt in
    ∣ inr (inl (subst Q (same-mode asked mode same) (subst P granted answered))) ∣₁

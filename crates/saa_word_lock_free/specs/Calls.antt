-- What the calls of a form are, in the terms of its word's calls.
use Rattle.std.specs.Prelude.{◌≡◌, ℕ, true, ◌⊎◌, Option, Some, None, Result, Ok, Err, [], ◌∷◌}
use Rattle.atomic_table.specs.Seated.{TableId}
use Rattle.saa_core_spec.specs.declared.lock.TryLockError.{TryLockError}
use Rattle.saa_core_spec.specs.declared.lock.TryLockError.TheVariants.{Poisoned, WouldBlock}
use Rattle.saa_core_spec.specs.declared.polling.Error.{Error}
use Rattle.saa_core_spec.specs.Values.{granted_value, poisoned_value}
use Rattle.saa_core_waits.specs.Waits.{CancelsUnanswered}
use Rattle.saa_word_threads.specs.declared.receipt.Receipt.{Receipt}
use Rattle.saa_word_threads.specs.declared.visitor.Visitor.{Visitor}
use Rattle.saa_word_threads.specs.Kept.{departed}
use Rattle.saa_word_threads.specs.Receipts.{IsReceiptAt, said}
use Rattle.saa_word_threads.specs.Visits.{view_of}
use Rattle.saa_word_lock_free.specs.WordCalls.{WordCalls}

-- a receipt was given at this table, and says what a visitor has seen
abbrev pub IsReceivedBy : TableId → Visitor → Receipt → Type 0
IsReceivedBy table visitor receipt = IsReceiptAt table receipt × (said receipt ≡ departed (view_of visitor) ∷ [])

-- the number that a try answers: a grant, or that the lock is poisoned; none where it would have to wait
abbrev pub number_at_once : Result (Unit {0}) TryLockError → Option ℕ
number_at_once (Ok granted) = Some granted_value
number_at_once (Err Poisoned) = Some poisoned_value
number_at_once (Err WouldBlock) = None

-- a visitor that came for it asked, and its try told so
abbrev pub IsAsked : (Result (Unit {0}) TryLockError → Visitor → Type 0) → Option ℕ → Visitor → Type 0
IsAsked tries number visitor = (after : Result (Unit {0}) TryLockError) × tries after visitor × (number ≡ number_at_once after)

module _ {Ask Place : Type 0} where
  -- A wait at a place that rested in the pool: a registration, a poll, and a cancel where that has no answer. The receipt says what the place had
  -- seen at the end
  pub record AcquiresAndPolls (calls : WordCalls Ask Place) (ask : Ask) (answer : Result ℕ Error) (receipt : Receipt) : Type 0 where
    pub first : Place
    pub between : Place
    pub after : Place
    pub last : Place
    pub rested : calls.rests first
    pub registered : calls.registers ask first true between
    pub polled : calls.polls between answer after
    pub ended : CancelsUnanswered calls.cancels answer after last
    pub received : calls.receives last receipt

  -- how a wait ends at a place that is registered: a poll, and a cancel where that has no answer
  abbrev pub HasEndedAt : WordCalls Ask Place → Place → Result ℕ Error → Receipt → Type 0
  HasEndedAt calls between answer receipt =
      (after : Place) × (last : Place) × calls.polls between answer after × CancelsUnanswered calls.cancels answer after last × calls.receives last receipt

  -- A call was answered so: its visitor at once, or a place that waited. The receipt says what the one or the other has seen
  abbrev pub IsAcquired : WordCalls Ask Place → Ask → Result ℕ Error → Receipt → Type 0
  IsAcquired calls ask answer receipt =
      ((visitor : Visitor) × (value : ℕ) × (answer ≡ Ok value) × IsAsked (calls.tries ask) (Some value) visitor × calls.receives_by visitor receipt)
      ⊎ AcquiresAndPolls calls ask answer receipt

  -- the same of a call that hands out no receipt
  abbrev pub IsAnswered : WordCalls Ask Place → Ask → Result ℕ Error → Type 0
  IsAnswered calls ask answer =
      ((visitor : Visitor) × (value : ℕ) × (answer ≡ Ok value) × IsAsked (calls.tries ask) (Some value) visitor)
      ⊎ ((receipt : Receipt) × AcquiresAndPolls calls ask answer receipt)

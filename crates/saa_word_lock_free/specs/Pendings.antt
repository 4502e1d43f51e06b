-- What a future has done at its form, in the terms of the word's calls: it came as a visitor, or it registered a place and polled that.
use Rattle.std.specs.Prelude.{◌≡◌, ℕ, zero, suc, true, ◌⊎◌, Option, Some, None, Ok, Err, IfSome}
use Rattle.saa_core_spec.specs.declared.polling.Error.TheVariants.{NotReady}
use Rattle.saa_word_pool.specs.declared.pool.Borrowed.{Borrowed}
use Rattle.saa_word_threads.specs.declared.receipt.Receipt.{Receipt}
use Rattle.saa_word_threads.specs.declared.visitor.Visitor.{Visitor}
use Rattle.saa_word_lock_free.specs.Calls.{IsAsked}
use Rattle.saa_word_lock_free.specs.WordCalls.{WordCalls}

-- What may be pending at a form: nothing, or a place that is out of its pool, awaits its answer, and came by such a wait
abbrev pub MayAwait : {Word Place : Type 0} → (Borrowed Place Word → Type 0) → (Place → Type 0) → (Place → Type 0) → Option (Borrowed Place Word) → Type 0
MayAwait is_out rests is_awaited None = Unit {0}
MayAwait is_out rests is_awaited (Some borrowed) = is_out borrowed × (rests borrowed.value → ⊥) × is_awaited borrowed.value

module _ {Ask Place : Type 0} where
  -- so many polls of a place found no answer, one after another
  abbrev pub ArePolledInVain : WordCalls Ask Place → ℕ → Place → Place → Type 0
  ArePolledInVain calls zero old new = new ≡ old
  ArePolledInVain calls (suc count) old new = (between : Place) × ArePolledInVain calls count old between × calls.polls between (Err NotReady) new

  -- A place that rested in the pool was registered, and has been polled in vain since
  pub record IsAwaited (calls : WordCalls Ask Place) (ask : Ask) (place : Place) : Type 0 where
    pub first : Place
    pub between : Place
    pub count : ℕ
    pub rested : calls.rests first
    pub registered : calls.registers ask first true between
    pub waited : ArePolledInVain calls count between place

  -- a place that awaited its answer had this one
  abbrev pub IsAnsweredAt : WordCalls Ask Place → Ask → ℕ → Type 0
  IsAnsweredAt calls ask value = (place : Place) × (after : Place) × IsAwaited calls ask place × calls.polls place (Ok value) after

  -- A future was answered so: its visitor at once, or its place at the last of its polls. The receipt says what the one or the other has seen
  abbrev pub IsAnsweredLater : WordCalls Ask Place → Ask → ℕ → Receipt → Type 0
  IsAnsweredLater calls ask value receipt =
      ((visitor : Visitor) × IsAsked (calls.tries ask) (Some value) visitor × calls.receives_by visitor receipt)
      ⊎ ((place : Place) × (after : Place) × IsAwaited calls ask place × calls.polls place (Ok value) after × calls.receives after receipt)

  -- A future was given up: its place, if it had joined, was cancelled
  abbrev pub IsWithdrawn : {Word : Type 0} → WordCalls Ask Place → Option (Borrowed Place Word) → Type 0
  IsWithdrawn calls borrowed = IfSome borrowed (λ at. (left : Place) × calls.cancels at.value left)

  -- A future was told so: it was answered, which somebody has a receipt of; or it was told nothing, since it asked for more than there ever is
  abbrev pub FutureAnswers : (Ask → Type 0) → WordCalls Ask Place → Ask → Option ℕ → Type 0
  FutureAnswers fits calls ask None = fits ask → ⊥
  FutureAnswers fits calls ask (Some value) = (receipt : Receipt) × IsAnsweredLater calls ask value receipt

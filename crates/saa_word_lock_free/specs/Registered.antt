-- What contracts see of a registration, and what a form's calls do to it.
use Rattle.std.specs.Prelude.{◌≡◌, ℕ, Bool, true, false, not, Option, Some, None, Result, Ok, Err, IfOk, IfSome}
use Rattle.atomic_table.specs.Seated.{TableId}
use Rattle.saa_core_spec.specs.declared.polling.Error.{Error}
use Rattle.saa_core_spec.specs.declared.polling.How.{How}
use Rattle.saa_core_spec.specs.declared.request.Full.{Full}
use Rattle.saa_core_spec.specs.Errors.{error_of}
use Rattle.saa_core_spec.specs.Polling.{is_right_mode}
use Rattle.saa_core_spec.specs.Values.{granted_value}
use Rattle.saa_core_waits.specs.Waits.{HasPolled}
use Rattle.saa_word_threads.specs.declared.visitor.Visitor.{Visitor}
use Rattle.saa_word_lock_free.specs.Calls.{IsAsked}
use Rattle.saa_word_lock_free.specs.Pendings.{IsAnsweredAt, IsAwaited}
use Rattle.saa_word_lock_free.specs.WordCalls.{WordCalls}

-- A task has registered nothing; or what it asked was answered at once, with this number, to this visitor; or a place of this word, out of the pool of this
-- table, awaits the answer. The last two have a mode, sync or async
pub data Registered (Ask Word : Type 0) : Type 0 where
  unregistered : Registered Ask Word
  at_once : ℕ → Ask → Visitor → Bool → Registered Ask Word
  at_place : Word → TableId → Ask → Bool → Registered Ask Word

module _ {Ask Word : Type 0} where
  -- whether something is registered
  abbrev pub is_busy : Registered Ask Word → Bool
  is_busy unregistered = false
  is_busy (at_once value ask visitor is_sync) = true
  is_busy (at_place word pool ask is_sync) = true

  -- its mode and what was asked, if something is registered
  abbrev pub mode_of : Registered Ask Word → Option Bool
  mode_of unregistered = None
  mode_of (at_once value ask visitor is_sync) = Some is_sync
  mode_of (at_place word pool ask is_sync) = Some is_sync

  abbrev pub ask_of : Registered Ask Word → Option Ask
  ask_of unregistered = None
  ask_of (at_once value ask visitor is_sync) = Some ask
  ask_of (at_place word pool ask is_sync) = Some ask

  -- whether a way to poll it is that of the other mode
  abbrev pub is_wrong_mode : How → Registered Ask Word → Bool
  is_wrong_mode how unregistered = false
  is_wrong_mode how (at_once value ask visitor is_sync) = not (is_right_mode how is_sync)
  is_wrong_mode how (at_place word pool ask is_sync) = not (is_right_mode how is_sync)

  -- the number that it was answered at once, if it was
  abbrev pub number_of : Registered Ask Word → Option ℕ
  number_of unregistered = None
  number_of (at_once value ask visitor is_sync) = Some value
  number_of (at_place word pool ask is_sync) = None

-- whether a registration says that it was made
abbrev pub is_yes : Result Bool Full → Bool
is_yes (Ok reply) = reply
is_yes (Err full) = false

-- What a registration as sync or as async does: it is made exactly where that is said, for what was asked and in that mode, and else nothing has changed
pub record IsRegistered {Ask Word : Type 0} (ask : Ask) (is_sync : Bool) (old new : Registered Ask Word) (reply : Result Bool Full) : Type 0 where
  pub busy : is_busy old ≡ true → reply ≡ Ok false
  pub made : is_yes reply ≡ true → (is_busy new ≡ true) × (mode_of new ≡ Some is_sync)
  pub asked : is_yes reply ≡ true → ask_of new ≡ Some ask
  pub same : is_yes reply ≡ false → new ≡ old

module _ {Ask Word Place : Type 0} where
  -- A form of this word, with the pool of this table, takes it: what was answered at once is what a visitor of this word was told that came for it
  abbrev pub IsTakenAt : (Word → WordCalls Ask Place) → Word → TableId → Registered Ask Word → Type 0
  IsTakenAt calls word pool unregistered = Unit {0}
  IsTakenAt calls word pool (at_once value ask visitor is_sync) = IsAsked ((calls word).tries ask) (Some value) visitor
  IsTakenAt calls word pool (at_place at of ask is_sync) = (at ≡ word) × (of ≡ pool)

  -- it is told this number: the one that it was answered at once, or that of a place which was registered for it, has been polled in vain, and then had an answer
  abbrev pub HasAnswered : (Word → WordCalls Ask Place) → Registered Ask Word → ℕ → Type 0
  HasAnswered calls unregistered number = ⊥
  HasAnswered calls (at_once value ask visitor is_sync) number = number ≡ value
  HasAnswered calls (at_place word pool ask is_sync) number = IsAnsweredAt (calls word) ask number

  -- it was withdrawn: what it was granted at once a visitor gave back, at the word where it was granted; or its place, which was registered for it and has been
  -- polled in vain, was cancelled
  abbrev pub IsWithdrawnFrom : (Word → WordCalls Ask Place) → Registered Ask Word → Type 0
  IsWithdrawnFrom calls unregistered = Unit {0}
  IsWithdrawnFrom calls (at_once value ask visitor is_sync) =
      (word : Word) × IsAsked ((calls word).tries ask) (Some value) visitor × (value ≡ granted_value → (giver : Visitor) × (calls word).gives_back ask giver)
  IsWithdrawnFrom calls (at_place word pool ask is_sync) = (place : Place) × (left : Place) × IsAwaited (calls word) ask place × (calls word).cancels place left

  -- What a poll does, and that its number is its own where it was answered at once
  pub record IsPolled (calls : Word → WordCalls Ask Place) (how : How) (old new : Registered Ask Word) (answer : Result ℕ Error) : Type 0 where
    pub polled : HasPolled is_busy is_wrong_mode number_of how old new (error_of answer)
    pub own : IfSome (number_of old) (λ kept. IfOk answer (λ value. value ≡ kept))
    pub came : IfOk answer (HasAnswered calls old)

  -- what a cancel does
  pub record IsCancelled (calls : Word → WordCalls Ask Place) (old new : Registered Ask Word) : Type 0 where
    pub left : new ≡ unregistered
    pub withdrawn : IsWithdrawnFrom calls old

-- What is kept of a registration, and what it is registered as by that.
use Rattle.std.specs.Prelude.{◌≡◌, ℕ, Bool, true, false, Option, Some, Result, IfOk}
use Rattle.atomic_table.specs.Seated.{TableId}
use Rattle.saa_core_spec.specs.declared.polling.Error.{Error}
use Rattle.saa_core_spec.specs.Errors.{error_of, is_not_ready}
use Rattle.saa_word_pool.specs.declared.pool.Borrowed.{Borrowed}
use Rattle.saa_word_threads.specs.declared.visitor.Visitor.{Visitor}
use Rattle.saa_word_lock_free.specs.declared.registration.Kept.{Kept}
use Rattle.saa_word_lock_free.specs.declared.registration.Kept.TheVariants.{Nothing, AtOnce, AtPlace}
use Rattle.saa_word_lock_free.specs.Pendings.{IsAnsweredAt, IsAwaited}
use Rattle.saa_word_lock_free.specs.Registered.{Registered, at_once, at_place, unregistered}
use Rattle.saa_word_lock_free.specs.WordCalls.{WordCalls}

module _ {Ask Place Word : Type 0} where
  abbrev pub registered_as : Bool → Kept Ask Place Word → Registered Ask Word
  registered_as is_sync Nothing = unregistered
  registered_as is_sync (AtOnce value ask visitor) = at_once value ask visitor is_sync
  registered_as is_sync (AtPlace borrowed ask) = at_place borrowed.seat.me.0.key borrowed.seat.table_id ask is_sync

  -- a place awaits the answer to this: it is one of its word's, is registered for it, and has been polled in vain since
  abbrev pub Awaits : (Word → WordCalls Ask Place) → (Word → TableId) → (Place → TableId) → (Place → Type 0) → Word → Ask → Place → Type 0
  Awaits calls table home rests word ask place = (home place ≡ table word) × (rests place → ⊥) × IsAwaited (calls word) ask place

  -- What a poll of such a place leaves: with an answer that came there it is registered as nothing, and where the answer isn't there yet it goes on awaiting that
  pub record IsPolledAt (calls : Word → WordCalls Ask Place) (awaits : Ask → Place → Type 0) (rests : Place → Type 0) (word : Word) (ask : Ask) (answer : Result ℕ Error) (place : Place) : Type 0 where
    pub came : IfOk answer (IsAnsweredAt (calls word) ask)
    pub rested : is_not_ready (error_of answer) ≡ false → rests place
    pub awaited : is_not_ready (error_of answer) ≡ true → awaits ask place

  -- a place that is kept awaits its answer
  abbrev pub IsKept : (Word → Ask → Place → Type 0) → Kept Ask Place Word → Type 0
  IsKept awaits Nothing = Unit {0}
  IsKept awaits (AtOnce value ask visitor) = Unit {0}
  IsKept awaits (AtPlace borrowed ask) = awaits borrowed.seat.me.0.key ask borrowed.value

  -- this is kept of what is registered so
  abbrev pub IsKeptAs : (Word → Ask → Place → Type 0) → Registered Ask Word → Bool → Kept Ask Place Word → Type 0
  IsKeptAs awaits registered is_sync kept = (registered ≡ registered_as is_sync kept) × IsKept awaits kept

  -- this was kept at a form: what its visitor was told, or a place that is out of its pool and awaits its answer
  abbrev pub IsKeptAt : (Ask → Option ℕ → Visitor → Type 0) → (Borrowed Place Word → Type 0) → (Ask → Place → Type 0) → Kept Ask Place Word → Type 0
  IsKeptAt asked is_out awaits Nothing = Unit {0}
  IsKeptAt asked is_out awaits (AtOnce value ask visitor) = asked ask (Some value) visitor
  IsKeptAt asked is_out awaits (AtPlace borrowed ask) = is_out borrowed × awaits ask borrowed.value

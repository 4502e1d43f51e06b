-- What contracts see of a form.
use Rattle.std.specs.Prelude.{◌≡◌, ℕ}
use Rattle.atomic_table.specs.Seated.{TableId}
use Rattle.saa_core_waits.specs.declared.spin_policy.SpinPolicy.{SpinPolicy}
use Rattle.saa_word_pool.specs.Pools.{IsOf}
use Rattle.saa_word_pool.specs.declared.pool.AllOut.{AllOut}
use Rattle.saa_word_pool.specs.declared.pool.Borrowed.{Borrowed}
use Rattle.saa_word_lock_free.specs.Registered.{IsTakenAt, Registered}
use Rattle.saa_word_lock_free.specs.WordCalls.{WordCalls}

-- its word, which is the key of its pool; how often a call looks before its place joins; and which of all tables its pool is
pub record FormState (W : Type 0) : Type 0 where
  pub word : W
  pub spin_policy : SpinPolicy
  pub pool : TableId

module _ {W : Type 0} where
  -- a registration that a form takes: it has nothing, the answer of a visitor of the form's word, or a place of that word which is out of the form's pool
  abbrev pub TakesAt : {Ask Place : Type 0} → (W → WordCalls Ask Place) → FormState W → Registered Ask W → Type 0
  TakesAt calls form registered = IsTakenAt calls form.word form.pool registered

  -- a place of a form's words is out of its pool
  abbrev pub IsOut : {Place : Type 0} → (W → TableId) → (Place → TableId) → FormState W → Borrowed Place W → Type 0
  IsOut table home form borrowed = IsOf form.pool form.word borrowed.seat × (home borrowed.value ≡ table form.word)

  -- a call was refused by the pool of a form: in the pool's one history its part is that all places were out
  abbrev pub IsRefusedBy : {Place : Type 0} → FormState W → AllOut Place W → Type 0
  IsRefusedBy form no_place = IsOf form.pool form.word no_place.seat

  -- a call was refused so
  abbrev pub WasFull : Type 0 → FormState W → Type 0
  WasFull Place form = (no_place : AllOut Place W) × IsRefusedBy form no_place

  -- what a task that polls at a form waits for
  abbrev pub source_of : (W → ℕ) → FormState W → ℕ
  source_of source form = source form.word

-- What contracts see of a pool.
use Rattle.std.specs.Prelude.{◌≡◌, ℕ, Option}
use Rattle.atomic_table.specs.Seated.{TableId}
use Rattle.atomic_table.specs.declared.shared.Seat.{Seat}
use Rattle.saa_word_pool.specs.declared.pool.AllOut.{AllOut}
use Rattle.saa_word_pool.specs.declared.pool.Borrowed.{Borrowed}
use Rattle.saa_word_pool.specs.declared.pool.Pool.{Pool}
use Rattle.saa_word_pool.specs.declared.pool.Receipt.{Receipt}
use Rattle.saa_word_pool.specs.declared.table.View.{View}

-- a call was made at the table of a pool with this key
abbrev pub IsOf : {T K : Type 0} → TableId → K → Seat (Option T) (View K) → Type 0
IsOf table key seat = (seat.table_id ≡ table) × (seat.me.0.key ≡ key)

module _ {T K P : Type 0} where
  -- the key that says which values may lie in a pool, and how many values it has, in or out
  abbrev pub key_of : Pool T K P → K
  key_of pool = pool.table.shared.key

  abbrev pub places_of : Pool T K P → ℕ
  places_of pool = pool.places

  -- a call was made at a pool
  abbrev pub IsAt : Pool T K P → Seat (Option T) (View K) → Type 0
  IsAt pool seat = IsOf pool.table.shared.table_id pool.table.shared.key seat

  -- a value is out of this pool
  abbrev pub IsFrom : Pool T K P → Borrowed T K → Type 0
  IsFrom pool borrowed = IsAt pool borrowed.seat

  -- a call was refused by this pool: in its one history that call's part is that it was refused, where all were out
  abbrev pub IsRefusedBy : Pool T K P → AllOut T K → Type 0
  IsRefusedBy pool all_out = IsAt pool all_out.seat

  -- a call took a value out of this pool and gave it back: in its one history that is the call's part
  abbrev pub IsReceiptOf : Pool T K P → Receipt T K → Type 0
  IsReceiptOf pool receipt = IsAt pool receipt.seat

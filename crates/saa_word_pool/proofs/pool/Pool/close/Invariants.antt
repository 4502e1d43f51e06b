use Rattle.std.proofs.Common.{◌≡◌, ◌≤◌, ◌<◌, ℕ, true, false, get_or}
use Rattle.std.specs.Prelude.{All, vec_capacity, vec_len}
use Rattle.std.specs.Slots.{slots_filled, slots_items, slots_len}
use Rattle.saa_word_pool.proofs.pool.Pool.close.Given as goal

abbrev pub invariant-loop-index : goal.invariant-loop-index
invariant-loop-index g l =
    (l.closed.words ≡ l.initial.closed.words) × (slots_items l.closed.slots ≡ slots_items l.initial.closed.slots)
    × (slots_len l.closed.slots ≡ l.places) × ((k : ℕ) → k < l.index → get_or (slots_filled l.closed.slots) k false ≡ false)
    × ((k : ℕ) → l.index ≤ k → k < l.places → get_or (slots_filled l.closed.slots) k false ≡ true)
    × All (g.P.PoolRule.belongs l.fn.self.table.shared.key) l.values.items × (vec_len l.values ≤ l.index) × (l.places ≤ vec_capacity l.values)

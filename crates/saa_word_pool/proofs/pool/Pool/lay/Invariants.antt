use Rattle.std.proofs.Common.{◌≡◌, ◌+◌, ◌≤◌}
use Rattle.std.specs.Prelude.{All, vec_capacity, vec_len}
use Rattle.saa_word_pool.specs.Kept.{IsRest}
use Rattle.saa_word_pool.proofs.pool.Pool.lay.Given as goal

abbrev pub invariant-loop-value : goal.invariant-loop-value
invariant-loop-value g l =
    (vec_len l.slots + vec_len l.values ≡ vec_len l.fn.values) × (vec_len l.fn.values ≤ vec_capacity l.slots)
    × All (IsRest (g.P.PoolRule.belongs l.about)) l.slots.items
    × All (g.P.PoolRule.belongs l.about) l.values.items

abbrev pub decreases-loop-value : goal.decreases-loop-value
decreases-loop-value g l = vec_len l.values

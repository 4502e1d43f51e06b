use Rattle.std.proofs.Common.{◌≡◌, []}
use Rattle.saa_word_pool.specs.Kept.{at_part, looked}
use Rattle.saa_word_pool.specs.Pools.{IsOf}
use Rattle.saa_word_pool.proofs.pool.Pool.reserve.Given as goal

abbrev pub invariant-loop-turn : goal.invariant-loop-turn
invariant-loop-turn g l =
    IsOf l.self.table.shared.table_id l.self.table.shared.key l.seat × (l.seat.me ≡ (at_part l.self.table.shared.key (looked l.found), []))

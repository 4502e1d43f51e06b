use Rattle.saa_word_pool.specs.Pools.{IsOf}
use Rattle.saa_word_pool.proofs.pool.Pool.redeem.Given as goal

abbrev pub invariant-loop-turn : goal.invariant-loop-turn
invariant-loop-turn g l = IsOf l.self.table.shared.table_id l.self.table.shared.key l.reservation.seat

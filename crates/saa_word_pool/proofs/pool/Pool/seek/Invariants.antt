use Rattle.saa_word_pool.specs.Pools.{IsOf}
use Rattle.saa_word_pool.proofs.pool.Pool.seek.Given as goal

abbrev pub invariant-loop-attempt : goal.invariant-loop-attempt
invariant-loop-attempt g l = IsOf l.self.table.shared.table_id l.self.table.shared.key l.reservation.seat

use Rattle.saa_word_pool.specs.Pools.{IsOf}
use Rattle.saa_word_pool.proofs.pool.Pool.scan.Given as goal

abbrev pub invariant-loop-index : goal.invariant-loop-index
invariant-loop-index g l = IsOf l.self.table.shared.table_id l.self.table.shared.key l.reservation.seat

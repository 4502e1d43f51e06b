use Rattle.std.proofs.Common.{arith, rules}
use Rattle.saa_word_pool.proofs.Stepping.{counts, looks}
use Rattle.saa_word_pool.proofs.pool.Pool.reserve.Goals as goal

pub load_new_seat-found-requires : goal.load_new_seat-found-requires
load_new_seat-found-requires g c = (
  search rules,
  looks (g.P.PoolRule.belongs c.args.self.now.table.shared.key) c.args.self.now.table.shared.key c.args.self.now.table.shared.table_id.slots
      c.from-count.result (search rules),
)

pub compare_exchange-found-requires : goal.compare_exchange-found-requires
compare_exchange-found-requires g c = (
  search rules,
  search rules,
  counts (g.P.PoolRule.belongs c.args.self.now.table.shared.key) c.args.self.now.table.shared.key c.args.self.now.table.shared.table_id.slots
      c.from-count.result c.loop-turn.seat.id c.loop-turn.found _ c.loop-turn.seat.me (search rules) (search rules) (omega arith) (omega arith),
)

use Rattle.std.proofs.Common.{rules}
use Rattle.saa_word_pool.proofs.Stepping.{counts-back, puts-back}
use Rattle.saa_word_pool.proofs.pool.Pool.give.Goals as goal

pub store-requires : goal.store-requires
store-requires g c = (
  search rules,
  search rules,
  puts-back (g.P.PoolRule.belongs c.args.self.now.table.shared.key) c.args.self.now.table.shared.key c.args.self.now.table.shared.table_id.slots
      c.exchange.new.seat.id c.from-slot.result c.args.borrowed.value c.exchange.new.seat.me (search rules) (search rules) c.requires.belongs,
)

pub fetch_add-requires : goal.fetch_add-requires
fetch_add-requires g c = (
  search rules,
  search rules,
  counts-back (g.P.PoolRule.belongs c.args.self.now.table.shared.key) c.args.self.now.table.shared.key c.args.self.now.table.shared.table_id.slots
      c.from.result c.store.new.seat.id c.store.new.seat.me (search rules) (search rules) (search rules),
)

use Rattle.std.proofs.Common.{rules}
use Rattle.saa_word_pool.proofs.Stepping.{carries-one, takes-out}
use Rattle.saa_word_pool.proofs.pool.Pool.take_from.Goals as goal

pub swap-found-requires : goal.swap-found-requires
swap-found-requires g c = (
  search rules,
  search rules,
  takes-out g.P.PoolRule.belongs c.args.self.now.table.shared.key c.args.self.now.table.shared.table_id.slots
      c.args.reservation.seat.id c.from-slot.result c.args.reservation.seat.me (search rules) (search rules),
)

pub exchange-requires : goal.exchange-requires
exchange-requires g c = (
  search rules,
  carries-one g.P.PoolRule.belongs c.args.reservation.seat.me c.swap-found.new.seat.me c.from-slot.result c.swap-found.result c.swap-found.ensures.2
      (search rules),
)

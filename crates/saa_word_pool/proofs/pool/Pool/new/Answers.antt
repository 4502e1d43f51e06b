use Rattle.std.proofs.Common.{rules}
use Rattle.saa_word_pool.proofs.Opening.{opens}
use Rattle.saa_word_pool.proofs.pool.Pool.new.Goals as goal

pub new-requires-2 : goal.new-requires-2
new-requires-2 g c =
    opens (g.P.PoolRule.belongs c.args.about.now) c.args.about.now c.as_slice.result.now c.in_ok-slots.slots.items c.len-places.result (search rules)
    (search rules) (search rules)

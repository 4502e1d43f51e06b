use Rattle.std.proofs.Common.{arith}
use Rattle.saa_core.proofs.GatheringLemmas.Rounds.{count_calls}
use Rattle.saa_core.proofs.barrier.BarrierCore.count.Goals as goal

pub returns-clause-calls : goal.returns-clause-calls
returns-clause-calls c = rw (← c.self.view_is) (count_calls _ _ (omega arith))

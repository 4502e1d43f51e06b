use Rattle.std.proofs.Common.{refl}
use Rattle.saa_core.proofs.GatheringLemmas.Rounds.{round_calls}
use Rattle.saa_core.proofs.barrier.BarrierCore.round.Goals as goal

pub returns-clause-calls : goal.returns-clause-calls
returns-clause-calls c = rw (← c.self.view_is) (round_calls _ _ refl)

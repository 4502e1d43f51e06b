-- Every run of a newly made barrier leaves it in order.
use Rattle.saa_core_laws.proofs.BarrierLaws.{barrier-in_order}
use Rattle.saa_core_laws.proofs.OpenBarriers.{open-in_order}
use Rattle.saa_core_laws.proofs.laws.barrier_runs.Goals as goal

pub returns-clause-fixed : goal.returns-clause-fixed
returns-clause-fixed c = barrier-in_order

pub returns-clause-open : goal.returns-clause-open
returns-clause-open c = open-in_order

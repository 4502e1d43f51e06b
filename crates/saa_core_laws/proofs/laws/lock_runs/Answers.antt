-- Every run of a newly made lock leaves it in order.
use Rattle.saa_core_laws.proofs.LockLaws.{lock-in_order}
use Rattle.saa_core_laws.proofs.laws.lock_runs.Goals as goal

pub returns : goal.returns
returns c = lock-in_order

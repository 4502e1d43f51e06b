-- Every run of a newly made semaphore leaves it in order.
use Rattle.saa_core_laws.proofs.SemaphoreLaws.{semaphore-in_order}
use Rattle.saa_core_laws.proofs.laws.semaphore_runs.Goals as goal

pub returns : goal.returns
returns c = semaphore-in_order

-- A settled semaphore stays settled.
use Rattle.saa_core_laws.proofs.SettledKinds.{semaphore-settled_command, semaphore-settled_run}
use Rattle.saa_core_laws.proofs.laws.semaphore_stays_settled.Goals as goal

pub returns-clause-command : goal.returns-clause-command
returns-clause-command c = semaphore-settled_command

pub returns-clause-run : goal.returns-clause-run
returns-clause-run c = semaphore-settled_run

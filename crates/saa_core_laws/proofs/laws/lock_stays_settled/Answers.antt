-- A settled lock stays settled.
use Rattle.saa_core_laws.proofs.SettledKinds.{lock-settled_command, lock-settled_run}
use Rattle.saa_core_laws.proofs.laws.lock_stays_settled.Goals as goal

pub returns-clause-command : goal.returns-clause-command
returns-clause-command c = lock-settled_command

pub returns-clause-run : goal.returns-clause-run
returns-clause-run c = lock-settled_run

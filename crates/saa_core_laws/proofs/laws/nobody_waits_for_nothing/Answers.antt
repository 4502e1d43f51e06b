-- Nobody waits for nothing, after every run.
use Rattle.saa_core_laws.proofs.Waits.{semaphore-nobody_waits, shut_semaphore-nobody_waits, free_lock-nobody_waits, poisoned_lock-nobody_waits, gate-nobody_waits}
use Rattle.saa_core_laws.proofs.laws.nobody_waits_for_nothing.Goals as goal

pub returns-clause-semaphore : goal.returns-clause-semaphore
returns-clause-semaphore c = semaphore-nobody_waits

pub returns-clause-shut_semaphore : goal.returns-clause-shut_semaphore
returns-clause-shut_semaphore c = shut_semaphore-nobody_waits

pub returns-clause-free_lock : goal.returns-clause-free_lock
returns-clause-free_lock c = free_lock-nobody_waits

pub returns-clause-poisoned_lock : goal.returns-clause-poisoned_lock
returns-clause-poisoned_lock c = poisoned_lock-nobody_waits

pub returns-clause-gate : goal.returns-clause-gate
returns-clause-gate c = gate-nobody_waits

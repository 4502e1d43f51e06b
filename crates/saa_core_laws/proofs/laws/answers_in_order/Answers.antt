-- A semaphore and a lock answer in the order of the line.
use Rattle.saa_core_laws.proofs.TurnsKept.{semaphore-in_turn, lock-in_turn}
use Rattle.saa_core_laws.proofs.laws.answers_in_order.Goals as goal

pub returns-clause-semaphore : goal.returns-clause-semaphore
returns-clause-semaphore c = semaphore-in_turn

pub returns-clause-lock : goal.returns-clause-lock
returns-clause-lock c = lock-in_turn

-- A registration is answered at most once, and its answer is consumed at most once.
use Rattle.saa_core_laws.proofs.Stories.{AnswersOnce-semaphore, AnswersOnce-lock, AnswersOnce-gate, AnswersOnce-barrier}
use Rattle.saa_core_laws.proofs.laws.answers_once.Goals as goal

pub returns-clause-semaphore : goal.returns-clause-semaphore
returns-clause-semaphore c = AnswersOnce-semaphore

pub returns-clause-lock : goal.returns-clause-lock
returns-clause-lock c = AnswersOnce-lock

pub returns-clause-gate : goal.returns-clause-gate
returns-clause-gate c = AnswersOnce-gate

pub returns-clause-barrier : goal.returns-clause-barrier
returns-clause-barrier c = AnswersOnce-barrier

-- A semaphore is shut for good.
use Rattle.saa_core_laws.proofs.Shutting.{waiters-shut, others-shut, is_shut-run, tried-shut, registered-shut, given_back-shut}
use Rattle.saa_core_laws.proofs.laws.shutting.Goals as goal

pub returns-clause-answered : goal.returns-clause-answered
returns-clause-answered c = waiters-shut

pub returns-clause-others : goal.returns-clause-others
returns-clause-others c = others-shut

pub returns-clause-for_good : goal.returns-clause-for_good
returns-clause-for_good c = λ s commands. is_shut-run commands s

pub returns-clause-refused : goal.returns-clause-refused
returns-clause-refused c = tried-shut

pub returns-clause-closed : goal.returns-clause-closed
returns-clause-closed c = registered-shut

pub returns-clause-given_back : goal.returns-clause-given_back
returns-clause-given_back c = given_back-shut

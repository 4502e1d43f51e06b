use Rattle.saa_core_spec.specs.declared.request.Request.TheVariants.{Permits}
use Rattle.saa_core_spec.specs.Semaphore.{semaphore_step}
use Rattle.saa_core_spec.specs.Lock.{lock_step, mode_request}
use Rattle.saa_core_spec.specs.Gate.{enter_request, gate_step}
use Rattle.saa_core_spec.specs.Barrier.{arrive_request, barrier_step}
use Rattle.saa_core_spec.specs.Values.{barrier_value, gate_value, lock_value, semaphore_value}
use Rattle.saa_run.specs.SemaphoreWords.{semaphore_reply}
use Rattle.saa_run.specs.LockWords.{lock_reply}
use Rattle.saa_run.specs.GateWords.{gate_reply}
use Rattle.saa_run.specs.BarrierWords.{barrier_reply}
use Rattle.saa_run.proofs.RunLemmas.{answers_as_run}
use Rattle.saa_run.proofs.script.laws.answers.Goals as goal

pub returns-clause-of_semaphores : goal.returns-clause-of_semaphores
returns-clause-of_semaphores c = answers_as_run semaphore_reply Permits semaphore_step semaphore_value

pub returns-clause-of_locks : goal.returns-clause-of_locks
returns-clause-of_locks c = answers_as_run lock_reply mode_request lock_step lock_value

pub returns-clause-of_gates : goal.returns-clause-of_gates
returns-clause-of_gates c = answers_as_run gate_reply enter_request gate_step gate_value

pub returns-clause-of_barriers : goal.returns-clause-of_barriers
returns-clause-of_barriers c = answers_as_run barrier_reply arrive_request barrier_step barrier_value

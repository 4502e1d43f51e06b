use Rattle.std.proofs.Common.{arith}
use Rattle.saa_word_steps.specs.AbstractState.{opening}
use Rattle.saa_word_steps.proofs.AbstractRuns.{run-settled, run-bounded, run-once, permits-lawful}
use Rattle.saa_word_steps.proofs.LockNeeds.{locks-lawful, lock-states}
use Rattle.saa_word_steps.proofs.laws.abstract_runs.Goals as goal

pub returns-clause-settled : goal.returns-clause-settled
returns-clause-settled c = λ needs count events last run. run-settled needs (opening count) events last run (λ closed. tt)

pub returns-clause-bounded : goal.returns-clause-bounded
returns-clause-bounded c = λ needs count events last lawful small run. run-bounded needs lawful (opening count) events last run small

pub returns-clause-once : goal.returns-clause-once
returns-clause-once c = λ needs count events last run place. run-once needs (opening count) events last run (λ other. omega arith) place

pub returns-clause-of_permits : goal.returns-clause-of_permits
returns-clause-of_permits c = permits-lawful

pub returns-clause-of_locks : goal.returns-clause-of_locks
returns-clause-of_locks c = locks-lawful

pub returns-clause-owners : goal.returns-clause-owners
returns-clause-owners c = lock-states

-- The rounds of a barrier.
use Rattle.saa_core_laws.proofs.RoundCounts.{rounds-counted, LetsAllPass-next, answering-next}
use Rattle.saa_core_laws.proofs.laws.rounds.Goals as goal

pub returns-clause-counted : goal.returns-clause-counted
returns-clause-counted c = rounds-counted

pub returns-clause-passed : goal.returns-clause-passed
returns-clause-passed c = LetsAllPass-next

pub returns-clause-nothing_else : goal.returns-clause-nothing_else
returns-clause-nothing_else c = answering-next

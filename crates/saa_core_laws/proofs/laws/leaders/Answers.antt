-- The leaders of a barrier.
use Rattle.saa_core_laws.proofs.Rounds.{leaders-counted_fixed, CompletesRound-next_fixed, leads-next_fixed}
use Rattle.saa_core_laws.proofs.laws.leaders.Goals as goal

pub returns-clause-counted : goal.returns-clause-counted
returns-clause-counted c = leaders-counted_fixed

pub returns-clause-round : goal.returns-clause-round
returns-clause-round c = CompletesRound-next_fixed

pub returns-clause-nothing_else : goal.returns-clause-nothing_else
returns-clause-nothing_else c = leads-next_fixed

-- A gate lets its oldest waiters in.
use Rattle.saa_core_laws.proofs.GateCrowds.{permits-all, permits-in_turn}
use Rattle.saa_core_laws.proofs.laws.permits.Goals as goal

pub returns-clause-all : goal.returns-clause-all
returns-clause-all c = permits-all

pub returns-clause-in_order : goal.returns-clause-in_order
returns-clause-in_order c = permits-in_turn

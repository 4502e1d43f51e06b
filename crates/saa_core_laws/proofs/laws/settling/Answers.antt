-- The laws of the fitting front and of settling.
use Rattle.saa_core_laws.proofs.Fronts.{fitting_front-is, fitting_front-greatest, IsSettledAt-settled, sum-granted_in_turn}
use Rattle.saa_core_laws.proofs.laws.settling.Goals as goal

pub returns-clause-fits : goal.returns-clause-fits
returns-clause-fits c = fitting_front-is

pub returns-clause-greatest : goal.returns-clause-greatest
returns-clause-greatest c = fitting_front-greatest

pub returns-clause-settled : goal.returns-clause-settled
returns-clause-settled c = IsSettledAt-settled

pub returns-clause-in_turn : goal.returns-clause-in_turn
returns-clause-in_turn c = sum-granted_in_turn

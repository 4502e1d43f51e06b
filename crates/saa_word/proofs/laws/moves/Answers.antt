use Rattle.saa_word.proofs.Tracking.{opened-tracks, simulates}
use Rattle.saa_word.proofs.laws.moves.Goals as goal

pub returns-clause-opening : goal.returns-clause-opening
returns-clause-opening c = opened-tracks

pub returns-clause-simulates : goal.returns-clause-simulates
returns-clause-simulates c = simulates

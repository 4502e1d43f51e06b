-- The permits of a semaphore are conserved.
use Rattle.saa_core_laws.proofs.Conserved.{permits-conserved}
use Rattle.saa_core_laws.proofs.InHand.{dropped-whole}
use Rattle.saa_core_laws.proofs.laws.permits_conserved.Goals as goal

pub returns-clause-conserved : goal.returns-clause-conserved
returns-clause-conserved c = permits-conserved

pub returns-clause-whole : goal.returns-clause-whole
returns-clause-whole c = dropped-whole

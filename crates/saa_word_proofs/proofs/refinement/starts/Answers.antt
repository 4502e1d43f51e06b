use Rattle.saa_word_proofs.proofs.RefinementLemmas.Starting.{starts-anyone, call-begun}
use Rattle.saa_word_proofs.proofs.refinement.starts.Goals as goal

pub returns-clause-invariant : goal.returns-clause-invariant
returns-clause-invariant c = starts-anyone

pub returns-clause-begun : goal.returns-clause-begun
returns-clause-begun c = call-begun

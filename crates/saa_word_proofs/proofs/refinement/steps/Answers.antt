use Rattle.saa_word_proofs.proofs.RefinementLemmas.Silence.{silent-step-anyone}
use Rattle.saa_word_proofs.proofs.refinement.steps.Goals as goal

pub returns : goal.returns
returns c = silent-step-anyone

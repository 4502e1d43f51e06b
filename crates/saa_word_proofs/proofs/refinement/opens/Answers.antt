use Rattle.saa_word_proofs.proofs.RefinementLemmas.Promises.{opens}
use Rattle.saa_word_proofs.proofs.refinement.opens.Goals as goal

pub returns : goal.returns
returns c = opens

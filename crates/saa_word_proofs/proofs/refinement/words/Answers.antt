use Rattle.saa_word_proofs.proofs.RefinementLemmas.Promises.{says-so}
use Rattle.saa_word_proofs.proofs.refinement.words.Goals as goal

pub returns : goal.returns
returns c = says-so

use Rattle.saa_word_proofs.proofs.SoloLemmas.Ends.{ends}
use Rattle.saa_word_proofs.proofs.solo.ends.Goals as goal

pub returns : goal.returns
returns c = ends

use Rattle.saa_word_proofs.proofs.RefinementLemmas.Seen.{begins-seen, part-seen}
use Rattle.saa_word_proofs.proofs.refinement.histories.Goals as goal

pub returns-clause-begins : goal.returns-clause-begins
returns-clause-begins c = begins-seen

pub returns-clause-part : goal.returns-clause-part
returns-clause-part c = part-seen

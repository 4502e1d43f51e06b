use Rattle.saa_word_proofs.proofs.RefinementLemmas.Calls.{under-next}
use Rattle.saa_word_proofs.proofs.refinement.calls.Goals as goal

pub returns : goal.returns
returns c = λ needs call registered me place found events under. under-next needs call registered me place place.stage found events under

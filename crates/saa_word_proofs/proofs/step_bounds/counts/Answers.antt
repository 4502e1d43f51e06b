use Rattle.saa_word_proofs.proofs.StepBoundLemmas.Counted.{counted-within}
use Rattle.saa_word_proofs.proofs.step_bounds.counts.Goals as goal

pub returns : goal.returns
returns c = counted-within

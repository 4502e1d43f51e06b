use Rattle.std.proofs.Common.{refl}
use Rattle.saa_word_proofs.proofs.RefinementLemmas.Polls.{only-stalls-anyone}
use Rattle.saa_word_proofs.proofs.waiting.waits.Goals as goal

pub returns : goal.returns
returns c = λ needs places row standing state me s waits. only-stalls-anyone needs places row standing state me s (standing me).stage refl waits

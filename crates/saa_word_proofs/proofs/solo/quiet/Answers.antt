use Rattle.saa_word_proofs.proofs.SoloLemmas.Quiet.{at-rest, rest-unregistered}
use Rattle.saa_word_proofs.proofs.solo.quiet.Goals as goal

pub returns-clause-between_calls : goal.returns-clause-between_calls
returns-clause-between_calls c = at-rest

pub returns-clause-unregistered : goal.returns-clause-unregistered
returns-clause-unregistered c = rest-unregistered

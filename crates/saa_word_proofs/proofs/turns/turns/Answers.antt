use Rattle.saa_word_proofs.proofs.TurnLemmas.{alone, apart, kept}
use Rattle.saa_word_proofs.proofs.turns.turns.Goals as goal

pub returns-clause-apart : goal.returns-clause-apart
returns-clause-apart c = apart

pub returns-clause-alone : goal.returns-clause-alone
returns-clause-alone c = alone

pub returns-clause-kept : goal.returns-clause-kept
returns-clause-kept c = kept

use Rattle.saa_word_threads.proofs.Comparing.{compared, one-first}
use Rattle.saa_word_threads.proofs.laws.one_history.Goals as goal

pub returns-clause-compared : goal.returns-clause-compared
returns-clause-compared c = compared

pub returns-clause-one_first : goal.returns-clause-one_first
returns-clause-one_first c = one-first

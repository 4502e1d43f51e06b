use Rattle.saa_word_lock_free.proofs.Turning.{turn-is-of-its-table}
use Rattle.saa_word_lock_free.proofs.laws.turns.Goals as goal

pub returns : goal.returns
returns c = turn-is-of-its-table

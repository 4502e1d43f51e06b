use Rattle.std.proofs.Common.{◌≡◌, ◌≤◌}
use Rattle.std.specs.Prelude.{vec_capacity, vec_len}
use Rattle.saa_word_pool.proofs.hints.all_set.Given as goal

abbrev pub invariant-loop-word : goal.invariant-loop-word
invariant-loop-word l = (vec_len l.words ≡ l.word) × (l.count ≤ vec_capacity l.words)

use Rattle.std.specs.Prelude.{All}
use Rattle.saa_word_threads.specs.Locks.{IsDealtBy}
use Rattle.test_word_threads.proofs.locks.owners_of.Given as goal

abbrev pub invariant-loop-place : goal.invariant-loop-place
invariant-loop-place g l = All (IsDealtBy l.lock) l.places.items

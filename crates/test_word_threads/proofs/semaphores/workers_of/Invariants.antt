use Rattle.std.specs.Prelude.{All}
use Rattle.saa_word_threads.specs.Semaphores.{IsDealtBy}
use Rattle.test_word_threads.proofs.semaphores.workers_of.Given as goal

abbrev pub invariant-loop-place : goal.invariant-loop-place
invariant-loop-place g l = All (IsDealtBy l.semaphore) l.places.items

use Rattle.saa_word_lock_free.proofs.NewPlaces.{new-rest}
use Rattle.saa_word_lock_free.proofs.semaphore.Form+R+Word+MAX.with_spin_policy.Goals as goal

pub of_word-requires-clause-ours : goal.of_word-requires-clause-ours
of_word-requires-clause-ours g c = new-rest _ 0 _ c.in_ok-word.ensures.dealt.1

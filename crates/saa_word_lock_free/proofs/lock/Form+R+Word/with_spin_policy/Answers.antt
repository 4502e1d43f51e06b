use Rattle.saa_word_lock_free.proofs.NewPlaces.{new-rest-of-lock}
use Rattle.saa_word_lock_free.proofs.lock.Form+R+Word.with_spin_policy.Goals as goal

pub of_word-requires-clause-ours : goal.of_word-requires-clause-ours
of_word-requires-clause-ours g c = new-rest-of-lock _ 0 _ c.in_ok-word.ensures.dealt.1

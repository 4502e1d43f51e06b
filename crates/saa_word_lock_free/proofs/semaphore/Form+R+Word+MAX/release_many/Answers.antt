use Rattle.std.proofs.Common.{subst}
use Rattle.saa_word_lock_free.specs.SemaphoreCalls.{IsDone}
use Rattle.saa_word_steps.specs.declared.call.WordCall.TheVariants.{Release}
use Rattle.saa_word_lock_free.proofs.semaphore.Form+R+Word+MAX.release_many.Goals as goal

pub returns : goal.returns
returns g c =
    let P : _ → Type 0 = λ word. IsDone word (Release c.args.count) c.release_many_once-is_given.result.0 in
    subst P c.word.ensures (c.release_many_once-is_given.result.1, c.release_many_once-is_given.ensures.0, c.release_many_once-is_given.ensures.1, c.release_many_once-is_given.ensures.2)

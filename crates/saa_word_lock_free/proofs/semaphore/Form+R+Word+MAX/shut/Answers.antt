use Rattle.std.proofs.Common.{subst}
use Rattle.saa_word_lock_free.specs.SemaphoreCalls.{IsDone}
use Rattle.saa_word_steps.specs.declared.call.WordCall.TheVariants.{Shut}
use Rattle.saa_word_lock_free.proofs.semaphore.Form+R+Word+MAX.shut.Goals as goal

pub returns : goal.returns
returns g c =
    let P : _ → Type 0 = λ word. IsDone word Shut c.shut_once-is_done.result.0 in
    subst P c.word.ensures (c.shut_once-is_done.result.1, c.shut_once-is_done.ensures.0, c.shut_once-is_done.ensures.1, c.shut_once-is_done.ensures.2)

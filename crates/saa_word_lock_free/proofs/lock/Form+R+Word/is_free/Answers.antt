use Rattle.std.proofs.Common.{subst}
use Rattle.saa_word_threads.specs.declared.lock.Lock.{Lock}
use Rattle.saa_word_lock_free.specs.LockCalls.{IsDone}
use Rattle.saa_word_steps.specs.declared.call.WordCall.TheVariants.{IsFree}
use Rattle.saa_word_lock_free.proofs.lock.Form+R+Word.is_free.Goals as goal

pub returns : goal.returns
returns g c =
    let P : Lock → Type 0 = λ word. IsDone word IsFree c.is_free_once-is_free.result.0 in
    subst P c.word.ensures (c.is_free_once-is_free.result.1, c.is_free_once-is_free.ensures.0, c.is_free_once-is_free.ensures.1, c.is_free_once-is_free.ensures.2)

use Rattle.std.proofs.Common.{subst}
use Rattle.saa_word_threads.specs.declared.lock.Lock.{Lock}
use Rattle.saa_word_lock_free.specs.LockCalls.{IsDone}
use Rattle.saa_word_steps.specs.declared.call.WordCall.TheVariants.{IsLocked}
use Rattle.saa_word_lock_free.proofs.lock.Form+R+Word.is_locked.Goals as goal

pub returns : goal.returns
returns g c =
    let P : Lock → Type 0 = λ word. IsDone word IsLocked c.is_locked_once-is_locked.result.0 in
    subst P c.word.ensures (c.is_locked_once-is_locked.result.1, c.is_locked_once-is_locked.ensures.0, c.is_locked_once-is_locked.ensures.1, c.is_locked_once-is_locked.ensures.2)

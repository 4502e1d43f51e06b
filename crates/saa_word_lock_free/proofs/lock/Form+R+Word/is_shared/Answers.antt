use Rattle.std.proofs.Common.{subst}
use Rattle.saa_word_threads.specs.declared.lock.Lock.{Lock}
use Rattle.saa_word_lock_free.specs.LockCalls.{IsDone}
use Rattle.saa_word_steps.specs.declared.call.WordCall.TheVariants.{IsShared}
use Rattle.saa_word_lock_free.proofs.lock.Form+R+Word.is_shared.Goals as goal

pub returns : goal.returns
returns g c =
    let P : Lock → Type 0 = λ word. IsDone word IsShared c.is_shared_once-is_shared.result.0 in
    subst P c.word.ensures (c.is_shared_once-is_shared.result.1, c.is_shared_once-is_shared.ensures.0, c.is_shared_once-is_shared.ensures.1, c.is_shared_once-is_shared.ensures.2)

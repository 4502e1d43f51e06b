use Rattle.std.proofs.Common.{subst}
use Rattle.saa_word_threads.specs.declared.lock.Lock.{Lock}
use Rattle.saa_word_lock_free.specs.LockCalls.{IsDone}
use Rattle.saa_word_steps.specs.declared.call.WordCall.TheVariants.{PoisonLock}
use Rattle.saa_word_lock_free.proofs.lock.Form+R+Word.poison_lock.Goals as goal

pub returns : goal.returns
returns g c =
    let P : Lock → Type 0 = λ word. IsDone word PoisonLock c.poison_lock_once-is_poisoned.result.0 in
    subst P c.word.ensures (c.poison_lock_once-is_poisoned.result.1, c.poison_lock_once-is_poisoned.ensures.0, c.poison_lock_once-is_poisoned.ensures.1, c.poison_lock_once-is_poisoned.ensures.2)

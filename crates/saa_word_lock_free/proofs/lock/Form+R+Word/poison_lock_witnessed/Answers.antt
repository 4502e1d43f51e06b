use Rattle.std.proofs.Common.{subst}
use Rattle.saa_word_threads.specs.declared.lock.Lock.{Lock}
use Rattle.saa_word_lock_free.specs.LockCalls.{IsDoneWith}
use Rattle.saa_word_steps.specs.declared.call.WordCall.TheVariants.{PoisonLock}
use Rattle.saa_word_lock_free.proofs.lock.Form+R+Word.poison_lock_witnessed.Goals as goal

pub returns : goal.returns
returns g c =
    let P : Lock → Type 0 = λ word. IsDoneWith word PoisonLock c.poison_lock_once-is_poisoned.result.0 c.receipt_by-receipt.result in
    subst P c.word-word.ensures (c.poison_lock_once-is_poisoned.result.1, c.poison_lock_once-is_poisoned.ensures.0, c.poison_lock_once-is_poisoned.ensures.1, c.poison_lock_once-is_poisoned.ensures.2, (c.receipt_by-receipt.ensures.table, c.receipt_by-receipt.ensures.seen))

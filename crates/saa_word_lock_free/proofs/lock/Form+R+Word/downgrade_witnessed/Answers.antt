use Rattle.std.proofs.Common.{subst}
use Rattle.saa_word_threads.specs.declared.lock.Lock.{Lock}
use Rattle.saa_word_lock_free.specs.LockCalls.{IsDoneWith}
use Rattle.saa_word_steps.specs.declared.call.WordCall.TheVariants.{Downgrade}
use Rattle.saa_word_lock_free.proofs.lock.Form+R+Word.downgrade_witnessed.Goals as goal

pub returns : goal.returns
returns g c =
    let P : Lock → Type 0 = λ word. IsDoneWith word Downgrade c.downgrade_once-is_lowered.result.0 c.receipt_by-receipt.result in
    subst P c.word-word.ensures (c.downgrade_once-is_lowered.result.1, c.downgrade_once-is_lowered.ensures.0, c.downgrade_once-is_lowered.ensures.1, c.downgrade_once-is_lowered.ensures.2, (c.receipt_by-receipt.ensures.table, c.receipt_by-receipt.ensures.seen))

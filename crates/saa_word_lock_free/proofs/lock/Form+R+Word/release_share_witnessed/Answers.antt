use Rattle.std.proofs.Common.{subst}
use Rattle.saa_word_threads.specs.declared.lock.Lock.{Lock}
use Rattle.saa_word_lock_free.specs.LockCalls.{IsDoneWith}
use Rattle.saa_word_steps.specs.declared.call.WordCall.TheVariants.{ReleaseShare}
use Rattle.saa_word_lock_free.proofs.lock.Form+R+Word.release_share_witnessed.Goals as goal

pub returns : goal.returns
returns g c =
    let P : Lock → Type 0 = λ word. IsDoneWith word ReleaseShare c.release_share_once-is_given.result.0 c.receipt_by-receipt.result in
    subst P c.word-word.ensures (c.release_share_once-is_given.result.1, c.release_share_once-is_given.ensures.0, c.release_share_once-is_given.ensures.1, c.release_share_once-is_given.ensures.2, (c.receipt_by-receipt.ensures.table, c.receipt_by-receipt.ensures.seen))

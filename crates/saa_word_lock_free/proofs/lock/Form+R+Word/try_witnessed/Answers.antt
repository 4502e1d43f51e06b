use Rattle.std.proofs.Common.{subst}
use Rattle.saa_word_threads.specs.declared.lock.Lock.{Lock}
use Rattle.saa_word_lock_free.specs.LockCalls.{IsTriedWith}
use Rattle.saa_word_lock_free.proofs.lock.Form+R+Word.try_witnessed.Goals as goal

pub returns : goal.returns
returns g c =
    let P : Lock → Type 0 = λ word. IsTriedWith word c.args.mode c.try_once-reply.result.0 c.receipt_by-receipt.result in
    subst P c.word-word.ensures (c.try_once-reply.result.1, c.try_once-reply.ensures.tried, (c.receipt_by-receipt.ensures.table, c.receipt_by-receipt.ensures.seen))

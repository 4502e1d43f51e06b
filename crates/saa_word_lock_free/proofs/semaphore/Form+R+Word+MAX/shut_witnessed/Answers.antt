use Rattle.std.proofs.Common.{subst}
use Rattle.saa_word_lock_free.specs.SemaphoreCalls.{IsDoneWith}
use Rattle.saa_word_steps.specs.declared.call.WordCall.TheVariants.{Shut}
use Rattle.saa_word_lock_free.proofs.semaphore.Form+R+Word+MAX.shut_witnessed.Goals as goal

pub returns : goal.returns
returns g c =
    let P : _ → Type 0 = λ word. IsDoneWith word Shut c.shut_once-is_done.result.0 c.receipt_by-receipt.result in
    subst P c.word-word.ensures (c.shut_once-is_done.result.1, c.shut_once-is_done.ensures.0, c.shut_once-is_done.ensures.1, c.shut_once-is_done.ensures.2, (c.receipt_by-receipt.ensures.table, c.receipt_by-receipt.ensures.seen))

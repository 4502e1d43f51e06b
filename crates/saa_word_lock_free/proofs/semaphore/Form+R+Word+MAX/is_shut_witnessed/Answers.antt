use Rattle.std.proofs.Common.{subst}
use Rattle.saa_word_lock_free.specs.SemaphoreCalls.{IsDoneWith}
use Rattle.saa_word_steps.specs.declared.call.WordCall.TheVariants.{IsShut}
use Rattle.saa_word_lock_free.proofs.semaphore.Form+R+Word+MAX.is_shut_witnessed.Goals as goal

pub returns : goal.returns
returns g c =
    let P : _ → Type 0 = λ word. IsDoneWith word IsShut c.is_shut_once-is_shut.result.0 c.receipt_by-receipt.result in
    subst P c.word-word.ensures (c.is_shut_once-is_shut.result.1, c.is_shut_once-is_shut.ensures.0, c.is_shut_once-is_shut.ensures.1, c.is_shut_once-is_shut.ensures.2, (c.receipt_by-receipt.ensures.table, c.receipt_by-receipt.ensures.seen))

use Rattle.std.proofs.Common.{subst}
use Rattle.saa_word_lock_free.specs.SemaphoreCalls.{IsReadWith}
use Rattle.saa_word_steps.specs.declared.call.WordCall.TheVariants.{Available}
use Rattle.saa_word_steps.specs.declared.call.Answer.TheVariants.{Number}
use Rattle.saa_word_lock_free.proofs.semaphore.Form+R+Word+MAX.available_permits_witnessed.Goals as goal

pub returns : goal.returns
returns g c =
    let P : _ → Type 0 = λ word. IsReadWith word Available (Number c.available_permits_once-available.result.0) c.receipt_by-receipt.result in
    subst P c.word-word.ensures (c.available_permits_once-available.result.1, c.available_permits_once-available.ensures, (c.receipt_by-receipt.ensures.table, c.receipt_by-receipt.ensures.seen))

use Rattle.std.proofs.Common.{subst}
use Rattle.saa_word_lock_free.specs.SemaphoreCalls.{IsDoneWith}
use Rattle.saa_word_steps.specs.declared.call.WordCall.TheVariants.{Try}
use Rattle.saa_word_lock_free.proofs.semaphore.Form+R+Word+MAX.try_acquire_many_witnessed.Goals as goal

pub returns : goal.returns
returns g c =
    let P : _ → Type 0 = λ word. IsDoneWith word (Try c.args.count) c.try_acquire_many_once-is_granted.result.0 c.receipt_by-receipt.result in
    subst P c.word-word.ensures (c.try_acquire_many_once-is_granted.result.1, c.try_acquire_many_once-is_granted.ensures.0, c.try_acquire_many_once-is_granted.ensures.1, c.try_acquire_many_once-is_granted.ensures.2, (c.receipt_by-receipt.ensures.table, c.receipt_by-receipt.ensures.seen))

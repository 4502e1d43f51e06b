use Rattle.std.proofs.Common.{subst}
use Rattle.saa_word_threads.specs.declared.lock.Lock.{Lock}
use Rattle.saa_word_lock_free.specs.LockCalls.{IsDone}
use Rattle.saa_word_steps.specs.declared.call.WordCall.TheVariants.{ClearPoison}
use Rattle.saa_word_lock_free.proofs.lock.Form+R+Word.clear_poison.Goals as goal

pub returns : goal.returns
returns g c =
    let P : Lock → Type 0 = λ word. IsDone word ClearPoison c.clear_poison_once-is_cleared.result.0 in
    subst P c.word.ensures (c.clear_poison_once-is_cleared.result.1, c.clear_poison_once-is_cleared.ensures.0, c.clear_poison_once-is_cleared.ensures.1, c.clear_poison_once-is_cleared.ensures.2)

use Rattle.std.proofs.Common.{subst}
use Rattle.saa_word_threads.specs.declared.lock.Lock.{Lock}
use Rattle.saa_word_lock_free.specs.LockCalls.{IsDone}
use Rattle.saa_word_steps.specs.declared.call.WordCall.TheVariants.{Downgrade}
use Rattle.saa_word_lock_free.proofs.lock.Form+R+Word.downgrade.Goals as goal

pub returns : goal.returns
returns g c =
    let P : Lock → Type 0 = λ word. IsDone word Downgrade c.downgrade_once-is_lowered.result.0 in
    subst P c.word.ensures (c.downgrade_once-is_lowered.result.1, c.downgrade_once-is_lowered.ensures.0, c.downgrade_once-is_lowered.ensures.1, c.downgrade_once-is_lowered.ensures.2)

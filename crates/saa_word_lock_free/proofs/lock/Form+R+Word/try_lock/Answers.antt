use Rattle.std.proofs.Common.{subst}
use Rattle.saa_word_threads.specs.declared.lock.Lock.{Lock}
use Rattle.saa_word_lock_free.specs.LockCalls.{IsTriedIn}
use Rattle.saa_core_spec.specs.declared.lock.Mode.TheVariants.{Exclusive}
use Rattle.saa_word_lock_free.proofs.lock.Form+R+Word.try_lock.Goals as goal

pub returns : goal.returns
returns g c =
    let P : Lock → Type 0 = λ word. IsTriedIn word Exclusive c.try_lock_once-reply.result.0 in
    subst P c.word.ensures (c.try_lock_once-reply.result.1, c.try_lock_once-reply.ensures)

use Rattle.std.proofs.Common.{subst}
use Rattle.saa_word_lock_free.specs.SemaphoreCalls.{IsRead}
use Rattle.saa_word_steps.specs.declared.call.WordCall.TheVariants.{Available}
use Rattle.saa_word_steps.specs.declared.call.Answer.TheVariants.{Number}
use Rattle.saa_word_lock_free.proofs.semaphore.Form+R+Word+MAX.available.Goals as goal

pub returns : goal.returns
returns g c =
    let P : _ → Type 0 = λ word. IsRead word Available (Number c.available_permits_once-available.result.0) in
    subst P c.word.ensures (c.available_permits_once-available.result.1, c.available_permits_once-available.ensures)

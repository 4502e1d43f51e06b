use Rattle.std.proofs.Common.{ℕ, subst, sym}
use Rattle.saa_word_lock_free.specs.SemaphoreCalls.{IsRead}
use Rattle.saa_word_steps.specs.declared.call.Answer.TheVariants.{Number}
use Rattle.saa_word_steps.specs.declared.call.WordCall.TheVariants.{Available}
use Rattle.saa_word_lock_free.proofs.semaphore.Form+R+Word+MAX.available_permits.Goals as goal

pub returns : goal.returns
returns g c =
    let P : ℕ → Type 0 = λ number. IsRead c.args.self.now.word Available (Number number) in
    subst P (sym c.from.ensures) c.available.ensures

use Rattle.std.proofs.Common.{ℕ, subst}
use Rattle.saa_word_lock_free.specs.SemaphoreCalls.{IsDone}
use Rattle.saa_word_steps.specs.declared.call.WordCall.TheVariants.{Release}
use Rattle.saa_word_lock_free.proofs.permit.FormWordRawSemaphore.take_back.Goals as goal

pub returns : goal.returns
returns g c =
    let P : ℕ → Type 0 = λ count. IsDone c.args.self.now.word (Release count) c.release_many.result in
    (c.release_many.result, subst P c.end.ensures c.release_many.ensures)

use Rattle.std.proofs.Common.{Bool, subst, inl}
use Rattle.saa_word_lock_free.specs.SemaphoreCalls.{IsDone}
use Rattle.saa_word_steps.specs.declared.call.WordCall.TheVariants.{Try}
use Rattle.saa_word_lock_free.proofs.permit.FormWordRawSemaphore.try_take.Goals as goal

pub returns : goal.returns
returns g c = λ is.
    let P : Bool → Type 0 = λ reply. IsDone c.args.self.now.word (Try c.args.count) reply in
    inl (subst P is c.try_acquire_many.ensures)

use Rattle.std.proofs.Common.{◌≡◌, ◌==◌, ℕ, false, subst, inl, inr, rules}
use Rattle.saa_core_spec.specs.Values.{closed_value}
use Rattle.std.specs.Prelude.{Result}
use Rattle.saa_core_spec.specs.declared.polling.Error.{Error}
use Rattle.saa_word_lock_free.specs.SemaphoreCalls.{IsAnswered}
use Rattle.saa_word_lock_free.proofs.permit.FormWordRawSemaphoreUntil.take_one_until.Goals as goal

pub returns-else-value-eq-CLOSED : goal.returns-else-value-eq-CLOSED
returns-else-value-eq-CLOSED g c =
    let P : Result ℕ Error → Type 0 = λ answer. IsAnswered c.args.self.now.word 1 answer in
    let differs : c.in-Ok-Ok.value == closed_value ≡ false = search rules in
    inr (inl (c.in-Ok-Ok.value, differs, subst P c.in-Ok-Ok.field-0-is c.in-Ok-Ok.ensures.answered))

use Rattle.std.proofs.Common.{◌≡◌, ◌==◌, ℕ, false, subst, inl, inr, rules}
use Rattle.saa_core_spec.specs.Values.{closed_value}
use Rattle.std.specs.Prelude.{Result}
use Rattle.saa_core_spec.specs.declared.polling.Error.{Error}
use Rattle.saa_word_lock_free.specs.SemaphoreCalls.{IsAnswered}
use Rattle.saa_word_lock_free.proofs.permit.FormWordRawSemaphoreUntil.take_until.Goals as goal

pub returns-else-value-eq-CLOSED-clause-granted : goal.returns-else-value-eq-CLOSED-clause-granted
returns-else-value-eq-CLOSED-clause-granted g c = λ granted.
    let P : Result ℕ Error → Type 0 = λ answer. IsAnswered c.args.self.now.word c.args.count answer in
    let differs : c.in-Ok-Ok.value == closed_value ≡ false = search rules in
    inr (inl (c.in-Ok-Ok.value, differs, subst P c.in-Ok-Ok.field-0-is c.in-Ok-Ok.ensures.answered))

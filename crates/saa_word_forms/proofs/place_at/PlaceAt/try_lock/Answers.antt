use Rattle.std.proofs.Common.{◌≡◌, ◌∙◌, Result, true, false, inl, is_ok, refl, subst, sym}
use Rattle.saa_core_spec.specs.declared.lock.TryLockError.{TryLockError}
use Rattle.saa_word_forms.proofs.place_at.PlaceAt.try_lock.Goals as goal

pub returns-in-Ok-clause-granted : goal.returns-in-Ok-clause-granted
returns-in-Ok-clause-granted g c = λ yes.
    ∣ (c.args.self.now.place, inl (c.try_lock.ensures.called.0, sym c.try_lock.ensures.called.1 ∙ c.in-Ok.is, c.try_lock.ensures.called.2)) ∣₁

pub returns-in-Ok-clause-tried : goal.returns-in-Ok-clause-tried
returns-in-Ok-clause-tried g c =
    (c.try_lock.ensures.called.0, subst (λ (r : Result (Unit {0}) TryLockError). true ≡ is_ok r) (sym c.in-Ok.is ∙ c.try_lock.ensures.called.1) refl, c.try_lock.ensures.called.2)

pub returns-in-Err-clause-tried : goal.returns-in-Err-clause-tried
returns-in-Err-clause-tried g c =
    (c.try_lock.ensures.called.0, subst (λ (r : Result (Unit {0}) TryLockError). false ≡ is_ok r) (sym c.in-Err.is ∙ c.try_lock.ensures.called.1) refl, c.try_lock.ensures.called.2)

use Rattle.std.proofs.Common.{refl, subst, inl, Ok}
use Rattle.saa_core_spec.specs.Values.{granted_value}
use Rattle.saa_word_lock_free.specs.OfLock.{IsTried}
use Rattle.saa_word_lock_free.proofs.raw_lock.FormWordRawLock.try_take.Goals as goal

pub returns-in-Ok : goal.returns-in-Ok
returns-in-Ok g c =
    let tried = c.try_witnessed-reply.ensures in
    let Q : _ → Type 0 = λ reply. IsTried c.args.self.now.word c.args.mode reply tried.0 in
    ∣ inl (inl (tried.0, granted_value, refl, (Ok tt, subst Q c.in-Ok.is tried.1, refl), tried.2)) ∣₁

use Rattle.std.proofs.Common.{refl, subst, inr}
use Rattle.saa_word_steps.specs.declared.call.WordCall.TheVariants.{Downgrade}
use Rattle.saa_word_lock_free.specs.LockCalls.{IsDoneWith}
use Rattle.saa_word_lock_free.proofs.raw_lock.FormWordRawLock.lower.Goals as goal

pub returns-then-is_lowered : goal.returns-then-is_lowered
returns-then-is_lowered g c =
    let lowered = c.downgrade_witnessed-is_lowered in
    ∣ inr (inr (refl, subst (λ is_lowered. IsDoneWith c.args.self.now.word Downgrade is_lowered lowered.result.1) c.if-is_lowered.true lowered.ensures)) ∣₁

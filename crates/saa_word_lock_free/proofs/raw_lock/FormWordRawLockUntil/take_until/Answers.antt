use Rattle.std.proofs.Common.{subst}
use Rattle.saa_word_lock_free.specs.LockCalls.{IsAcquired}
use Rattle.saa_word_lock_free.proofs.Turning.{wait-is-turn}
use Rattle.saa_word_lock_free.proofs.raw_lock.FormWordRawLockUntil.take_until.Goals as goal

pub returns-then-value-eq-GRANTED-clause-taken : goal.returns-then-value-eq-GRANTED-clause-taken
returns-then-value-eq-GRANTED-clause-taken g c =
    wait-is-turn c.args.self.now.word c.args.mode c.in-Ok-answer.value c.in-Ok.reply.1 c.if-value-eq-GRANTED.true
    (subst (λ answer. IsAcquired c.args.self.now.word c.args.mode answer c.in-Ok.reply.1) c.in-Ok-answer.is c.in-Ok.ensures.acquired)

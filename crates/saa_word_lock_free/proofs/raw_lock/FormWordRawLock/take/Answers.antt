use Rattle.saa_word_lock_free.proofs.Turning.{wait-is-turn}
use Rattle.saa_word_lock_free.proofs.raw_lock.FormWordRawLock.take.Goals as goal

pub returns-then-value-eq-GRANTED-clause-taken : goal.returns-then-value-eq-GRANTED-clause-taken
returns-then-value-eq-GRANTED-clause-taken g c =
    wait-is-turn c.args.self.now.word c.args.mode c.in-Ok.value c.in-Ok.receipt c.if-value-eq-GRANTED.true c.in-Ok.ensures.acquired

use Rattle.std.proofs.Common.{◌≡◌, true, sym}
use Rattle.saa_core_spec.specs.Lock.{is_locked}
use Rattle.saa_core.proofs.GrantingLemmas.Asks.{poison_calls}
use Rattle.saa_core.proofs.lock.LockCore.poison_lock.Goals as goal

pub returns-clause-calls : goal.returns-clause-calls
returns-clause-calls c =
    let locked : is_locked c.args.self.now.held ≡ true = sym c.if-not-is_locked.ensures in
    rw (c.answer_all.ensures.answered, c.new.ensures) (poison_calls _ _ c.waiting-waiting.ensures.sound locked)

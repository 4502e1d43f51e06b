use Rattle.std.proofs.Common.{◌≡◌, true, sym}
use Rattle.saa_core_spec.specs.Lock.{is_locked}
use Rattle.saa_core.proofs.GrantingLemmas.Asks.{downgrade_calls}
use Rattle.saa_core.proofs.lock.LockCore.downgrade.Goals as goal

pub returns-then-is_locked-clause-calls : goal.returns-then-is_locked-clause-calls
returns-then-is_locked-clause-calls c =
    let locked : is_locked c.args.self.now.held ≡ true = sym c.if-is_locked.ensures in
    rw (c.settle_with.ensures.granted, c.new.ensures) (downgrade_calls _ _ c.waiting-waiting.ensures.sound locked)

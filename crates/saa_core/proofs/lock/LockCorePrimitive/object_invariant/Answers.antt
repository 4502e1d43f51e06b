use Rattle.std.proofs.Common.{◌≡◌, ap, ◌∙◌, sym}
use Rattle.saa_core_spec.specs.Held.{OfLock, LockState, refuses_all}
use Rattle.saa_core.specs.Tickets.{named}
use Rattle.saa_core.proofs.GrantingLemmas.Asks.{IsCoreSettled-object}
use Rattle.saa_core.specs.Owners.{lock_state}
use Rattle.saa_core.proofs.lock.LockCorePrimitive.object_invariant.Goals as goal

pub returns : goal.returns
returns c =
    let held : c.args.self.now.held ≡ OfLock (lock_state c.owner-owner.result) =
    c.needs.ensures.held ∙ ap (λ (s : LockState). OfLock s) (sym c.owner-owner.ensures.owner) in
    λ tickets. record {
      settled = IsCoreSettled-object c.args.self.now tickets c.waiting-waiting.ensures.settled;
      unpoisoned = λ poisoned. ap (named tickets) (c.waiting-waiting.ensures.refused (ap refuses_all poisoned));
      bounded = (lock_state c.owner-owner.result, held, c.owner-owner.ensures.fine);
    }

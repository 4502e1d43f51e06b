use Rattle.saa_core.proofs.GrantingLemmas.Asks.{cancel_at_once, cancel_in_slot, grants}
use Rattle.saa_core.proofs.TicketLemmas.Registering.{cancel_idle}
use Rattle.saa_core.proofs.TicketLemmas.Waking.{wakes-same}
use Rattle.saa_core.proofs.granting.Granting.cancel.Goals as goal

pub returns-in-Unregistered-clause-acts : goal.returns-in-Unregistered-clause-acts
returns-in-Unregistered-clause-acts g c = rw (← c.in-Unregistered.ensures, c.set.ensures) (cancel_idle _)

pub returns-in-AtOnce-clause-acts : goal.returns-in-AtOnce-clause-acts
returns-in-AtOnce-clause-acts g c =
    rw (← c.in-AtOnce.ensures, c.set.ensures, c.undo.ensures.undone, ← c.self.view_is) (cancel_at_once (g.N.Needs.held c.self.inside.needs) c.self.inside.line c.in-AtOnce.value c.in-AtOnce.request _ (grants _ (g.met.N.Needs.grants c.self.inside.needs)) c.self.invariant.sound)

pub returns-in-InSlot-clause-acts : goal.returns-in-InSlot-clause-acts
returns-in-InSlot-clause-acts g c =
    rw (← c.in-InSlot.ensures, c.set.ensures, c.vacate.ensures.vacated, ← c.self.view_is) (cancel_in_slot (g.N.Needs.held c.self.inside.needs) c.self.inside.line c.in-InSlot.slot c.in-InSlot.request _ (grants _ (g.met.N.Needs.grants c.self.inside.needs)) c.self.invariant.sound)

pub returns-in-Unregistered-clause-wakes : goal.returns-in-Unregistered-clause-wakes
returns-in-Unregistered-clause-wakes g c = rw (← c.self.view_is) (wakes-same c.self.inside.line c.self.invariant.sound)

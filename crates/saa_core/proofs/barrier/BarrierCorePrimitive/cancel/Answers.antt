use Rattle.saa_core.proofs.TicketLemmas.Registering.{cancel_idle}
use Rattle.saa_core.proofs.GatheringLemmas.Gathering.{cancel_at_once, cancel_in_slot}
use Rattle.saa_core.proofs.GatheringLemmas.Rounds.{forgets}
use Rattle.saa_core.proofs.TicketLemmas.Waking.{wakes-same}
use Rattle.saa_core.proofs.barrier.BarrierCorePrimitive.cancel.Goals as goal

pub returns-in-Unregistered-clause-acts : goal.returns-in-Unregistered-clause-acts
returns-in-Unregistered-clause-acts c = rw (← c.in-Unregistered.ensures, c.set.ensures) (cancel_idle _)

pub returns-in-AtOnce-clause-acts : goal.returns-in-AtOnce-clause-acts
returns-in-AtOnce-clause-acts c = rw (← c.in-AtOnce.ensures, c.set.ensures, ← c.self.view_is) (cancel_at_once _ _ c.self.inside.line c.in-AtOnce._value c.in-AtOnce._request _ (forgets c.self.inside.size c.self.inside.arrived c.self.inside.round))

pub returns-in-InSlot-clause-acts : goal.returns-in-InSlot-clause-acts
returns-in-InSlot-clause-acts c = rw (← c.in-InSlot.ensures, c.set.ensures, c.vacate.ensures.vacated, ← c.self.view_is) (cancel_in_slot _ _ c.self.inside.line c.in-InSlot.slot c.in-InSlot._request _ (forgets c.self.inside.size c.self.inside.arrived c.self.inside.round) c.self.invariant.sound)

pub returns-in-Unregistered-clause-wakes : goal.returns-in-Unregistered-clause-wakes
returns-in-Unregistered-clause-wakes c = rw (← c.self.view_is) (wakes-same c.self.inside.line c.self.invariant.sound)

pub returns-in-AtOnce-clause-wakes : goal.returns-in-AtOnce-clause-wakes
returns-in-AtOnce-clause-wakes c = rw (← c.self.view_is) (wakes-same c.self.inside.line c.self.invariant.sound)

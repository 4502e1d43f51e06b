use Rattle.saa_core.proofs.TicketLemmas.Leaving.{leave_idle}
use Rattle.saa_core.proofs.GatheringLemmas.Departing.{leave_at_once, leave_in_slot}
use Rattle.saa_core.proofs.TicketLemmas.Waking.{wakes-same}
use Rattle.saa_core.proofs.gate.GateCorePrimitive.leave.Goals as goal

pub returns-in-Unregistered-clause-acts : goal.returns-in-Unregistered-clause-acts
returns-in-Unregistered-clause-acts c = rw (← c.in-Unregistered.ensures, c.set.ensures) (leave_idle _)

pub returns-in-AtOnce-clause-acts : goal.returns-in-AtOnce-clause-acts
returns-in-AtOnce-clause-acts c = rw (← c.in-AtOnce.ensures, c.set.ensures, ← c.self.view_is) (leave_at_once c.self.inside.state c.self.inside.line c.in-AtOnce._value c.in-AtOnce._request _)

pub returns-in-InSlot-clause-acts : goal.returns-in-InSlot-clause-acts
returns-in-InSlot-clause-acts c = rw (← c.in-InSlot.ensures, c.set.ensures, c.depart.ensures.vacated, ← c.self.view_is) (leave_in_slot c.self.inside.state c.self.inside.line c.in-InSlot.slot c.in-InSlot._request _ c.self.invariant.sound)

pub returns-in-Unregistered-clause-wakes : goal.returns-in-Unregistered-clause-wakes
returns-in-Unregistered-clause-wakes c = rw (← c.self.view_is) (wakes-same c.self.inside.line c.self.invariant.sound)

pub returns-in-AtOnce-clause-wakes : goal.returns-in-AtOnce-clause-wakes
returns-in-AtOnce-clause-wakes c = rw (← c.self.view_is) (wakes-same c.self.inside.line c.self.invariant.sound)

use Rattle.saa_core.proofs.TicketLemmas.Waking.{wakes-front}
use Rattle.std.proofs.Common.{refl, take}
use Rattle.saa_core.proofs.GatheringLemmas.GateNumbers.{gate_answers-answered}
use Rattle.saa_core.proofs.GatheringLemmas.Departing.{gate_of-front}
use Rattle.saa_core_spec.specs.Held.{OfGate}
use Rattle.saa_core.proofs.gate.GateCore.permit_front.Goals as goal

pub returns-clause-wakes : goal.returns-clause-wakes
returns-clause-wakes c = rw (c.grant_front.ensures.granted, ← c.self.view_is) (wakes-front 0 _ c.self.inside.line c.self.invariant.sound)

pub invariant_of-self : goal.invariant_of-self
invariant_of-self c = record {
  sound = c.grant_front.ensures.sound;
  answers = rw c.grant_front.ensures.granted (gate_answers-answered 0 (take _ c.self.inside.line.line) c.self.inside.line.answers refl c.self.invariant.answers);
  waits = rw c.grant_front.ensures.granted (gate_of-front (OfGate c.self.inside.state) _ c.self.inside.line.line c.self.invariant.waits);
}

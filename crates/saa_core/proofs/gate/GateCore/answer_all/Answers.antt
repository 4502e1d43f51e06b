use Rattle.saa_core.proofs.TicketLemmas.Waking.{wakes-all}
use Rattle.std.proofs.Common.{ap, inr}
use Rattle.saa_core.specs.Slots.{Slots}
use Rattle.saa_core.proofs.GatheringLemmas.GateNumbers.{gate_answers-answered}
use Rattle.saa_core.proofs.gate.GateCore.answer_all.Goals as goal

pub returns-clause-wakes : goal.returns-clause-wakes
returns-clause-wakes c = rw (c.answer_all.ensures.answered, ← c.self.view_is) (wakes-all c.args.value c.self.inside.line c.self.invariant.sound)

pub invariant_of-self : goal.invariant_of-self
invariant_of-self c = record {
  sound = c.answer_all.ensures.sound;
  answers = rw c.answer_all.ensures.answered (gate_answers-answered c.args.value c.self.inside.line.line c.self.inside.line.answers c.requires c.self.invariant.answers);
  waits = inr (ap (λ (s : Slots). s.line) c.answer_all.ensures.answered);
}

use Rattle.saa_core_spec.specs.Held.{OfGate}
use Rattle.saa_core.proofs.GatheringLemmas.GateNumbers.{gate_answers-polled, gate_number-polled}
use Rattle.saa_core.proofs.gate.GateCorePrimitive.poll_number.Goals as goal

pub returns-clause-acts : goal.returns-clause-acts
returns-clause-acts c = rw (← c.self.view_is) (c.poll_in.ensures.acts (OfGate c.self.inside.state))

pub invariant_of-self : goal.invariant_of-self
invariant_of-self c = record {
  sound = c.poll_in.ensures.sound;
  answers = gate_answers-polled c.args.ticket.now c.self.inside.line c.poll_in.new.line c.poll_in.result c.poll_in.ensures.taken c.poll_in.ensures.unchanged c.self.invariant.answers;
  waits = rw c.poll_in.ensures.line c.self.invariant.waits;
}

pub returns-clause-number : goal.returns-clause-number
returns-clause-number c = λ own. gate_number-polled c.args.ticket.now c.self.inside.line c.poll_in.new.line c.poll_in.result c.poll_in.ensures.taken c.self.invariant.answers own

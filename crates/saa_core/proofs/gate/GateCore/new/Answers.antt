use Rattle.saa_core.proofs.TicketLemmas.Registering.{idle-belong, made-object}
use Rattle.std.proofs.Common.{refl, inl}
use Rattle.saa_core.proofs.GatheringLemmas.GateNumbers.{gate_answers-none}
use Rattle.saa_core.proofs.gate.GateCore.new.Goals as goal

pub returns-clause-idle_tickets : goal.returns-clause-idle_tickets
returns-clause-idle_tickets c = λ names. idle-belong c.in_ok-line.line names

pub returns-clause-object : goal.returns-clause-object
returns-clause-object c = λ names. rw c.in_ok-line.ensures.made (made-object _ c.args.room names)

pub invariant_of-result : goal.invariant_of-result
invariant_of-result c = record {
  sound = c.in_ok-line.ensures.sound;
  answers = rw c.in_ok-line.ensures.made (gate_answers-none c.args.room);
  waits = inl refl;
}

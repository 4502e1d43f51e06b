use Rattle.std.proofs.Common.{ap, refl, set, None}
use Rattle.saa_core_spec.specs.Held.{OfGate}
use Rattle.saa_core.specs.Slots.{Slots}
use Rattle.saa_core.proofs.GatheringLemmas.Gathering.{left-unanswered}
use Rattle.saa_core.proofs.GatheringLemmas.GateNumbers.{gate_answers-set}
use Rattle.saa_core.proofs.GatheringLemmas.Departing.{gate_of-left}
use Rattle.saa_core.proofs.TicketLemmas.Waking.{wakes-same, wakes-from, wakes-to}
use Rattle.saa_core.proofs.gate.GateCore.depart.Goals as goal

pub returns-then-is_none-clause-wakes : goal.returns-then-is_none-clause-wakes
returns-then-is_none-clause-wakes c =
    let unanswered = left-unanswered _ _ _ _ c.leave-left.ensures.left c.leave-left.ensures.unchanged in
    rw (← c.self.view_is)
    (wakes-from c.self.inside.line c.take.new.self c.leave-left.new.self (ap (λ (s : Slots). s.line) c.take.ensures.taken) (ap (λ (s : Slots). s.pending_wakes) c.take.ensures.taken)
    (wakes-to c.take.new.self c.take.new.self c.leave-left.new.self unanswered.0 unanswered.1 (wakes-same c.take.new.self c.take.ensures.sound)))

pub returns-else-is_none-clause-wakes : goal.returns-else-is_none-clause-wakes
returns-else-is_none-clause-wakes c =
    rw (← c.self.view_is)
    (wakes-from c.self.inside.line c.take.new.self c.take.new.self (ap (λ (s : Slots). s.line) c.take.ensures.taken) (ap (λ (s : Slots). s.pending_wakes) c.take.ensures.taken) (wakes-same c.take.new.self c.take.ensures.sound))

pub invariant_of-self : goal.invariant_of-self
invariant_of-self c =
    let unanswered = left-unanswered _ _ _ _ c.leave-left.ensures.left c.leave-left.ensures.unchanged in
    record {
      sound = c.leave-left.ensures.sound;
      answers = rw (← unanswered.0, c.take.ensures.taken) (gate_answers-set c.self.inside.line.answers c.args.slot None tt c.self.invariant.answers);
      waits = gate_of-left (OfGate c.self.inside.state) _ _ _ _ c.leave-left.ensures.left c.leave-left.ensures.unchanged (rw c.take.ensures.taken c.self.invariant.waits);
    }

pub invariant_of-self-else-is_none : goal.invariant_of-self-else-is_none
invariant_of-self-else-is_none c = record {
  sound = c.take.ensures.sound;
  answers = rw c.take.ensures.taken (gate_answers-set c.self.inside.line.answers c.args.slot None tt c.self.invariant.answers);
  waits = rw c.take.ensures.taken c.self.invariant.waits;
}

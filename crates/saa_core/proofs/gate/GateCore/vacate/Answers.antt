use Rattle.std.proofs.Common.{◌<◌, ap, refl, set, None, inr}
use Rattle.saa_core.proofs.TicketLemmas.Waking.{wakes-same, wakes-from, wakes-left_all}
use Rattle.saa_core_spec.specs.Object.{times, without}
use Rattle.saa_core.specs.Slots.{Slots}
use Rattle.saa_core.proofs.GatheringLemmas.GateNumbers.{gate_answers-set, gate_answers-answered}
use Rattle.saa_core.proofs.gate.GateCore.vacate.Goals as goal

pub returns-then-is_some-clause-wakes : goal.returns-then-is_some-clause-wakes
returns-then-is_some-clause-wakes c =
    rw (← c.self.view_is)
    (wakes-from c.self.inside.line c.take.new.self c.take.new.self (ap (λ (s : Slots). s.line) c.take.ensures.taken) (ap (λ (s : Slots). s.pending_wakes) c.take.ensures.taken) (wakes-same c.take.new.self c.take.ensures.sound))

pub returns-then-leave-clause-wakes : goal.returns-then-leave-clause-wakes
returns-then-leave-clause-wakes c =
    let waits : 0 < times c.args.slot c.take.new.self.line = c.if-leave.ensures.waited.0 refl in
    rw (c.answer_all.ensures.answered, c.if-leave.ensures.left, ← c.self.view_is)
    (wakes-from c.self.inside.line c.take.new.self _ (ap (λ (s : Slots). s.line) c.take.ensures.taken) (ap (λ (s : Slots). s.pending_wakes) c.take.ensures.taken) (wakes-left_all _ c.take.new.self c.args.slot c.take.ensures.sound waits))

pub returns-else-leave-clause-wakes : goal.returns-else-leave-clause-wakes
returns-else-leave-clause-wakes c =
    rw (c.if-leave.ensures.unchanged, ← c.self.view_is)
    (wakes-from c.self.inside.line c.take.new.self c.take.new.self (ap (λ (s : Slots). s.line) c.take.ensures.taken) (ap (λ (s : Slots). s.pending_wakes) c.take.ensures.taken) (wakes-same c.take.new.self c.take.ensures.sound))

pub invariant_of-self : goal.invariant_of-self
invariant_of-self c = record {
  sound = c.take.ensures.sound;
  answers = rw c.take.ensures.taken (gate_answers-set c.self.inside.line.answers c.args.slot None tt c.self.invariant.answers);
  waits = rw c.take.ensures.taken c.self.invariant.waits;
}

pub invariant_of-self-then-leave : goal.invariant_of-self-then-leave
invariant_of-self-then-leave c = record {
  sound = c.answer_all.ensures.sound;
  answers = rw (c.answer_all.ensures.answered, c.if-leave.ensures.left, c.take.ensures.taken)
      (gate_answers-answered 12 (without c.args.slot c.self.inside.line.line) (set c.self.inside.line.answers c.args.slot None) refl (gate_answers-set c.self.inside.line.answers c.args.slot None tt c.self.invariant.answers));
  waits = inr (ap (λ (s : Slots). s.line) c.answer_all.ensures.answered);
}

use Rattle.std.proofs.Common.{length, ap, arith}
use Rattle.saa_core.specs.Slots.{Slots}
use Rattle.saa_core.proofs.GatheringLemmas.Gathering.{length-left, left-unanswered}
use Rattle.saa_core.proofs.TicketLemmas.Waking.{wakes-same, wakes-from, wakes-to}
use Rattle.saa_core.proofs.barrier.BarrierCore.vacate.Goals as goal

pub invariant_of-self : goal.invariant_of-self
invariant_of-self c = record {
  sound = c.leave-left.ensures.sound;
  small = c.self.invariant.small;
  bounded = c.self.invariant.bounded;
  incomplete = λ some.
      omega (arith, length-left _ _ _ _ c.leave-left.ensures.left c.leave-left.ensures.unchanged, ap (λ (s : Slots). length s.line) c.take.ensures.taken, c.self.invariant.incomplete some);
}

pub returns-then-is_none-clause-invariant : goal.returns-then-is_none-clause-invariant
returns-then-is_none-clause-invariant c = λ some.
    omega (arith, length-left _ _ _ _ c.leave-left.ensures.left c.leave-left.ensures.unchanged, ap (λ (s : Slots). length s.line) c.take.ensures.taken, c.self.invariant.incomplete some)

pub returns-then-is_none-clause-wakes : goal.returns-then-is_none-clause-wakes
returns-then-is_none-clause-wakes c =
    let unanswered = left-unanswered _ _ _ _ c.leave-left.ensures.left c.leave-left.ensures.unchanged in
    rw (← c.self.view_is)
    (wakes-from c.self.inside.line c.take.new.self c.leave-left.new.self (ap (λ (s : Slots). s.line) c.take.ensures.taken) (ap (λ (s : Slots). s.pending_wakes) c.take.ensures.taken)
    (wakes-to c.take.new.self c.take.new.self c.leave-left.new.self unanswered.0 unanswered.1 (wakes-same c.take.new.self c.take.ensures.sound)))

pub returns-else-is_none-clause-wakes : goal.returns-else-is_none-clause-wakes
returns-else-is_none-clause-wakes c =
    rw (← c.self.view_is)
    (wakes-from c.self.inside.line c.take.new.self c.take.new.self (ap (λ (s : Slots). s.line) c.take.ensures.taken) (ap (λ (s : Slots). s.pending_wakes) c.take.ensures.taken) (wakes-same c.take.new.self c.take.ensures.sound))

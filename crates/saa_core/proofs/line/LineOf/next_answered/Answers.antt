-- The wakes that are left are those but the oldest, and each of those was owed once.
use Rattle.std.proofs.Common.{◌∙◌, ap}
use Rattle.saa_core.specs.LineParts.{PendingWakes}
use Rattle.saa_core.proofs.WakesLemmas.{ArePending-taken}
use Rattle.saa_core.proofs.line.LineOf.next_answered.Goals as goal

pub invariant_of-self : goal.invariant_of-self
invariant_of-self g c = record {
  agrees = c.self.invariant.agrees;
  order_room = c.self.invariant.order_room;
  free_reserved = c.self.invariant.free_reserved;
  wakes_room = ap (λ (w : PendingWakes). w.room) c.next-slot.ensures.rest ∙ c.self.invariant.wakes_room;
  pending_wakes = rw c.next-slot.ensures.rest (ArePending-taken _ _ c.self.invariant.pending_wakes);
}

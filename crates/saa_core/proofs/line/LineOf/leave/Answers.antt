-- The slot waits, so it stands once in the line; leaving moves it to the free slots.
use Rattle.std.proofs.Common.{◌≡◌, ◌<◌, ap, ◌∙◌, arith}
use Rattle.std.proofs.lemmas.Bool.Decides.{nat_tests}
use Rattle.saa_core_spec.specs.Object.{times}
use Rattle.saa_core_words.specs.Links.{Waiters}
use Rattle.saa_core.specs.Slots.{Slots}
use Rattle.saa_core.proofs.LineLemmas.{IsLine-left, IsLine-once, IsSound-from_line}
use Rattle.saa_core.proofs.line.LineOf.leave.Goals as goal

pub invariant_of-self : goal.invariant_of-self
invariant_of-self g c =
    let view : times c.args.slot (g.O.Order.waiters c.self.inside.order).line ≡ times c.args.slot c.args.self.now.line = ap (λ (s : Slots). times c.args.slot s.line) c.self.view_is in
    let waits : 0 < times c.args.slot (g.O.Order.waiters c.self.inside.order).line = grind (arith, nat_tests) in
    let once = IsLine-once _ _ _ _ c.args.slot c.self.invariant.agrees waits in
    record {
      agrees = rw (c.remove.ensures, c.from.ensures, c.push_reserved.ensures.items) (IsLine-left _ _ _ _ _ once c.self.invariant.agrees);
      order_room = ap (λ (w : Waiters). w.room) c.remove.ensures ∙ c.self.invariant.order_room;
      free_reserved = omega (arith, c.push_reserved.ensures.capacity, c.self.invariant.free_reserved);
      wakes_room = c.self.invariant.wakes_room;
      pending_wakes = c.self.invariant.pending_wakes;
    }

pub returns-clause-sound : goal.returns-clause-sound
returns-clause-sound g c =
    let view : times c.args.slot (g.O.Order.waiters c.self.inside.order).line ≡ times c.args.slot c.args.self.now.line = ap (λ (s : Slots). times c.args.slot s.line) c.self.view_is in
    let waits : 0 < times c.args.slot (g.O.Order.waiters c.self.inside.order).line = grind (arith, nat_tests) in
    let once = IsLine-once _ _ _ _ c.args.slot c.self.invariant.agrees waits in
    rw c.remove.ensures (IsSound-from_line _ _ _ _ _ (IsLine-left _ _ _ _ _ once c.self.invariant.agrees) c.self.invariant.pending_wakes)

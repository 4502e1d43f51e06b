-- One more mark is unset.
use Rattle.std.proofs.Common.{◌≡◌, false, length, ap, ◌∙◌, arith}
use Rattle.std.proofs.lemmas.List.{length-replicate}
use Rattle.saa_core.proofs.WakesLemmas.{replicate-pushed}
use Rattle.saa_core.proofs.line.no_marks.Goals as goal

pub push_reserved-requires : goal.push_reserved-requires
push_reserved-requires c =
    let size : length c.loop-slot.marks.items ≡ c.loop-slot._slot = ap length c.loop-slot.invariant.marks ∙ length-replicate c.loop-slot._slot false in
    omega (arith, c.loop-slot.invariant.capacity)

pub loop-slot-preserved : goal.loop-slot-preserved
loop-slot-preserved c = record {
  marks = replicate-pushed _ _ c.loop-slot._slot false c.loop-slot.invariant.marks c.push_reserved.ensures.items;
  capacity = c.push_reserved.ensures.capacity ∙ c.loop-slot.invariant.capacity;
}

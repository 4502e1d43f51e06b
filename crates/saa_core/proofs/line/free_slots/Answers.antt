-- One more slot stands once in the list.
use Rattle.std.proofs.Common.{◌≡◌, ℕ, length, nat_lt, ap, ◌∙◌, arith}
use Rattle.std.proofs.lemmas.List.{length_push}
use Rattle.saa_core_spec.specs.Object.{one_if}
use Rattle.saa_core.specs.Slots.{count_of}
use Rattle.saa_core.proofs.WakesLemmas.{count_of-push}
use Rattle.saa_core.proofs.LineLemmas.{one_if-nat_lt-next}
use Rattle.saa_core.proofs.line.free_slots.Goals as goal

pub loop-slot-preserved : goal.loop-slot-preserved
loop-slot-preserved c =
    let h = c.loop-slot.invariant in
    let slot = c.loop-slot.slot in
    let items = c.push_reserved.ensures.items in
    record {
      each = λ q. ap (count_of q) items ∙ omega (arith, count_of-push q c.loop-slot.free.items slot, one_if-nat_lt-next q slot, h.each q);
      total = ap length items ∙ omega (arith, length_push c.loop-slot.free.items slot, h.total);
      capacity = c.push_reserved.ensures.capacity ∙ h.capacity;
    }

pub push_reserved-requires : goal.push_reserved-requires
push_reserved-requires c = omega (arith, c.loop-slot.invariant.total, c.loop-slot.invariant.capacity)

pub returns-clause-each : goal.returns-clause-each
returns-clause-each c =
    let end : c.loop-slot.slot ≡ c.args.room = omega arith in
    λ q. c.loop-slot.invariant.each q ∙ ap (λ (n : ℕ). one_if (nat_lt q n)) end

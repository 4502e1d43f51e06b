use Rattle.std.proofs.Common.{◌≡◌, [], ◌∷◌, ◌++◌}
use Rattle.std.specs.Vec.Iter.{into_iter_items}
use Rattle.saa_word_threads.specs.declared.place.Left.{Left}
use Rattle.saa_word_threads.specs.Public.{view_left}
use Rattle.saa_word_threads.proofs.Leaving.{one-more, ours-rest}
use Rattle.saa_word_threads.proofs.semaphore.SemaphoreOf.close_all.Goals as goal

pub loop-left-preserved : goal.loop-left-preserved
loop-left-preserved g c =
    let before = c.loop-left.invariant.known in
    record {
      ours =
          (ours-rest (λ (left : Left). left.seat.table_id ≡ c.args.self.form.table.shared.table_id) c.in-Some.left
          (into_iter_items c.loop-left.left-iterator) (into_iter_items c.next.new.self) c.in-Some.ensures.steps.0 c.loop-left.invariant.ours).1;
      known = (
        before.0 ++ view_left c.in-Some.left ∷ [],
        c.gather.ensures.known before.0 before.1,
        one-more view_left before.0 c.in-Some.left (into_iter_items c.loop-left.left-iterator) (into_iter_items c.next.new.self) c.args.lefts.items
            c.in-Some.ensures.steps.0 before.2,
      );
    }

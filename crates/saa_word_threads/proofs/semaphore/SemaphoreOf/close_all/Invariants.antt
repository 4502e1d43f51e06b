use Rattle.std.proofs.Common.{◌≡◌, ◌++◌, List}
use Rattle.std.specs.Prelude.{All, map}
use Rattle.std.specs.Vec.Iter.{into_iter_items}
use Rattle.saa_word_threads.specs.declared.table.View.{View}
use Rattle.saa_word_threads.specs.Gathered.{IsWitness}
use Rattle.saa_word_threads.specs.Public.{view_left}
use Rattle.saa_word_threads.proofs.semaphore.SemaphoreOf.close_all.Given as goal

-- the places that are left are of this table, and the witness knows the views of the others
abbrev pub invariant-loop-left : goal.invariant-loop-left
invariant-loop-left g l = record {
  ours : All (λ left. left.seat.table_id ≡ l.form.table.shared.table_id) (into_iter_items l.left-iterator);
  known : (views : List View) × IsWitness l.form.table.shared.table_id l.witness views
      × (views ++ map view_left (into_iter_items l.left-iterator) ≡ map view_left l.fn.lefts.items);
}

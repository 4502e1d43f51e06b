use Rattle.std.proofs.Common.{rules}
use Rattle.std.specs.Vec.Iter.{into_iter_items}
use Rattle.saa_word_threads.proofs.Inner.{wrapped}
use Rattle.saa_word_threads.proofs.lock.Place.of_all.Goals as goal

pub loop-inner-preserved : goal.loop-inner-preserved
loop-inner-preserved c = record {
  items =
      wrapped c.loop-inner.places.items c.push_reserved.new.self.items _ (into_iter_items c.loop-inner.inner-iterator) (into_iter_items c.next.new.self)
      c.args.dealt.items c.push_reserved.ensures.items c.in-Some.ensures.steps.0 c.loop-inner.invariant.items;
  count = search rules;
  room = search rules;
}

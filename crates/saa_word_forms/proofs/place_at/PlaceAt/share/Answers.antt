use Rattle.std.proofs.Common.{◌≡◌, ◌∙◌, ◌+◌, true, suc, inl, inr}
use Rattle.saa_core_spec.specs.declared.lock.Mode.TheVariants.{Shared}
use Rattle.saa_word_threads.specs.Locks.{AcquiresAndPolls}
use Rattle.saa_word_forms.proofs.place_at.PlaceAt.share.Goals as goal

pub returns-then-ask_share-clause-granted : goal.returns-then-ask_share-clause-granted
returns-then-ask_share-clause-granted g c =
    let waited : AcquiresAndPolls Shared c.loop.self.place true c.ask_share.new.self.place = c.if-ask_share.ensures.waited in
    ∣ (c.loop.self.place, inr (inl waited)) ∣₁

pub returns-then-ask_share-clause-taken : goal.returns-then-ask_share-clause-taken
returns-then-ask_share-clause-taken g c =
    (c.loop.invariant.refused.0, c.loop.self.place, c.loop.invariant.refused.1, c.if-ask_share.ensures.waited)

pub loop-preserved : goal.loop-preserved
loop-preserved g c =
    let cleared = c.clear_impossible_state.ensures.cleared in
    record {
      lock = c.clear_impossible_state.ensures.lock ∙ c.ask_share.ensures.lock ∙ c.loop.invariant.lock;
      refused = (
        suc c.loop.invariant.refused.0,
        (
          c.loop.self.place,
          c.loop.invariant.refused.1,
          (c.ask_share.new.self.place, cleared.0, cleared.1, cleared.2, c.if-ask_share.ensures.waited, cleared.3, cleared.4),
        ),
      );
    }

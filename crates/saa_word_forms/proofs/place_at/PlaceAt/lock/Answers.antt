use Rattle.std.proofs.Common.{◌≡◌, ◌∙◌, ◌+◌, true, suc, inl, inr}
use Rattle.saa_core_spec.specs.declared.lock.Mode.TheVariants.{Exclusive}
use Rattle.saa_word_threads.specs.Locks.{AcquiresAndPolls}
use Rattle.saa_word_forms.proofs.place_at.PlaceAt.lock.Goals as goal

pub returns-then-ask_lock-clause-granted : goal.returns-then-ask_lock-clause-granted
returns-then-ask_lock-clause-granted g c =
    let waited : AcquiresAndPolls Exclusive c.loop.self.place true c.ask_lock.new.self.place = c.if-ask_lock.ensures.waited in
    ∣ (c.loop.self.place, inr waited) ∣₁

pub returns-then-ask_lock-clause-taken : goal.returns-then-ask_lock-clause-taken
returns-then-ask_lock-clause-taken g c =
    (c.loop.invariant.refused.0, c.loop.self.place, c.loop.invariant.refused.1, c.if-ask_lock.ensures.waited)

pub loop-preserved : goal.loop-preserved
loop-preserved g c =
    let cleared = c.clear_impossible_state.ensures.cleared in
    record {
      lock = c.clear_impossible_state.ensures.lock ∙ c.ask_lock.ensures.lock ∙ c.loop.invariant.lock;
      refused = (
        suc c.loop.invariant.refused.0,
        (
          c.loop.self.place,
          c.loop.invariant.refused.1,
          (c.ask_lock.new.self.place, cleared.0, cleared.1, cleared.2, c.if-ask_lock.ensures.waited, cleared.3, cleared.4),
        ),
      );
    }

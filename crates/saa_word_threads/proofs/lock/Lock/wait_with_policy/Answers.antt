use Rattle.std.proofs.Common.{◌∙◌, ◌≡◌, ℕ, Bool, true, sym, subst}
use Rattle.saa_word_steps.specs.declared.call.WordCall.TheVariants.{Poll}
use Rattle.saa_word_steps.specs.declared.rules.Rules.{Rules}
use Rattle.saa_word_steps.specs.Needs.{lock_needs, needs_of}
use Rattle.saa_word_threads.specs.Called.{IsCalled}
use Rattle.saa_word_threads.specs.Public.{IsWaitedFrom, is_yes, registered, view_of}
use Rattle.saa_word_threads.proofs.lock.Lock.wait_with_policy.Goals as goal

pub returns-clause-waited : goal.returns-clause-waited
returns-clause-waited g c =
    let made = c.register_with_policy.ensures.called in
    let awaited = c.await_grant.ensures.called in
    let yes : true ≡ is_yes made.0 = sym c.if-not-register_with_policy.false ∙ made.1 in
    let polled : IsCalled lock_needs 0 Poll (registered c.register_with_policy.new.place.inner) awaited.0 (registered c.await_grant.new.place)
    (view_of c.register_with_policy.new.place.inner) (view_of c.await_grant.new.place) =
    subst (λ (n : ℕ). IsCalled lock_needs n Poll (registered c.register_with_policy.new.place.inner) awaited.0 (registered c.await_grant.new.place)
    (view_of c.register_with_policy.new.place.inner) (view_of c.await_grant.new.place)) c.args.self.now.free
    (subst (λ (r : Rules). IsCalled (needs_of r) c.args.self.now.form.table.shared.key.withheld Poll (registered c.register_with_policy.new.place.inner) awaited.0
    (registered c.await_grant.new.place) (view_of c.register_with_policy.new.place.inner) (view_of c.await_grant.new.place)) c.args.self.now.modes awaited.2) in (
      (c.await_grant.ensures.same.0 ∙ made.2.0.0, c.await_grant.ensures.same.1 ∙ made.2.0.1),
      (
        made.0,
        registered c.register_with_policy.new.place.inner,
        view_of c.register_with_policy.new.place.inner,
        made.2.1,
        subst (λ (b : Bool). IsWaitedFrom b lock_needs 0 (registered c.register_with_policy.new.place.inner) (registered c.await_grant.new.place)
            (view_of c.register_with_policy.new.place.inner) (view_of c.await_grant.new.place) c.await_grant.result) yes
            (awaited.0, polled, awaited.1),
      ),
    )

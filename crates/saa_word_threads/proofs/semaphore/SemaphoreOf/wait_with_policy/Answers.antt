use Rattle.std.proofs.Common.{◌∙◌, ◌≡◌, Bool, true, sym, subst}
use Rattle.saa_word_steps.specs.declared.call.WordCall.TheVariants.{Poll}
use Rattle.saa_word_steps.specs.declared.rules.Rules.{Rules}
use Rattle.saa_word_steps.specs.Needs.{needs_of, permit_needs}
use Rattle.saa_word_threads.specs.Called.{IsCalled}
use Rattle.saa_word_threads.specs.Public.{IsWaitedFrom, is_yes, registered, view_of}
use Rattle.saa_word_threads.proofs.semaphore.SemaphoreOf.wait_with_policy.Goals as goal

pub returns-clause-waited : goal.returns-clause-waited
returns-clause-waited g c =
    let made = c.register_with_policy.ensures.called in
    let awaited = c.await_grant.ensures.called in
    let yes : true ≡ is_yes made.0 = sym c.if-not-register_with_policy.false ∙ made.1 in
    let polled : IsCalled (permit_needs g.row.MAX) c.args.self.now.form.table.shared.key.withheld Poll (registered c.register_with_policy.new.place) awaited.0 (registered c.await_grant.new.place)
    (view_of c.register_with_policy.new.place) (view_of c.await_grant.new.place) =
    subst (λ (r : Rules). IsCalled (needs_of r) c.args.self.now.form.table.shared.key.withheld Poll (registered c.register_with_policy.new.place) awaited.0 (registered c.await_grant.new.place)
    (view_of c.register_with_policy.new.place) (view_of c.await_grant.new.place)) c.args.self.now.permits awaited.2 in (
      (c.await_grant.ensures.same.0 ∙ made.2.0.0, c.await_grant.ensures.same.1 ∙ made.2.0.1),
      (
        made.0,
        registered c.register_with_policy.new.place,
        view_of c.register_with_policy.new.place,
        made.2.1,
        subst (λ (b : Bool). IsWaitedFrom b (permit_needs g.row.MAX) c.args.self.now.form.table.shared.key.withheld (registered c.register_with_policy.new.place) (registered c.await_grant.new.place)
            (view_of c.register_with_policy.new.place) (view_of c.await_grant.new.place) c.await_grant.result) yes
            (awaited.0, polled, awaited.1),
      ),
    )

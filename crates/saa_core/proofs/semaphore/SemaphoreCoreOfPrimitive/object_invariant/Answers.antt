use Rattle.saa_core.proofs.GrantingLemmas.Asks.{IsCoreSettled-object}
use Rattle.saa_core.proofs.semaphore.SemaphoreCoreOfPrimitive.object_invariant.Goals as goal

pub returns : goal.returns
returns g c = λ tickets. record {
  settled = IsCoreSettled-object c.args.self.now tickets c.request_of-request.ensures.settled;
  permits = c.request_of-request.ensures.held;
  bounded = c.request_of-request.ensures.bounded;
}

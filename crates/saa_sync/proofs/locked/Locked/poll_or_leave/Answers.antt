use Rattle.std.proofs.Common.{rules, ◌≡◌, Err}
use Rattle.saa_core_spec.specs.declared.polling.Error.TheVariants.{NotReady}
use Rattle.saa_sync.proofs.MutexSteps.{polled-left}
use Rattle.saa_sync.proofs.locked.Locked.poll_or_leave.Goals as goal

pub returns-then-is_unanswered-clause-acts : goal.returns-then-is_unanswered-clause-acts
returns-then-is_unanswered-clause-acts g c =
    let is : c.poll_number-answer.result ≡ Err NotReady = search rules in
    polled-left _ _ _ _ _ _ _ is c.poll_number-answer.ensures.acts c.leave.ensures.acts

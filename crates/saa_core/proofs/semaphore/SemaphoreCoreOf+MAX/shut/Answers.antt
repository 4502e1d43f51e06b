use Rattle.std.proofs.Common.{◌≡◌, false, sym}
use Rattle.saa_core_spec.specs.Semaphore.{is_shut}
use Rattle.saa_core_spec.specs.Held.{OfSemaphore}
use Rattle.saa_core.proofs.GrantingLemmas.Asks.{shut_calls}
use Rattle.saa_core.proofs.GrantingLemmas.Semaphores.{shut-is}
use Rattle.saa_core.proofs.semaphore.SemaphoreCoreOf+MAX.shut.Goals as goal

pub returns-clause-calls : goal.returns-clause-calls
returns-clause-calls g c =
    let not_shut : is_shut c.args.self.now.held ≡ false = sym c.if-is_shut.ensures in
    let held : c.args.self.now.held ≡ OfSemaphore g.row.MAX c.out-out.result = shut-is _ _ _ c.out-out.ensures.held not_shut in
    rw (c.answer_all.ensures.answered) (shut_calls _ _ g.row.MAX _ c.waiting-waiting.ensures.sound held)

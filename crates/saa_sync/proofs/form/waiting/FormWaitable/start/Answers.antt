use Rattle.std.proofs.Common.{rules, ◌≡◌, true}
use Rattle.saa_core.specs.Tickets.{is_busy}
use Rattle.saa_sync.proofs.MutexSteps.{busy-refused}
use Rattle.saa_sync.proofs.form.waiting.FormWaitable.start.Goals as goal

pub returns-then-is_registered-clause-started : goal.returns-then-is_registered-clause-started
returns-then-is_registered-clause-started g c =
    let busy : is_busy c.args.ticket.now ≡ true = search rules in
    busy-refused _ _ _ _ busy

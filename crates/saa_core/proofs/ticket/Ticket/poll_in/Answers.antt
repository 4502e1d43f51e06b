use Rattle.std.proofs.Common.{◌≡◌, true, false}
use Rattle.saa_core_spec.specs.Polling.{is_right_mode}
use Rattle.saa_core.proofs.TicketLemmas.Polls.{poll_idle, poll_wrong_at_once, poll_at_once}
use Rattle.saa_core.proofs.ticket.Ticket.poll_in.Goals as goal

pub returns-in-Unregistered-clause-acts : goal.returns-in-Unregistered-clause-acts
returns-in-Unregistered-clause-acts g c = λ h.
    rw (← c.in-Unregistered.ensures) (poll_idle c.args.how (record { held = h; slots = c.args.line.now }))

pub returns-then-not-is_right_mode-clause-acts : goal.returns-then-not-is_right_mode-clause-acts
returns-then-not-is_right_mode-clause-acts g c = λ h.
    let wrong : is_right_mode c.args.how c.in-AtOnce.is_sync ≡ false = cc in
    rw (← c.in-AtOnce.ensures) (poll_wrong_at_once c.args.how (record { held = h; slots = c.args.line.now }) c.in-AtOnce.value _ c.in-AtOnce.is_sync wrong)

pub returns-else-not-is_right_mode-clause-acts : goal.returns-else-not-is_right_mode-clause-acts
returns-else-not-is_right_mode-clause-acts g c = λ h.
    let right : is_right_mode c.args.how c.in-AtOnce.is_sync ≡ true = cc in
    rw (← c.in-AtOnce.ensures, c.set.ensures) (poll_at_once c.args.how (record { held = h; slots = c.args.line.now }) c.in-AtOnce.value _ c.in-AtOnce.is_sync right)

use Rattle.std.proofs.Common.{◌≡◌, true, false}
use Rattle.saa_core_spec.specs.Polling.{is_right_mode}
use Rattle.saa_core.proofs.TicketLemmas.Polls.{poll_foreign, poll_wrong_waiting, poll_waiting, poll_wrong_answered, poll_answered}
use Rattle.saa_core.proofs.ticket.Ticket.poll_slot.Goals as goal

pub returns-in-Free-clause-acts : goal.returns-in-Free-clause-acts
returns-in-Free-clause-acts g c = λ h.
    rw c.requires.registered (poll_foreign (record { held = h; slots = c.args.line.now }) c.args.slot c.args._request c.args.is_sync _ _ _ _ c.in-Free.ensures)

pub returns-then-not-is_right_mode-clause-acts : goal.returns-then-not-is_right_mode-clause-acts
returns-then-not-is_right_mode-clause-acts g c = λ h.
    let wrong : is_right_mode c.args.how c.args.is_sync ≡ false = cc in
    rw c.requires.registered (poll_wrong_waiting c.args.how (record { held = h; slots = c.args.line.now }) c.args.slot _ c.args.is_sync c.in-Waiting.ensures.1 wrong)

pub returns-else-not-is_right_mode-clause-acts : goal.returns-else-not-is_right_mode-clause-acts
returns-else-not-is_right_mode-clause-acts g c = λ h.
    let right : is_right_mode c.args.how c.args.is_sync ≡ true = cc in
    rw c.requires.registered (poll_waiting c.args.how (record { held = h; slots = c.args.line.now }) c.args.slot _ c.args.is_sync c.in-Waiting.ensures.1 right)

pub returns-then-not-is_right_mode-2-clause-acts : goal.returns-then-not-is_right_mode-2-clause-acts
returns-then-not-is_right_mode-2-clause-acts g c = λ h.
    let wrong : is_right_mode c.args.how c.args.is_sync ≡ false = cc in
    rw c.requires.registered (poll_wrong_answered c.args.how (record { held = h; slots = c.args.line.now }) c.args.slot c.in-Answered.value _ c.args.is_sync c.in-Answered.ensures wrong)

pub returns-else-not-is_right_mode-2-clause-acts : goal.returns-else-not-is_right_mode-2-clause-acts
returns-else-not-is_right_mode-2-clause-acts g c = λ h.
    let right : is_right_mode c.args.how c.args.is_sync ≡ true = cc in
    rw (c.requires.registered, c.take-taken.ensures.taken, c.set.ensures) (poll_answered c.args.how h c.args.line.now c.args.slot c.in-Answered.value _ c.args.is_sync c.requires.sound c.in-Answered.ensures right)

use Rattle.std.proofs.Common.{rules, ◌≡◌, is_some, true, Ok, sym, ap, ◌∙◌}
use Rattle.saa_core.specs.Tickets.{is_busy, slot_of}
use Rattle.saa_core.specs.Beginning.{mode_of}
use Rattle.saa_core.proofs.TicketLemmas.Modes.{begin-wakes, registers-owes, registered-mode, reply-alone}
use Rattle.saa_core.proofs.FuturePolls.{asked-full, asked-false, asked-polled, waits-slotted}
use Rattle.saa_core.proofs.future.ask_on.Goals as goal

pub returns-in-Err-clause-registration : goal.returns-in-Err-clause-registration
returns-in-Err-clause-registration g c = reply-alone _ _ _ _ _ (rw c.requires at c.in-Err.ensures.acts)

pub returns-in-Ok-false-clause-registration : goal.returns-in-Ok-false-clause-registration
returns-in-Ok-false-clause-registration g c =
    ap Ok (sym c.in-Ok-false.field-0-test) ∙ reply-alone _ _ _ _ _ (rw c.requires at c.in-Ok-false.ensures.acts)

pub returns-in-Ok-clause-registration : goal.returns-in-Ok-clause-registration
returns-in-Ok-clause-registration g c =
    ap Ok (sym c.in-Ok-true.field-0-test) ∙ reply-alone _ _ _ _ _ (rw c.requires at c.in-Ok-true.ensures.acts)

pub returns-in-Err-poll_number-clause-registration : goal.returns-in-Err-poll_number-clause-registration
returns-in-Err-poll_number-clause-registration g c =
    ap Ok (sym c.in-Ok-true.field-0-test) ∙ reply-alone _ _ _ _ _ (rw c.requires at c.in-Ok-true.ensures.acts)

pub returns-in-Ok-clause-acts : goal.returns-in-Ok-clause-acts
returns-in-Ok-clause-acts g c =
    asked-polled _ _ _ _ _ _ _ _ _ c.in-Ok-true.field-0-test c.in-Ok-true.ensures.acts c.in-Ok.ensures.acts

pub returns-in-Err-poll_number-clause-acts : goal.returns-in-Err-poll_number-clause-acts
returns-in-Err-poll_number-clause-acts g c =
    asked-polled _ _ _ _ _ _ _ _ _ c.in-Ok-true.field-0-test c.in-Ok-true.ensures.acts c.in-Err-poll_number.ensures.acts

pub returns-in-Ok-clause-wakes : goal.returns-in-Ok-clause-wakes
returns-in-Ok-clause-wakes g c =
    begin-wakes _ _ _ _ _ _ _ _ c.in-Ok-true.field-0-test c.in-Ok-true.ensures.acts c.in-Ok-true.ensures.wakes c.in-Ok.ensures.pending_wakes

pub returns-in-Err-poll_number-clause-wakes : goal.returns-in-Err-poll_number-clause-wakes
returns-in-Err-poll_number-clause-wakes g c =
    begin-wakes _ _ _ _ _ _ _ _ c.in-Ok-true.field-0-test c.in-Ok-true.ensures.acts c.in-Ok-true.ensures.wakes c.in-Err-poll_number.ensures.pending_wakes

pub returns-in-Err-poll_number-clause-mode : goal.returns-in-Err-poll_number-clause-mode
returns-in-Err-poll_number-clause-mode g c = λ joined.
    ap mode_of (c.in-Err-poll_number.ensures.same)
    ∙ registered-mode _ _ _ _ _ _ c.in-Ok-true.field-0-test (rw c.requires at c.in-Ok-true.ensures.acts)

pub returns-in-Err-poll_number-clause-slot : goal.returns-in-Err-poll_number-clause-slot
returns-in-Err-poll_number-clause-slot g c = λ joined.
    let mode = registered-mode _ _ _ _ _ _ c.in-Ok-true.field-0-test (rw c.requires at c.in-Ok-true.ensures.acts) in
    let busy : is_busy c.register.new.ticket ≡ true = search rules in
    ap (λ t. is_some (slot_of t)) (c.in-Err-poll_number.ensures.same)
    ∙ waits-slotted _ _ _ _ _ busy mode c.in-Err-poll_number.ensures.acts

pub returns-in-Err-clause-acts : goal.returns-in-Err-clause-acts
returns-in-Err-clause-acts g c = asked-full _ _ _ _ _ _ c.in-Err.ensures.acts

pub returns-in-Ok-false-clause-acts : goal.returns-in-Ok-false-clause-acts
returns-in-Ok-false-clause-acts g c = asked-false _ _ _ _ _ _ c.in-Ok-false.field-0-test c.in-Ok-false.ensures.acts

pub returns-in-Err-clause-wakes : goal.returns-in-Err-clause-wakes
returns-in-Err-clause-wakes g c = registers-owes _ _ _ _ _ _ _ c.in-Err.ensures.acts c.in-Err.ensures.wakes

pub returns-in-Ok-false-clause-wakes : goal.returns-in-Ok-false-clause-wakes
returns-in-Ok-false-clause-wakes g c = registers-owes _ _ _ _ _ _ _ (rw c.in-Ok-false.field-0-test at c.in-Ok-false.ensures.acts) c.in-Ok-false.ensures.wakes

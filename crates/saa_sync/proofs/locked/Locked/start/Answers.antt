use Rattle.std.proofs.Common.{rules, ◌≡◌, Ok, true, false, ap, sym, ◌∙◌}
use Rattle.saa_core.specs.Beginning.{mode_of}
use Rattle.saa_core.proofs.TicketLemmas.Modes.{begin-wakes, registered-mode, reply-alone}
use Rattle.saa_sync.proofs.MutexSteps.{begun-polled, full-stays}
use Rattle.saa_sync.proofs.locked.Locked.start.Goals as goal

pub returns-in-Ok-clause-acts : goal.returns-in-Ok-clause-acts
returns-in-Ok-clause-acts g c =
    let is_true : c.in_ok-register.field-0 ≡ true = search rules in
    begun-polled _ _ _ _ _ _ _ _ _ is_true c.in_ok-register.ensures.acts c.in-Ok.ensures.acts

pub returns-in-Err-clause-acts : goal.returns-in-Err-clause-acts
returns-in-Err-clause-acts g c =
    let is_true : c.in_ok-register.field-0 ≡ true = search rules in
    begun-polled _ _ _ _ _ _ _ _ _ is_true c.in_ok-register.ensures.acts c.in-Err.ensures.acts

pub returns-in_err-register-clause-registration : goal.returns-in_err-register-clause-registration
returns-in_err-register-clause-registration g c =
    full-stays c.from_residual.result c.in_err-register.field-0.0 c.from_residual.ensures.0
    ∙ reply-alone _ _ _ _ _ (rw c.requires at c.in_err-register.ensures.acts)

pub returns-then-not-branch-clause-registration : goal.returns-then-not-branch-clause-registration
returns-then-not-branch-clause-registration g c =
    let is_false : c.in_ok-register.field-0 ≡ false = search rules in
    rw (← is_false) (reply-alone _ _ _ _ _ (rw c.requires at c.in_ok-register.ensures.acts))

pub returns-in-Ok-clause-registration : goal.returns-in-Ok-clause-registration
returns-in-Ok-clause-registration g c =
    let is_true : c.in_ok-register.field-0 ≡ true = search rules in
    ap Ok (sym is_true) ∙ reply-alone _ _ _ _ _ (rw c.requires at c.in_ok-register.ensures.acts)

pub returns-in-Err-clause-registration : goal.returns-in-Err-clause-registration
returns-in-Err-clause-registration g c =
    let is_true : c.in_ok-register.field-0 ≡ true = search rules in
    ap Ok (sym is_true) ∙ reply-alone _ _ _ _ _ (rw c.requires at c.in_ok-register.ensures.acts)

pub returns-in-Ok-clause-wakes : goal.returns-in-Ok-clause-wakes
returns-in-Ok-clause-wakes g c =
    let is_true : c.in_ok-register.field-0 ≡ true = search rules in
    begin-wakes _ _ _ _ _ _ _ _ is_true c.in_ok-register.ensures.acts c.in_ok-register.ensures.wakes c.in-Ok.ensures.pending_wakes

pub returns-in-Err-clause-wakes : goal.returns-in-Err-clause-wakes
returns-in-Err-clause-wakes g c =
    let is_true : c.in_ok-register.field-0 ≡ true = search rules in
    begin-wakes _ _ _ _ _ _ _ _ is_true c.in_ok-register.ensures.acts c.in_ok-register.ensures.wakes c.in-Err.ensures.pending_wakes

pub returns-in-Err-clause-mode : goal.returns-in-Err-clause-mode
returns-in-Err-clause-mode g c = λ joined.
    let is_true : c.in_ok-register.field-0 ≡ true = search rules in
    ap mode_of c.in-Err.ensures.same
    ∙ registered-mode _ _ _ _ _ (Ok c.in_ok-register.field-0) is_true (rw c.requires at c.in_ok-register.ensures.acts)

use Rattle.std.proofs.Common.{sym, ◌∙◌}
use Rattle.saa_core.proofs.TicketLemmas.Leaving.{leave_idle}
use Rattle.saa_core.proofs.FuturePolls.{idle-is}
use Rattle.saa_core.proofs.future.PendingRegistration.leave_on.Goals as goal
use Rattle.saa_core.proofs.future.PendingRegistration.leave_on.Goals.{then-is_registered, else-is_registered}

pub returns-clause-acts : goal.returns-clause-acts
returns-clause-acts g c =
    elim c.if-is_registered.branch [
      | then-is_registered w ↦ rw (← c.self.view_is, w.core-is, w.self-inside-is) w.leave.ensures.acts
      | else-is_registered w ↦
          let idle = idle-is c.self.inside.ticket (sym c.is_registered.ensures ∙ w.if-is_registered.false) in
          rw (← c.self.view_is, w.core-is, w.self-inside-is, idle) (leave_idle _)
    ]

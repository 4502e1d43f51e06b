use Rattle.std.proofs.Common.{◌≡◌, ap, ◌∙◌}
use Rattle.saa_core.specs.Tickets.{Core}
use Rattle.saa_core.proofs.TicketLemmas.Leaving.{leaving-elsewhere}
use Rattle.saa_core.proofs.barrier.BarrierCorePrimitive.leave.Goals as goal

pub returns-clause-acts : goal.returns-clause-acts
returns-clause-acts c =
    leaving-elsewhere _ _ _ _
    (λ gate is. let held = ap (λ (k : Core). k.held) c.self.view_is ∙ is in cc)
    c.cancel.ensures.acts

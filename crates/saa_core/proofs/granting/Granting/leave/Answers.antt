use Rattle.std.proofs.Common.{sym, ap, ◌∙◌, subst}
use Rattle.saa_core.specs.Tickets.{Core}
use Rattle.saa_core.specs.CoreParts.{IsGranting}
use Rattle.saa_core.proofs.TicketLemmas.Leaving.{leaving-elsewhere}
use Rattle.saa_core.proofs.granting.Granting.leave.Goals as goal

pub returns-clause-acts : goal.returns-clause-acts
returns-clause-acts g c =
    leaving-elsewhere _ _ _ _
    (λ gate is. subst IsGranting (ap (λ (k : Core). k.held) c.self.view_is ∙ is) (g.met.N.Needs.grants c.self.inside.needs))
    c.cancel.ensures.acts

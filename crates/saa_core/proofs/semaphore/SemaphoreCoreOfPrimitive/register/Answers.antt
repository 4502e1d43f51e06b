use Rattle.std.proofs.Common.{◌≡◌, ◌<◌, true, nat_lt, refl, ap, ◌∙◌, arith}
use Rattle.std.proofs.lemmas.Bool.Decides.{nat_tests}
use Rattle.saa_core_spec.specs.declared.request.Request.TheVariants.{Permits}
use Rattle.saa_core_spec.specs.Held.{asks_too_much}
use Rattle.saa_core.proofs.TicketLemmas.Registering.{register_refused, or_true}
use Rattle.saa_core.proofs.GrantingLemmas.Semaphores.{asks-held}
use Rattle.saa_core.proofs.semaphore.SemaphoreCoreOfPrimitive.register.Goals as goal

pub returns-in_default-clause-acts : goal.returns-in_default-clause-acts
returns-in_default-clause-acts g c =
    let above : g.row.MAX < c.args.count = c.in_default.ensures.too_many.0 refl in
    let much : nat_lt g.row.MAX c.args.count ≡ true = grind (arith, nat_tests) in
    register_refused c.args.self.now c.args.ticket.now (Permits c.args.count) c.args.is_sync (or_true _ _ (ap (λ h. asks_too_much h (Permits c.args.count)) c.request_of.ensures.held ∙ asks-held _ _ _ _ ∙ much))

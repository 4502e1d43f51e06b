use Rattle.std.proofs.Common.{◌≡◌, None, ◌∙◌, sym}
use Rattle.saa_core.specs.CoreParts.{oldest_fitting}
use Rattle.saa_core.proofs.GrantingLemmas.SettlingSteps.{settle-grant, settled-none, settle-stop}
use Rattle.saa_core.proofs.granting.grant_fitting.Goals as goal

pub loop-request-preserved : goal.loop-request-preserved
loop-request-preserved g c = record {
  same = rw (c.grant_front.ensures.granted, c.take.ensures) (settle-grant (g.N.Needs.held c.loop-request.needs) c.loop-request.line c.in-Some.request (sym c.in-Some.ensures) ∙ c.loop-request.invariant.same);
  sound = c.grant_front.ensures.sound;
}

pub returns-clause-settled : goal.returns-clause-settled
returns-clause-settled g c =
    let none : oldest_fitting (g.N.Needs.held c.loop-request.needs) c.loop-request.line.line ≡ None = cc in
    sym (settled-none (record { held = g.N.Needs.held c.loop-request.needs; slots = c.loop-request.line }) (settle-stop (g.N.Needs.held c.loop-request.needs) c.loop-request.line.line none))
    ∙ c.loop-request.invariant.same

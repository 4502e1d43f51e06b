use Rattle.std.proofs.Common.{◌≡◌, Bool, true, false, [], sym, subst, ap, ◌∙◌}
use Rattle.saa_core_spec.specs.Held.{refuses_all}
use Rattle.saa_core.specs.Tickets.{IsCoreSettled, Core}
use Rattle.saa_core.proofs.GrantingLemmas.SettlingSteps.{settled-settled, refused-settled}
use Rattle.saa_core.proofs.GrantingLemmas.Waking.{wakes-settled}
use Rattle.saa_core.proofs.granting.Granting.settle_with.Goals as goal

pub invariant_of-self : goal.invariant_of-self
invariant_of-self g c = record {
  sound = c.settle.ensures.sound;
  settled = subst (λ k. IsCoreSettled k) (sym c.settle.ensures.settled) (settled-settled _);
  refused = subst (λ k. refuses_all k.held ≡ true → k.slots.line ≡ []) (sym c.settle.ensures.settled)
      (refused-settled _ (λ refuses. (let both : ◌≡◌ {A = Bool} false true = sym c.requires.grants ∙ refuses in cc)));
}

pub returns-clause-granted : goal.returns-clause-granted
returns-clause-granted g c = rw (← c.self.view_is) c.settle.ensures.settled

pub returns-clause-settled : goal.returns-clause-settled
returns-clause-settled g c = subst (λ k. IsCoreSettled k) (sym c.settle.ensures.settled) (settled-settled _)

pub returns-clause-wakes : goal.returns-clause-wakes
returns-clause-wakes g c =
    let line = ap (λ (k : Core). k.slots) c.settle.ensures.settled in
    rw (line, ← c.self.view_is) (wakes-settled (record { held = g.N.Needs.held c.args.needs; slots = c.self.inside.line }) c.self.invariant.sound)

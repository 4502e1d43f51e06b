use Rattle.std.proofs.Common.{◌≡◌, [], true, false, Some, sym, subst, ap}
use Rattle.saa_core_spec.specs.Held.{refuses_all, less}
use Rattle.saa_core_spec.specs.Polling.{is_for_nothing}
use Rattle.saa_core.specs.Tickets.{IsCoreSettled, Core}
use Rattle.saa_core.proofs.GrantingLemmas.Asks.{release_given}
use Rattle.saa_core.proofs.GrantingLemmas.SettlingSteps.{settled-settled, refused-given}
use Rattle.saa_core.proofs.TicketLemmas.Waking.{wakes-same}
use Rattle.saa_core.proofs.GrantingLemmas.Waking.{wakes-settled}
use Rattle.saa_core.proofs.granting.Granting.take_back.Goals as goal

pub invariant_of-self-2 : goal.invariant_of-self-2
invariant_of-self-2 g c =
    let given : less (g.N.Needs.held c.self.inside.needs) c.args.request ≡ Some (g.N.Needs.held c.give_back.new.self) = c.if-not-give_back.ensures.given in
    record {
      sound = c.settle.ensures.sound;
      settled = subst (λ k. IsCoreSettled k) (sym c.settle.ensures.settled) (settled-settled _);
      refused = subst (λ k. refuses_all k.held ≡ true → k.slots.line ≡ []) (sym c.settle.ensures.settled) (refused-given _ _ _ c.args.request given c.self.invariant.refused);
    }

pub returns-clause-calls : goal.returns-clause-calls
returns-clause-calls g c =
    let given : less (g.N.Needs.held c.self.inside.needs) c.args.request ≡ Some (g.N.Needs.held c.give_back.new.self) = c.if-not-give_back.ensures.given in
    let some : is_for_nothing c.args.request ≡ false = sym c.if-is_for_nothing.ensures in
    rw (c.settle.ensures.settled, ← c.self.view_is) (release_given _ _ _ c.args.request c.self.invariant.sound some given)

pub returns-clause-settled : goal.returns-clause-settled
returns-clause-settled g c = subst (λ k. IsCoreSettled k) (sym c.settle.ensures.settled) (settled-settled _)

pub returns-then-is_for_nothing-clause-wakes : goal.returns-then-is_for_nothing-clause-wakes
returns-then-is_for_nothing-clause-wakes g c = rw (← c.self.view_is) (wakes-same c.self.inside.line c.self.invariant.sound)

pub returns-then-not-give_back-clause-wakes : goal.returns-then-not-give_back-clause-wakes
returns-then-not-give_back-clause-wakes g c = rw (← c.self.view_is) (wakes-same c.self.inside.line c.self.invariant.sound)

pub returns-clause-wakes : goal.returns-clause-wakes
returns-clause-wakes g c =
    let line = ap (λ (k : Core). k.slots) c.settle.ensures.settled in
    rw (line, ← c.self.view_is) (wakes-settled (record { held = g.N.Needs.held c.give_back.new.self; slots = c.self.inside.line }) c.self.invariant.sound)

use Rattle.std.proofs.Common.{◌≡◌, true, [], sym, subst, ◌∙◌, ap, ◌<◌, refl}
use Rattle.saa_core_spec.specs.Held.{refuses_all}
use Rattle.saa_core_spec.specs.Object.{without, times}
use Rattle.saa_core.specs.Slots.{Slots}
use Rattle.saa_core.specs.Tickets.{IsCoreSettled, Core}
use Rattle.saa_core.proofs.GrantingLemmas.SettlingSteps.{settled-settled, refused-settled}
use Rattle.saa_core.proofs.TicketLemmas.Waking.{wakes-same}
use Rattle.saa_core.proofs.GrantingLemmas.Waking.{wakes-settled_left}
use Rattle.saa_core.proofs.granting.Granting.vacate.Goals as goal

pub invariant_of-self-then-leave : goal.invariant_of-self-then-leave
invariant_of-self-then-leave g c =
    let left : c.leave.new.self.line ≡ without c.args.slot c.take.new.self.line = ap (λ (s : Slots). s.line) c.if-leave.ensures.left in
    let took : c.take.new.self.line ≡ c.self.inside.line.line = ap (λ (s : Slots). s.line) c.in_default.ensures.unchanged in
    record {
      sound = c.settle.ensures.sound;
      settled = subst (λ k. IsCoreSettled k) (sym c.settle.ensures.settled) (settled-settled _);
      refused = subst (λ k. refuses_all k.held ≡ true → k.slots.line ≡ []) (sym c.settle.ensures.settled)
          (refused-settled _ (λ refuses. left ∙ ap (without c.args.slot) (took ∙ c.self.invariant.refused refuses)));
    }

pub returns-then-leave-clause-settled : goal.returns-then-leave-clause-settled
returns-then-leave-clause-settled g c = subst (λ k. IsCoreSettled k) (sym c.settle.ensures.settled) (settled-settled _)

pub returns-then-leave-clause-wakes : goal.returns-then-leave-clause-wakes
returns-then-leave-clause-wakes g c =
    let took : c.take.new.self ≡ c.self.inside.line = c.in_default.ensures.unchanged in
    let left : c.leave.new.self ≡ record c.self.inside.line { line = without c.args.slot c.self.inside.line.line } =
    c.if-leave.ensures.left ∙ ap (λ (s : Slots). record s { line = without c.args.slot s.line }) took in
    let waited : 0 < times c.args.slot c.take.new.self.line = c.if-leave.ensures.waited.0 refl in
    let waits : 0 < times c.args.slot c.self.inside.line.line = rw took at waited in
    let line = ap (λ (k : Core). k.slots) c.settle.ensures.settled in
    rw (line, left, ← c.self.view_is) (wakes-settled_left (record { held = g.N.Needs.held c.self.inside.needs; slots = c.self.inside.line }) c.args.slot c.self.invariant.sound waits)

pub returns-else-leave-clause-wakes : goal.returns-else-leave-clause-wakes
returns-else-leave-clause-wakes g c =
    rw (c.if-leave.ensures.unchanged, c.in_default.ensures.unchanged, ← c.self.view_is) (wakes-same c.self.inside.line c.self.invariant.sound)

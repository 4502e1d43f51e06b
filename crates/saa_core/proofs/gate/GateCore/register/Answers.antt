use Rattle.std.proofs.Common.{◌≡◌, true, false, Some, None, refl, rules}
use Rattle.saa_core_spec.specs.declared.request.Request.TheVariants.{Enter}
use Rattle.saa_core.specs.declared.ticket.Registration.TheVariants.{Unregistered}
use Rattle.saa_core.specs.Tickets.{is_busy}
use Rattle.saa_core.proofs.TicketLemmas.Registering.{register_refused, idle_ticket, busy_or}
use Rattle.saa_core_spec.specs.Gate.{gate_state}
use Rattle.saa_core.specs.GateParts.{answer_by_state}
use Rattle.saa_core.proofs.GatheringLemmas.Gathering.{register_full, register_joined}
use Rattle.saa_core.proofs.GatheringLemmas.Entering.{enter_answered, enter_waits}
use Rattle.saa_core.proofs.TicketLemmas.Waking.{wakes-same, wakes-joined}
use Rattle.saa_core.proofs.gate.GateCore.register.Goals as goal

pub returns-then-is_registered-clause-acts : goal.returns-then-is_registered-clause-acts
returns-then-is_registered-clause-acts c =
    let busy : is_busy c.args.ticket.now ≡ true = cc in
    register_refused c.args.self.now c.args.ticket.now Enter c.args.is_sync (busy_or _ _ busy)

pub returns-in-Some-clause-acts : goal.returns-in-Some-clause-acts
returns-in-Some-clause-acts c =
    let idle : c.args.ticket.now ≡ Unregistered = idle_ticket c.args.ticket.now cc in
    let answer : answer_by_state (gate_state c.args.self.now.held) ≡ Some c.in-Some.value = cc in
    rw (idle, c.set.ensures, ← c.self.view_is) (enter_answered c.self.inside.state c.self.inside.line c.in-Some.value c.args.is_sync (rw (← c.self.view_is) at answer))

pub returns-in_default-join-clause-acts : goal.returns-in_default-join-clause-acts
returns-in_default-join-clause-acts c =
    let idle : c.args.ticket.now ≡ Unregistered = idle_ticket c.args.ticket.now cc in
    let none : answer_by_state (gate_state c.args.self.now.held) ≡ None = cc in
    let full = c.in_default-join.ensures.full.0 (search rules) in
    rw (idle, c.in_default-join.ensures.unchanged, ← c.self.view_is) (register_full _ Enter c.args.is_sync refl (enter_waits c.self.inside.state c.self.inside.line (rw (← c.self.view_is) at none)) full)

pub returns-clause-acts : goal.returns-clause-acts
returns-clause-acts c =
    let idle : c.args.ticket.now ≡ Unregistered = idle_ticket c.args.ticket.now cc in
    let none : answer_by_state (gate_state c.args.self.now.held) ≡ None = cc in
    rw (idle, c.set-2.ensures, c.in-Some-join.ensures.joined, ← c.self.view_is) (register_joined _ c.self.inside.line c.in-Some-join.slot Enter c.args.is_sync refl (enter_waits c.self.inside.state c.self.inside.line (rw (← c.self.view_is) at none)) (λ full. (let wrong : true ≡ false = c.in-Some-join.ensures.full.1 full in cc)) c.in-Some-join.ensures.was_free)

pub returns-then-is_registered-clause-wakes : goal.returns-then-is_registered-clause-wakes
returns-then-is_registered-clause-wakes c = rw (← c.self.view_is) (wakes-same c.self.inside.line c.self.invariant.sound)

pub returns-in_default-join-clause-wakes : goal.returns-in_default-join-clause-wakes
returns-in_default-join-clause-wakes c = rw (c.in_default-join.ensures.unchanged, ← c.self.view_is) (wakes-same c.self.inside.line c.self.invariant.sound)

pub returns-clause-wakes : goal.returns-clause-wakes
returns-clause-wakes c = rw (c.in-Some-join.ensures.joined, ← c.self.view_is) (wakes-joined c.self.inside.line c.in-Some-join.slot Enter c.self.invariant.sound)

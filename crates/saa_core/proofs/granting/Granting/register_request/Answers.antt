use Rattle.std.proofs.Common.{◌≡◌, true, false, Some, None, rules}
use Rattle.saa_core.specs.declared.ticket.Registration.TheVariants.{Unregistered}
use Rattle.saa_core.specs.Tickets.{is_busy}
use Rattle.saa_core.specs.CoreParts.{takes_now, answer_to_all}
use Rattle.saa_core.proofs.GrantingLemmas.Asks.{register_answered, register_granted, register_full, register_joined, grants}
use Rattle.saa_core.proofs.TicketLemmas.Registering.{register_refused, idle_ticket, busy_or}
use Rattle.saa_core.proofs.TicketLemmas.Waking.{wakes-same, wakes-joined}
use Rattle.saa_core.proofs.granting.Granting.register_request.Goals as goal

pub returns-then-is_registered-clause-acts : goal.returns-then-is_registered-clause-acts
returns-then-is_registered-clause-acts g c =
    let busy : is_busy c.args.ticket.now ≡ true = cc in
    register_refused c.args.self.now c.args.ticket.now c.args.request c.args.is_sync (busy_or _ _ busy)

pub returns-in-Some-clause-acts : goal.returns-in-Some-clause-acts
returns-in-Some-clause-acts g c =
    let idle : c.args.ticket.now ≡ Unregistered = idle_ticket c.args.ticket.now cc in
    let all : answer_to_all (g.N.Needs.held c.self.inside.needs) ≡ Some c.in-Some.value = cc in
    rw (idle, c.set.ensures, ← c.self.view_is) (register_answered (g.N.Needs.held c.self.inside.needs) c.self.inside.line c.in-Some.value c.args.request c.args.is_sync (grants _ (g.met.N.Needs.grants c.self.inside.needs)) (rw (← c.self.view_is) at c.requires.small) all)

pub returns-then-takes_now-clause-acts : goal.returns-then-takes_now-clause-acts
returns-then-takes_now-clause-acts g c =
    let idle : c.args.ticket.now ≡ Unregistered = idle_ticket c.args.ticket.now cc in
    let some : answer_to_all (g.N.Needs.held c.self.inside.needs) ≡ None = cc in
    let takes : takes_now c.args.self.now c.args.request ≡ true = cc in
    rw (idle, c.set-then-takes_now.ensures, c.take.ensures, ← c.self.view_is) (register_granted (g.N.Needs.held c.self.inside.needs) c.self.inside.line c.args.request c.args.is_sync (grants _ (g.met.N.Needs.grants c.self.inside.needs)) (rw (← c.self.view_is) at c.requires.small) some (rw (← c.self.view_is) at takes))

pub returns-in_default-join-clause-acts : goal.returns-in_default-join-clause-acts
returns-in_default-join-clause-acts g c =
    let idle : c.args.ticket.now ≡ Unregistered = idle_ticket c.args.ticket.now cc in
    let some : answer_to_all (g.N.Needs.held c.self.inside.needs) ≡ None = cc in
    let takes : takes_now c.args.self.now c.args.request ≡ false = cc in
    let full = c.in_default-join.ensures.full.0 (search rules) in
    rw (idle, c.in_default-join.ensures.unchanged, ← c.self.view_is) (register_full _ c.args.request c.args.is_sync (grants _ (g.met.N.Needs.grants c.self.inside.needs)) (rw (← c.self.view_is) at c.requires.small) some (rw (← c.self.view_is) at takes) full)

pub returns-clause-acts : goal.returns-clause-acts
returns-clause-acts g c =
    let idle : c.args.ticket.now ≡ Unregistered = idle_ticket c.args.ticket.now cc in
    let some : answer_to_all (g.N.Needs.held c.self.inside.needs) ≡ None = cc in
    let takes : takes_now c.args.self.now c.args.request ≡ false = cc in
    rw (idle, c.set-2.ensures, c.in-Some-join.ensures.joined, ← c.self.view_is) (register_joined (g.N.Needs.held c.self.inside.needs) c.self.inside.line c.in-Some-join.slot c.args.request c.args.is_sync (grants _ (g.met.N.Needs.grants c.self.inside.needs)) (rw (← c.self.view_is) at c.requires.small) some (rw (← c.self.view_is) at takes) (λ full. (let wrong : true ≡ false = c.in-Some-join.ensures.full.1 full in cc)) c.in-Some-join.ensures.was_free)

pub returns-then-is_registered-clause-wakes : goal.returns-then-is_registered-clause-wakes
returns-then-is_registered-clause-wakes g c = rw (← c.self.view_is) (wakes-same c.self.inside.line c.self.invariant.sound)

pub returns-in_default-join-clause-wakes : goal.returns-in_default-join-clause-wakes
returns-in_default-join-clause-wakes g c = rw (c.in_default-join.ensures.unchanged, ← c.self.view_is) (wakes-same c.self.inside.line c.self.invariant.sound)

pub returns-clause-wakes : goal.returns-clause-wakes
returns-clause-wakes g c = rw (c.in-Some-join.ensures.joined, ← c.self.view_is) (wakes-joined c.self.inside.line c.in-Some-join.slot c.args.request c.self.invariant.sound)

use Rattle.std.proofs.Common.{◌≡◌, ◌+◌, true, false, length, ◌==◌, refl, ap, ◌∙◌, rules, arith}
use Rattle.saa_core_spec.specs.declared.request.Request.TheVariants.{Arrive}
use Rattle.saa_core.specs.declared.ticket.Registration.TheVariants.{Unregistered}
use Rattle.std.proofs.lemmas.List.{length_push}
use Rattle.saa_core.specs.Slots.{Slots}
use Rattle.saa_core.specs.Tickets.{is_busy}
use Rattle.saa_core.proofs.TicketLemmas.Registering.{register_refused, idle_ticket, busy_or}
use Rattle.saa_core_spec.specs.Barrier.{size_of, arrived_of}
use Rattle.saa_core_spec.proofs.Counts.{same_number, other_number}
use Rattle.saa_core.proofs.GatheringLemmas.Gathering.{register_full, register_joined}
use Rattle.saa_core.proofs.GatheringLemmas.Rounds.{arrive_last, arrive_waits, resized-last}
use Rattle.saa_core.proofs.TicketLemmas.Waking.{wakes-same, wakes-joined}
use Rattle.saa_core.proofs.barrier.BarrierCore.arrive.Goals as goal

pub returns-then-is_registered-clause-acts : goal.returns-then-is_registered-clause-acts
returns-then-is_registered-clause-acts c =
    let busy : is_busy c.args.ticket.now ≡ true = cc in
    register_refused c.args.self.now c.args.ticket.now Arrive c.args.is_sync (busy_or _ _ busy)

pub returns-then-completes_round-clause-acts : goal.returns-then-completes_round-clause-acts
returns-then-completes_round-clause-acts c =
    let idle : c.args.ticket.now ≡ Unregistered = idle_ticket c.args.ticket.now cc in
    let test : (arrived_of c.args.self.now.held + length c.args.self.now.slots.line + 1 == size_of c.args.self.now.held) ≡ true = cc in
    let last : c.resize.inside.arrived + length c.resize.inside.line.line + 1 ≡ c.resize.inside.size = same_number _ _ (rw (← c.resize.view_is) at test) in
    rw (idle, c.set.ensures, c.resize-is_complete.ensures.state, ← c.resize.view_is, resized-last c.resize.inside.size c.resize.inside.arrived c.resize.inside.round c.resize.inside.line last)
    (arrive_last c.resize.inside.size c.resize.inside.arrived c.resize.inside.round c.resize.inside.line c.args.is_sync c.resize.invariant.sound last)

pub returns-in_default-clause-acts : goal.returns-in_default-clause-acts
returns-in_default-clause-acts c =
    let idle : c.args.ticket.now ≡ Unregistered = idle_ticket c.args.ticket.now cc in
    let full = c.in_default.ensures.full.0 (search rules) in
    let test : (arrived_of c.args.self.now.held + length c.args.self.now.slots.line + 1 == size_of c.args.self.now.held) ≡ false = cc in
    rw (idle, c.in_default.ensures.unchanged, ← c.self.view_is) (register_full _ Arrive c.args.is_sync refl (arrive_waits c.self.inside.size c.self.inside.arrived c.self.inside.round c.self.inside.line (other_number _ _ (rw (← c.self.view_is) at test))) full)

pub returns-clause-acts : goal.returns-clause-acts
returns-clause-acts c =
    let idle : c.args.ticket.now ≡ Unregistered = idle_ticket c.args.ticket.now cc in
    let test : (arrived_of c.args.self.now.held + length c.args.self.now.slots.line + 1 == size_of c.args.self.now.held) ≡ false = cc in
    rw (idle, c.set-2.ensures, c.in-Some.ensures.joined, ← c.self.view_is) (register_joined _ c.self.inside.line c.in-Some.slot Arrive c.args.is_sync refl (arrive_waits c.self.inside.size c.self.inside.arrived c.self.inside.round c.self.inside.line (other_number _ _ (rw (← c.self.view_is) at test))) (λ full. (let wrong : true ≡ false = c.in-Some.ensures.full.1 full in cc)) c.in-Some.ensures.was_free)

pub returns-then-is_registered-clause-wakes : goal.returns-then-is_registered-clause-wakes
returns-then-is_registered-clause-wakes c = rw (← c.self.view_is) (wakes-same c.self.inside.line c.self.invariant.sound)

pub returns-in_default-clause-wakes : goal.returns-in_default-clause-wakes
returns-in_default-clause-wakes c = rw (c.in_default.ensures.unchanged, ← c.self.view_is) (wakes-same c.self.inside.line c.self.invariant.sound)

pub returns-clause-wakes : goal.returns-clause-wakes
returns-clause-wakes c = rw (c.in-Some.ensures.joined, ← c.self.view_is) (wakes-joined c.self.inside.line c.in-Some.slot Arrive c.self.invariant.sound)

pub returns-then-completes_round-clause-last : goal.returns-then-completes_round-clause-last
returns-then-completes_round-clause-last c = λ idle last. (
  refl,
  rw (c.resize-is_complete.ensures.state, ← c.resize.view_is)
      (resized-last c.resize.inside.size c.resize.inside.arrived c.resize.inside.round c.resize.inside.line (rw (← c.resize.view_is) at last)),
  c.set.ensures,
)

pub returns-clause-last : goal.returns-clause-last
returns-clause-last c = λ idle last.
    let test : (arrived_of c.args.self.now.held + length c.args.self.now.slots.line + 1 == size_of c.args.self.now.held) ≡ false = cc in
    elim (other_number _ _ test last) [ ]

pub returns-clause-nobody : goal.returns-clause-nobody
returns-clause-nobody c = λ other. rw (c.in-Some.ensures.joined, ← c.self.view_is) (refl, refl)

pub returns-clause-invariant : goal.returns-clause-invariant
returns-clause-invariant c = λ some.
    let test : (arrived_of c.args.self.now.held + length c.args.self.now.slots.line + 1 == size_of c.args.self.now.held) ≡ false = cc in
    let other = other_number _ _ (rw (← c.self.view_is) at test) in
    let grown : length c.join.new.self.line ≡ length c.self.inside.line.line + 1 = ap (λ (s : Slots). length s.line) c.in-Some.ensures.joined ∙ length_push _ _ in
    let less = c.self.invariant.incomplete some in
    omega (arith, grown, other, less)

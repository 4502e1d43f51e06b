use Rattle.std.proofs.Common.{◌≡◌, sym, ap, ◌∙◌, arith}
use Rattle.saa_core_spec.specs.Barrier.{size_of}
use Rattle.saa_core_spec.proofs.Counts.{below_true}
use Rattle.saa_core.specs.Tickets.{Core}
use Rattle.saa_core.proofs.TicketLemmas.Waking.{wakes-same}
use Rattle.saa_core.proofs.GatheringLemmas.Rounds.{arrive_calls}
use Rattle.saa_core.proofs.barrier.BarrierCore.count_arrival.Goals as goal

pub returns-then-self-eq0-clause-wakes : goal.returns-then-self-eq0-clause-wakes
returns-then-self-eq0-clause-wakes c = rw (← c.self.view_is) (wakes-same c.self.inside.line c.self.invariant.sound)

pub returns-clause-calls : goal.returns-clause-calls
returns-clause-calls c =
    let same : c.resize.inside.size ≡ c.self.inside.size = ap (λ (k : Core). size_of k.held) (c.resize.view_is ∙ sym c.self.view_is) in
    rw (c.resize-2.ensures.complete, c.resize-2.ensures.state, ← c.resize.view_is)
    (arrive_calls c.resize.inside.size c.resize.inside.arrived c.resize.inside.round c.resize.inside.line c.resize.invariant.sound (below_true 0 c.resize.inside.size (omega arith)))

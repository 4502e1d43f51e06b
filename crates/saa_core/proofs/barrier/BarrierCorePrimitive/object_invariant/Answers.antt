use Rattle.std.proofs.Common.{arith}
use Rattle.saa_core.proofs.TicketLemmas.Naming.{length-named}
use Rattle.saa_core.proofs.barrier.BarrierCorePrimitive.object_invariant.Goals as goal

pub returns : goal.returns
returns c =
    rw (← c.self.view_is)
    (λ tickets some. omega (arith, length-named tickets c.self.inside.line.line, c.self.invariant.incomplete some))

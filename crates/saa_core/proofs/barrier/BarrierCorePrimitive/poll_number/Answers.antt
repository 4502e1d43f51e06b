use Rattle.saa_core_spec.specs.Held.{OfBarrier}
use Rattle.saa_core.proofs.barrier.BarrierCorePrimitive.poll_number.Goals as goal

pub returns-clause-acts : goal.returns-clause-acts
returns-clause-acts c = rw (← c.self.view_is) (c.poll_in.ensures.acts (OfBarrier c.self.inside.size c.self.inside.arrived c.self.inside.round))

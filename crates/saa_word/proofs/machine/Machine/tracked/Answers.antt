use Rattle.std.proofs.Common.{subst}
use Rattle.saa_word.specs.Machine.{State}
use Rattle.saa_word.specs.Trace.{Trace}
use Rattle.saa_word.specs.Tracks.{Tracks}
use Rattle.saa_word.proofs.machine.Machine.tracked.Goals as goal

pub returns : goal.returns
returns c = subst (λ (s : State). (trace : Trace) × Tracks s trace) c.self.view_is (c.self.invariant.trace, c.self.invariant.tracks)

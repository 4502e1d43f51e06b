use Rattle.std.proofs.Common.{◌≡◌, length}
use Rattle.saa_core.specs.Slots.{IsSound}
use Rattle.saa_core.specs.CoreParts.{core_settled}
use Rattle.saa_core.proofs.granting.grant_fitting.Given as goal

-- settling what is now settles what was
abbrev pub invariant-loop-request : goal.invariant-loop-request
invariant-loop-request g l = record {
  same : core_settled (record { held = g.N.Needs.held l.needs; slots = l.line }) ≡ core_settled (record { held = g.N.Needs.held l.fn.needs; slots = l.fn.line });
  sound : IsSound l.line;
}

abbrev pub decreases-loop-request : goal.decreases-loop-request
decreases-loop-request g l = length l.line.line

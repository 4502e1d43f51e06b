use Rattle.std.specs.Prelude.{◌≤◌, ◌-◌}
use Rattle.saa_run_workers.proofs.workers.Place.call_all.Given as goal

-- no more calls are made than there are to make
abbrev pub invariant-loop-command : goal.invariant-loop-command
invariant-loop-command g l = l.share.calls ≤ 50

abbrev pub decreases-loop-command : goal.decreases-loop-command
decreases-loop-command g l = 50 - l.share.calls

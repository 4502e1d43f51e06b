use Rattle.std.specs.Prelude.{◌≡◌, ◌≤◌, ◌+◌, All, length, vec_capacity}
use Rattle.saa_run_workers.proofs.workers.workers_of.Given as goal

-- the shares that are left are unused, and there is room for a worker with each
abbrev pub invariant-loop-share : goal.invariant-loop-share
invariant-loop-share g l = All (λ share. share.calls ≡ 0) l.shares.items × (length l.workers.items + length l.shares.items ≤ vec_capacity l.workers)

abbrev pub decreases-loop-share : goal.decreases-loop-share
decreases-loop-share g l = goal.left-loop-share g l

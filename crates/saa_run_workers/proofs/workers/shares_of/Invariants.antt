use Rattle.std.specs.Prelude.{◌≡◌, ◌≤◌, ◌+◌, ◌*◌, length, sum_by, vec_capacity}
use Rattle.saa_run_workers.proofs.workers.shares_of.Given as goal

-- each share that was taken out has all its calls, and there is room for those that are left
abbrev pub invariant-loop-worker : goal.invariant-loop-worker
invariant-loop-worker g l = (sum_by (λ share. share.calls) l.shares.items ≡ 50 * length l.shares.items) × (length l.shares.items + length l.done.items ≤ vec_capacity l.shares)

abbrev pub decreases-loop-worker : goal.decreases-loop-worker
decreases-loop-worker g l = goal.left-loop-worker g l

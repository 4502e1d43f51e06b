use Rattle.std.specs.Prelude.{◌≡◌, ◌+◌, length, sum_by}
use Rattle.saa_core_bench.proofs.journal.merge.Given as goal

-- what was merged counts so many shares and all their calls, the calls of the others are still to be counted, and the book
-- counts as it did
abbrev pub invariant-loop-calls : goal.invariant-loop-calls
invariant-loop-calls g l = (l.all.parts + length l.shares.items ≡ length l.fn.shares.items) × (l.all.amount ≡ l.number) × (l.number + sum_by (λ share. share.calls) l.shares.items ≡ sum_by (λ share. share.calls) l.fn.shares.items) × (l.book.total ≡ l.fn.book.total)

abbrev pub decreases-loop-calls : goal.decreases-loop-calls
decreases-loop-calls g l = goal.left-loop-calls g l

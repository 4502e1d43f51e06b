use Rattle.std.specs.Prelude.{◌≡◌, ◌+◌, All, length}
use Rattle.saa_core_bench.proofs.journal.Journalled.new.Given as goal

-- a share for each part that is dealt
abbrev pub invariant-loop-share : goal.invariant-loop-share
invariant-loop-share g l = (l.rest.parts + l._share ≡ l.shares) × (l.rest.amount ≡ 0) × (length l.dealt.items ≡ l._share) × All (λ share. share.calls ≡ 0) l.dealt.items

-- What the answers of a barrier mean to its futures; a future without an answer was refused its registration.
use Rattle.std.specs.Prelude.{ℕ, Bool, false, Option, Some, None, ◌==◌}

-- 1 is the leader of a round
abbrev pub arrival : Option ℕ → Bool
arrival None = false
arrival (Some value) = value == 1

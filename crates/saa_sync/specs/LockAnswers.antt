-- What the answers of a lock mean to its futures; a future without an answer was refused its registration.
use Rattle.std.specs.Prelude.{ℕ, Bool, false, Option, Some, None, ◌==◌}

-- a lock is granted by 0; every other answer says that it was poisoned
abbrev pub turn : Option ℕ → Bool
turn None = false
turn (Some value) = value == 0

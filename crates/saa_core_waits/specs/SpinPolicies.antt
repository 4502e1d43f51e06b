-- How long a call rests between two looks.
use Rattle.std.specs.Prelude.{ℕ, ◌*◌, ◌^◌, min}

-- the spin hints of a rest, by its number from 0: 8, and twice as many each time, up to 1,024
abbrev pub hints_of : ℕ → ℕ
hints_of turn = 8 * 2 ^ min turn 7

-- What it means that a line was cut off an input, and that a text was put out.
use Rattle.std.specs.Prelude.{◌≡◌, ◌≢◌, ◌<◌, ◌≤◌, ℕ, List, [], ◌∷◌, ◌++◌, length, Option, Result, Ok, Err}
use Rattle.std.specs.List.{AllByRecursion}
use Rattle.std.specs.Io.KnownBytes.{Appends, Consumes, IsAtEnd}
use Rattle.saa_run_text.specs.declared.transfer.Cut.{Cut}
use Rattle.saa_run_text.specs.declared.transfer.Cut.TheVariants.{Newline, End, Long, Failed}
use Rattle.saa_run_text.specs.declared.transfer.WriteFailed.{WriteFailed}

-- a text is a beginning of another
abbrev pub IsBeginning : List ℕ → List ℕ → Type 0
IsBeginning front whole = (rest : List ℕ) × (whole ≡ front ++ rest)

-- a text is a beginning of another, and not all of it
abbrev pub IsProperBeginning : List ℕ → List ℕ → Type 0
IsProperBeginning front whole = (next : ℕ) × (rest : List ℕ) × (whole ≡ front ++ next ∷ rest)

-- what was read of a line and its end, by where the reading stopped; left is what the reader has still
abbrev pub IsCut : Cut → List ℕ → List ℕ → Option (List ℕ) → Type 0
IsCut Newline line read left = (read ≡ line ++ 10 ∷ []) × (length line ≤ 80)
IsCut End line read left = (read ≡ line) × (length line ≤ 80) × IsAtEnd left
IsCut Long line read left = (read ≡ line) × (80 < length line)
IsCut Failed line read left = (read ≡ line) × (length line ≤ 80)

-- no byte of a line is a newline
abbrev pub IsUnbroken : List ℕ → Type 0
IsUnbroken line = AllByRecursion (λ b. b ≢ 10) line

-- the reader gave the bytes of one line, and its end where that was met; old and new are what it had before and has after
pub record CutsLine (cut : Cut) (old new : Option (List ℕ)) (line : List ℕ) : Type 0 where
  pub read : List ℕ
  pub consumes : Consumes old new read
  pub unbroken : IsUnbroken line
  pub as_said : IsCut cut line read new

-- the writer took the whole text, or where a write failed a beginning of it and not all
abbrev pub Puts : Result (Unit {0}) WriteFailed → Option (List ℕ) → Option (List ℕ) → List ℕ → Type 0
Puts (Ok done) old new text = Appends old new text
Puts (Err failed) old new text = (front : List ℕ) × IsProperBeginning front text × Appends old new front

-- The lines of an input.
use Rattle.std.proofs.Common.{◌≡◌, ◌≢◌, ◌<◌, ℕ, false, List, [], ◌∷◌, ◌++◌, length, ap, ◌∙◌, refl, arith}
use Rattle.std.specs.Prelude.{◌==◌}
use Rattle.std.specs.List.{onto_first}
use Rattle.std.proofs.lemmas.Bool.Decides.{nat_tests}
use Rattle.saa_run_text.specs.Transfer.{IsUnbroken}
use Rattle.saa_run_text.specs.Text.{lines_of}

-- a byte that is no newline fails the test for one
not_newline : (b : ℕ) → b ≢ 10 → (b == 10) ≡ false
not_newline b other = grind (arith, nat_tests)

-- a byte that is no newline is put before the first line
lines_of-cons : (b : ℕ) (bs : List ℕ) → b ≢ 10 → lines_of (b ∷ bs) ≡ onto_first b (lines_of bs)
lines_of-cons b bs other = let test = not_newline b other in rw test refl

-- a line that ends with a newline, and what stands behind it
pub lines_of-newline : (line more : List ℕ) → IsUnbroken line → lines_of ((line ++ 10 ∷ []) ++ more) ≡ line ∷ lines_of more
lines_of-newline [] more unbroken = refl
lines_of-newline (b ∷ bs) more unbroken =
    lines_of-cons b ((bs ++ 10 ∷ []) ++ more) unbroken.0 ∙ ap (onto_first b) (lines_of-newline bs more unbroken.1)

-- a last line that no newline ends
pub lines_of-last : (line : List ℕ) → IsUnbroken line → 0 < length line → lines_of line ≡ line ∷ []
lines_of-last [] unbroken some = absurd (omega arith)
lines_of-last (b ∷ []) unbroken some = lines_of-cons b [] unbroken.0
lines_of-last (b ∷ c ∷ bs) unbroken some = lines_of-cons b (c ∷ bs) unbroken.0 ∙ ap (onto_first b) (lines_of-last (c ∷ bs) unbroken.1 (omega arith))

-- the first line, where some bytes of it are known
pub record Begins (line more : List ℕ) : Type 0 where
  pub rest : List ℕ
  pub others : List (List ℕ)
  pub lines : lines_of (line ++ more) ≡ (line ++ rest) ∷ others

-- the first line of bytes of which there are some
first_line : (lines : List (List ℕ)) (b : ℕ) → (rest : List ℕ) × (others : List (List ℕ)) × (onto_first b lines ≡ (b ∷ rest) ∷ others)
first_line [] b = ([], [], refl)
first_line (line ∷ lines) b = (line, lines, refl)

-- bytes without a newline begin the first line, whatever follows them
pub lines_of-begins : (line more : List ℕ) → IsUnbroken line → 0 < length line → Begins line more
lines_of-begins [] more unbroken some = absurd (omega arith)
lines_of-begins (b ∷ []) more unbroken some =
    let first = first_line (lines_of more) b in
    record { rest = first.0; others = first.1; lines = lines_of-cons b more unbroken.0 ∙ first.2 }
lines_of-begins (b ∷ c ∷ bs) more unbroken some =
    let behind = lines_of-begins (c ∷ bs) more unbroken.1 (omega arith) in
    record { rest = behind.rest; others = behind.others; lines = lines_of-cons b ((c ∷ bs) ++ more) unbroken.0 ∙ ap (onto_first b) behind.lines }

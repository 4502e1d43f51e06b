-- How a row of words is read. A reader of the clauses has to believe this.
--
-- The row is a function from indexes to numbers: 0 the main word, behind it the line word of each place, behind those the answer
-- words. A place stands in a word by its link, its number plus 1.
use Rattle.std.specs.Prelude.{true, false, ◌≡◌, ℕ, ◌+◌, ◌==◌, if◌then◌else◌, List, [], ◌∷◌}
use Rattle.saa_core_spec.specs.Held.{Exclusive}
use Rattle.saa_core_words.specs.declared.word.Word.{Word}
use Rattle.saa_core_words.specs.declared.line_word.LineWord.{LineWord}
use Rattle.saa_core_words.specs.Words.{count_bits, lock_count, word_of, line_word_of}
use Rattle.saa_word_steps.specs.Needs.{Needs, may_refuse}

-- the main word of a row, and the line word of a place
abbrev pub main_of : (ℕ → ℕ) → Word
main_of row = word_of count_bits (row 0)

abbrev pub line_of : (ℕ → ℕ) → ℕ → LineWord
line_of row place = line_word_of (row (place + 1))

-- the main word is that of a lock that one owner has, while somebody works on the line
abbrev pub IsOwnedAndFlagged : Word → Type 0
IsOwnedAndFlagged seen = (seen.count ≡ lock_count Exclusive) × (seen.is_poisoned ≡ false) × (seen.is_flagged ≡ true)

-- the main word is that of a lock that one owner has, or of a semaphore that isn't shut, while somebody works on the line
abbrev pub IsRefusableAndFlagged : Needs → Word → Type 0
IsRefusableAndFlagged needs seen = (may_refuse needs seen.count ≡ true) × (seen.is_poisoned ≡ false) × (seen.is_flagged ≡ true)

-- each of these stands right behind the one before it, the first behind a link, and asks what its line word says
abbrev pub IsBehind : (ℕ → LineWord) → ℕ → List (ℕ × ℕ) → Type 0
IsBehind words older [] = Unit {0}
IsBehind words older (asker ∷ rest) =
    ((words asker.0).request ≡ asker.1) × ((words asker.0).older ≡ older) × IsBehind words (asker.0 + 1) rest

-- a function with another value at one number
abbrev pub updated : {A : Type 0} → (ℕ → A) → ℕ → A → ℕ → A
updated old at value other = if other == at then value else old other

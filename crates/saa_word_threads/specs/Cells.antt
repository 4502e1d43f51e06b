-- Where a form's words lie. Steps name a word by its number: 0 is the main word, then come the line words of the places in order, and then their answer
-- words. The words themselves lie in cells: the main word has a cache line of its own, the line words lie together, and each answer word has a cache
-- line of its own, since its place looks at it again and again while others write
use Rattle.std.specs.Prelude.{ℕ, ◌+◌, ◌*◌, ◌-◌, ◌==◌, nat_lt, if◌then◌else◌, List, slice_index}

-- the cell of a word, of a form with so many places: 8 cells are a cache line
abbrev pub cell_of : ℕ → ℕ → ℕ
cell_of places word = if word == 0 then 0 else if nat_lt places word then places + 8 + 8 * (word - places) else word + 8

-- how many cells there are
abbrev pub cells_of : ℕ → ℕ
cells_of places = 9 * places + 16

-- the words by their numbers
abbrev pub row_of : ℕ → List ℕ → ℕ → ℕ
row_of places cells word = slice_index cells (cell_of places word)

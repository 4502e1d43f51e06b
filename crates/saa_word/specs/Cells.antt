-- A row of cells as contracts see it: the numbers of its words, in order, and how many operations were made on them in all. A reader of the clauses has to
-- believe this, and that each cell counts what is made on it, which is read off `src/cell.rt`.
use Rattle.std.specs.Prelude.{ℕ, List, map, sum_by}
use Rattle.saa_word.specs.declared.cell.Cell.{Cell}

abbrev pub numbers : List Cell → List ℕ
numbers cells = map (λ (cell : Cell). cell.number) cells

abbrev pub counted : List Cell → ℕ
counted cells = sum_by (λ (cell : Cell). cell.operations.number) cells

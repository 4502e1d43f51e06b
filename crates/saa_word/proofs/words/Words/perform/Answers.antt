use Rattle.std.proofs.Common.{◌∙◌, ap}
use Rattle.std.specs.Prelude.{slice_set}
use Rattle.std.proofs.lemmas.List.{map-set}
use Rattle.saa_word_steps.specs.Steps.{word_at}
use Rattle.saa_word.specs.declared.cell.Cell.{Cell}
use Rattle.saa_word.specs.Cells.{numbers}
use Rattle.saa_word.proofs.words.Words.perform.Goals as goal

-- one cell is written, and so is its number
pub returns-clause-written : goal.returns-clause-written
returns-clause-written c =
    map-set (λ (cell : Cell). cell.number) c.args.self.now.cells.items c.index_of-index.result c.perform.new.self
    ∙ ap (λ n. slice_set (numbers c.args.self.now.cells.items) n c.perform.new.self.number) c.index_of-index.ensures
    ∙ ap (λ n. slice_set (numbers c.args.self.now.cells.items) (word_at c.args.operation) n) c.perform.ensures.written

use Rattle.std.proofs.Common.{◌+◌}
use Rattle.saa_word_threads.specs.Dealt.{numbers}
use Rattle.saa_word_threads.proofs.Opening.{number-at}
use Rattle.saa_word_threads.proofs.words.Words.line.Goals as goal

pub returns : goal.returns
returns c =
    number-at (numbers c.args.self.now) c.args.self.now.places c.args.place c.word.result (c.args.place + 1) c.if-place-self.false
    (rw (c.cell_in-cell.ensures.cell, c.from.ensures) at c.word.ensures)

use Rattle.std.proofs.Common.{◌+◌}
use Rattle.saa_word_threads.specs.Dealt.{numbers}
use Rattle.saa_word_threads.proofs.Opening.{number-at}
use Rattle.saa_word_threads.proofs.words.Words.answer.Goals as goal

pub returns : goal.returns
returns c =
    number-at (numbers c.args.self.now) c.args.self.now.places c.args.place c.word.result (c.args.self.now.places + c.args.place + 1)
    c.if-place-self.false (rw (c.cell_in.ensures.cell, c.from.ensures, c.from-2.ensures) at c.word.ensures)

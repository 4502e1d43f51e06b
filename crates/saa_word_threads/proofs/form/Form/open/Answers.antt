use Rattle.std.proofs.Common.{◌∙◌}
use Rattle.saa_word_threads.proofs.Opening.{kept-opening}
use Rattle.saa_word_threads.proofs.form.Form.open.Goals as goal

pub of_words-requires : goal.of_words-requires
of_words-requires c =
    kept-opening (record { rules = c.args.rules; withheld = c.args.withheld; places = c.args.places }) c.requires.wide c.requires.count c.as_slice.result.now
    (c.as_slice.ensures.value ∙ c.in_ok-words.ensures)

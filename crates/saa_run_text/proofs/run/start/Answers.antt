use Rattle.std.proofs.Common.{ap, ◌∙◌}
use Rattle.saa_run_text.proofs.FirstLemmas.{first-long-bad, first-last-bad, first-last-good, first-newline-bad, first-newline-opens}
use Rattle.saa_run_text.specs.Text.{answer_by, on_bytes}
use Rattle.saa_run_text.proofs.StepLemmas.{step-failed}
use Rattle.saa_run_text.proofs.run.start.Goals as goal

pub returns-in-Long : goal.returns-in-Long
returns-in-Long g c =
    let cut = c.in-Long.ensures in
    first-long-bad g.O.Header.reads g.O.Header.behind c.read_line.new.line.items cut.read _ _ cut.consumes cut.unbroken g.met.O.Header.too_long c.end_at.result _ _ cut.as_said.0 cut.as_said.1 c.end_at.ensures

pub returns-in-None : goal.returns-in-None
returns-in-None g c =
    let cut = c.in-End.ensures in
    first-last-bad g.O.Header.reads g.O.Header.behind c.read_line.new.line.items cut.read _ _ cut.consumes cut.unbroken c.end_at-in-None.result _ _ cut.as_said.0 cut.as_said.2
    (c.in-None.ensures ∙ ap g.O.Header.reads c.as_slice.ensures.value) c.end_at-in-None.ensures

pub returns-in-Some : goal.returns-in-Some
returns-in-Some g c =
    let cut = c.in-End.ensures in
    first-last-good g.O.Header.reads g.O.Header.behind c.read_line.new.line.items cut.read _ _ cut.consumes cut.unbroken g.met.O.Header.not_empty g.met.O.Header.at_end c.in-Some.field-0 _ cut.as_said.0 cut.as_said.2
    (c.in-Some.ensures ∙ ap g.O.Header.reads c.as_slice.ensures.value)

pub returns-in-None-parse : goal.returns-in-None-parse
returns-in-None-parse g c =
    let cut = c.in-Newline.ensures in
    first-newline-bad g.O.Header.reads g.O.Header.behind c.read_line.new.line.items cut.read _ _ cut.consumes cut.unbroken c.end_at-in-None-parse.result _ _ cut.as_said.0
    (c.in-None-parse.ensures ∙ ap g.O.Header.reads c.as_slice-in-Newline.ensures.value) c.end_at-in-None-parse.ensures

pub returns-in-Some-parse : goal.returns-in-Some-parse
returns-in-Some-parse g c =
    let cut = c.in-Newline.ensures in
    first-newline-opens g.O.Header.reads g.O.Header.behind c.read_line.new.line.items cut.read _ _ cut.consumes cut.unbroken g.met.O.Header.at_end c.in-Some-parse.first c.open.result _ _ _ cut.as_said.0
    (c.in-Some-parse.ensures ∙ ap g.O.Header.reads c.as_slice-in-Newline.ensures.value) c.open.ensures

pub returns-in-Failed : goal.returns-in-Failed
returns-in-Failed g c =
    let cut = c.in-Failed.ensures in
    step-failed (on_bytes (answer_by g.O.Header.reads g.O.Header.behind)) c.read_line.new.line.items cut.read _ _ _ cut.consumes cut.unbroken cut.as_said

use Rattle.std.proofs.Common.{◌+◌, Some, None, subst, arith}
use Rattle.std.proofs.lemmas.Bool.Decides.{nat_tests}
use Rattle.saa_run_text.specs.Steps.{AnswersLine}
use Rattle.saa_run_text.specs.Text.{on_bytes}
use Rattle.saa_run_text.proofs.StepLemmas.{step-newline, step-last, step-last-ended, step-long, step-failed}
use Rattle.saa_run_text.proofs.steps.step.Goals as goal

pub returns-in-Long : goal.returns-in-Long
returns-in-Long g c =
    let cut = c.in-Long.ensures in
    let here = g.S.Session.answer_to c.args.session.now c.args.number in
    step-long here here c.args.number c.read_line.new.line.items cut.read _ _ _ _ cut.consumes cut.unbroken c.end_at.result
    cut.as_said.0 cut.as_said.1 (g.met.S.Session.too_long c.args.session.now c.args.number) c.end_at.ensures

pub returns-in-Newline : goal.returns-in-Newline
returns-in-Newline g c =
    let cut = c.in-Newline.ensures in
    let here = g.S.Session.answer_to c.args.session.now c.args.number in
    let next = g.S.Session.answer_to c.answer_line.new.session (c.args.number + 1) in
    step-newline here next c.args.number c.read_line.new.line.items cut.read _ _ _ _ cut.consumes cut.unbroken c.answer_line.result cut.as_said.0
    (subst (λ line. AnswersLine c.answer_line.result here next c.args.number line (g.W.Write.contents c.args.writer.now) (g.W.Write.contents c.answer_line.new.writer)) c.as_slice.ensures.value c.answer_line.ensures)

pub returns-in-None : goal.returns-in-None
returns-in-None g c =
    let cut = c.in-End.ensures in
    let here = g.S.Session.answer_to c.args.session.now c.args.number in
    let next = g.S.Session.answer_to c.answer_line-2.new.session (c.args.number + 1) in
    step-last here next c.args.number c.read_line.new.line.items cut.read _ _ _ _ cut.consumes cut.unbroken cut.as_said.0
    (grind (arith, nat_tests, c.if-is_empty.ensures)) cut.as_said.2 (g.met.S.Session.at_end c.answer_line-2.new.session (c.args.number + 1))
    (subst (λ line. AnswersLine None here next c.args.number line (g.W.Write.contents c.args.writer.now) (g.W.Write.contents c.answer_line-2.new.writer)) c.as_slice-2.ensures.value c.in-None.ensures)

pub returns-in-Some : goal.returns-in-Some
returns-in-Some g c =
    let cut = c.in-End.ensures in
    let here = g.S.Session.answer_to c.args.session.now c.args.number in
    let next = g.S.Session.answer_to c.answer_line-2.new.session (c.args.number + 1) in
    step-last-ended here next c.args.number c.read_line.new.line.items cut.read _ _ _ _ cut.consumes cut.unbroken c.in-Some.ended cut.as_said.0
    (grind (arith, nat_tests, c.if-is_empty.ensures)) cut.as_said.2
    (subst (λ line. AnswersLine (Some c.in-Some.ended) here next c.args.number line (g.W.Write.contents c.args.writer.now) (g.W.Write.contents c.answer_line-2.new.writer)) c.as_slice-2.ensures.value c.in-Some.ensures)

pub returns-in-Failed : goal.returns-in-Failed
returns-in-Failed g c =
    let cut = c.in-Failed.ensures in
    step-failed (on_bytes (g.S.Session.answer_to c.args.session.now c.args.number)) c.read_line.new.line.items cut.read _ _ _ cut.consumes cut.unbroken cut.as_said

use Rattle.std.proofs.Common.{sym}
use Rattle.saa_run.specs.AnswerLaws.{answer-bad}
use Rattle.saa_run.specs.Language.{line_of}
use Rattle.saa_run.specs.Replies.{reply_words}
use Rattle.saa_run.proofs.AnswerLemmas.{command-within, question-within, answer-command, answer-question}
use Rattle.saa_run.proofs.script.bench_script.BenchScriptSession.reply_to.Goals as goal

pub do_one-requires : goal.do_one-requires
do_one-requires g c =
    command-within g.P.ScriptCore.readings c.args.line.now c.in-Some-Do.field-0 _ c.args.self.now.all_pagers c.in-Some-Do.ensures c.in-Some-Do.command c.in-Some-Do.field-0-is

pub is_registered-requires : goal.is_registered-requires
is_registered-requires g c =
    question-within g.P.ScriptCore.readings c.args.line.now c.in-Some-Registered.field-0 _ c.args.self.now.all_pagers c.in-Some-Registered.ensures c.in-Some-Registered.pager c.in-Some-Registered.field-0-is

pub returns-in-None-clause-bad : goal.returns-in-None-clause-bad
returns-in-None-clause-bad g c =
    λ number others. answer-bad (line_of g.P.ScriptCore.readings) _ number c.args.self.now.bench c.args.line.now others (sym c.in-None.ensures)

pub returns-in-Some-Do-clause-good : goal.returns-in-Some-Do-clause-good
returns-in-Some-Do-clause-good g c =
    λ number others. answer-command g.P.ScriptCore.readings (reply_words g.P.ScriptCore.answer_words g.P.ScriptCore.poll_words) g.P.Primitive.request g.P.Primitive.step g.P.Primitive.value number c.args.self.now.bench _ c.args.line.now _ c.in-Some-Do.field-0 c.in-Some-Do.command c.do_one.result others
    c.in-Some-Do.ensures c.in-Some-Do.field-0-is c.do_one.ensures.acts c.replied.ensures

pub returns-in-Some-Registered-clause-good : goal.returns-in-Some-Registered-clause-good
returns-in-Some-Registered-clause-good g c =
    λ number others. answer-question g.P.ScriptCore.readings (reply_words g.P.ScriptCore.answer_words g.P.ScriptCore.poll_words) g.P.Primitive.request g.P.Primitive.step g.P.Primitive.value number c.args.self.now.bench c.args.line.now c.in-Some-Registered.field-0 c.in-Some-Registered.pager c.is_registered.result others
    c.in-Some-Registered.ensures c.in-Some-Registered.field-0-is c.is_registered.ensures

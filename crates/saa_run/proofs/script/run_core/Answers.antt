use Rattle.saa_run.specs.Language.{line_of}
use Rattle.saa_run.specs.Replies.{line_does, reply_words}
use Rattle.saa_run.proofs.OpenLemmas.{runs-from}
use Rattle.saa_run.proofs.script.run_core.Goals as goal

pub returns-in-Ok : goal.returns-in-Ok
returns-in-Ok g c =
    runs-from (line_of g.P.ScriptCore.readings) (line_does (reply_words g.P.ScriptCore.answer_words g.P.ScriptCore.poll_words) g.P.Primitive.request g.P.Primitive.step g.P.Primitive.value) c.run_lines.result _ _ _ _ _ _
    c.in-Ok.ensures c.run_lines.ensures

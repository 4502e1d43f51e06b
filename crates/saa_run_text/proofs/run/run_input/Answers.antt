use Rattle.saa_run_text.specs.Text.{answer_by, on_bytes}
use Rattle.saa_run_text.proofs.FirstLemmas.{runs_whole}
use Rattle.saa_run_text.proofs.run.run_input.Goals as goal

pub returns : goal.returns
returns g c = runs_whole g.O.Header.reads (on_bytes (answer_by g.O.Header.reads g.O.Header.behind)) c.start-started.result c.finish.result _ _ _ _ _ c.start-started.ensures c.finish.ensures

use Rattle.saa_run.specs.Language.{line_of}
use Rattle.saa_run.specs.SemaphoreWords.{semaphore_readings, semaphore_does}
use Rattle.saa_run.proofs.OpenLemmas.{opens-from}
use Rattle.saa_run.proofs.script.open_semaphore.Goals as goal

pub returns-in-Ok : goal.returns-in-Ok
returns-in-Ok g c =
    opens-from (line_of semaphore_readings) semaphore_does c.run_core.result _ _ _ _ _ _ (c.in-Ok.ensures.object 100) c.run_core.ensures

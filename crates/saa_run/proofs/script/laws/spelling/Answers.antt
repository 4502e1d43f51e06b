use Rattle.saa_run.specs.SemaphoreWords.{semaphore_readings, semaphore_spellings}
use Rattle.saa_run.specs.LockWords.{lock_readings, lock_spellings}
use Rattle.saa_run.specs.GateWords.{gate_readings, gate_spellings}
use Rattle.saa_run.specs.BarrierWords.{barrier_readings, barrier_spellings}
use Rattle.saa_run.proofs.SpellingLemmas.{first_found, first_said, is_spelled}
use Rattle.saa_run.proofs.KindLemmas.{semaphore_fits, lock_fits, gate_fits, barrier_fits}
use Rattle.saa_run.proofs.script.laws.spelling.Goals as goal

pub returns-clause-first_lines : goal.returns-clause-first_lines
returns-clause-first_lines c = λ bytes first. (first_found bytes first, first_said bytes first)

pub returns-clause-semaphore_lines : goal.returns-clause-semaphore_lines
returns-clause-semaphore_lines c = is_spelled semaphore_readings semaphore_spellings semaphore_fits

pub returns-clause-lock_lines : goal.returns-clause-lock_lines
returns-clause-lock_lines c = is_spelled lock_readings lock_spellings lock_fits

pub returns-clause-gate_lines : goal.returns-clause-gate_lines
returns-clause-gate_lines c = is_spelled gate_readings gate_spellings gate_fits

pub returns-clause-barrier_lines : goal.returns-clause-barrier_lines
returns-clause-barrier_lines c = is_spelled barrier_readings barrier_spellings barrier_fits

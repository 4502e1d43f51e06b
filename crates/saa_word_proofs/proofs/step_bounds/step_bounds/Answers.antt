use Rattle.std.proofs.Common.{refl}
use Rattle.saa_word_proofs.proofs.StepBoundLemmas.Bounds.{step_bound-bounded}
use Rattle.saa_word_proofs.proofs.StepBoundLemmas.Lowered.{lowered}
use Rattle.saa_word_proofs.proofs.StepBoundLemmas.Kept.{kept}
use Rattle.saa_word_proofs.proofs.step_bounds.step_bounds.Goals as goal

pub returns-clause-bounded : goal.returns-clause-bounded
returns-clause-bounded c = step_bound-bounded

pub returns-clause-lowered : goal.returns-clause-lowered
returns-clause-lowered c =
    λ needs lawful wide places row standing state me stands busy. lowered needs lawful wide places row standing state me stands (standing me).stage refl busy

pub returns-clause-kept : goal.returns-clause-kept
returns-clause-kept c = kept

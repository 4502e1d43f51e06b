use Rattle.std.proofs.Common.{refl}
use Rattle.saa_word_proofs.proofs.RefinementLemmas.Steps.{step}
use Rattle.saa_word_proofs.proofs.SoloLemmas.Registered.{started-ready}
use Rattle.saa_word_proofs.proofs.solo.ready.Goals as goal

pub returns-clause-first : goal.returns-clause-first
returns-clause-first c = started-ready

pub returns-clause-next : goal.returns-clause-next
returns-clause-next c = λ needs lawful wide places row standing state me room here s.
    (s.stages.ranged me, (step needs lawful wide places row standing state me room here s (standing me).stage refl).inside)

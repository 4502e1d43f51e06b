use Rattle.std.proofs.Common.{refl, sym, subst}
use Rattle.std.proofs.lemmas.List.{length-replicate}
use Rattle.saa_core_spec.specs.Object.{newly_made}
use Rattle.saa_word_steps.specs.Needs.{needs_of}
use Rattle.saa_word_steps.specs.AbstractState.{opening}
use Rattle.saa_word_proofs.specs.Promises.{idle_place}
use Rattle.saa_word_proofs.specs.Represents.{Represents}
use Rattle.saa_word.specs.Trace.{beginning}
use Rattle.saa_word.proofs.Solo.{represented}
use Rattle.saa_word.proofs.Tracking.{rests}
use Rattle.saa_word_proofs.proofs.SoloLemmas.Books.{opened}
use Rattle.saa_word.proofs.laws.solo.Goals as goal

pub returns-clause-quiet : goal.returns-clause-quiet
returns-clause-quiet c = rests

pub returns-clause-exists : goal.returns-clause-exists
returns-clause-exists c = represented

pub returns-clause-opening : goal.returns-clause-opening
returns-clause-opening c = λ rules count places.
    subst (λ n. Represents (needs_of rules) n (beginning count).registered (opening count) (newly_made ((needs_of rules).held count) places places))
    (sym (length-replicate places idle_place)) (opened (needs_of rules) count places (λ place. idle_place) (λ place. refl))

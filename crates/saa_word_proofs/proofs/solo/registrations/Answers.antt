use Rattle.saa_word_proofs.proofs.SoloLemmas.Registered.{left-next, started-as, run-registered}
use Rattle.saa_word_proofs.proofs.solo.registrations.Goals as goal

pub returns-clause-started : goal.returns-clause-started
returns-clause-started c = started-as

pub returns-clause-left : goal.returns-clause-left
returns-clause-left c = λ needs call registered me place found events under. left-next needs call registered me place place.stage found events under

pub returns-clause-line : goal.returns-clause-line
returns-clause-line c = run-registered

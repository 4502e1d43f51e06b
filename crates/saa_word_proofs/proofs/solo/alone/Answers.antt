use Rattle.saa_word_proofs.proofs.SoloLemmas.Alone.{rules-lawful, alone, unready}
use Rattle.saa_word_proofs.proofs.SoloLemmas.Books.{mirrored, opened}
use Rattle.saa_word_proofs.proofs.SoloLemmas.Ends.{left-waiting, only-polls}
use Rattle.saa_word_steps.specs.Needs.{needs_of}
use Rattle.saa_word_proofs.proofs.solo.alone.Goals as goal

pub returns-clause-calls : goal.returns-clause-calls
returns-clause-calls c = λ rules places me is_sync call now s steps answer last begins takes h.
    alone rules places me is_sync call now s begins steps answer last takes h

pub returns-clause-waits : goal.returns-clause-waits
returns-clause-waits c = λ needs places me now state stands here there. left-waiting needs places me now state stands here there

pub returns-clause-only : goal.returns-clause-only
returns-clause-only c = λ rules. only-polls (needs_of rules) (rules-lawful rules)

pub returns-clause-unready : goal.returns-clause-unready
returns-clause-unready c = λ needs places me is_sync now state s stands mirrors here there.
    unready needs places me is_sync now.standing state s mirrors stands.seats here there

pub returns-clause-exists : goal.returns-clause-exists
returns-clause-exists c = mirrored

pub returns-clause-opening : goal.returns-clause-opening
returns-clause-opening c = opened

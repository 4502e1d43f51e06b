use Rattle.std.proofs.Common.{refl}
use Rattle.saa_word_steps.specs.Needs.{permit_needs}
use Rattle.saa_word_steps.specs.AbstractState.{opening}
use Rattle.saa_word_proofs.proofs.ConservationLemmas.{opening-granted, run-balanced, run-pending, run-granted, run-permits}
use Rattle.saa_word_proofs.proofs.conservation.conservation.Goals as goal

pub returns-clause-balanced : goal.returns-clause-balanced
returns-clause-balanced c = λ bound withheld events last run. run-balanced bound withheld events last run

pub returns-clause-each_once : goal.returns-clause-each_once
returns-clause-each_once c = λ bound withheld events last run place. (run-pending (permit_needs bound) withheld events last run).pending place

pub returns-clause-granted : goal.returns-clause-granted
returns-clause-granted c = λ bound withheld events last run place value.
    let granted = run-granted (permit_needs bound) refl withheld events last run in
    (granted.granted place value, granted.answered place value)

pub returns-clause-of_permits : goal.returns-clause-of_permits
returns-clause-of_permits c = λ bound withheld events last run.
    run-permits (permit_needs bound) refl (opening withheld) events last (opening-granted withheld) run

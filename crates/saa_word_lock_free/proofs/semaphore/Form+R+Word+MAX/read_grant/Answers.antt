use Rattle.std.proofs.Common.{ℕ, Result, Ok, subst}
use Rattle.std.specs.Prelude.{IfOk}
use Rattle.saa_core_spec.specs.declared.request.Full.{Full}
use Rattle.saa_word_lock_free.specs.SemaphoreCalls.{IsAnswered}
use Rattle.saa_word_lock_free.proofs.Refusals.{answered-shut}
use Rattle.saa_word_lock_free.proofs.semaphore.Form+R+Word+MAX.read_grant.Goals as goal

pub returns-in-Err-clause-refused : goal.returns-in-Err-clause-refused
returns-in-Err-clause-refused g c = c.why_full.ensures c.args.count

pub returns-then-value-eq-CLOSED-clause-refused : goal.returns-then-value-eq-CLOSED-clause-refused
returns-then-value-eq-CLOSED-clause-refused g c =
    let semaphore = c.args.self.now.word in
    let P : Result ℕ Full → Type 0 = λ acquired. IfOk acquired (λ value. IsAnswered semaphore c.args.count (Ok value)) in
    answered-shut semaphore c.args.count c.in-Ok.value c.if-value-eq-CLOSED.true (subst P c.in-Ok.is c.requires.answered)

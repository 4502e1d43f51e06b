use Rattle.std.proofs.Common.{◌≡◌, ◌==◌, ◌≤◌, ◌∙◌, ℕ, false, Ok, Some, ap, inr, subst, rules}
use Rattle.std.specs.Prelude.{IfOk, Option, Result}
use Rattle.futures.specs.declared.task.Poll.{Poll}
use Rattle.futures.specs.declared.task.Poll.TheVariants.{Ready}
use Rattle.futures.specs.Poll.{IfReady}
use Rattle.saa_core_spec.specs.declared.request.Full.{Full}
use Rattle.saa_core_spec.specs.Values.{closed_value}
use Rattle.saa_word_threads.specs.declared.receipt.Receipt.{Receipt}
use Rattle.saa_word_lock_free.specs.OfSemaphore.{calls_of}
use Rattle.saa_word_lock_free.specs.Pendings.{IsAnsweredLater, FutureAnswers}
use Rattle.saa_word_lock_free.proofs.permit.FormWordRawSemaphoreAsync.poll_permits.Goals as goal

pub returns-else-value-eq-CLOSED-clause-granted : goal.returns-else-value-eq-CLOSED-clause-granted
returns-else-value-eq-CLOSED-clause-granted g c = λ granted.
    let semaphore = c.args.self.now.word in
    let asked = c.args.pending.now.ask in
    let value = c.in-Ready-Ok-Some.value in
    let Q : Poll (Result (Option ℕ) Full) → Type 0 = λ polled. IfReady polled (λ answer. IfOk answer (FutureAnswers (λ count. count ≤ g.row.MAX) (calls_of semaphore) asked)) in
    let first : c.in-Ready-Ok-Some.field-0 ≡ Ok c.in-Ready-Ok-Some.field-0-0 = rw c.in-Ready-Ok-Some.is at c.in-Ready-Ok-Some.field-0-is in
    let second : c.in-Ready-Ok-Some.field-0-0 ≡ Some value = rw (c.in-Ready-Ok-Some.is, first) at c.in-Ready-Ok-Some.field-0-0-is in
    let is = c.in-Ready-Ok-Some.is ∙ ap (λ (answer : Result (Option ℕ) Full). Ready answer) (first ∙ ap (λ (reply : Option ℕ). Ok reply) second) in
    let same : asked ≡ c.args._count = cc in
    let P : ℕ → Type 0 = λ count. (receipt : Receipt) × IsAnsweredLater (calls_of semaphore) count value receipt in
    let differs : value == closed_value ≡ false = search rules in
    inr (inr (value, differs, subst P same (subst Q is c.advance-reply.ensures.answered)))

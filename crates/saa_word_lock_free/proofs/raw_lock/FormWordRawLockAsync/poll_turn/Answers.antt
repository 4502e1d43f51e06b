use Rattle.std.proofs.Common.{ap, subst, ◌∙◌, ℕ, Ok}
use Rattle.std.specs.Prelude.{IfOk, IfSome, Option, Result}
use Rattle.futures.specs.declared.task.Poll.{Poll}
use Rattle.futures.specs.declared.task.Poll.TheVariants.{Ready}
use Rattle.futures.specs.Poll.{IfReady}
use Rattle.saa_core_spec.specs.declared.request.Full.{Full}
use Rattle.saa_word_threads.specs.declared.receipt.Receipt.{Receipt}
use Rattle.saa_word_lock_free.specs.OfLock.{calls_of}
use Rattle.saa_word_lock_free.specs.Pendings.{IsAnsweredLater}
use Rattle.saa_word_lock_free.proofs.Turning.{later-is-turn}
use Rattle.saa_word_lock_free.proofs.raw_lock.FormWordRawLockAsync.poll_turn.Goals as goal

pub returns-then-value-eq-GRANTED-clause-granted : goal.returns-then-value-eq-GRANTED-clause-granted
returns-then-value-eq-GRANTED-clause-granted g c =
    let lock = c.args.self.now.word in
    let asked = c.args.pending.now.ask in
    let Polled = Option (ℕ × Receipt) in
    let Q : Poll (Result Polled Full) → Type 0 = λ polled. IfReady polled (λ answer. IfOk answer (λ reply. IfSome reply (λ with_receipt.
    IsAnsweredLater (calls_of lock) asked with_receipt.0 with_receipt.1))) in
    let is = c.in-Ready-Ok-Some.is ∙ ap (λ (answer : Result Polled Full). Ready answer) (c.in-Ready-Ok-Some.field-0-is ∙ ap (λ (reply : Polled). Ok reply) c.in-Ready-Ok-Some.field-0-0-is) in
    later-is-turn lock asked c.args.mode c.in-Ready-Ok-Some.value c.in-Ready-Ok-Some.receipt c.requires.asked c.if-value-eq-GRANTED.true
    (subst Q is c.advance_witnessed-reply.ensures.answered)

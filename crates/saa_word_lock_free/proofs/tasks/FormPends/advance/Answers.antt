use Rattle.std.proofs.Common.{ap, subst, ◌∙◌}
use Rattle.std.specs.Prelude.{IfOk, IfSome, Ok}
use Rattle.futures.specs.Poll.{IfReady}
use Rattle.futures.specs.declared.task.Poll.{Poll}
use Rattle.saa_word_lock_free.specs.Pendings.{IsAnsweredLater}
use Rattle.saa_word_lock_free.proofs.tasks.FormPends.advance.Goals as goal

-- the answer with its receipt, by the way in which the match took it apart
pub returns-in-Ready-Ok-Some-clause-answered : goal.returns-in-Ready-Ok-Some-clause-answered
returns-in-Ready-Ok-Some-clause-answered g c =
    let calls = g.W.WordForm.calls c.args.self.now.word in
    let Q : _ → Type 0 = λ reply. IfReady reply (λ answer. IfOk answer (λ reply. IfSome reply (λ with_receipt. IsAnsweredLater calls c.args.pending.now.ask with_receipt.0 with_receipt.1))) in
    let path = c.in-Ready-Ok-Some.is ∙ ap (λ at. Poll.Ready at) (c.in-Ready-Ok-Some.field-0-is ∙ ap (λ at. Ok at) c.in-Ready-Ok-Some.field-0-0-is) in
    (c.in-Ready-Ok-Some._receipt, subst Q path c.advance_witnessed-reply.ensures.answered)

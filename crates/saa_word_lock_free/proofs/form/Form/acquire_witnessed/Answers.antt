use Rattle.std.proofs.Common.{refl, subst, sym, ◌∙◌, inl}
use Rattle.saa_word_lock_free.proofs.form.Form.acquire_witnessed.Goals as goal

pub returns-in-Some-clause-acquired : goal.returns-in-Some-clause-acquired
returns-in-Some-clause-acquired g c =
    let Q : _ → Type 0 = λ word. (g.W.WordForm.calls word).receives_by c.ask_at_once-reply.result.1 c.receipt_by-receipt.result in
    inl (
      c.ask_at_once-reply.result.1,
      c.in-Some.value,
      refl,
      (c.ask_at_once-reply.ensures.asked.0, c.ask_at_once-reply.ensures.asked.1, sym c.in-Some.is ∙ c.ask_at_once-reply.ensures.asked.2),
      subst Q c.word.ensures c.receipt_by-receipt.ensures.received,
    )

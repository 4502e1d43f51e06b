use Rattle.std.proofs.Common.{refl, sym, ◌∙◌, inl, inr}
use Rattle.saa_word_lock_free.proofs.form.Form.acquire.Goals as goal

pub returns-in-Some-clause-answered : goal.returns-in-Some-clause-answered
returns-in-Some-clause-answered g c =
    inl (
      c.ask_at_once-reply.result.1,
      c.in-Some.value,
      refl,
      (c.ask_at_once-reply.ensures.asked.0, c.ask_at_once-reply.ensures.asked.1, sym c.in-Some.is ∙ c.ask_at_once-reply.ensures.asked.2),
    )

pub returns-in-Ok-clause-answered : goal.returns-in-Ok-clause-answered
returns-in-Ok-clause-answered g c = inr (c.in-Ok._receipt, c.in-Ok.ensures.waited)

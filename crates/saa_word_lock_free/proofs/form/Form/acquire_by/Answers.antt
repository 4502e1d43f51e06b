use Rattle.std.proofs.Common.{inl, inr}
use Rattle.saa_word_lock_free.proofs.form.Form.acquire_by.Goals as goal

pub returns-in-Ok-clause-answered : goal.returns-in-Ok-clause-answered
returns-in-Ok-clause-answered g c =
    elim c.in-Ok.ensures.acquired [
      | inl asked ↦ inl (asked.0, asked.1, asked.2, asked.3)
      | inr waited ↦ inr (c.in-Ok._receipt, waited)
    ]

pub returns-in-Err-clause-full : goal.returns-in-Err-clause-full
returns-in-Err-clause-full g c = (c.in-Err._no_place, c.in-Err.ensures.refused)

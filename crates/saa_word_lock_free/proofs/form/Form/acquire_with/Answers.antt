use Rattle.std.proofs.Common.{refl, sym, ◌∙◌, inl, inr}
use Rattle.saa_word_lock_free.proofs.form.Form.acquire_with.Goals as goal

pub returns-in-Some-clause-answered : goal.returns-in-Some-clause-answered
returns-in-Some-clause-answered g c =
    inl (
      c.ask_at_once-reply.result.1,
      c.in-Some.value,
      refl,
      (c.ask_at_once-reply.ensures.asked.0, c.ask_at_once-reply.ensures.asked.1, sym c.in-Some.is ∙ c.ask_at_once-reply.ensures.asked.2),
    )

pub returns-clause-answered : goal.returns-clause-answered
returns-clause-answered g c =
    inr (
      c.await_answer-value.result.1,
      record {
        first = c.in-Ok.borrowed.value;
        between = c.join-borrowed.result.value;
        after = c.await_answer-value.ensures.0;
        last = c.await_answer-value.ensures.0;
        rested = g.W.WordForm.rests_here c.args.self.now.word c.in-Ok.borrowed.value c.in-Ok.ensures.out.0.1 c.in-Ok.ensures.out.1;
        registered = c.join-borrowed.ensures.registered;
        polled = c.await_answer-value.ensures.1;
        ended = refl;
        received = c.await_answer-value.ensures.2;
      },
    )

pub returns-in-Err-clause-full : goal.returns-in-Err-clause-full
returns-in-Err-clause-full g c = (c.in-Err._no_place, c.in-Err.ensures.refused)

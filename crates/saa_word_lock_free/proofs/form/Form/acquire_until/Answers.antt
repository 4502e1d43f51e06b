use Rattle.std.proofs.Common.{refl, subst, sym, ◌∙◌, inl, inr}
use Rattle.saa_word_lock_free.proofs.form.Form.acquire_until.Goals as goal

pub returns-in-Some-clause-acquired : goal.returns-in-Some-clause-acquired
returns-in-Some-clause-acquired g c =
    let Q : _ → Type 0 = λ word. (g.W.WordForm.calls word).receives_by c.ask_at_once-reply.result.1 c.receipt_by-receipt.result in
    inl (
      c.ask_at_once-reply.result.1,
      c.in-Some.value,
      refl,
      (c.ask_at_once-reply.ensures.asked.0, c.ask_at_once-reply.ensures.asked.1, sym c.in-Some.is ∙ c.ask_at_once-reply.ensures.asked.2),
      subst Q c.word.ensures c.receipt_by-receipt.ensures.received,
    )

pub returns-clause-acquired : goal.returns-clause-acquired
returns-clause-acquired g c =
    inr (
    record {
      first = c.in_ok-borrowed.borrowed.value;
      between = c.join-borrowed.result.value;
      after = c.await_until.ensures.0;
      last = c.await_until.ensures.1;
      rested = g.W.WordForm.rests_here c.args.self.now.word c.in_ok-borrowed.borrowed.value c.in_ok-borrowed.ensures.out.0.1 c.in_ok-borrowed.ensures.out.1;
      registered = c.join-borrowed.ensures.registered;
      polled = c.await_until.ensures.2;
      ended = c.await_until.ensures.3;
      received = c.await_until.ensures.4;
    }
    )

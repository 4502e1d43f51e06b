use Rattle.std.proofs.Common.{refl}
use Rattle.saa_word_lock_free.proofs.form.Form.wait_at_place.Goals as goal

pub returns-clause-waited : goal.returns-clause-waited
returns-clause-waited g c = record {
  first = c.in_ok-borrowed.borrowed.value;
  between = c.join-borrowed.result.value;
  after = c.await_answer.ensures.0;
  last = c.await_answer.ensures.0;
  rested = g.W.WordForm.rests_here c.args.self.now.word c.in_ok-borrowed.borrowed.value c.in_ok-borrowed.ensures.out.0.1 c.in_ok-borrowed.ensures.out.1;
  registered = c.join-borrowed.ensures.registered;
  polled = c.await_answer.ensures.1;
  ended = refl;
  received = c.await_answer.ensures.2;
}

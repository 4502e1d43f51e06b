use Rattle.std.proofs.Common.{inl, inr}
use Rattle.saa_word_lock_free.proofs.KeptPlaces.{polled}
use Rattle.saa_word_lock_free.proofs.form.Form.poll_kept.Goals as goal

pub returns-in-Async : goal.returns-in-Async
returns-in-Async g c =
    record {
      polled =
          polled g.W.WordForm.calls g.W.WordForm.table g.W.WordForm.home g.W.WordForm.rests c.word-in-Async.result.now c.args.self.now.word c.word-in-Async.ensures c.args.ask
          c.try_poll.result c.args.place.now c.try_poll.new.place c.requires c.try_poll.ensures.polled c.try_poll.ensures.home c.try_poll.ensures.rests c.try_poll.ensures.waits;
      waited = λ sync. elim c.in-Async.is [ inl at ↦ absurd (cc) | inr at ↦ absurd (cc) ];
      known = c.try_poll.ensures.known c.requires.1;
      right = c.try_poll.ensures.right;
      home = c.try_poll.ensures.home;
    }

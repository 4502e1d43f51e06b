use Rattle.saa_word_lock_free.proofs.KeptPlaces.{polled}
use Rattle.saa_word_lock_free.proofs.form.Form.poll_kept_until.Goals as goal

pub returns-clause-polled : goal.returns-clause-polled
returns-clause-polled g c =
    polled g.W.WordForm.calls g.W.WordForm.table g.W.WordForm.home g.W.WordForm.rests c.word.result.now c.args.self.now.word c.word.ensures c.args.ask
    c.poll_until.result c.args.place.now c.poll_until.new.place c.requires c.poll_until.ensures.polled c.poll_until.ensures.home c.poll_until.ensures.rests c.poll_until.ensures.waits

use Rattle.saa_word_lock_free.proofs.KeptPlaces.{pending}
use Rattle.saa_word_lock_free.proofs.form.Form.poll_kept_task.Goals as goal

pub returns-clause-pending : goal.returns-clause-pending
returns-clause-pending g c =
    pending g.W.WordForm.calls g.W.WordForm.table g.W.WordForm.home g.W.WordForm.rests c.word.result.now c.args.self.now.word c.word.ensures c.args.ask
    c.args.place.now c.poll_task.new.place c.poll_task.result c.requires c.poll_task.ensures.pending c.poll_task.ensures.home c.poll_task.ensures.waits

use Rattle.saa_word_lock_free.proofs.KeptPlaces.{joined}
use Rattle.saa_word_lock_free.proofs.form.Form.register_at.Goals as goal

pub keep-requires-clause-awaits : goal.keep-requires-clause-awaits
keep-requires-clause-awaits g c =
    joined g.W.WordForm.calls g.W.WordForm.table g.W.WordForm.home g.W.WordForm.rests c.args.self.now.word c.args.ask c.in-Ok.borrowed.value c.join-borrowed.result.value
    c.join-borrowed.ensures.out.1 c.join-borrowed.ensures.waits (g.W.WordForm.rests_here c.args.self.now.word c.in-Ok.borrowed.value c.in-Ok.ensures.out.0.1 c.in-Ok.ensures.out.1)
    c.join-borrowed.ensures.registered

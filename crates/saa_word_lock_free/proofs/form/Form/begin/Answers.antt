use Rattle.std.proofs.Common.{subst, sym, ◌∙◌, inl}
use Rattle.saa_word_lock_free.proofs.KeptPlaces.{joined}
use Rattle.saa_word_lock_free.proofs.form.Form.begin.Goals as goal

pub returns-in-Some-clause-answered : goal.returns-in-Some-clause-answered
returns-in-Some-clause-answered g c =
    let asked = c.ask_at_once-reply.ensures.asked in
    let Q : _ → Type 0 = λ word. (g.W.WordForm.calls word).receives_by c.ask_at_once-reply.result.1 c.receipt_by-receipt.result in
    inl (
      c.ask_at_once-reply.result.1,
      (asked.0, asked.1, sym c.in-Some.is ∙ asked.2),
      subst Q c.word.ensures c.receipt_by-receipt.ensures.received,
    )

pub poll_place-polled-requires-clause-awaited : goal.poll_place-polled-requires-clause-awaited
poll_place-polled-requires-clause-awaited g c =
    (joined g.W.WordForm.calls g.W.WordForm.table g.W.WordForm.home g.W.WordForm.rests c.args.self.now.word c.args.pending.now.ask c.in-Ok.borrowed.value c.join-borrowed.result.value
    c.join-borrowed.ensures.out.1 c.join-borrowed.ensures.waits (g.W.WordForm.rests_here c.args.self.now.word c.in-Ok.borrowed.value c.in-Ok.ensures.out.0.1 c.in-Ok.ensures.out.1)
    c.join-borrowed.ensures.registered).2

pub returns-in-Err-clause-full : goal.returns-in-Err-clause-full
returns-in-Err-clause-full g c = (c.in-Err._no_place, c.in-Err.ensures.refused)

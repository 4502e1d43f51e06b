use Rattle.saa_word_lock_free.specs.Calls.{IsAsked}
use Rattle.saa_word_lock_free.proofs.KeptPlaces.{at-its-place, polled-so}
use Rattle.saa_core_spec.specs.declared.polling.How.TheVariants.{Sync}
use Rattle.saa_word_lock_free.proofs.waiting.FormWaitableUntil.poll_until.Goals as goal

pub returns-in-AtPlace-clause-polled : goal.returns-in-AtPlace-clause-polled
returns-in-AtPlace-clause-polled g c =
    let form = c.args.self.now in
    let taken = c.take_kept-kept in
    let same = at-its-place g.W.WordForm.calls g.W.WordForm.table g.W.WordForm.home g.W.WordForm.rests form (λ ask. IsAsked ((g.W.WordForm.calls form.word).tries ask)) c.args.registration.now taken.result.1 taken.result.0
    c.in-AtPlace.borrowed c.in-AtPlace.ask taken.ensures.taken c.in-AtPlace.is taken.ensures.kept in
    polled-so g.W.WordForm.calls g.W.WordForm.table g.W.WordForm.home g.W.WordForm.rests Sync taken.result.1 form.word form.pool c.in-AtPlace.ask c.args.registration.now
    c.settle.new.registration c.poll_kept_until-answer.result same c.is_wrong_mode.result c.is_wrong_mode.ensures c.if-is_wrong_mode.false c.poll_kept_until-answer.ensures.known c.poll_kept_until-answer.ensures.right
    c.settle.ensures.kept c.settle.ensures.given c.poll_kept_until-answer.ensures.polled.came

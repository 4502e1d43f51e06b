use Rattle.std.proofs.Common.{sym, ◌∙◌, true≢false}
use Rattle.saa_core_spec.specs.declared.polling.How.TheVariants.{Async}
use Rattle.saa_word_lock_free.specs.Calls.{IsAsked}
use Rattle.saa_word_lock_free.proofs.KeptPlaces.{at-its-place, polled-so}
use Rattle.saa_word_lock_free.proofs.tasks.FormPends.poll_async.Goals as goal

pub returns-in-Ready-clause-ready : goal.returns-in-Ready-clause-ready
returns-in-Ready-clause-ready g c =
    let form = c.args.self.now in
    let taken = c.take_kept-kept in
    let same = at-its-place g.W.WordForm.calls g.W.WordForm.table g.W.WordForm.home g.W.WordForm.rests form (λ ask. IsAsked ((g.W.WordForm.calls form.word).tries ask))
    c.args.registration.now taken.result.1 taken.result.0 c.in-AtPlace.borrowed c.in-AtPlace.ask taken.ensures.taken c.in-AtPlace.is taken.ensures.kept in
    polled-so g.W.WordForm.calls g.W.WordForm.table g.W.WordForm.home g.W.WordForm.rests Async taken.result.1 form.word form.pool c.in-AtPlace.ask c.args.registration.now
    taken.new.registration c.in-Ready.answer same c.is_wrong_mode.result c.is_wrong_mode.ensures c.if-is_wrong_mode.false c.in-Ready.ensures.known c.in-Ready.ensures.right
    (λ late. absurd (true≢false (sym late ∙ c.in-Ready.ensures.waited))) (λ answered. taken.ensures.left) c.in-Ready.ensures.ready.came

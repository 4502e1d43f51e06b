use Rattle.std.proofs.Common.{ap, subst, sym, ◌∙◌}
use Rattle.saa_word_lock_free.specs.Calls.{IsAsked}
use Rattle.saa_word_lock_free.specs.Forms.{IsOut}
use Rattle.saa_word_lock_free.specs.KeptAs.{Awaits, IsKeptAt, registered_as}
use Rattle.saa_word_lock_free.specs.Registered.{IsWithdrawnFrom}
use Rattle.saa_word_lock_free.proofs.waiting.FormWaitable.cancel_registration.Goals as goal

-- what was granted at once was given back where it was granted
pub returns-then-value-eq-GRANTED-clause-cancelled : goal.returns-then-value-eq-GRANTED-clause-cancelled
returns-then-value-eq-GRANTED-clause-cancelled g c =
    let form = c.args.self.now in
    let taken = c.take_kept-kept in
    let calls = g.W.WordForm.calls in
    let path = taken.ensures.taken ∙ ap (registered_as taken.result.1) c.in-AtOnce.is in
    let Q : _ → Type 0 = IsKeptAt (λ ask. IsAsked ((calls form.word).tries ask)) (IsOut g.W.WordForm.table g.W.WordForm.home form)
    (Awaits calls g.W.WordForm.table g.W.WordForm.home g.W.WordForm.rests form.word) in
    let B : _ → Type 0 = λ word. (calls word).gives_back c.in-AtOnce.ask c.give_back-giver.result in
    record {
      left = taken.ensures.left;
      withdrawn =
          subst (IsWithdrawnFrom calls) (sym path)
          (form.word, subst Q c.in-AtOnce.is taken.ensures.kept, (λ granted. (c.give_back-giver.result, subst B c.word.ensures c.give_back-giver.ensures)));
    }

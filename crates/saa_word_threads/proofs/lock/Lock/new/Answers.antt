use Rattle.std.proofs.Common.{◌∙◌, List, sym, subst}
use Rattle.saa_word_threads.specs.declared.place.Place.{Place as FormPlace}
use Rattle.saa_word_threads.specs.Dealt.{AreNew}
use Rattle.saa_word_threads.proofs.Inner.{new-of}
use Rattle.saa_word_threads.proofs.lock.Lock.new.Goals as goal

pub returns-clause-dealt : goal.returns-clause-dealt
returns-clause-dealt c = (
  c.in_ok-places.ensures.count ∙ c.in_ok-form.ensures.dealt.0,
  subst (λ (l : List FormPlace). AreNew c.in_ok-form.form.table.shared.table_id 0 l) (sym c.in_ok-places.ensures.wrapped) c.in_ok-form.ensures.dealt.1,
)

pub returns-clause-ours : goal.returns-clause-ours
returns-clause-ours c =
    new-of c.in_ok-form.form.table.shared.table_id 0 c.in_ok-places.places.items
    (subst (λ (l : List FormPlace). AreNew c.in_ok-form.form.table.shared.table_id 0 l) (sym c.in_ok-places.ensures.wrapped) c.in_ok-form.ensures.dealt.1)

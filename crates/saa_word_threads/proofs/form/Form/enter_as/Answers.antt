use Rattle.std.proofs.Common.{ℕ, arith, ap, subst, ◌∙◌}
use Rattle.saa_word_threads.specs.declared.table.About.{About}
use Rattle.saa_word_threads.specs.Visits.{IsEntering}
use Rattle.saa_word_threads.proofs.Opening.{enters}
use Rattle.saa_word_threads.proofs.form.Form.enter_as.Goals as goal

pub load_new_seat-found-requires : goal.load_new_seat-found-requires
load_new_seat-found-requires g c = (
  (let words = c.args.self.now.words in omega arith),
  enters c.args.self.now.table.shared.key g.M.Mover.about.places c.args.self.now.table.shared.table_id.slots 0
      (ap (λ (a : About). a.places) c.requires.mover),
)

pub returns-clause-new : goal.returns-clause-new
returns-clause-new g c =
    subst (λ (n : ℕ). IsEntering n c.load_new_seat-found.result.1.me.0) (ap (λ (a : About). a.places) c.requires.mover ∙ c.args.self.now.key.1)
    c.load_new_seat-found.ensures.2

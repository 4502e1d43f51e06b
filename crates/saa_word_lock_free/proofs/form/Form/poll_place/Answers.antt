use Rattle.std.proofs.Common.{subst, suc, ◌∙◌}
use Rattle.std.specs.Prelude.{Err}
use Rattle.saa_core_spec.specs.declared.polling.Error.TheVariants.{NotReady}
use Rattle.saa_word_lock_free.proofs.form.Form.poll_place.Goals as goal

pub returns-in-Pending-clause-admitted : goal.returns-in-Pending-clause-admitted
returns-in-Pending-clause-admitted g c =
    let awaited = c.requires.awaited in
    let Q : _ → Type 0 = λ word. (g.W.WordForm.calls word).polls c.args.borrowed.value (Err NotReady) c.poll_task.new.place in (
      (c.requires.out.0, c.in-Pending.ensures.home ∙ c.requires.out.1),
      (λ rests. c.requires.waits (c.in-Pending.ensures.waits rests)),
      record {
        first = awaited.first;
        between = awaited.between;
        count = suc awaited.count;
        rested = awaited.rested;
        registered = awaited.registered;
        waited = (c.args.borrowed.value, awaited.waited, subst Q c.word.ensures c.in-Pending.ensures.pending);
      },
    )

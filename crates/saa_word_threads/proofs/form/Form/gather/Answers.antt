use Rattle.std.proofs.Common.{◌∙◌, Option, subst}
use Rattle.saa_word_threads.specs.declared.place.Left.{Left}
use Rattle.saa_word_threads.specs.Gathered.{IsWitness}
use Rattle.saa_word_threads.proofs.Leaving.{gathering-knows, own-known}
use Rattle.saa_word_threads.proofs.form.Form.gather.Goals as goal

pub returns-in_default : goal.returns-in_default
returns-in_default c = record {
  known = λ views is. (
    c.requires.table,
    own-known c.args.left.seat.me.0 views
        (subst (λ (w : Option Left). IsWitness c.args.self.now.table.shared.table_id w views) c.in_default.is is),
  );
}

pub returns : goal.returns
returns c = record {
  known = λ views is.
      let knows = subst (λ (w : Option Left). IsWitness c.args.self.now.table.shared.table_id w views) c.in-Some.is is in (
        c.join.ensures.table.0 ∙ knows.0,
        gathering-knows c.in-Some.gathering.seat.me.0 c.args.left.seat.me.0 c.join.new.seat.me.0 views c.join.ensures.gathered knows.1,
      );
}

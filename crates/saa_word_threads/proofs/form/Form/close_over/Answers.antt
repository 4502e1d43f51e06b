use Rattle.std.proofs.Common.{Option, subst}
use Rattle.std.specs.Slots.{slots_items}
use Rattle.saa_word_threads.specs.declared.place.Left.{Left}
use Rattle.saa_word_threads.specs.Gathered.{IsWitness}
use Rattle.saa_word_threads.proofs.Leaving.{led-all, led-none}
use Rattle.saa_word_threads.proofs.form.Form.close_over.Goals as goal

pub returns-in_default-clause-led : goal.returns-in_default-clause-led
returns-in_default-clause-led c = λ views is.
    let final = c.close-closed.ensures.values.2 in
    led-none c.args.self.table.shared.key final.0 (slots_items c.close-closed.result.words) views final.1 final.2
    (subst (λ (w : Option Left). IsWitness c.args.self.table.shared.table_id w views) c.in_default.is is)

pub returns-clause-led : goal.returns-clause-led
returns-clause-led c = λ views is.
    let final = c.close_with-closed.ensures.values.2 in
    let witness = subst (λ (w : Option Left). IsWitness c.args.self.table.shared.table_id w views) c.in-Some.is is in
    led-all c.args.self.table.shared.key final.0 c.in-Some.field-0.seat.id c.in-Some.field-0.seat.me.0 (slots_items c.close_with-closed.result.words) views
    final.1.0 final.1.1 c.in-Some.field-0.numbered.0 c.in-Some.field-0.out final.2 witness.1

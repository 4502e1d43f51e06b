use Rattle.std.specs.Slots.{slots_items}
use Rattle.saa_word_threads.proofs.Opening.{led-to}
use Rattle.saa_word_threads.proofs.form.Form.close_by.Goals as goal

pub returns-clause-led : goal.returns-clause-led
returns-clause-led c =
    let final = c.close_with-closed.ensures.values.2 in
    led-to c.args.self.table.shared.key final.0 c.args.visitor.seat.id c.args.visitor.seat.me.0 (slots_items c.close_with-closed.result.words) final.1.0 final.1.1
    c.args.visitor.rests.0 final.2

use Rattle.std.specs.Slots.{slots_items}
use Rattle.saa_word_threads.proofs.Receiving.{led-on}
use Rattle.saa_word_threads.proofs.form.Form.close_on.Goals as goal

pub returns-clause-led : goal.returns-clause-led
returns-clause-led c =
    let final = c.close_with-closed.ensures.values.2 in
    led-on c.args.self.table.shared.key final.0 c.args.receipt.seat.id c.args.receipt.seat.me.0 (slots_items c.close_with-closed.result.words) final.1.0 final.1.1
    c.args.receipt.receipt.0 final.2

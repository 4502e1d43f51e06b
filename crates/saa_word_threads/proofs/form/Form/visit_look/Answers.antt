use Rattle.saa_word_steps.specs.Needs.{needs_of}
use Rattle.saa_word_threads.proofs.Visiting.{moves-so, visit-next}
use Rattle.saa_word_threads.proofs.form.Form.visit_look.Goals as goal

pub returns-clause-in_call : goal.returns-clause-in_call
returns-clause-in_call g c =
    visit-next (needs_of c.args.self.now.rules) c.args.self.now.table.shared.key.withheld c.args.self.now.places c.args.visit.now.call.value c.args.visit.now.seat.value.me.0 c.args.at.value
    c.args.seat.now.me.0 c.requires.in_call c.load.new.seat.me.0 c.load.result
    (moves-so (needs_of c.args.self.now.rules) c.args.self.now.table.shared.key.withheld c.args.self.now.places g.M.Mover.me c.args.seat.now.me.0.number c.load.result g.M.Mover.place c.args.at.value
    c.args.seat.now.me.0 c.load.new.seat.me.0 c.requires.mover.1 c.requires.mover.2 c.load.ensures.moved)

use Rattle.std.proofs.Common.{rules, refl, false}
use Rattle.saa_word_steps.specs.declared.place.Stage.TheVariants.{AcquireLoad}
use Rattle.saa_word_steps.specs.Needs.{needs_of}
use Rattle.saa_word_proofs.specs.Promises.{idle_place}
use Rattle.saa_word_threads.proofs.Visiting.{number-beyond, visit-first}
use Rattle.saa_word_threads.proofs.form.Form.visit_ask.Goals as goal

pub visit_look-found-requires-clause-in_call : goal.visit_look-found-requires-clause-in_call
visit_look-found-requires-clause-in_call g c =
    rw (c.of-visit.ensures.call, c.of-visit.ensures.seat, c.of-looking.ensures, c.standing.ensures)
    (visit-first (needs_of c.args.self.now.rules) c.args.self.now.places c.args.call (record idle_place { stage = AcquireLoad (record { request = c.args.request; joins = false }) }) c.args.visitor.now.seat.me.0
    c.args.visitor.now.rests.1
    (number-beyond c.args.self.now.places c.args.self.now.table.shared.table_id.words c.args.visitor.now.seat.table_id.words c.args.visitor.now.seat.me.0.number
    c.args.self.now.words (search rules) c.args.visitor.now.beyond)
    c.requires.takes c.requires.starts refl (refl, refl))

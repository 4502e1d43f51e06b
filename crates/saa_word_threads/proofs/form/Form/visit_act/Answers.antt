use Rattle.std.proofs.Common.{subst, sym}
use Rattle.saa_word_steps.specs.Needs.{needs_of}
use Rattle.saa_word_steps.specs.declared.place.Next.{Next}
use Rattle.saa_word_threads.specs.Visits.{VisitNext}
use Rattle.saa_word_threads.proofs.Visiting.{moves-so, visit-next}
use Rattle.saa_word_threads.proofs.form.Form.visit_act.Goals as goal

pub returns-clause-in_call : goal.returns-clause-in_call
returns-clause-in_call g c =
    subst (λ (n : Next). VisitNext (needs_of c.args.self.now.rules) c.args.self.now.table.shared.key.withheld c.args.self.now.places c.args.visit.now.call.value c.args.visit.now.seat.value.me.0 c.args.place
    c.perform-found.new.seat.me.0 n) (sym c.resume.ensures.next)
    (visit-next (needs_of c.args.self.now.rules) c.args.self.now.table.shared.key.withheld c.args.self.now.places c.args.visit.now.call.value c.args.visit.now.seat.value.me.0 c.args.place
    c.args.seat.now.me.0 c.requires.in_call c.perform-found.new.seat.me.0 c.perform-found.result
    (moves-so (needs_of c.args.self.now.rules) c.args.self.now.table.shared.key.withheld c.args.self.now.places g.M.Mover.me c.args.seat.now.me.0.number c.perform-found.result g.M.Mover.place c.args.place
    c.args.seat.now.me.0 c.perform-found.new.seat.me.0 c.requires.mover.1 c.requires.mover.2 c.perform-found.ensures.moved))

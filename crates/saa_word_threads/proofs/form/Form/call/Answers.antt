use Rattle.std.proofs.Common.{rules, ◌∙◌, refl, sym}
use Rattle.saa_word_threads.specs.Pending.{needs, withheld}
use Rattle.saa_word_threads.proofs.Calling.{done-called, since-started}
use Rattle.saa_word_threads.proofs.PendingLemmas.{pending-begins, pending-called}
use Rattle.saa_word_threads.proofs.form.Form.call.Goals as goal

pub invariant_of-place-clause-since : goal.invariant_of-place-clause-since
invariant_of-place-clause-since g c =
    since-started (needs c.args.self.now) c.args.place.now.seat.me.0.position c.args.place.now.position c.args.call c.in-Done.position c.in-Done.answer
    c.args.place.now.since (sym c.start.ensures ∙ c.in-Done.is)

pub go_on-answer-requires : goal.go_on-answer-requires
go_on-answer-requires g c =
    pending-begins c.args.self.now c.of-pending.result c.args.place.now c.args.call c.in-Going.first c.of-pending.ensures c.requires.dealt (search rules)
    c.requires.takes (sym c.start.ensures ∙ c.in-Going.is)

pub returns-in-Done-clause-called : goal.returns-in-Done-clause-called
returns-in-Done-clause-called g c =
    done-called (needs c.args.self.now) (withheld c.args.self.now) c.args.call c.args.place.now.position c.args.place.now.since.0 c.in-Done.position c.in-Done.answer
    c.args.place.now.seat.me.0 c.args.place.now.seat.me.0 (sym c.start.ensures ∙ c.in-Done.is) refl

pub returns-in-Going-clause-called : goal.returns-in-Going-clause-called
returns-in-Going-clause-called g c =
    pending-called c.args.self.now c.of-pending.result c.args.place.now c.args.call c.in-Going.first c.go_on-answer.result.0 c.go_on-answer.result.1
    c.go_on-answer.new.seat c.of-pending.ensures (sym c.start.ensures ∙ c.in-Going.is) c.go_on-answer.ensures.ended

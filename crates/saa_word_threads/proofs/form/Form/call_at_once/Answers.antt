use Rattle.std.proofs.Common.{rules, ◌∙◌, refl, sym}
use Rattle.saa_word_threads.specs.Pending.{needs, withheld}
use Rattle.saa_word_threads.proofs.Calling.{done-called, since-started, single-done}
use Rattle.saa_word_threads.proofs.PendingLemmas.{pending-begins, pending-called}
use Rattle.saa_word_threads.proofs.form.Form.call_at_once.Goals as goal

pub invariant_of-place-clause-since : goal.invariant_of-place-clause-since
invariant_of-place-clause-since c =
    since-started (needs c.args.self.now) c.args.place.now.seat.me.0.position c.args.place.now.position c.args.call c.in-Done.position c.in-Done.answer
    c.args.place.now.since (sym c.start.ensures ∙ c.in-Done.is)

pub returns-in-Done-clause-called : goal.returns-in-Done-clause-called
returns-in-Done-clause-called c =
    done-called (needs c.args.self.now) (withheld c.args.self.now) c.args.call c.args.place.now.position c.args.place.now.since.0 c.in-Done.position c.in-Done.answer
    c.args.place.now.seat.me.0 c.args.place.now.seat.me.0 (sym c.start.ensures ∙ c.in-Done.is) refl

pub act-requires-clause-pending : goal.act-requires-clause-pending
act-requires-clause-pending c =
    pending-begins c.args.self.now c.of-pending.result c.args.place.now c.args.call c.in-Going.first c.of-pending.ensures c.requires.dealt (search rules)
    c.requires.takes (sym c.start.ensures ∙ c.in-Going.is)

pub unreachable-requires : goal.unreachable-requires
unreachable-requires c =
    let done =
    single-done (needs c.args.self.now) c.of-pending.result.me c.args.place.now.position c.in-Going.first c.args.call c.act.ensures.found.0
    c.act.result c.requires.single (sym c.start.ensures ∙ c.in-Going.is) c.act.ensures.found.1 in
    c.in_default.not-Done done.0 done.1 done.2

pub returns-in-Done-act-clause-called : goal.returns-in-Done-act-clause-called
returns-in-Done-act-clause-called c =
    pending-called c.args.self.now c.of-pending.result c.args.place.now c.args.call c.in-Going.first c.in-Done-act.position c.in-Done-act.answer c.act.new.seat
    c.of-pending.ensures (sym c.start.ensures ∙ c.in-Going.is) c.in-Done-act.ensures.next

use Rattle.saa_word_steps.specs.Needs.{needs_of}
use Rattle.saa_word_threads.proofs.Calling.{once-polled}
use Rattle.saa_word_threads.proofs.form.Form.await_grant.Goals as goal

pub returns-in-AnsweredAtOnce-clause-called : goal.returns-in-AnsweredAtOnce-clause-called
returns-in-AnsweredAtOnce-clause-called g c =
    once-polled (needs_of c.args.self.now.rules) c.args.self.now.table.shared.key.withheld c.args.place.now.position.registration c.in-AnsweredAtOnce.value c.in-AnsweredAtOnce._request c.args.place.now.seat.me.0 c.in-AnsweredAtOnce.is

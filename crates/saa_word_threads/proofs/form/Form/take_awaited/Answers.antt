use Rattle.std.proofs.Common.{rules, ◌≡◌}
use Rattle.saa_word_steps.specs.declared.call.WordCall.TheVariants.{Poll}
use Rattle.saa_word_steps.specs.declared.place.Next.TheVariants.{Going}
use Rattle.saa_word_steps.specs.declared.place.PollMode.TheVariants.{Awaits}
use Rattle.saa_word_steps.specs.declared.place.Stage.TheVariants.{Take}
use Rattle.saa_word_steps.specs.Steps.{started}
use Rattle.saa_word_threads.specs.Pending.{needs}
use Rattle.saa_word_threads.specs.Walks.{at_stage}
use Rattle.saa_word_threads.proofs.PendingLemmas.{pending-begins, pending-called}
use Rattle.saa_word_threads.proofs.Polling.{starts-taking}
use Rattle.saa_word_threads.proofs.form.Form.take_awaited.Goals as goal

pub await_and_take-requires : goal.await_and_take-requires
await_and_take-requires g c =
    let starts : started (needs c.args.self.now) c.args.place.now.position Poll ≡ Going (at_stage c.args.place.now.position (Take Awaits)) =
    starts-taking (needs c.args.self.now) c.args.place.now.position (search rules) in
    pending-begins c.args.self.now c.of-pending.result c.args.place.now Poll (at_stage c.args.place.now.position (Take Awaits))
    c.of-pending.ensures c.requires.dealt (search rules) (search rules) starts

pub returns-clause-called : goal.returns-clause-called
returns-clause-called g c =
    let starts : started (needs c.args.self.now) c.args.place.now.position Poll ≡ Going (at_stage c.args.place.now.position (Take Awaits)) =
    starts-taking (needs c.args.self.now) c.args.place.now.position (search rules) in
    pending-called c.args.self.now c.of-pending.result c.args.place.now Poll (at_stage c.args.place.now.position (Take Awaits))
    c.await_and_take.new.position c.await_and_take.result c.await_and_take.new.seat c.of-pending.ensures starts c.await_and_take.ensures.ended

use Rattle.std.proofs.Common.{rules, ◌≡◌, nat_lt, false, true, refl}
use Rattle.saa_word_steps.specs.Needs.{permit_needs}
use Rattle.saa_word_steps.specs.declared.call.Answer.TheVariants.{Bool as Says}
use Rattle.saa_word_threads.proofs.Visiting.{try-above}
use Rattle.saa_word_threads.proofs.semaphore.SemaphoreOf.try_acquire_many_by.Goals as goal

pub returns-then-count : goal.returns-then-count
returns-then-count g c =
    let more : nat_lt g.row.MAX c.args.count ≡ true = search rules in
    (Says false, refl, (refl, try-above (permit_needs g.row.MAX) c.args.self.now.form.table.shared.key.withheld c.args.count c.args.visitor.now.seat.me.0 more))

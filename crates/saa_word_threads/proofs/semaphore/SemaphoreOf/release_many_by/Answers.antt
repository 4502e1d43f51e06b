use Rattle.std.proofs.Common.{rules, ◌≡◌, ◌==◌, nat_lt, false, true, refl}
use Rattle.saa_word_steps.specs.Needs.{permit_needs}
use Rattle.saa_word_steps.specs.declared.call.Answer.TheVariants.{Bool as Says}
use Rattle.saa_word_threads.proofs.Visiting.{release-above, release-nothing}
use Rattle.saa_word_threads.proofs.semaphore.SemaphoreOf.release_many_by.Goals as goal

pub returns-then-count : goal.returns-then-count
returns-then-count g c =
    let more : nat_lt g.row.MAX c.args.count ≡ true = search rules in
    (Says false, refl, (refl, release-above (permit_needs g.row.MAX) c.args.self.now.form.table.shared.key.withheld c.args.count c.args.visitor.now.seat.me.0 more))

pub returns-then-count-eq0 : goal.returns-then-count-eq0
returns-then-count-eq0 g c =
    let fits : nat_lt g.row.MAX c.args.count ≡ false = search rules in
    let nothing : (c.args.count == 0) ≡ true = search rules in
    (Says true, refl, (refl, release-nothing (permit_needs g.row.MAX) c.args.self.now.form.table.shared.key.withheld c.args.count c.args.visitor.now.seat.me.0 fits nothing))

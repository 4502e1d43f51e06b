use Rattle.std.proofs.Common.{length, ap, sym, ◌∙◌}
use Rattle.saa_run.specs.Schedules.{schedule_line_of}
use Rattle.saa_run.specs.ScheduleLaws.{schedule-bad}
use Rattle.saa_run.proofs.ScheduleLemmas.{schedule-good}
use Rattle.saa_run.proofs.schedule.ScheduleSession.reply_to.Goals as goal

pub returns-in-None-clause-bad : goal.returns-in-None-clause-bad
returns-in-None-clause-bad c =
    λ number. schedule-bad number c.args.self.now.machine c.args.line.now
    (ap (λ b. schedule_line_of b (length c.args.self.now.machine.places) c.args.line.now) (sym c.is_lock.ensures)
    ∙ ap (λ n. schedule_line_of c.is_lock.result n c.args.line.now) (sym c.places.ensures) ∙ sym c.in-None.ensures.line)

pub returns-in-Some-clause-good : goal.returns-in-Some-clause-good
returns-in-Some-clause-good c =
    λ number others. schedule-good number c.args.self.now.machine c.say.new.self.machine c.args.line.now c.in-Some.good c.say.result others
    (ap (λ b. schedule_line_of b (length c.args.self.now.machine.places) c.args.line.now) (sym c.is_lock.ensures)
    ∙ ap (λ n. schedule_line_of c.is_lock.result n c.args.line.now) (sym c.places.ensures) ∙ sym c.in-Some.ensures.line) c.say.ensures.said c.say.ensures.machine

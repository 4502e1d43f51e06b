use Rattle.std.proofs.Common.{◌≡◌, ◌-◌, length}
use Rattle.saa_run.specs.Scheduled.{most_steps, until_at}
use Rattle.saa_run.proofs.schedule.until.Given as goal

-- what the steps that are left do is what all of them do
abbrev pub invariant-loop-step : goal.invariant-loop-step
invariant-loop-step l = record {
  same : until_at (most_steps - l._step) l.machine l.place l.kind ≡ until_at most_steps l.fn.machine l.place l.kind;
  places : length l.machine.places ≡ length l.fn.machine.places;
}

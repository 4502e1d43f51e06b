use Rattle.std.proofs.Common.{◌≡◌, ◌-◌, length}
use Rattle.saa_run.specs.Scheduled.{ended, most_steps}
use Rattle.saa_run.proofs.schedule.end.Given as goal

-- what the steps that are left do is what all of them do
abbrev pub invariant-loop-step : goal.invariant-loop-step
invariant-loop-step l = record {
  same : ended (most_steps - l._step) l.machine l.place ≡ ended most_steps l.fn.machine l.place;
  places : length l.machine.places ≡ length l.fn.machine.places;
}

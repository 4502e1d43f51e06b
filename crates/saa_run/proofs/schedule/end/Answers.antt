use Rattle.std.proofs.Common.{◌≡◌, ◌<◌, ◌+◌, ◌-◌, ap, sym, ◌∙◌, arith}
use Rattle.saa_word.specs.Machine.{Moved}
use Rattle.saa_run.specs.Scheduled.{ended, most_steps}
use Rattle.saa_run.proofs.ScheduleLemmas.{ended-going, ended-out, ended-stops}
use Rattle.saa_run.proofs.schedule.end.Goals as goal

pub returns-then-not-goes_on-clause-step : goal.returns-then-not-goes_on-clause-step
returns-then-not-goes_on-clause-step c =
    let some : 0 < most_steps - c.loop-step._step = omega arith in
    c.go-step.ensures.step
    ∙ ap (λ (m : Moved). m.step) (sym (ended-stops c.loop-step.machine c.go-step.new.self c.args.place c.go-step.result c.go-step.ensures.step c.go-step.ensures.machine (most_steps - c.loop-step._step) (cc) some) ∙ c.loop-step.invariant.same)

pub returns-then-not-goes_on-clause-machine : goal.returns-then-not-goes_on-clause-machine
returns-then-not-goes_on-clause-machine c =
    let some : 0 < most_steps - c.loop-step._step = omega arith in
    c.go-step.ensures.machine
    ∙ ap (λ (m : Moved). m.machine) (sym (ended-stops c.loop-step.machine c.go-step.new.self c.args.place c.go-step.result c.go-step.ensures.step c.go-step.ensures.machine (most_steps - c.loop-step._step) (cc) some) ∙ c.loop-step.invariant.same)

pub loop-step-preserved : goal.loop-step-preserved
loop-step-preserved c =
    let some : 0 < most_steps - c.loop-step._step = omega arith in
    let less : most_steps - (c.loop-step._step + 1) ≡ most_steps - c.loop-step._step - 1 = omega arith in
    record {
      same = ap (λ n. ended n c.go-step.new.self c.args.place) less
          ∙ ended-going c.loop-step.machine c.go-step.new.self c.args.place c.go-step.result c.go-step.ensures.step c.go-step.ensures.machine (most_steps - c.loop-step._step) (cc) some
          ∙ c.loop-step.invariant.same;
      places = c.go-step.ensures.places ∙ c.loop-step.invariant.places;
    }

pub returns-clause-step : goal.returns-clause-step
returns-clause-step c =
    let none : most_steps - c.loop-step._step ≡ 0 = omega arith in
    ap (λ (m : Moved). m.step) (sym (ended-out (most_steps - c.loop-step._step) c.loop-step.machine c.args.place none) ∙ c.loop-step.invariant.same)

pub returns-clause-machine : goal.returns-clause-machine
returns-clause-machine c =
    let none : most_steps - c.loop-step._step ≡ 0 = omega arith in
    ap (λ (m : Moved). m.machine) (sym (ended-out (most_steps - c.loop-step._step) c.loop-step.machine c.args.place none) ∙ c.loop-step.invariant.same)

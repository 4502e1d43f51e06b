use Rattle.std.proofs.Common.{◌≡◌, ◌<◌, ◌+◌, ◌-◌, ap, sym, ◌∙◌, arith}
use Rattle.saa_run.specs.Scheduled.{Replied, most_steps, until_at}
use Rattle.saa_run.proofs.ScheduleLemmas.{step-said, until-going, until-out, until-stops, until-there}
use Rattle.saa_run.proofs.schedule.until.Goals as goal

pub returns-then-is_at-clause-said : goal.returns-then-is_at-clause-said
returns-then-is_at-clause-said c =
    ap (λ (s : Replied). s.said) (sym (until-there (most_steps - c.loop-step._step) c.loop-step.machine c.args.place c.args.kind (cc)) ∙ c.loop-step.invariant.same)

pub returns-then-is_at-clause-machine : goal.returns-then-is_at-clause-machine
returns-then-is_at-clause-machine c =
    ap (λ (s : Replied). s.machine) (sym (until-there (most_steps - c.loop-step._step) c.loop-step.machine c.args.place c.args.kind (cc)) ∙ c.loop-step.invariant.same)

pub returns-then-not-goes_on-clause-said : goal.returns-then-not-goes_on-clause-said
returns-then-not-goes_on-clause-said c =
    let some : 0 < most_steps - c.loop-step._step = omega arith in
    step-said c.loop-step.machine c.go-step.new.self c.args.place c.go-step.result c.go-step.ensures.step c.go-step.ensures.machine c.did.result c.did.ensures
    ∙ ap (λ (s : Replied). s.said) (sym (until-stops c.loop-step.machine c.go-step.new.self c.args.place c.go-step.result c.go-step.ensures.step c.go-step.ensures.machine c.args.kind (cc) (most_steps - c.loop-step._step) (cc) some) ∙ c.loop-step.invariant.same)

pub returns-then-not-goes_on-clause-machine : goal.returns-then-not-goes_on-clause-machine
returns-then-not-goes_on-clause-machine c =
    let some : 0 < most_steps - c.loop-step._step = omega arith in
    c.go-step.ensures.machine
    ∙ ap (λ (s : Replied). s.machine) (sym (until-stops c.loop-step.machine c.go-step.new.self c.args.place c.go-step.result c.go-step.ensures.step c.go-step.ensures.machine c.args.kind (cc) (most_steps - c.loop-step._step) (cc) some) ∙ c.loop-step.invariant.same)

pub loop-step-preserved : goal.loop-step-preserved
loop-step-preserved c =
    let some : 0 < most_steps - c.loop-step._step = omega arith in
    let less : most_steps - (c.loop-step._step + 1) ≡ most_steps - c.loop-step._step - 1 = omega arith in
    record {
      same = ap (λ n. until_at n c.go-step.new.self c.args.place c.args.kind) less
          ∙ until-going c.loop-step.machine c.go-step.new.self c.args.place c.go-step.result c.go-step.ensures.step c.go-step.ensures.machine c.args.kind (cc) (most_steps - c.loop-step._step) (cc) some
          ∙ c.loop-step.invariant.same;
      places = c.go-step.ensures.places ∙ c.loop-step.invariant.places;
    }

pub returns-then-is_at-2-clause-said : goal.returns-then-is_at-2-clause-said
returns-then-is_at-2-clause-said c =
    ap (λ (s : Replied). s.said) (sym (until-there (most_steps - c.loop-step._step) c.loop-step.machine c.args.place c.args.kind (cc)) ∙ c.loop-step.invariant.same)

pub returns-then-is_at-2-clause-machine : goal.returns-then-is_at-2-clause-machine
returns-then-is_at-2-clause-machine c =
    ap (λ (s : Replied). s.machine) (sym (until-there (most_steps - c.loop-step._step) c.loop-step.machine c.args.place c.args.kind (cc)) ∙ c.loop-step.invariant.same)

pub returns-clause-said : goal.returns-clause-said
returns-clause-said c =
    let none : most_steps - c.loop-step._step ≡ 0 = omega arith in
    c.did-2.ensures ∙ ap (λ (s : Replied). s.said) (sym (until-out (most_steps - c.loop-step._step) c.loop-step.machine c.args.place c.args.kind none (cc)) ∙ c.loop-step.invariant.same)

pub returns-clause-machine : goal.returns-clause-machine
returns-clause-machine c =
    let none : most_steps - c.loop-step._step ≡ 0 = omega arith in
    ap (λ (s : Replied). s.machine) (sym (until-out (most_steps - c.loop-step._step) c.loop-step.machine c.args.place c.args.kind none (cc)) ∙ c.loop-step.invariant.same)

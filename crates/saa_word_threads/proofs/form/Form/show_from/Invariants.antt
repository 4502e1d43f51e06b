use Rattle.saa_core_spec.specs.Values.{granted_value}
use Rattle.saa_word_steps.specs.declared.place.Stage.TheVariants.{ShowLoad}
use Rattle.saa_word_threads.specs.Pending.{IsSameSeat}
use Rattle.saa_word_threads.specs.Walks.{IsUnderway, afterwards_of, at_stage}
use Rattle.saa_word_threads.proofs.form.Form.show_from.Given as goal

abbrev pub invariant-loop : goal.invariant-loop
invariant-loop g l = record {
  same : IsSameSeat l.fn.seat l.seat;
  underway : IsUnderway l.self (g.C.Course.begun l.walk.course.now) (at_stage l.walk.place (ShowLoad l.current granted_value (afterwards_of l.now))) l.seat;
}

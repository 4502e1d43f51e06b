use Rattle.saa_word_steps.specs.declared.place.Stage.TheVariants.{BackLoad}
use Rattle.saa_word_threads.specs.Pending.{IsSameSeat}
use Rattle.saa_word_threads.specs.Walks.{IsUnderway, at_stage}
use Rattle.saa_word_threads.proofs.form.Form.settle.Given as goal

abbrev pub invariant-loop : goal.invariant-loop
invariant-loop g l = record {
  same : IsSameSeat l.fn.seat l.seat;
  underway : IsUnderway l.self (g.C.Course.begun l.walk.course.now) (at_stage l.walk.place (BackLoad l.seen l.current l.newer)) l.seat;
}

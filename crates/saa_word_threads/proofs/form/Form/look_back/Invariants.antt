use Rattle.saa_word_steps.specs.declared.place.Stage.TheVariants.{LookLoad}
use Rattle.saa_word_threads.specs.Pending.{IsPending, IsSameSeat}
use Rattle.saa_word_threads.specs.Walks.{at_stage}
use Rattle.saa_word_threads.proofs.form.Form.look_back.Given as goal

abbrev pub invariant-loop : goal.invariant-loop
invariant-loop g l = record {
  same : IsSameSeat l.fn.seat l.seat;
  pending : IsPending l.self l.pending (at_stage l.place (LookLoad l.seen l.current l.newer l.previous)) l.seat;
}

use Rattle.saa_word_steps.specs.declared.place.PollMode.TheVariants.{Awaits}
use Rattle.saa_word_steps.specs.declared.place.Stage.TheVariants.{Take}
use Rattle.saa_word_threads.specs.Pending.{IsPending, IsSameSeat}
use Rattle.saa_word_threads.specs.Walks.{at_stage}
use Rattle.saa_word_threads.proofs.form.Form.spin_and_take.Given as goal

abbrev pub invariant-loop-turn : goal.invariant-loop-turn
invariant-loop-turn g l = record {
  same : IsSameSeat l.fn.seat l.seat;
  pending : IsPending l.self l.pending (at_stage l.position (Take Awaits)) l.seat;
}

use Rattle.saa_word_steps.specs.declared.place.Stage.TheVariants.{Close}
use Rattle.saa_word_threads.specs.Pending.{IsSameSeat}
use Rattle.saa_word_threads.specs.Walks.{IsUnderway, at_stage}
use Rattle.saa_word_threads.proofs.form.Form.publish.Given as goal

-- each step is of the stage that the walk is at
abbrev pub ghosts-walk_exchange : goal.ghosts-walk_exchange
ghosts-walk_exchange g a = record { about = a.self.now.table.shared.key; place = a.at.value; me = a.seat.now.me.0.number }

abbrev pub invariant-loop : goal.invariant-loop
invariant-loop g l = record {
  same : IsSameSeat l.fn.seat l.seat;
  underway : IsUnderway l.self (g.C.Course.begun l.walk.course.now) (at_stage l.walk.place (Close l.seen l.count l.top)) l.seat;
}

use Rattle.saa_word_threads.specs.Pending.{needs, withheld}
use Rattle.saa_word_threads.proofs.Visiting.{moves-so}
use Rattle.saa_word_threads.proofs.Walking.{underway-moves}
use Rattle.saa_word_threads.proofs.form.Form.walk_store.Goals as goal

pub returns-clause-underway : goal.returns-clause-underway
returns-clause-underway g c = (
  c.store.result,
  underway-moves c.args.self.now (g.C.Course.begun c.args.walk.now.course.now) c.args.at.value c.args.seat.now c.requires.visits c.requires.underway c.store.new.seat
      c.store.ensures.same.0 c.store.result
      (moves-so (needs c.args.self.now) (withheld c.args.self.now) c.args.self.now.places g.M.Mover.me c.args.seat.now.me.0.number c.store.result g.M.Mover.place c.args.at.value
      c.args.seat.now.me.0 c.store.new.seat.me.0 c.requires.mover.1 c.requires.mover.2 c.store.ensures.moved),
)

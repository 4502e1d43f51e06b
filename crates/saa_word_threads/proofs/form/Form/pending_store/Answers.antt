use Rattle.saa_word_threads.specs.Pending.{needs, withheld}
use Rattle.saa_word_threads.proofs.PendingLemmas.{pending-moves}
use Rattle.saa_word_threads.proofs.Visiting.{moves-so}
use Rattle.saa_word_threads.proofs.form.Form.pending_store.Goals as goal

pub returns-clause-next : goal.returns-clause-next
returns-clause-next g c =
    pending-moves c.args.self.now c.args.pending.now c.args.at.value c.args.seat.now c.requires.pending c.store.new.seat c.store.ensures.same
    c.store.result
    (moves-so (needs c.args.self.now) (withheld c.args.self.now) c.args.self.now.places g.M.Mover.me c.args.pending.now.me c.store.result g.M.Mover.place
    c.args.at.value c.args.seat.now.me.0 c.store.new.seat.me.0 c.requires.mover.1 c.requires.mover.2 c.store.ensures.moved)

use Rattle.std.proofs.Common.{subst, sym}
use Rattle.saa_word_steps.specs.declared.place.Next.{Next}
use Rattle.saa_word_threads.specs.Pending.{GoesOn, needs, withheld}
use Rattle.saa_word_threads.proofs.PendingLemmas.{pending-moves}
use Rattle.saa_word_threads.proofs.Visiting.{moves-so}
use Rattle.saa_word_threads.proofs.form.Form.act.Goals as goal

pub returns-clause-next : goal.returns-clause-next
returns-clause-next g c =
    subst (λ (n : Next). GoesOn c.args.self.now c.args.pending.now c.args.place n c.perform-found.new.seat) (sym c.resume.ensures.next)
    (pending-moves c.args.self.now c.args.pending.now c.args.place c.args.seat.now c.requires.pending c.perform-found.new.seat c.perform-found.ensures.same
    c.perform-found.result
    (moves-so (needs c.args.self.now) (withheld c.args.self.now) c.args.self.now.places g.M.Mover.me c.args.pending.now.me c.perform-found.result g.M.Mover.place
    c.args.place c.args.seat.now.me.0 c.perform-found.new.seat.me.0 c.requires.mover.1 c.requires.mover.2 c.perform-found.ensures.moved))

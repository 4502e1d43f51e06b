use Rattle.std.proofs.Common.{ap, sym, subst, ◌∙◌}
use Rattle.saa_word_steps.specs.declared.place.Next.{Next}
use Rattle.saa_word_steps.specs.declared.place.Place.{Place}
use Rattle.saa_word_threads.specs.Pending.{GoesOn, HasFound}
use Rattle.saa_word_threads.specs.Moves.{unless_joining}
use Rattle.saa_word_threads.proofs.form.Form.seek.Goals as goal

pub returns-in-AcquireLoad-clause-next : goal.returns-in-AcquireLoad-clause-next
returns-in-AcquireLoad-clause-next g c =
    subst (λ (n : Next). GoesOn c.args.self.now c.args.pending.now c.args.place n c.seek_by_load-found.new.seat)
    (sym (c.unless_joining.ensures ∙ ap (unless_joining c.args.place) c.resume.ensures.next))
    (subst (λ (p : Place). HasFound c.args.self.now c.args.pending.now p c.seek_by_load-found.result c.seek_by_load-found.new.seat)
    c.of-at.ensures c.seek_by_load-found.ensures.found)

pub returns-in-AcquireExchange-clause-next : goal.returns-in-AcquireExchange-clause-next
returns-in-AcquireExchange-clause-next g c =
    subst (λ (n : Next). GoesOn c.args.self.now c.args.pending.now c.args.place n c.seek_by_exchange-found.new.seat)
    (sym (c.unless_joining-in-AcquireExchange.ensures ∙ ap (unless_joining c.args.place) c.resume-in-AcquireExchange.ensures.next))
    (subst (λ (p : Place). HasFound c.args.self.now c.args.pending.now p c.seek_by_exchange-found.result c.seek_by_exchange-found.new.seat)
    c.of-at.ensures c.seek_by_exchange-found.ensures.found)

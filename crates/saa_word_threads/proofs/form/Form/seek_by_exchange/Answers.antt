use Rattle.std.proofs.Common.{arith, refl, sym}
use Rattle.saa_word_steps.specs.declared.operation.Operation.TheVariants.{Exchange}
use Rattle.saa_word_threads.proofs.Moving.{allowed-look}
use Rattle.saa_word_threads.proofs.PendingLemmas.{looks-so, pending-looks, pending-makes}
use Rattle.saa_word_threads.proofs.form.Form.seek_by_exchange.Goals as goal

pub compare_exchange-requires : goal.compare_exchange-requires
compare_exchange-requires g c =
    let next =
    pending-makes c.args.self.now c.args.pending.now c.args.at.value c.args.seat.now c.requires.pending (Exchange 0 c.args.old c.args.new) (sym c.requires.exchanges) in (
      c.requires.pending.0.0,
      (let w = c.args.self.now.words in omega arith),
      allowed-look c.args.self.now.table.shared.key c.args.self.now.rules c.args.self.now.places g.M.Mover.about g.M.Mover.place c.args.at.value g.M.Mover.me
          c.args.pending.now.me c.args.self.now.table.shared.table_id.slots c.args.seat.now.id c.args.seat.now.me (Exchange 0 c.args.old c.args.new)
          c.args.self.now.key.0 c.args.self.now.key.1 c.args.self.now.bounded c.args.self.now.wide c.requires.mover next
          (λ found joins. let misses = c.requires.made found joins in rw misses refl),
    )

pub returns-clause-found : goal.returns-clause-found
returns-clause-found g c =
    pending-looks c.args.self.now c.args.pending.now c.args.at.value c.args.seat.now c.requires.pending c.compare_exchange.new.seat (c.compare_exchange.ensures.0, c.compare_exchange.ensures.1, c.compare_exchange.ensures.2.1) c.compare_exchange.result
    (looks-so c.args.self.now g.M.Mover.about g.M.Mover.place c.args.at.value g.M.Mover.me c.args.pending.now.me c.compare_exchange.result c.args.seat.now c.compare_exchange.new.seat
    c.requires.mover.0 c.requires.mover.1 c.requires.mover.2 c.compare_exchange.ensures.2.0)

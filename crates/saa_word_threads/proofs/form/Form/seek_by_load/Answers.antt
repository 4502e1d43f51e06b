use Rattle.std.proofs.Common.{arith, refl, sym}
use Rattle.saa_word_steps.specs.declared.operation.Operation.TheVariants.{Load}
use Rattle.saa_word_threads.proofs.Moving.{allowed-look}
use Rattle.saa_word_threads.proofs.PendingLemmas.{looks-so, pending-looks, pending-makes}
use Rattle.saa_word_threads.proofs.form.Form.seek_by_load.Goals as goal

pub load-requires : goal.load-requires
load-requires g c =
    let next =
    pending-makes c.args.self.now c.args.pending.now c.args.at.value c.args.seat.now c.requires.pending (Load 0) (sym c.requires.loads) in (
      c.requires.pending.0.0,
      (let w = c.args.self.now.words in omega arith),
      allowed-look c.args.self.now.table.shared.key c.args.self.now.rules c.args.self.now.places g.M.Mover.about g.M.Mover.place c.args.at.value g.M.Mover.me
          c.args.pending.now.me c.args.self.now.table.shared.table_id.slots c.args.seat.now.id c.args.seat.now.me (Load 0)
          c.args.self.now.key.0 c.args.self.now.key.1 c.args.self.now.bounded c.args.self.now.wide c.requires.mover next
          (λ found joins. refl),
    )

pub returns-clause-found : goal.returns-clause-found
returns-clause-found g c =
    pending-looks c.args.self.now c.args.pending.now c.args.at.value c.args.seat.now c.requires.pending c.load.new.seat (c.load.ensures.0, c.load.ensures.1, c.load.ensures.2.1) c.load.result
    (looks-so c.args.self.now g.M.Mover.about g.M.Mover.place c.args.at.value g.M.Mover.me c.args.pending.now.me c.load.result c.args.seat.now c.load.new.seat
    c.requires.mover.0 c.requires.mover.1 c.requires.mover.2 c.load.ensures.2.0)

use Rattle.saa_word_steps.specs.declared.operation.Operation.TheVariants.{Load}
use Rattle.saa_word_threads.proofs.Moving.{allowed}
use Rattle.saa_word_threads.proofs.form.Form.load.Goals as goal

pub load-requires : goal.load-requires
load-requires g c = (
  c.requires.table.0,
  c.cell.ensures.inside,
  rw c.cell.ensures.cell
      (allowed c.args.self.now.table.shared.key c.args.self.now.rules c.args.self.now.places g.M.Mover.about g.M.Mover.place g.M.Mover.me
      c.args.self.now.table.shared.table_id.slots c.args.seat.now.id c.args.seat.now.me (Load c.args.index)
      c.args.self.now.key.0 c.args.self.now.key.1 c.args.self.now.bounded c.args.self.now.wide c.requires.table.1 c.requires.next),
)

use Rattle.saa_word.specs.Cells.{counted, numbers}
use Rattle.saa_word.proofs.Machines.{loaded-machine}
use Rattle.saa_word.proofs.machine.Machine.word.Goals as goal

pub invariant_of-self : goal.invariant_of-self
invariant_of-self c =
    loaded-machine (record {
      rules = c.self.inside.rules;
      row = numbers c.self.inside.words.cells.items;
      places = c.self.inside.places.items;
      operations = counted c.self.inside.words.cells.items;
      last_word = c.self.inside.words.last;
    })
    (numbers c.load.new.self.cells.items) (counted c.load.new.self.cells.items) c.load.new.self.last c.load.ensures.kept c.self.invariant

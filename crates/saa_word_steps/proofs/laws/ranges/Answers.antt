use Rattle.saa_word_steps.proofs.Ranges.{next-ranged}
use Rattle.saa_word_steps.proofs.laws.ranges.Goals as goal

pub returns : goal.returns
returns c = λ needs me place found lawful wide ranged. next-ranged needs lawful wide me place place.stage found ranged ranged

-- The newest is a place of the line, and nobody exactly where the line is empty.
use Rattle.saa_core_words.proofs.Linking.{IsLinked-newest, IsLinked-nobody}
use Rattle.saa_core_words.proofs.links.Links.tail.Goals as goal

pub returns-clause-nobody : goal.returns-clause-nobody
returns-clause-nobody g c = rw (← c.self.view_is) (IsLinked-nobody _ _ _ _ _ _ c.self.invariant)

pub returns-clause-within : goal.returns-clause-within
returns-clause-within g c = rw (← c.self.view_is) (IsLinked-newest _ _ _ _ _ _ c.self.invariant)

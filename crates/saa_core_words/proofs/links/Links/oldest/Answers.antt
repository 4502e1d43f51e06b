-- Somebody waits, so the oldest is a place, and stands in the line once.
use Rattle.std.proofs.Common.{◌<◌, arith}
use Rattle.std.proofs.lemmas.Bool.Decides.{nat_tests}
use Rattle.saa_core_words.proofs.Linking.{IsLinked-oldest, IsLinked-once}
use Rattle.saa_core_words.proofs.links.Links.oldest.Goals as goal

pub load-requires : goal.load-requires
load-requires g c =
    let some : 0 < c.self.inside.waiting = grind (arith, nat_tests) in
    let is = IsLinked-oldest _ _ _ _ _ _ c.self.invariant some in
    omega (arith, is.0, is.1)

pub returns-clause-once : goal.returns-clause-once
returns-clause-once g c =
    let some : 0 < c.self.inside.waiting = grind (arith, nat_tests) in
    rw (← c.self.view_is) (IsLinked-once _ _ _ _ _ _ c.self.invariant some)

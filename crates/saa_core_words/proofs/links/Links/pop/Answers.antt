-- The oldest stands in the line once, so that without it what stands behind is left.
use Rattle.std.proofs.Common.{refl, sym}
use Rattle.saa_core_words.proofs.Chains.{without-oldest}
use Rattle.saa_core_words.proofs.links.Links.pop.Goals as goal

pub returns-clause-left : goal.returns-clause-left
returns-clause-left g c =
    rw (c.remove.ensures, without-oldest _ _ (sym c.in_ok-place.ensures.oldest) c.in_ok-place.ensures.once) refl

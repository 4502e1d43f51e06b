-- What places that have left had seen, as another one has gathered it: it stays where it is.
use Rattle.std.proofs.Common.{◌≡◌, ◌≢◌, ℕ, zero, suc, ◌<◌, List, [], ◌∷◌, length, sym, ap, subst, ◌∙◌, arith}
use mathlib.Core.Option.{some, some-injective, some-ne-none}
use lib.ListN.{get_elem?}
use Rattle.saa_word_steps.specs.declared.event.Event.{Event}
use Rattle.saa_word_steps.specs.declared.place.Place.{Place}
use Rattle.saa_word_threads.specs.declared.table.Departed.{Departed}
use Rattle.saa_word_threads.specs.declared.table.Role.{Role}
use Rattle.saa_word_threads.specs.declared.table.Role.TheVariants.{Acting, Spent}
use Rattle.saa_word_threads.specs.declared.table.View.{View}
use Rattle.saa_word_threads.specs.Kept.{AreGathered, Fits, FitsAs}

-- a member of a list is within it
pub found-within : (views : List View) (seat : ℕ) (v : View) → get_elem? views seat ≡ some v → seat < length views
found-within [] seat v found = absurd (some-ne-none v (sym found))
found-within (u ∷ views) zero v found = omega arith
found-within (u ∷ views) (suc seat) v found = let within = found-within views seat v found in omega arith

pub place-fits : (history : List (ℕ × Event)) (standing : ℕ → Place) (places dealt seat : ℕ) (v : View) → v.role ≡ Acting
    → Fits history standing places dealt seat v → FitsAs history standing places dealt seat v Acting
place-fits history standing places dealt seat v acts fits = subst (λ (r : Role). FitsAs history standing places dealt seat v r) acts fits

-- a seat whose view another one has gathered isn't one that may make steps
pub spent-apart : (views : List View) (here other : ℕ) (v w : View) → get_elem? views here ≡ some v → (v.role ≡ Spent → ⊥)
    → get_elem? views other ≡ some w → w.role ≡ Spent → other ≢ here
spent-apart views here other v w at acts is gone = λ e.
    acts (ap (λ (u : View). u.role) (some-injective v w (sym at ∙ ap (get_elem? views) (sym e) ∙ is)) ∙ gone)

-- what was gathered stays so, while those seats stay as they are
pub gathered-stay : (views after : List View) → ((seat : ℕ) (v : View) → get_elem? views seat ≡ some v → v.role ≡ Spent → get_elem? after seat ≡ some v)
    → (gathered : List Departed) → AreGathered views gathered → AreGathered after gathered
gathered-stay views after stays [] all = tt
gathered-stay views after stays (gone ∷ rest) all =
    ((all.0.0, all.0.1, stays all.0.0 all.0.1 all.0.2 all.0.3, all.0.3, all.0.4, all.0.5), gathered-stay views after stays rest all.1)

-- What a pool's slots have at the end.
use Rattle.std.proofs.Common.{◌≡◌, ℕ, zero, suc, ◌+◌, ◌<◌, ◌≤◌, Bool, true, false, List, [], ◌∷◌, length, get_or, Option as Maybe, Some, None, refl, sym, ap, subst, ◌∙◌, arith, inl, inr}
use Rattle.std.proofs.Math.ListN.{set}
use Rattle.std.proofs.lemmas.List.{get_or-set_other}
use mathlib.Core.Option.{some, some-injective}
use lib.ListN.{get_elem?}
use Rattle.atomic_table.specs.Table.{Final}
use Rattle.saa_word_pool.specs.declared.table.View.{View}
use Rattle.saa_word_pool.specs.Kept.{IsPool}
use Rattle.saa_word_pool.proofs.Totals.{cases_eq}

set-false : (filled : List Bool) (slot : ℕ) → get_or (set filled slot false) slot false ≡ false
set-false [] slot = refl
set-false (full ∷ filled) zero = refl
set-false (full ∷ filled) (suc slot) = set-false filled slot

-- the slots up to this one are empty once it is emptied
pub emptied-below : (filled : List Bool) (slot : ℕ) → ((k : ℕ) → k < slot → get_or filled k false ≡ false) → (k : ℕ) → k < slot + 1
    → get_or (set filled slot false) k false ≡ false
emptied-below filled slot were k below =
    elim (cases_eq k slot) [
      | inl here ↦ ap (λ n. get_or (set filled slot false) n false) here ∙ set-false filled slot
      | inr other ↦ get_or-set_other filled slot k false false other ∙ were k (omega (arith, below, other))
    ]

-- those behind it are as they were
pub full-above : (filled : List Bool) (slot places : ℕ) → ((k : ℕ) → slot ≤ k → k < places → get_or filled k false ≡ true) → (k : ℕ) → slot + 1 ≤ k
    → k < places → get_or (set filled slot false) k false ≡ true
full-above filled slot places were k above within =
    get_or-set_other filled slot k false false (λ e. omega (arith, above, e)) ∙ were k (omega (arith, above)) within

abbrev inside_or : {T : Type 0} → T → Maybe T → T
inside_or other (Some value) = value
inside_or other None = other

inside-same : {T : Type 0} (one other : T) → ◌≡◌ {A = Maybe T} (Some one) (Some other) → one ≡ other
inside-same one other same = ap (inside_or one) same

-- what is in a slot whose word is 1 belongs to the pool
pub rest-belongs : {T K : Type 0} (belongs : T → Type 0) (words : List ℕ) (slots : List (Maybe T)) → Final {V = View K} (IsPool belongs) words slots
    → (slot : ℕ) → slot < length slots → (value : T) → get_elem? words slot ≡ some 1 → get_elem? slots slot ≡ some (Some value) → belongs value
rest-belongs {T = T} belongs words slots final slot within value one inside =
    let long = final.3 in
    let here = final.1.0.rests slot (omega (arith, within, long)) (ap (λ (l : List ℕ). get_elem? l slot) final.2 ∙ one) in
    let found = final.4 slot (Some here.0) here.1 in
    subst belongs (inside-same here.0 value (some-injective (Some here.0) (Some value) (sym found ∙ inside))) here.2

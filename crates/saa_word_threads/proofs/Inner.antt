-- The places of a lock, of those that its form dealt.
use Rattle.std.proofs.Common.{◌≡◌, ℕ, zero, suc, ◌+◌, ◌<◌, List, [], ◌∷◌, ◌++◌, length, get_or, refl, sym, ap, ◌∙◌, arith}
use Rattle.atomic_table.specs.Seated.{TableId}
use Rattle.saa_word_threads.specs.declared.lock.Place.{Place}
use Rattle.saa_word_threads.specs.declared.place.Place.{Place as FormPlace}
use Rattle.saa_word_threads.specs.Locks.{AreNew, inners}

-- one place more
inners-more : (places : List Place) (place : Place) → inners (places ++ place ∷ []) ≡ inners places ++ place.inner ∷ []
inners-more [] place = refl
inners-more (first ∷ places) place = ap (λ (l : List FormPlace). first.inner ∷ l) (inners-more places place)

append-one : (places rest : List FormPlace) (place : FormPlace) → (places ++ place ∷ []) ++ rest ≡ places ++ place ∷ rest
append-one [] rest place = refl
append-one (first ∷ places) rest place = ap (λ (l : List FormPlace). first ∷ l) (append-one places rest place)

-- a place is wrapped, in front of those that are left
pub wrapped : (places more : List Place) (place : Place) (left rest all : List FormPlace) → more ≡ places ++ place ∷ []
    → left ≡ place.inner ∷ rest → inners places ++ left ≡ all → inners more ++ rest ≡ all
wrapped places more place left rest all is taken before =
    ap (λ (l : List Place). inners l ++ rest) is
    ∙ ap (λ (l : List FormPlace). l ++ rest) (inners-more places place)
    ∙ append-one (inners places) rest place.inner
    ∙ ap (λ (l : List FormPlace). inners places ++ l) (sym taken)
    ∙ before

-- new places of a table are of that table
pub new-of : (table : TableId) (from : ℕ) (places : List Place) → AreNew table from places → (index : ℕ) (unknown : Place) → index < length places
    → (get_or places index unknown).inner.seat.table_id ≡ table
new-of table from [] are index unknown within = absurd (omega arith)
new-of table from (place ∷ places) are zero unknown within = are.0.0
new-of table from (place ∷ places) are (suc index) unknown within = new-of table (from + 1) places are.1 index unknown (omega arith)

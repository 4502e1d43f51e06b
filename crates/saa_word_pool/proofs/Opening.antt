-- A pool begins with all values in.
use Rattle.std.proofs.Common.{◌≡◌, ℕ, zero, suc, ◌+◌, ◌<◌, List, [], ◌∷◌, ◌++◌, length, replicate, map, get_or, Option as Maybe, None, refl, sym, ap, subst, ◌∙◌, arith}
use Rattle.std.specs.Prelude.{All}
use mathlib.Core.Option.{Option, some, some-injective, some-ne-none}
use lib.ListN.{get_elem?}
use Rattle.atomic_table.specs.Table.{opening}
use Rattle.saa_word_pool.specs.declared.table.Part.TheVariants.{Coming, Holding}
use Rattle.saa_word_pool.specs.declared.table.View.{View}
use Rattle.saa_word_pool.specs.Kept.{IsPool, IsRest, coming, is_in, part_by, total}
use Rattle.saa_word_pool.proofs.Totals.{found-within}
use Rattle.saa_word_pool.proofs.Keeping.{held-not}

word-at : (places last index : ℕ) → index < places → get_elem? {A = ℕ} (replicate places 1 ++ last ∷ []) index ≡ some 1
word-at zero last index below = absurd (omega arith)
word-at (suc places) last zero below = refl
word-at (suc places) last (suc index) below = word-at places last index (omega arith)

count-at : (places last : ℕ) → get_or {A = ℕ} (replicate places 1 ++ last ∷ []) places 0 ≡ last
count-at zero last = refl
count-at (suc places) last = count-at places last

words-long : (places last : ℕ) → length {A = ℕ} (replicate places 1 ++ last ∷ []) ≡ places + 1
words-long zero last = refl
words-long (suc places) last = let rest = words-long places last in omega arith

module _ {A : Type 0} where
  homes-long : (items : List A) → length {A = Option A} (map some items) ≡ length items
  homes-long [] = refl
  homes-long (item ∷ items) = ap suc (homes-long items)

  homes-in : (items : List A) → total is_in (map some items) ≡ length items
  homes-in [] = refl
  homes-in (item ∷ items) = let rest = homes-in items in omega arith

  home-at : (items : List A) (index : ℕ) (unknown : A) → index < length items → get_elem? (map some items) index ≡ some (some (get_or items index unknown))
  home-at [] index unknown below = absurd (omega arith)
  home-at (item ∷ items) zero unknown below = refl
  home-at (item ∷ items) (suc index) unknown below = home-at items index unknown (omega arith)

module _ {T K : Type 0} (belongs : T → Type 0) (key : K) where
  first-only : (seat : ℕ) (v : View K) → get_elem? (coming key ∷ []) seat ≡ some v → coming key ≡ v
  first-only zero v is = some-injective (coming key) v is
  first-only (suc seat) v is = absurd (some-ne-none v (sym is))

  first-holds-not : (seat index : ℕ) (v : View K) → get_elem? (coming key ∷ []) seat ≡ some v → v.part ≡ Holding index → ⊥
  first-holds-not seat index v is holds = held-not Coming index refl (ap (λ (u : View K). u.part) (first-only seat v is) ∙ holds)

  pub opens : (words : List ℕ) (items : List (Maybe T)) (places : ℕ) → words ≡ replicate places 1 ++ places ∷ [] → length items ≡ places
      → All (IsRest belongs) items → IsPool belongs (opening words items (coming key))
  opens words items places are long rest =
      subst (λ (l : List ℕ). IsPool belongs (opening l items (coming key))) (sym are)
      (subst (λ n. IsPool belongs (opening (replicate n 1 ++ n ∷ []) items (coming key))) long (
        record {
          wide = words-long (length items) (length items) ∙ ap (λ n. n + 1) (sym (homes-long items));
          all =
              (let count = ap (λ n. get_or {A = ℕ} (replicate (length items) 1 ++ length items ∷ []) n 0) (homes-long items) ∙ count-at (length items) (length items) in
              let size = homes-long items in omega (arith, count, size));
          within =
              (let count = ap (λ n. get_or {A = ℕ} (replicate (length items) 1 ++ length items ∷ []) n 0) (homes-long items) ∙ count-at (length items) (length items) in
              let size = homes-in items in omega (arith, count, size));
          rests = λ index below is.
              (let inside : index < length items = (let size = homes-long items in omega (arith, below, size)) in
              let here = rest index None inside in
              (here.0, home-at items index None inside ∙ ap (λ (x : Maybe T). some (some x)) here.1, here.2));
          shown = λ index inside is.
              word-at (length items) (length items) index
              (let below = found-within (map some items) index (some inside) is in let size = homes-long items in omega (arith, below, size));
          gone = λ seat index v is holds. absurd (first-holds-not seat index v is holds);
          apart = λ one other index v w is also holds held. absurd (first-holds-not one index v is holds);
        },
        record {
          history = [];
          legal = tt;
          sums =
              (let count = ap (λ n. get_or {A = ℕ} (replicate (length items) 1 ++ length items ∷ []) n 0) (homes-long items) ∙ count-at (length items) (length items) in
              let size = homes-long items in omega (arith, count, size));
          parts = λ seat v is. ap (λ (u : View K). part_by u.part) (first-only seat v is);
          fresh = λ seat beyond. refl;
        },
      ))

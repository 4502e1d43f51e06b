-- What keeps the history of a pool: a step that is no event, and one that is.
use Rattle.std.proofs.Common.{◌≡◌, ◌≢◌, ℕ, zero, suc, ◌+◌, ◌⊎◌, ◌==◌, true, false, List, [], ◌∷◌, ◌++◌, length, get_or, Option as Maybe, Some, None, refl, sym, ap, subst, ◌∙◌, arith, inl, inr}
use Rattle.std.proofs.Math.ListN.{set, length-set}
use Rattle.std.proofs.lemmas.Bool.Decides.{nat_tests}
use mathlib.Core.Option.{Option, some, some-injective, some-ne-none}
use lib.ListN.{get_elem?}
use Rattle.atomic_table.specs.Table.{State}
use Rattle.atomic_table.proofs.Lists.{at_set}
use Rattle.saa_word_pool.specs.declared.table.Part.{Part}
use Rattle.saa_word_pool.specs.declared.table.View.{View}
use Rattle.saa_word_pool.specs.History.{Event, IsAllowed, IsHistory, out_after, out_then, part_of}
use Rattle.saa_word_pool.specs.Kept.{Recorded, at_part, part_by}
use Rattle.saa_word_pool.proofs.Totals.{found-within}

-- a history with what a call did, if that is an event
abbrev pub history_with : ℕ → Maybe Event → List (ℕ × Event) → List (ℕ × Event)
history_with seat None history = history
history_with seat (Some event) history = (seat, event) ∷ history

abbrev pub part_with : Maybe Event → List Event → List Event
part_with None part = part
part_with (Some event) part = event ∷ part

abbrev pub out_with : Maybe Event → ℕ → ℕ
out_with None out = out
out_with (Some event) out = out_then event out

abbrev pub MayBe : ℕ → ℕ → Maybe Event → Type 0
MayBe places out None = Unit {0}
MayBe places out (Some event) = IsAllowed places out event

number-same : (n : ℕ) → n == n ≡ true
number-same n = grind (arith, nat_tests)

number-other : (m n : ℕ) → m ≢ n → m == n ≡ false
number-other m n h = grind (arith, nat_tests)

part-own : (seat : ℕ) (done : Maybe Event) (history : List (ℕ × Event)) → part_of seat (history_with seat done history) ≡ part_with done (part_of seat history)
part-own seat None history = refl
part-own seat (Some event) history = rw (number-same seat) refl

part-else : (seat other : ℕ) (done : Maybe Event) (history : List (ℕ × Event)) → seat ≢ other → part_of other (history_with seat done history) ≡ part_of other history
part-else seat other None history apart = refl
part-else seat other (Some event) history apart = rw (number-other seat other apart) refl

legal-with : (places seat : ℕ) (done : Maybe Event) (history : List (ℕ × Event)) → IsHistory places history → MayBe places (out_after history) done
    → IsHistory places (history_with seat done history)
legal-with places seat None history legal may = legal
legal-with places seat (Some event) history legal may = (may, legal)

out-with : (seat : ℕ) (done : Maybe Event) (history : List (ℕ × Event)) → out_after (history_with seat done history) ≡ out_with done (out_after history)
out-with seat None history = refl
out-with seat (Some event) history = refl

longer-by-one : {A : Type 0} (items : List A) (item : A) → length (items ++ item ∷ []) ≡ suc (length items)
longer-by-one [] item = refl
longer-by-one (first ∷ items) item = ap suc (longer-by-one items item)

snoc-where : {A : Type 0} (items : List A) (item found : A) (index : ℕ) → get_elem? (items ++ item ∷ []) index ≡ some found
    → (get_elem? items index ≡ some found) ⊎ ((index ≡ length items) × (item ≡ found))
snoc-where [] item found zero is = inr (refl, some-injective item found is)
snoc-where [] item found (suc index) is = absurd (some-ne-none found (sym is))
snoc-where (first ∷ items) item found zero is = inl is
snoc-where (first ∷ items) item found (suc index) is =
    elim (snoc-where items item found index is) [
      | inl there ↦ inl there
      | inr last ↦ inr (ap suc last.0, last.1)
    ]

module _ {T K : Type 0} (s : State (Maybe T) (View K)) (recorded : Recorded s) (words : List ℕ) (homes : List (Option (Maybe T)))
    (long : length homes ≡ length s.homes) (done : Maybe Event) (may : MayBe (length s.homes) (out_after recorded.history) done)
    (sums : get_or words (length homes) 0 + out_with done (out_after recorded.history) ≡ length homes) where
  -- a call that is there goes on
  pub goes-on : (id : ℕ) (key : K) (was is : Part) → get_elem? s.views id ≡ some (at_part key was) → part_by is ≡ part_with done (part_by was)
      → Recorded {T = T} {K = K} (record { words = words; homes = homes; views = set s.views id (at_part key is) })
  goes-on id key was is at part = record {
    history = history_with id done recorded.history;
    legal = subst (λ n. IsHistory n (history_with id done recorded.history)) (sym long) (legal-with (length s.homes) id done recorded.history recorded.legal may);
    sums = ap (λ n. get_or words (length homes) 0 + n) (out-with id done recorded.history) ∙ sums;
    parts = λ seat v found.
        elim (at_set s.views id seat (at_part key is) v found) [
          | inl own ↦
              ap (λ n. part_of n (history_with id done recorded.history)) own.0 ∙ part-own id done recorded.history
              ∙ ap (part_with done) (recorded.parts id (at_part key was) at) ∙ sym part ∙ ap (λ (u : View K). part_by u.part) own.1
          | inr other ↦ part-else id seat done recorded.history (λ e. other.0 (sym e)) ∙ recorded.parts seat v other.1
        ];
    fresh = λ seat beyond.
        let size = length-set s.views id (at_part key is) in
        let here = found-within s.views id (at_part key was) at in
        part-else id seat done recorded.history (λ e. omega (arith, beyond, size, here, e)) ∙ recorded.fresh seat (omega (arith, beyond, size));
  }

  -- a call comes
  pub comes : (key : K) (is : Part) → part_by is ≡ part_with done []
      → Recorded {T = T} {K = K} (record { words = words; homes = homes; views = s.views ++ at_part key is ∷ [] })
  comes key is part = record {
    history = history_with (length s.views) done recorded.history;
    legal =
        subst (λ n. IsHistory n (history_with (length s.views) done recorded.history)) (sym long)
        (legal-with (length s.homes) (length s.views) done recorded.history recorded.legal may);
    sums = ap (λ n. get_or words (length homes) 0 + n) (out-with (length s.views) done recorded.history) ∙ sums;
    parts = λ seat v found.
        elim (snoc-where s.views (at_part key is) v seat found) [
          | inl there ↦
              (let here = found-within s.views seat v there in
              part-else (length s.views) seat done recorded.history (λ e. omega (arith, here, e)) ∙ recorded.parts seat v there)
          | inr own ↦
              ap (λ n. part_of n (history_with (length s.views) done recorded.history)) own.0 ∙ part-own (length s.views) done recorded.history
              ∙ ap (part_with done) (recorded.fresh (length s.views) (omega arith)) ∙ sym part ∙ ap (λ (u : View K). part_by u.part) own.1
        ];
    fresh = λ seat beyond.
        let size = longer-by-one s.views (at_part key is) in
        part-else (length s.views) seat done recorded.history (λ e. omega (arith, beyond, size, e)) ∙ recorded.fresh seat (omega (arith, beyond, size));
  }

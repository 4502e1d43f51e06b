-- Each step of a call keeps the pool, and tells what it tells.
use Rattle.std.proofs.Common.{◌≡◌, ◌≢◌, ℕ, zero, suc, ◌+◌, ◌^◌, ◌%◌, ◌<◌, ◌⊎◌, ◌==◌, Bool, true, false, List, [], ◌∷◌, ◌++◌, length, get_or, Option as Maybe, Some, None, refl, sym, ap, subst, ◌∙◌, arith, inl, inr}
use Rattle.std.proofs.Math.ListN.{set, length-set}
use Rattle.std.proofs.lemmas.List.{get_or-set_same, get_or-set_other}
use Rattle.std.proofs.lemmas.Bool.Decides.{nat_tests}
use mathlib.Core.Option.{Option, none, some}
use lib.ListN.{get_elem?}
use prog.Atomic.{either}
use Rattle.atomic_table.specs.Table.{Act, Valid, carried_after, stepped, Allows, Enters, Me, State, gives, keeps, rest, takes}
use Rattle.atomic_table.proofs.Lists.{at_set, at_snoc, set_again}
use Rattle.saa_word_pool.specs.declared.table.Part.{Part}
use Rattle.saa_word_pool.specs.declared.table.Part.TheVariants.{Coming, Reserved, Holding, Returning, Returned}
use Rattle.saa_word_pool.specs.declared.table.View.{View}
use Rattle.saa_word_pool.specs.History.{Event, gave, out_after, refused, took}
use Rattle.saa_word_pool.specs.Kept.{IsPool, Recorded, part_by, HasCounted, HasCountedBack, HasLooked, HasPutBack, HasTaken, Kept, at_part, is_due, is_due_by, is_out, is_out_by, looked}
use Rattle.saa_word_pool.proofs.Totals.{cases_eq, number-stands, total-holds, total-more, total-set}
use Rattle.saa_word_pool.proofs.Recording.{MayBe, comes, goes-on, out_with, part_with}
use Rattle.saa_word_pool.proofs.Keeping.{held-not, is_held, missed, recounted, returned, taken}

looked-free : (found : ℕ) → is_held (looked found) ≡ false
looked-free zero = refl
looked-free (suc found) = refl

looked-out : (found : ℕ) → is_out_by (looked found) ≡ 0
looked-out zero = refl
looked-out (suc found) = refl

looked-due : (found : ℕ) → is_due_by (looked found) ≡ 0
looked-due zero = refl
looked-due (suc found) = refl

-- what a call does that looks at the count: it is refused where that is 0
abbrev pub looking : ℕ → Maybe Event
looking zero = Some refused
looking (suc found) = None

looking-part : (found : ℕ) → part_by (looked found) ≡ part_with (looking found) []
looking-part zero = refl
looking-part (suc found) = refl

looking-may : (places found out : ℕ) → found + out ≡ places → MayBe places out (looking found)
looking-may places zero out sums = omega (arith, sums)
looking-may places (suc found) out sums = tt

looking-out : (found out : ℕ) → out_with (looking found) out ≡ out
looking-out zero out = refl
looking-out (suc found) out = refl

module _ {T K : Type 0} (belongs : T → Type 0) (s : State (Maybe T) (View K)) (kept : Kept belongs s) where
  abbrev count : ℕ
  count = get_or s.words (length s.homes) 0

  -- the count that is written is the one that was there
  same-count : set s.words (length s.homes) count ≡ s.words
  same-count = set_again s.words (length s.homes) count (number-stands s.words (length s.homes) count (let wide = kept.wide in omega arith) refl)

  -- A call comes that holds nothing
  entered : (key : K) (part : Part) → is_held part ≡ false → is_out_by part ≡ 0 → is_due_by part ≡ 0
      → Kept belongs (record { words = s.words; homes = s.homes; views = s.views ++ at_part key part ∷ [] })
  entered key part free out due =
      let outs = total-more is_out s.views (at_part key part) in
      let dues = total-more is_due s.views (at_part key part) in
      let all = kept.all in
      let within = kept.within in
      subst (λ (l : List ℕ). Kept belongs (record { words = l; homes = s.homes; views = s.views ++ at_part key part ∷ [] })) same-count
      (recounted belongs s kept count (s.views ++ at_part key part ∷ []) (omega (arith, outs, all, out)) (omega (arith, dues, within, due))
      (λ seat index v is holds.
      elim (at_snoc s.views (at_part key part) v seat is) [
        | inl was ↦ was
        | inr own ↦ absurd (held-not v.part index (ap (λ (u : View K). is_held u.part) (sym own) ∙ free) holds)
      ]))

  -- A call that holds nothing changes the count by what it has out and due
  changed : (id : ℕ) (key : K) (was is : Part) (number : ℕ) → get_elem? s.views id ≡ some (at_part key was) → is_held is ≡ false
      → number + is_out_by is ≡ count + is_out_by was → number + is_due_by is ≡ count + is_due_by was
      → Kept belongs (record { words = set s.words (length s.homes) number; homes = s.homes; views = set s.views id (at_part key is) })
  changed id key was is number at free out due =
      let outs = total-set is_out s.views id (at_part key was) (at_part key is) at in
      let dues = total-set is_due s.views id (at_part key was) (at_part key is) at in
      let all = kept.all in
      let within = kept.within in
      recounted belongs s kept number (set s.views id (at_part key is)) (omega (arith, outs, all, out)) (omega (arith, dues, within, due))
      (λ seat index v now holds.
      elim (at_set s.views id seat (at_part key is) v now) [
        | inl own ↦ absurd (held-not v.part index (ap (λ (u : View K). is_held u.part) (sym own.1) ∙ free) holds)
        | inr other ↦ other.1
      ])

-- A call comes, and looks at the count
pub looks : {T K : Type 0} (belongs : T → Type 0) (key : K) (slots word : ℕ) → word ≡ slots
    → Enters {S = Maybe T} {V = View K} (IsPool belongs) slots word (λ found v. HasLooked {T = T} key found (v, []))
looks {T = T} {K = K} belongs key slots word is = λ s pool sized small.
    let found : ℕ = get_or s.words word 0 in
    let found_is : found ≡ get_or s.words (length s.homes) 0 = ap (λ n. get_or s.words n 0) (is ∙ sym sized) in
    let sums : found + out_after pool.1.history ≡ length s.homes = ap (λ n. n + out_after pool.1.history) found_is ∙ pool.1.sums in (
      at_part key (looked found),
      (
        entered belongs s pool.0 key (looked found) (looked-free found) (looked-out found) (looked-due found),
        comes s pool.1 s.words s.homes refl (looking found) (looking-may (length s.homes) found (out_after pool.1.history) sums)
            (ap (λ n. get_or s.words (length s.homes) 0 + n) (looking-out found (out_after pool.1.history)) ∙ pool.1.sums) key (looked found) (looking-part found),
      ),
      (refl, refl),
    )

module _ {T K : Type 0} (belongs : T → Type 0) (s : State (Maybe T) (View K)) (pool : IsPool belongs s) where
  -- a call that is there changes the count, and did so
  counting : (id : ℕ) (key : K) (was is : Part) (number : ℕ) (done : Maybe Event) → get_elem? s.views id ≡ some (at_part key was) → is_held is ≡ false
      → number + is_out_by is ≡ get_or s.words (length s.homes) 0 + is_out_by was → number + is_due_by is ≡ get_or s.words (length s.homes) 0 + is_due_by was
      → MayBe (length s.homes) (out_after pool.1.history) done → number + out_with done (out_after pool.1.history) ≡ length s.homes
      → part_by is ≡ part_with done (part_by was)
      → IsPool belongs (record { words = set s.words (length s.homes) number; homes = s.homes; views = set s.views id (at_part key is) })
  counting id key was is number done at free out due may sums part = (
    changed belongs s pool.0 id key was is number at free out due,
    goes-on s pool.1 (set s.words (length s.homes) number) s.homes refl done may
        (ap (λ n. n + out_with done (out_after pool.1.history))
        (get_or-set_same s.words (length s.homes) number 0 (let wide = pool.0.wide in omega arith)) ∙ sums) id key was is at part,
  )

  -- a call that is there changes a slot, which is no event
  moving : (id : ℕ) (key : K) (was is : Part) (slot number : ℕ) (homes : List (Option (Maybe T))) → get_elem? s.views id ≡ some (at_part key was)
      → slot < length s.homes → length homes ≡ length s.homes → part_by is ≡ part_by was
      → Recorded {T = T} {K = K} (record { words = set s.words slot number; homes = homes; views = set s.views id (at_part key is) })
  moving id key was is slot number homes at below long part =
      goes-on s pool.1 (set s.words slot number) homes long None tt
      (ap (λ n. get_or (set s.words slot number) n 0 + out_after pool.1.history) long
      ∙ ap (λ n. n + out_after pool.1.history) (get_or-set_other s.words slot (length s.homes) number 0 (λ e. omega (arith, below, e)))
      ∙ pool.1.sums ∙ sym long) id key was is at part

  -- while a call has a value out, some value is out
  some-out : (id : ℕ) (key : K) (part : Part) → get_elem? s.views id ≡ some (at_part key part) → is_out_by part ≡ 1 → 0 < out_after pool.1.history
  some-out id key part at out =
      let one = total-holds is_out s.views id (at_part key part) at in
      let all = pool.0.all in
      let sums = pool.1.sums in omega (arith, one, all, sums, out)

module _ {T K : Type 0} (belongs : T → Type 0) (key : K) where
  -- A call that looked takes one from the count, if that is what it has seen
  counts-at : (word id seen new found : ℕ) (s : State (Maybe T) (View K)) (pool : IsPool belongs s) → word ≡ length s.homes
      → found ≡ get_or s.words (length s.homes) 0 → get_elem? s.views id ≡ some (at_part key Coming) → 0 < seen → new + 1 ≡ seen → (test : Bool)
      → found == seen ≡ test
      → (w : View K) × IsPool belongs (record { words = set s.words word (either test new found); homes = s.homes; views = set s.views id w })
      × HasCounted {T = T} key seen found (w, [])
  counts-at word id seen new found s pool is found_is at some_in less true hit =
      let same : found ≡ seen = grind (arith, nat_tests, hit) in
      let sums = pool.1.sums in (
        at_part key Reserved,
        subst (λ n. IsPool belongs (record { words = set s.words n new; homes = s.homes; views = set s.views id (at_part key Reserved) })) (sym is)
            (counting belongs s pool id key Coming Reserved new (Some took) at refl (omega (arith, same, found_is, less)) (omega (arith, same, found_is, less))
            (omega (arith, same, found_is, sums, some_in)) (omega (arith, same, found_is, sums, less)) refl),
        (rw hit refl, refl),
      )
  counts-at word id seen new found s pool is found_is at some_in less false miss =
      let sums : found + out_after pool.1.history ≡ length s.homes = ap (λ n. n + out_after pool.1.history) found_is ∙ pool.1.sums in
      let out = looked-out found in
      let due = looked-due found in (
        at_part key (looked found),
        subst (λ n. IsPool belongs (record { words = set s.words n found; homes = s.homes; views = set s.views id (at_part key (looked found)) })) (sym is)
            (counting belongs s pool id key Coming (looked found) found (looking found) at (looked-free found) (omega (arith, out, found_is))
            (omega (arith, due, found_is)) (looking-may (length s.homes) found (out_after pool.1.history) sums)
            (ap (λ n. found + n) (looking-out found (out_after pool.1.history)) ∙ sums) (looking-part found)),
        (rw miss refl, refl),
      )

  pub counts : (slots word id seen new : ℕ) (me : Me (Maybe T) (View K)) → me ≡ (at_part key Coming, []) → word ≡ slots → 0 < seen → new + 1 ≡ seen
      → Allows (IsPool belongs) slots id me word (λ n. either (n == seen) new n) (λ found after. HasCounted me.0.key seen found after)
  counts slots word id seen new me is at some_in less =
      subst (λ (m : Me (Maybe T) (View K)). Allows (IsPool belongs) slots id m word (λ n. either (n == seen) new n) (λ found after. HasCounted m.0.key seen found after))
      (sym is)
      (λ s pool sized there small.
      let found : ℕ = get_or s.words word 0 in
      let here : word ≡ length s.homes = at ∙ sym sized in
      let step = counts-at word id seen new found s pool here (ap (λ n. get_or s.words n 0) here) there some_in less (found == seen) refl in
      (step.0, keeps, tt, step.1, step.2))

  -- A value that is in its slot again is counted
  pub counts-back : (slots word id : ℕ) (me : Me (Maybe T) (View K)) → me ≡ (at_part key Returning, []) → word ≡ slots → slots < 65536
      → Allows (IsPool belongs) slots id me word (λ n. (n + 1) % 2 ^ 64) (λ found after. HasCountedBack me.0.key after)
  counts-back slots word id me is at bounded =
      subst (λ (m : Me (Maybe T) (View K)). Allows (IsPool belongs) slots id m word (λ n. (n + 1) % 2 ^ 64) (λ found after. HasCountedBack m.0.key after)) (sym is)
      (λ s pool sized there small.
      let found : ℕ = get_or s.words word 0 in
      let here : word ≡ length s.homes = at ∙ sym sized in
      let found_is : found ≡ get_or s.words (length s.homes) 0 = ap (λ n. get_or s.words n 0) here in
      let sums = pool.1.sums in
      let low : found + 1 < 2 ^ 64 = omega (arith, found_is, sums, bounded, sized) in
      let fits : (found + 1) % 2 ^ 64 ≡ found + 1 = grind (arith, low) in
      let out = some-out belongs s pool id key Returning there refl in (
        at_part key Returned,
        keeps,
        tt,
        subst (λ n. IsPool belongs (record { words = set s.words word n; homes = s.homes; views = set s.views id (at_part key Returned) })) (sym fits)
            (subst (λ n. IsPool belongs (record { words = set s.words n (found + 1); homes = s.homes; views = set s.views id (at_part key Returned) })) (sym here)
            (counting belongs s pool id key Returning Returned (found + 1) (Some gave) there refl (omega (arith, found_is)) (omega (arith, found_is)) out
            (omega (arith, found_is, sums, out)) refl)),
        (refl, refl),
      ))

  -- A value is put back into its slot
  pub puts-back : (slots id slot : ℕ) (value : T) (me : Me (Maybe T) (View K)) → me ≡ (at_part key (Holding slot), (slot, Some value) ∷ []) → slot < slots
      → belongs value → Allows (IsPool belongs) slots id me slot (λ n. 1) (λ found after. HasPutBack me.0.key after)
  puts-back slots id slot value me is below fits =
      subst (λ (m : Me (Maybe T) (View K)). Allows (IsPool belongs) slots id m slot (λ n. 1) (λ found after. HasPutBack m.0.key after)) (sym is)
      (λ s pool sized there small.
      let inside : slot < length s.homes = omega (arith, below, sized) in (
        at_part key Returning,
        gives,
        tt,
        (
          returned belongs s pool.0 id key slot there value inside fits,
          moving belongs s pool id key (Holding slot) Returning slot 1 (set s.homes slot (some (Some value))) there inside
              (length-set s.homes slot (some (Some value))) refl,
        ),
        (refl, refl),
      ))

-- A call that has reserved one takes what rests in a slot
module _ {T K : Type 0} (belongs : K → T → Type 0) (key : K) where
  takes-at : (id slot found : ℕ) (s : State (Maybe T) (View K)) → IsPool (belongs key) s → slot < length s.homes → found ≡ get_or s.words slot 0
      → get_elem? s.views id ≡ some (at_part key Reserved) → (found ≡ 1) ⊎ (found ≢ 1)
      → (w : View K) × (a : Act (Maybe T)) × Valid s.homes [] a × IsPool (belongs key) (stepped s slot 0 id [] w a)
      × HasTaken belongs (at_part key Reserved, []) slot found (w, carried_after [] a)
  takes-at id slot found s pool below found_is there (inl one) =
      let wide = pool.0.wide in
      let rest = pool.0.rests slot below (number-stands s.words slot 1 (omega arith) (sym found_is ∙ one)) in (
        at_part key (Holding slot),
        takes slot (Some rest.0),
        rest.1,
        (
          taken (belongs key) s pool.0 id key there slot rest.0 below rest.1,
          moving (belongs key) s pool id key Reserved (Holding slot) slot 0 (set s.homes slot none) there below (length-set s.homes slot none) refl,
        ),
        ((λ same. (refl, (rest.0, refl, rest.2))), (λ other. absurd (other one))),
      )
  takes-at id slot found s pool below found_is there (inr other) = (
    at_part key Reserved,
    keeps,
    tt,
    (
      subst (λ (l : List (View K)). Kept (belongs key) (record { words = set s.words slot 0; homes = s.homes; views = l }))
          (sym (set_again s.views id (at_part key Reserved) there)) (missed (belongs key) s pool.0 slot below (λ one. other (found_is ∙ one))),
      moving (belongs key) s pool id key Reserved Reserved slot 0 s.homes there below refl refl,
    ),
    ((λ one. absurd (other one)), (λ also. refl)),
  )

  pub takes-out : (slots id slot : ℕ) (me : Me (Maybe T) (View K)) → me ≡ (at_part key Reserved, []) → slot < slots
      → Allows (IsPool (belongs key)) slots id me slot (λ n. 0) (λ found after. HasTaken belongs me slot found after)
  takes-out slots id slot me is below =
      subst (λ (m : Me (Maybe T) (View K)). Allows (IsPool (belongs key)) slots id m slot (λ n. 0) (λ found after. HasTaken belongs m slot found after)) (sym is)
      (λ s pool sized there small.
      let found : ℕ = get_or s.words slot 0 in takes-at id slot found s pool (omega (arith, below, sized)) refl there (cases_eq found 1))

-- who found 1 in a slot carries what was in it
pub carries-one : {T K : Type 0} (belongs : K → T → Type 0) (before after : Me (Maybe T) (View K)) (index found : ℕ) → HasTaken belongs before index found after
    → found ≡ 1 → (inside : Maybe T) × (after.1 ≡ (index, inside) ∷ rest after.1)
carries-one {T = T} belongs before after index found taken one =
    let here = (taken.0 one).1 in
    (Some here.0, here.1 ∙ ap (λ (l : List (ℕ × Maybe T)). (index, Some here.0) ∷ l) (sym (ap rest here.1)))

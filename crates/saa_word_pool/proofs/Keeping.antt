-- What keeps a pool: a change of the count, and a change of one slot.
use Rattle.std.proofs.Common.{◌≡◌, ◌≢◌, ℕ, ◌+◌, ◌<◌, Bool, true, false, List, length, get_or, Option as Maybe, Some, refl, sym, ap, subst, ◌∙◌, arith, inl, inr}
use Rattle.std.proofs.Math.ListN.{set, length-set}
use Rattle.std.proofs.lemmas.List.{get_or-set_same, get_or-set_other}
use mathlib.Core.Option.{Option, none, some, some-injective, some-ne-none}
use lib.ListN.{get_elem?}
use Rattle.atomic_table.specs.Table.{State}
use Rattle.atomic_table.proofs.Lists.{at_set, set_else, set_here}
use Rattle.saa_word_pool.specs.declared.table.Part.{Part}
use Rattle.saa_word_pool.specs.declared.table.Part.TheVariants.{Reserved, Holding, Returning}
use Rattle.saa_word_pool.specs.declared.table.View.{View}
use Rattle.saa_word_pool.specs.Kept.{Kept, at_part, is_due, is_in, is_out, total}
use Rattle.saa_word_pool.proofs.Totals.{cases_eq, found-number, found-within, total-set}

-- whether a call holds a slot, and which
abbrev pub is_held : Part → Bool
is_held (Holding index) = true
is_held part = false

abbrev pub slot_of : Part → ℕ
slot_of (Holding index) = index
slot_of part = 0

pub held-not : (part : Part) (index : ℕ) → is_held part ≡ false → part ≡ Holding index → ⊥
held-not part index free held = let wrong : true ≡ false = sym (ap is_held held) ∙ free in absurd (cc)

-- a slot isn't both out and at home
pub never-both : {A : Type 0} (value : A) → ◌≡◌ {A = Option (Option A)} (some none) (some (some value)) → ⊥
never-both value both = some-ne-none value (sym (some-injective none (some value) both))

module _ {T K : Type 0} (belongs : T → Type 0) (s : State (Maybe T) (View K)) (kept : Kept belongs s) where
  abbrev count : ℕ
  count = get_or s.words (length s.homes) 0

  counted-there : length s.homes < length s.words
  counted-there = let wide = kept.wide in omega arith

  -- The count changes, and no call takes or leaves a slot
  pub recounted : (number : ℕ) (views : List (View K)) → number + total is_out views ≡ length s.homes
      → number + total is_due views ≡ total is_in s.homes
      → ((seat index : ℕ) (v : View K) → get_elem? views seat ≡ some v → v.part ≡ Holding index → get_elem? s.views seat ≡ some v)
      → Kept belongs (record { words = set s.words (length s.homes) number; homes = s.homes; views = views })
  recounted number views all within same = record {
    wide = length-set s.words (length s.homes) number ∙ kept.wide;
    all = ap (λ n. n + total is_out views) (get_or-set_same s.words (length s.homes) number 0 counted-there) ∙ all;
    within = ap (λ n. n + total is_due views) (get_or-set_same s.words (length s.homes) number 0 counted-there) ∙ within;
    rests = λ index inside is.
        elim (at_set s.words (length s.homes) index number 1 is) [
          | inl own ↦ absurd (let here = own.0 in omega (arith, inside, here))
          | inr other ↦ kept.rests index inside other.1
        ];
    shown = λ index inside is.
        let apart : index ≢ length s.homes = λ e. (let below = found-within s.homes index (some inside) is in omega (arith, below, e)) in
        set_else s.words (length s.homes) index number apart ∙ kept.shown index inside is;
    gone = λ seat index v is holds. kept.gone seat index v (same seat index v is holds) holds;
    apart = λ one other index v w is also holds held. kept.apart one other index v w (same one index v is holds) (same other index w also held) holds held;
  }

  -- a slot changes, with its word
  module _ (slot : ℕ) (below : slot < length s.homes) (number : ℕ) (after : List (Option (Maybe T))) (views : List (View K)) where
    apart-count : length s.homes ≢ slot
    apart-count e = omega (arith, below, e)

    pub slot-changed : length after ≡ length s.homes → ((other : ℕ) → other ≢ slot → get_elem? after other ≡ get_elem? s.homes other)
        → count + total is_out views ≡ length s.homes → count + total is_due views ≡ total is_in after
        → (number ≡ 1 → (value : T) × (get_elem? after slot ≡ some (some (Some value))) × belongs value)
        → ((inside : Maybe T) → get_elem? after slot ≡ some (some inside) → number ≡ 1)
        → ((seat index : ℕ) (v : View K) → get_elem? views seat ≡ some v → v.part ≡ Holding index → get_elem? after index ≡ some none)
        → ((one other index : ℕ) (v w : View K) → get_elem? views one ≡ some v → get_elem? views other ≡ some w → v.part ≡ Holding index → w.part ≡ Holding index
        → one ≡ other)
        → Kept belongs (record { words = set s.words slot number; homes = after; views = views })
    slot-changed long same all within rests shown gone apart = record {
      wide = length-set s.words slot number ∙ kept.wide ∙ ap (λ n. n + 1) (sym long);
      all =
          ap (λ n. get_or (set s.words slot number) n 0 + total is_out views) long
          ∙ ap (λ n. n + total is_out views) (get_or-set_other s.words slot (length s.homes) number 0 apart-count) ∙ all ∙ sym long;
      within =
          ap (λ n. get_or (set s.words slot number) n 0 + total is_due views) long
          ∙ ap (λ n. n + total is_due views) (get_or-set_other s.words slot (length s.homes) number 0 apart-count) ∙ within;
      rests = λ index inside is.
          elim (at_set s.words slot index number 1 is) [
            | inl own ↦
                (let here = rests own.1 in (here.0, ap (get_elem? after) own.0 ∙ here.1, here.2))
            | inr other ↦
                (let was = kept.rests index (subst (λ n. index < n) long inside) other.1 in (was.0, same index other.0 ∙ was.1, was.2))
          ];
      shown = λ index inside is.
          elim (cases_eq index slot) [
            | inl here ↦
                ap (get_elem? (set s.words slot number)) here
                ∙ set_here s.words slot number (let wide = kept.wide in omega (arith, below, wide))
                ∙ ap some (shown inside (ap (get_elem? after) (sym here) ∙ is))
            | inr other ↦ set_else s.words slot index number other ∙ kept.shown index inside (sym (same index other) ∙ is)
          ];
      gone = gone;
      apart = apart;
    }

  -- A call that has reserved one takes what rests in a slot
  module _ (id : ℕ) (key : K) (reserved : get_elem? s.views id ≡ some (at_part key Reserved)) (slot : ℕ) (value : T)
      (below : slot < length s.homes) (here : get_elem? s.homes slot ≡ some (some (Some value))) where
    abbrev taking : List (View K)
    taking = set s.views id (at_part key (Holding slot))

    taken-elsewhere : (seat index : ℕ) (v : View K) → get_elem? s.views seat ≡ some v → v.part ≡ Holding index → index ≢ slot
    taken-elsewhere seat index v is holds e =
        never-both (Some value) (sym (kept.gone seat index v is holds) ∙ ap (get_elem? s.homes) e ∙ here)

    taken-gone : (seat index : ℕ) (v : View K) → get_elem? taking seat ≡ some v → v.part ≡ Holding index → get_elem? (set s.homes slot none) index ≡ some none
    taken-gone seat index v is holds =
        elim (at_set s.views id seat (at_part key (Holding slot)) v is) [
          | inl own ↦
              (let slot_is : slot ≡ index = ap (λ (u : View K). slot_of u.part) own.1 ∙ ap slot_of holds in
              ap (get_elem? (set s.homes slot none)) (sym slot_is) ∙ set_here s.homes slot none below)
          | inr other ↦ set_else s.homes slot index none (taken-elsewhere seat index v other.1 holds) ∙ kept.gone seat index v other.1 holds
        ]

    taken-apart : (one other index : ℕ) (v w : View K) → get_elem? taking one ≡ some v → get_elem? taking other ≡ some w → v.part ≡ Holding index
        → w.part ≡ Holding index → one ≡ other
    taken-apart one other index v w is also holds held =
        elim (at_set s.views id one (at_part key (Holding slot)) v is) [
          | inl own ↦
              (let slot_is : slot ≡ index = ap (λ (u : View K). slot_of u.part) own.1 ∙ ap slot_of holds in
              elim (at_set s.views id other (at_part key (Holding slot)) w also) [
                | inl same ↦ own.0 ∙ sym same.0
                | inr apart ↦ absurd (taken-elsewhere other index w apart.1 held (sym slot_is))
              ])
          | inr else_one ↦
              elim (at_set s.views id other (at_part key (Holding slot)) w also) [
                | inl same ↦
                    (let slot_is : slot ≡ index = ap (λ (u : View K). slot_of u.part) same.1 ∙ ap slot_of held in
                    absurd (taken-elsewhere one index v else_one.1 holds (sym slot_is)))
                | inr apart ↦ kept.apart one other index v w else_one.1 apart.1 holds held
              ]
        ]

    pub taken : Kept belongs (record { words = set s.words slot 0; homes = set s.homes slot none; views = taking })
    taken =
        let outs = total-set is_out s.views id (at_part key Reserved) (at_part key (Holding slot)) reserved in
        let dues = total-set is_due s.views id (at_part key Reserved) (at_part key (Holding slot)) reserved in
        let ins = total-set is_in s.homes slot (some (Some value)) none here in
        let all = kept.all in
        let within = kept.within in
        slot-changed slot below 0 (set s.homes slot none) taking (length-set s.homes slot none) (λ other apart. set_else s.homes slot other none apart)
        (omega (arith, outs, all)) (omega (arith, dues, ins, within))
        (λ wrong. absurd (omega (arith, wrong)))
        (λ inside is. absurd (never-both inside (sym (set_here s.homes slot none below) ∙ is)))
        taken-gone taken-apart

  -- A call finds nothing in a slot, and leaves the word as it was
  pub missed : (slot : ℕ) → slot < length s.homes → get_or s.words slot 0 ≢ 1
      → Kept belongs (record { words = set s.words slot 0; homes = s.homes; views = s.views })
  missed slot below another =
      slot-changed slot below 0 s.homes s.views refl (λ other apart. refl) kept.all kept.within (λ wrong. absurd (omega (arith, wrong)))
      (λ inside is. absurd (another (sym (found-number s.words slot 1 (kept.shown slot inside is)))))
      kept.gone kept.apart

  -- A call puts a value back into its slot
  module _ (id : ℕ) (key : K) (slot : ℕ) (held : get_elem? s.views id ≡ some (at_part key (Holding slot))) (value : T)
      (below : slot < length s.homes) (fits : belongs value) where
    abbrev returning : List (View K)
    returning = set s.views id (at_part key Returning)

    empty : get_elem? s.homes slot ≡ some none
    empty = kept.gone id slot (at_part key (Holding slot)) held refl

    -- who else holds a slot holds another one
    else-held : (seat index : ℕ) (v : View K) → get_elem? returning seat ≡ some v → v.part ≡ Holding index
        → (get_elem? s.views seat ≡ some v) × (index ≢ slot)
    else-held seat index v is holds =
        elim (at_set s.views id seat (at_part key Returning) v is) [
          | inl own ↦ absurd (held-not v.part index (ap (λ (u : View K). is_held u.part) (sym own.1)) holds)
          | inr other ↦ (
            other.1,
            (λ e. other.0 (kept.apart seat id index v (at_part key (Holding slot)) other.1 held holds (ap Holding (sym e)))),
          )
        ]

    pub returned : Kept belongs (record { words = set s.words slot 1; homes = set s.homes slot (some (Some value)); views = returning })
    returned =
        let outs = total-set is_out s.views id (at_part key (Holding slot)) (at_part key Returning) held in
        let dues = total-set is_due s.views id (at_part key (Holding slot)) (at_part key Returning) held in
        let ins = total-set is_in s.homes slot none (some (Some value)) empty in
        let all = kept.all in
        let within = kept.within in
        slot-changed slot below 1 (set s.homes slot (some (Some value))) returning (length-set s.homes slot (some (Some value)))
        (λ other apart. set_else s.homes slot other (some (Some value)) apart) (omega (arith, outs, all)) (omega (arith, dues, ins, within))
        (λ one. (value, set_here s.homes slot (some (Some value)) below, fits)) (λ inside is. refl)
        (λ seat index v is holds.
        let was = else-held seat index v is holds in
        set_else s.homes slot index (some (Some value)) was.1 ∙ kept.gone seat index v was.0 holds)
        (λ one other index v w is also holds grips.
        kept.apart one other index v w (else-held one index v is holds).0 (else-held other index w also grips).0 holds grips)

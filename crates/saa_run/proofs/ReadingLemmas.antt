-- What fields and words read as, and that each line's pager is one that there is.
use Rattle.std.proofs.Common.{◌≡◌, ◌<◌, ℕ, ◌⊎◌, inl, inr, Bool, true, false, List, [], ◌∷◌, Option, Some, None, cond, length, sym, subst, arith, refl}
use Rattle.std.specs.Prelude.{codes, decimal, nat_lt, option_and_then}
use Rattle.std.specs.Fmt.{digits}
use Rattle.std.specs.Option.{option_map}
use Rattle.std.specs.Str.{bytes_eq}
use Rattle.std.specs.List.{AllByRecursion}
use Rattle.std.proofs.lemmas.Slice.Eq.{bytes_eq-Decides}
use Rattle.std.proofs.lemmas.Bool.{ltb-true}
use Rattle.std.proofs.lemmas.Bool.Decides.{nat_tests}
use Rattle.saa_core_spec.specs.declared.run.CommandOf.TheVariants.{Call, Register}
use Rattle.saa_core_spec.specs.Run.{IsWithin}
use Rattle.saa_run.specs.declared.script.command.Bound.{Bound}
use Rattle.saa_run.specs.declared.script.command.Bound.TheVariants.{One, Thousand, Greatest}
use Rattle.saa_run.specs.declared.script.command.ScriptLine.{ScriptLine}
use Rattle.saa_run.specs.declared.script.command.ScriptLine.TheVariants.{Do, Registered}
use Rattle.saa_run_text.specs.Fields.{fields_of, number_of}
use Rattle.saa_run_text.specs.Fields.{below, meaning_in, either}
use Rattle.saa_run.specs.Language.{Readings, pager_of, room_of, bound_of, bound_number, bounds, mode_of, modes, pager_lines, lone_call_in, counted_call_in, ask_in, lone_line, counted_line, pager_line, registration, line_in, line_of}
use Rattle.saa_run.specs.Spelling.{mode_word}
use Rattle.saa_run_text.proofs.FieldLemmas.{number_found, number_said}

-- a number below a limit
pub below-found : (limit : ℕ) (number : Option ℕ) (n : ℕ) → below limit number ≡ Some n → (number ≡ Some n) × (n < limit)
below-found limit None n found = cc
below-found limit (Some m) n found = below_if (nat_lt m limit) (ltb-true m limit) found
  where
    below_if : (b : Bool) → (b ≡ true → m < limit) → cond b (Some m) None ≡ Some n → (Some m ≡ Some n) × (n < limit)
    below_if true holds e = let same : m ≡ n = cc in (e, subst (λ k. k < limit) same (holds refl))
    below_if false holds e = cc

-- a pager that is found is written plainly, and in range
pub pager_found : (field : List ℕ) (p : ℕ) → pager_of field ≡ Some p → (field ≡ decimal p) × (p < 100)
unfolding pager_of
pager_found field p found =
    let parts = below-found 100 (number_of field) p found in
    ((number_found field p parts.0).0, parts.1)

-- each pager in range is found
pub pager_said : (p : ℕ) → p < 100 → pager_of (decimal p) ≡ Some p
unfolding pager_of
pager_said p small = let holds : nat_lt p 100 ≡ true = grind (arith, nat_tests) in rw (number_said p (omega arith), holds) refl

-- the same of a room
pub room_found : (field : List ℕ) (n : ℕ) → room_of field ≡ Some n → (field ≡ decimal n) × (n < 65536)
unfolding room_of
room_found field n found =
    let parts = below-found 65536 (number_of field) n found in
    ((number_found field n parts.0).0, parts.1)

pub room_said : (n : ℕ) → n < 65536 → room_of (decimal n) ≡ Some n
unfolding room_of
room_said n small = let holds : nat_lt n 65536 ≡ true = grind (arith, nat_tests) in rw (number_said n (omega arith), holds) refl

-- what is found in a table of words has what each entry of it has
pub meaning_in-found : {X : Type 0} (P : List ℕ → X → Type 0) (table : List (List ℕ × X)) → AllByRecursion (λ entry. P entry.0 entry.1) table
    → (word : List ℕ) (x : X) → meaning_in table word ≡ Some x → P word x
meaning_in-found P [] each word x found = cc
meaning_in-found P (entry ∷ entries) each word x found = in_entry (bytes_eq word entry.0) (bytes_eq-Decides word entry.0).0 (meaning_in-found P entries each.1 word x) found
  where
    in_entry : (b : Bool) → (b ≡ true → word ≡ entry.0) → (meaning_in entries word ≡ Some x → P word x) → cond b (Some entry.1) (meaning_in entries word) ≡ Some x → P word x
    in_entry true same below e =
        let meant : entry.1 ≡ x = cc in
        let spelled : entry.0 ≡ word = sym (same refl) in
        subst (P word) meant (subst (λ w. P w entry.1) spelled each.0)
    in_entry false same below e = below e

-- a mode that is found is one of the two words
pub mode_found : (field : List ℕ) (is_sync : Bool) → mode_of field ≡ Some is_sync → field ≡ mode_word is_sync
unfolding mode_of
mode_found field is_sync found = meaning_in-found (λ word m. word ≡ mode_word m) modes (refl, (refl, tt)) field is_sync found

pub mode_said : (is_sync : Bool) → mode_of (mode_word is_sync) ≡ Some is_sync
unfolding mode_of
mode_said true = refl
mode_said false = refl

-- a bound that is found is written plainly
pub bound_found : (field : List ℕ) (bound : Bound) → bound_of field ≡ Some bound → field ≡ decimal (bound_number bound)
unfolding bound_of digits
bound_found field bound found = meaning_in-found (λ word b. word ≡ decimal (bound_number b)) bounds (refl, (refl, (refl, tt))) field bound found

pub bound_said : (bound : Bound) → bound_of (decimal (bound_number bound)) ≡ Some bound
unfolding bound_of digits
bound_said One = refl
bound_said Thousand = refl
bound_said Greatest = refl

-- a mapped answer that is there
pub option_map-found : {X Y : Type 0} (f : X → Y) (o : Option X) (y : Y) → option_map f o ≡ Some y → (x : X) × (o ≡ Some x) × (f x ≡ y)
option_map-found f None y found = cc
option_map-found f (Some x) y found = (x, refl, cc)

-- a chained answer that is there
pub option_and_then-found : {X Y : Type 0} (f : X → Option Y) (o : Option X) (y : Y) → option_and_then f o ≡ Some y → (x : X) × (o ≡ Some x) × (f x ≡ Some y)
option_and_then-found f None y found = cc
option_and_then-found f (Some x) y found = (x, refl, found)

-- one of two readings
pub either_found : {X : Type 0} (first other : Option X) (x : X) → either first other ≡ Some x → (first ≡ Some x) ⊎ (other ≡ Some x)
either_found None other x found = inr found
either_found (Some y) other x found = inl found

-- the pagers that a line names are below 100
abbrev pub IsLineWithin : {C K : Type 0} → ScriptLine C K → Type 0
IsLineWithin (Do command) = IsWithin 100 command
IsLineWithin (Registered pager) = pager < 100

module _ {C K : Type 0} (readings : Readings C K) where
  lone_within : (word : List ℕ) (line : ScriptLine C K) → lone_line readings word ≡ Some line → IsLineWithin line
  unfolding lone_line
  lone_within word line found =
      let call = option_map-found (λ call. Do (Call call)) (lone_call_in readings word) line found in
      subst IsLineWithin call.2 tt

  counted_within : (word field : List ℕ) (line : ScriptLine C K) → counted_line readings word field ≡ Some line → IsLineWithin line
  unfolding counted_line
  counted_within word field line found =
      let n = option_and_then-found (λ n. option_map (λ call. Do (Call call)) (counted_call_in readings word n)) (number_of field) line found in
      let call = option_map-found (λ call. Do (Call call)) (counted_call_in readings word n.0) line n.2 in
      subst IsLineWithin call.2 tt

  pager_within : (word field : List ℕ) (line : ScriptLine C K) → pager_line word field ≡ Some line → IsLineWithin line
  unfolding pager_line
  pager_within word field line found =
      let make = option_and_then-found (λ make. option_map make (pager_of field)) (meaning_in pager_lines word) line found in
      let pager = option_map-found make.0 (pager_of field) line make.2 in
      subst IsLineWithin pager.2
      (meaning_in-found (λ w m. (p : ℕ) → p < 100 → IsLineWithin (m p)) pager_lines
      (λ p small. small, (λ p small. small, (λ p small. small, (λ p small. small, (λ p small. small, (λ p small. small, tt)))))) word make.0 make.1 pager.0 (pager_found field pager.0 pager.1).1)

  registration_within : (word pager : List ℕ) (ask : Option K) (mode : Option Bool) (line : ScriptLine C K) → registration word (pager_of pager) ask mode ≡ Some line → IsLineWithin line
  unfolding registration
  registration_within word pager ask mode line found = with_reg (bytes_eq word (codes "reg")) found
    where
      with_reg : (b : Bool) → cond b (option_and_then (λ p. option_and_then (λ k. option_map (λ m. Do (Register p k m)) mode) ask) (pager_of pager)) None ≡ Some line → IsLineWithin line
      with_reg true e =
          let p = option_and_then-found (λ p. option_and_then (λ k. option_map (λ m. Do (Register p k m)) mode) ask) (pager_of pager) line e in
          let k = option_and_then-found (λ k. option_map (λ m. Do (Register p.0 k m)) mode) ask line p.2 in
          let m = option_map-found (λ m. Do (Register p.0 k.0 m)) mode line k.2 in
          subst IsLineWithin {x = Do (Register p.0 k.0 m.0)} m.2 (pager_found pager p.0 p.1).1
      with_reg false e = cc

  fields_within : (fields : List (List ℕ)) (line : ScriptLine C K) → line_in readings fields ≡ Some line → IsLineWithin line
  fields_within [] line found = cc
  fields_within (word ∷ []) line found = lone_within word line found
  fields_within (word ∷ field ∷ []) line found = elim (either_found (pager_line word field) (counted_line readings word field) line found) [
    | inl pager ↦ pager_within word field line pager
    | inr counted ↦ counted_within word field line counted
  ]
  fields_within (word ∷ pager ∷ mode ∷ []) line found = registration_within word pager (ask_in readings None) (mode_of mode) line found
  fields_within (word ∷ pager ∷ ask ∷ mode ∷ []) line found = registration_within word pager (ask_in readings (Some ask)) (mode_of mode) line found
  fields_within (word ∷ pager ∷ ask ∷ mode ∷ field ∷ fields) line found = cc

  -- the pagers of a good line are below 100
  pub line_within : (bytes : List ℕ) (line : ScriptLine C K) → line_of readings bytes ≡ Some line → IsLineWithin line
  unfolding line_of
  line_within bytes line found = short_enough (nat_lt 80 (length bytes)) found
    where
      short_enough : (b : Bool) → cond b None (line_in readings (fields_of bytes)) ≡ Some line → IsLineWithin line
      short_enough true e = cc
      short_enough false e = fields_within (fields_of bytes) line e

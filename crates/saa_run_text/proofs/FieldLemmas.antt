-- Fields and numbers.
use Rattle.std.proofs.Common.{◌≡◌, ◌≤◌, ◌<◌, ℕ, ◌+◌, ◌-◌, ◌*◌, ◌^◌, ◌⊎◌, inl, inr, Bool, true, false, ltb, ◌&&◌, ◌||◌, List, [], ◌∷◌, Some, None, cond, length, take, drop, get_or, sym, ap, ◌∙◌, arith, length-drop, refl, position}
use Rattle.std.specs.Prelude.{nat_le, ◌==◌, slice_index}
use Rattle.std.specs.List.{onto_first, position_or_len}
use Rattle.std.specs.Str.{all_ascii_digits}
use Rattle.std.specs.Str.Parse.{digits_value}
use Rattle.std.specs.Char.{digit_value}
use Rattle.std.proofs.lemmas.Bool.{ltb-true, ltb-false}
use Rattle.std.proofs.lemmas.Bool.Decides.{nat_tests}
use Rattle.std.proofs.lemmas.List.{take_all}
use Rattle.std.proofs.lemmas.List.Splits.{slice_split_none, slice_split_first}
use Rattle.std.proofs.lemmas.List.Sums.{fails_before_first}
use Rattle.std.proofs.lemmas.Str.{digit_value_digit}
use Rattle.std.proofs.lemmas.Str.Parse.{IsNumeralModel, numerals_by_value, tells_all_ascii_digits, digit_at}
use Rattle.std.proofs.lemmas.Int.Digits.{digits_value_more, digits_more}
use Rattle.std.specs.Prelude.{decimal}
use Rattle.std.proofs.lemmas.Fmt.{digits_decimal, digits_value-decimal, decimal_nonempty, length-decimal-le, decimal-digits_value, decimal_digit, first_decimal}
use Rattle.std.proofs.lemmas.Str.Parse.{digits_value_short}
use Rattle.std.proofs.Common.{zero, suc}
use Rattle.saa_run_text.specs.Fields.{fields_of, is_number, number_of}

-- a test is true or false
pub bool_cases : (b : Bool) → (b ≡ true) ⊎ (b ≡ false)
bool_cases true = inl refl
bool_cases false = inr refl

-- an answer under a test says that the test held
pub cond-Some : (b : Bool) (x at : ℕ) → cond b (Some x) None ≡ Some at → (b ≡ true) × (x ≡ at)
cond-Some true x at e = (refl, cc)
cond-Some false x at e = cc

-- no answer under a test says that it failed
pub cond-None : (b : Bool) (x : ℕ) → cond b (Some x) None ≡ None → b ≡ false
cond-None true x e = cc
cond-None false x e = refl

-- a byte is a space
abbrev pub is_space : ℕ → Bool
is_space b = b == 32

-- a line without a space is one field
pub fields_of-whole : (line : List ℕ) → position is_space line ≡ None → fields_of line ≡ line ∷ []
fields_of-whole line none =
    let past : length line ≤ position_or_len is_space line = ltb-false _ _ (cond-None _ _ none) in
    slice_split_none is_space line (λ k d within. fails_before_first is_space line k d (omega arith))

-- a line's fields are the bytes before its first space, and the fields of what stands behind it
pub fields_of-cut : (line : List ℕ) (at : ℕ) → position is_space line ≡ Some at → fields_of line ≡ take at line ∷ fields_of (take (length line - (at + 1)) (drop (at + 1) line))
fields_of-cut line at found =
    let both = cond-Some (ltb (position_or_len is_space line) (length line)) (position_or_len is_space line) at found in
    let within : position_or_len is_space line < length line = ltb-true _ _ both.0 in
    let rest : take (length line - (at + 1)) (drop (at + 1) line) ≡ drop (at + 1) line = take_all _ _ (omega (arith, length-drop (at + 1) line)) in
    slice_split_first is_space line 0 within ∙ ap (λ i. take i line ∷ fields_of (drop (i + 1) line)) both.1 ∙ ap (λ part. take at line ∷ fields_of part) (sym rest)

-- std's digits, in the words of `is_number`
pub numerals : IsNumeralModel (λ field. all_ascii_digits field ≡ true) (digits_value 10)
numerals = numerals_by_value _ tells_all_ascii_digits

-- a conjunction of four fails where one of them does
all_four-false : (a b c d : Bool) → (a ≡ false) ⊎ ((b ≡ false) ⊎ ((c ≡ false) ⊎ (d ≡ false))) → (a && b && c && d) ≡ false
all_four-false false b c d h = refl
all_four-false true false c d h = refl
all_four-false true true false d h = refl
all_four-false true true true false h = refl
all_four-false true true true true (inl h) = h
all_four-false true true true true (inr (inl h)) = h
all_four-false true true true true (inr (inr (inl h))) = h
all_four-false true true true true (inr (inr (inr h))) = h

-- a field's first byte is no 0, or it is the only one
starts_well : List ℕ → Bool
starts_well field = nat_le 49 (slice_index field 0) || length field == 1

-- a field that fails one of the four tests has no number
number_of-none : (field : List ℕ) → (nat_le 1 (length field) ≡ false) ⊎ ((nat_le (length field) 6 ≡ false) ⊎ ((all_ascii_digits field ≡ false) ⊎ (starts_well field ≡ false))) → None ≡ number_of field
unfolding number_of is_number starts_well
number_of-none field fails =
    let failed = all_four-false (nat_le 1 (length field)) (nat_le (length field) 6) (all_ascii_digits field) (starts_well field) fails in
    rw failed refl

-- a field of no byte or of more than six is no number
pub number_of-length : (field : List ℕ) → (length field ≡ 0) ⊎ (6 < length field) → None ≡ number_of field
number_of-length field (inl empty) = let h : nat_le 1 (length field) ≡ false = grind (arith, nat_tests) in number_of-none field (inl h)
number_of-length field (inr long) = let h : nat_le (length field) 6 ≡ false = grind (arith, nat_tests) in number_of-none field (inr (inl h))

-- a field that begins with 0 and has more is no number
pub number_of-zero : (field : List ℕ) → get_or field 0 0 ≡ 48 → 1 < length field → None ≡ number_of field
unfolding starts_well
number_of-zero field zero_first more =
    let h : starts_well field ≡ false = grind (arith, nat_tests) in
    number_of-none field (inr (inr (inr h)))

-- a field with a byte that is no digit is no number
pub number_of-other : (field : List ℕ) (i : ℕ) → i < length field → (get_or field i 0 < 48) ⊎ (57 < get_or field i 0) → None ≡ number_of field
number_of-other field i within other = elim (bool_cases (all_ascii_digits field)) [
  | inl digits ↦ absurd (let at = digit_at field i (numerals.to field digits) within in elim other [ inl h ↦ omega arith | inr h ↦ omega arith ])
  | inr h ↦ number_of-none field (inr (inr (inl h)))
]

-- a field that passes each test is its digits' number
pub number_of-digits : (field : List ℕ) → 0 < length field → length field ≤ 6 → all_ascii_digits field ≡ true → (48 < get_or field 0 0) ⊎ (length field ≡ 1) → Some (digits_value 10 field) ≡ number_of field
unfolding number_of is_number
number_of-digits field some few digits first =
    let a : nat_le 1 (length field) ≡ true = grind (arith, nat_tests) in
    let b : nat_le (length field) 6 ≡ true = grind (arith, nat_tests) in
    let d : (nat_le 49 (slice_index field 0) || length field == 1) ≡ true = elim first [ inl h ↦ grind (arith, nat_tests) | inr h ↦ grind (arith, nat_tests) ] in
    rw (a, b, digits, d) refl

-- the digits so far, and one more
pub digits-more : (field : List ℕ) (i : ℕ) → i < length field → 48 ≤ get_or field i 0 → get_or field i 0 ≤ 57 → all_ascii_digits (take i field) ≡ true → all_ascii_digits (take (i + 1) field) ≡ true
digits-more field i within low high digits =
    let value : digit_value (get_or field i 0) + 48 ≡ get_or field i 0 = digit_value_digit (get_or field i 0) (low, high) in
    numerals.from _ (digits_more 10 field i within (numerals.to _ digits) (omega arith))

-- their number
pub digits_value-more : (field : List ℕ) (i : ℕ) → i < length field → 48 ≤ get_or field i 0 → get_or field i 0 ≤ 57 → digits_value 10 (take (i + 1) field) ≡ digits_value 10 (take i field) * 10 + (get_or field i 0 - 48)
digits_value-more field i within low high =
    let value : digit_value (get_or field i 0) + 48 ≡ get_or field i 0 = digit_value_digit (get_or field i 0) (low, high) in
    omega (arith, digits_value_more 10 field i within)

-- a byte put before parts is in the first of them
onto_first-cons : (b : ℕ) (parts : List (List ℕ)) → onto_first b parts ≡ get_or (onto_first b parts) 0 [] ∷ drop 1 (onto_first b parts)
onto_first-cons b [] = refl
onto_first-cons b (part ∷ parts) = refl

-- a line has a first field
pub some_field : (line : List ℕ) → fields_of line ≡ get_or (fields_of line) 0 [] ∷ drop 1 (fields_of line)
some_field [] = refl
some_field (b ∷ line) = elim (bool_cases (b == 32)) [
  | inl space ↦ rw space refl
  | inr other ↦ rw other (onto_first-cons b (fields_of line))
]

-- an answer under a test says that the test held
if-Some : (b : Bool) (x n : ℕ) → cond b (Some x) None ≡ Some n → (b ≡ true) × (x ≡ n)
if-Some = cond-Some

-- the parts of a conjunction of four
all_four : (a b c d : Bool) → (a && b && c && d) ≡ true → (a ≡ true) × (b ≡ true) × (c ≡ true) × (d ≡ true)
all_four true true true true e = (refl, refl, refl, refl)
all_four false b c d e = cc
all_four true false c d e = cc
all_four true true false d e = cc
all_four true true true false e = cc

-- a field that begins with 0 and passes has one byte
one_byte : (first n : ℕ) → (nat_le 49 first || n == 1) ≡ true → first ≡ 48 → n ≡ 1
one_byte first n passes zero_first = grind (arith, nat_tests)

-- a number begins with no 0, or is the one digit
first_digit : (n : ℕ) → n < 2 ^ 64 → (48 < get_or (decimal n) 0 0) ⊎ (length (decimal n) ≡ 1)
first_digit zero small = inr (ap length (decimal_digit 0 (omega arith)))
first_digit (suc n) small = inl (first_decimal (suc n) (omega arith) small)

-- what a number is written as, and how large it is
pub number_found : (field : List ℕ) (n : ℕ) → number_of field ≡ Some n → (field ≡ decimal n) × (n < 1000000)
unfolding number_of is_number
number_found field n found =
    let parts = if-Some (is_number field) (digits_value 10 field) n found in
    let tests = all_four (nat_le 1 (length field)) (nat_le (length field) 6) (all_ascii_digits field) (nat_le 49 (slice_index field 0) || length field == 1) parts.0 in
    let some : 0 < length field = grind (arith, nat_tests, tests.0) in
    let few : length field ≤ 6 = grind (arith, nat_tests, tests.1) in
    let first : get_or field 0 0 ≡ 48 → length field ≡ 1 = λ zero_first. one_byte (get_or field 0 0) (length field) tests.3 zero_first in
    let small : digits_value 10 field < 10 ^ 6 = digits_value_short numerals field 6 tests.2 few in
    let plain : decimal (digits_value 10 field) ≡ field = decimal-digits_value numerals field tests.2 some first (omega arith) in
    (sym plain ∙ ap decimal parts.1, omega (arith, parts.1))

-- each number of at most 6 digits is written so
pub number_said : (n : ℕ) → n < 1000000 → number_of (decimal n) ≡ Some n
number_said n small =
    let digits = digits_decimal numerals n (omega arith) in
    let value = digits_value-decimal numerals n (omega arith) in
    let some = decimal_nonempty n (omega arith) in
    let few : length (decimal n) ≤ 6 = length-decimal-le 6 n (omega arith) (omega arith) (omega arith) in
    sym (number_of-digits (decimal n) some few digits (first_digit n (omega arith))) ∙ ap Some value

-- Words without spaces, and lines that are joined of them.
use Rattle.std.proofs.Common.{◌≡◌, ◌≤◌, ◌<◌, ℕ, ◌*◌, Bool, true, false, not, ◌&&◌, List, [], ◌∷◌, length, get_or, ap, ◌∙◌, arith, refl, length-append}
use Rattle.std.specs.Prelude.{decimal, nat_le, slice_index_or, ◌==◌}
use Rattle.std.specs.List.{All, AllByRecursion}
use Rattle.std.specs.Str.{all_ascii_digits}
use Rattle.std.proofs.lemmas.Bool.Decides.{nat_tests}
use Rattle.std.proofs.lemmas.List.{get_or_default}
use Rattle.std.proofs.lemmas.List.Elements.{All-from_recursion}
use Rattle.std.proofs.lemmas.List.Splits.{join_with_byte-slice_split, slice_split_at, slice_split_none}
use Rattle.std.proofs.lemmas.Fmt.{digits_decimal, length-decimal-le}
use Rattle.std.proofs.lemmas.Str.Parse.{digit_at}
use Rattle.saa_run_text.specs.Fields.{fields_of}
use Rattle.saa_run_text.proofs.FieldLemmas.{is_space, numerals}
use Rattle.saa_run.specs.Spelling.{spelled}

-- a digit is no space
digit_is_no_space : (ds : List ℕ) → all_ascii_digits ds ≡ true → (k : ℕ) (d : ℕ) → k < length ds → (slice_index_or ds k d == 32) ≡ false
digit_is_no_space ds digits k d within =
    let at = digit_at ds k (numerals.to ds digits) within in
    let same : get_or ds k d ≡ get_or ds k 0 = get_or_default ds k d 0 within in
    let low : 48 ≤ get_or ds k d = omega (arith, same, at.0) in
    grind (arith, nat_tests)

-- what a word of a line has: no space, and at most 15 bytes
pub record IsWord (word : List ℕ) : Type 0 where
  pub no_space : All (λ b. (b == 32) ≡ false) word
  pub short : length word ≤ 15

-- whether no byte of a word is a space
abbrev pub has_no_space : List ℕ → Bool
has_no_space [] = true
has_no_space (b ∷ bs) = not (b == 32) && has_no_space bs

-- the parts of a conjunction whose first part is a negation
not_and : (a b : Bool) → (not a && b) ≡ true → (a ≡ false) × (b ≡ true)
not_and true b e = cc
not_and false b e = (refl, e)

-- what that test means
no_space_all : (word : List ℕ) → has_no_space word ≡ true → AllByRecursion (λ b. (b == 32) ≡ false) word
no_space_all [] passes = tt
no_space_all (b ∷ bs) passes = let parts = not_and (b == 32) (has_no_space bs) passes in (parts.0, no_space_all bs parts.1)

-- a word that is written out
pub IsWord-literal : (word : List ℕ) → has_no_space word ≡ true → nat_le (length word) 15 ≡ true → IsWord word
IsWord-literal word no_space short = record { no_space = All-from_recursion _ word (no_space_all word no_space); short = grind (arith, nat_tests) }

-- a number is a word
pub IsWord-decimal : (n : ℕ) → n < 1000000 → IsWord (decimal n)
IsWord-decimal n small =
    let digits = digits_decimal numerals n (omega arith) in
    let few : length (decimal n) ≤ 6 = length-decimal-le 6 n (omega arith) (omega arith) (omega arith) in
    record { no_space = λ k d within. digit_is_no_space (decimal n) digits k d within; short = omega arith }

-- the fields of joined words are the words
pub fields_of-spelled : (word : List ℕ) (words : List (List ℕ)) → AllByRecursion IsWord (word ∷ words) → fields_of (spelled (word ∷ words)) ≡ word ∷ words
fields_of-spelled word [] are = slice_split_none is_space word are.0.no_space
fields_of-spelled word (next ∷ words) are =
    slice_split_at is_space word 32 (spelled (next ∷ words)) are.0.no_space refl ∙ ap (λ fields. word ∷ fields) (fields_of-spelled next words are.1)

-- a line is its fields, joined
pub spelled-fields_of : (line : List ℕ) → spelled (fields_of line) ≡ line
spelled-fields_of line = join_with_byte-slice_split 32 line

-- joined words are not long
pub length-spelled : (words : List (List ℕ)) → AllByRecursion IsWord words → length (spelled words) ≤ 16 * length words
length-spelled [] are = omega arith
length-spelled (word ∷ []) are = omega (arith, are.0.short)
length-spelled (word ∷ next ∷ words) are =
    let rest = length-spelled (next ∷ words) are.1 in
    omega (arith, are.0.short, length-append word (32 ∷ spelled (next ∷ words)))

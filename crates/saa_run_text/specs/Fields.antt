-- A line's fields, and the numbers and words that stand in them.
use Rattle.std.specs.Prelude.{ℕ, Bool, List, [], ◌∷◌, Option, Some, None, ◌==◌, ◌&&◌, ◌||◌, nat_le, nat_lt, length, slice_index, if◌then◌else◌}
use Rattle.std.specs.List.{slice_split}
use Rattle.std.specs.Str.{all_ascii_digits, bytes_eq}
use Rattle.std.specs.Str.Parse.{digits_value}

-- the fields of a line are parted by one space
abbrev pub fields_of : List ℕ → List (List ℕ)
fields_of line = slice_split (λ b. b == 32) line

-- a number is 1 to 6 decimal digits without a leading zero, except 0 itself
unfoldable pub is_number : List ℕ → Bool
is_number field = nat_le 1 (length field) && nat_le (length field) 6 && all_ascii_digits field && (nat_le 49 (slice_index field 0) || length field == 1)

-- the number that a field is
unfoldable pub number_of : List ℕ → Option ℕ
number_of field = if is_number field then Some (digits_value 10 field) else None

-- a number that is below a limit
abbrev pub below : ℕ → Option ℕ → Option ℕ
below limit None = None
below limit (Some n) = if nat_lt n limit then Some n else None

-- what a word means, by a table of words
abbrev pub meaning_in : {X : Type 0} → List (List ℕ × X) → List ℕ → Option X
meaning_in [] word = None
meaning_in (entry ∷ entries) word = if bytes_eq word entry.0 then Some entry.1 else meaning_in entries word

-- the first of two readings of a line that there is
abbrev pub either : {X : Type 0} → Option X → Option X → Option X
either (Some x) other = Some x
either None other = other

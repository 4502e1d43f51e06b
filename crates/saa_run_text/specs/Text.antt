-- The text of an input: what is answered to its lines, and the first bad line.
use Rattle.std.specs.Prelude.{ℕ, List, [], ◌∷◌, ◌++◌, Option, Some, ◌==◌, if◌then◌else◌, codes, decimal}
use Rattle.std.specs.Option.{option_map_or}
use Rattle.std.specs.List.{onto_first}

-- the lines of an input: each ends with a newline, which the last may lack
abbrev pub lines_of : List ℕ → List (List ℕ)
lines_of [] = []
lines_of (b ∷ bs) = if b == 10 then ([] ∷ lines_of bs) else onto_first b (lines_of bs)

-- the answer to an input: the replies, each with its newline, and the number of the first bad line if there is one
pub record Answer : Type 0 where
  pub replies : List ℕ
  pub bad : Option ℕ

-- what is said of a bad line, by its number
abbrev pub bad_line : ℕ → List ℕ
bad_line number = codes "bad line " ++ decimal number ++ 10 ∷ []

-- an answer as it is written
abbrev pub text : Answer → List ℕ
text answer = answer.replies ++ option_map_or bad_line answer.bad []

-- a reply on a line of its own
abbrev pub reply_line : List ℕ → List ℕ
reply_line words = words ++ 10 ∷ []

-- line 1 is bad
abbrev pub bad_first : Answer
bad_first = record { replies = []; bad = Some 1 }

-- the answer to the lines of an input, by which first lines are good and what is answered behind each; an empty input is a bad
-- line 1
abbrev pub answer_by : {F : Type 0} → (List ℕ → Option F) → (F → List (List ℕ) → Answer) → List (List ℕ) → Answer
answer_by reads behind [] = bad_first
answer_by reads behind (first ∷ lines) = option_map_or (λ good. behind good lines) (reads first) bad_first

-- what is said of lines, said of the bytes that they stand in
abbrev pub on_bytes : (List (List ℕ) → Answer) → List ℕ → Answer
on_bytes said bytes = said (lines_of bytes)

-- an answer behind replies that came before it
abbrev pub with_front : List ℕ → Answer → Answer
with_front front answer = record { replies = front ++ answer.replies; bad = answer.bad }

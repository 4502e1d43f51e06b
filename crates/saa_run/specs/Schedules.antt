-- The language of schedules: which line is which move of a machine, in fields and numbers.
use Rattle.std.specs.Prelude.{◌≡◌, ◌<◌, true, ℕ, Bool, List, [], ◌∷◌, length, Option, Some, None, nat_lt, ◌==◌, if◌then◌else◌, codes, option_and_then}
use Rattle.std.specs.Option.{option_map}
use Rattle.std.specs.Str.{bytes_eq}
use Rattle.saa_word_steps.specs.Readings.{is_taken}
use Rattle.saa_word.specs.declared.kind.Kind.{Kind}
use Rattle.saa_word.specs.declared.kind.Kind.TheVariants.{Ask, Prepare, Join, Release, Walk, Publish, Show, Take, Flag, Unlink, Tail, Poison, Clear}
use Rattle.saa_run.specs.declared.schedule.lines.FirstOfSchedule.{FirstOfSchedule}
use Rattle.saa_run.specs.declared.schedule.lines.FirstOfSchedule.TheVariants.{Semaphore, Bounded, Lock}
use Rattle.saa_run.specs.declared.schedule.lines.ScheduleLine.{ScheduleLine}
use Rattle.saa_run.specs.declared.schedule.lines.ScheduleLine.TheVariants.{Start, Go, End, Until, Word}
use Rattle.saa_run_text.specs.Fields.{fields_of, number_of}
use Rattle.saa_run_text.specs.Fields.{below, meaning_in}
use Rattle.saa_run.specs.ScheduleCalls.{lone_call_of, paired_call_of}

-- a line of places that there are, and of a call that is taken, by a lock or by a semaphore
abbrev pub IsLineOf : Bool → ℕ → ScheduleLine → Type 0
IsLineOf is_lock places (Start me call) = (me < places) × (is_taken is_lock call ≡ true)
IsLineOf is_lock places (Go me) = me < places
IsLineOf is_lock places (End me) = me < places
IsLineOf is_lock places (Until me kind) = me < places
IsLineOf is_lock places Word = Unit {0}

-- the place that a field is, of so many
unfoldable pub place_below : ℕ → List ℕ → Option ℕ
place_below places field = below places (number_of field)

-- a number that isn't 0
abbrev pub above_zero : Option ℕ → Option ℕ
above_zero None = None
above_zero (Some n) = if n == 0 then None else Some n

-- the number of places that a field is: 1 to 100
unfoldable pub places_of : List ℕ → Option ℕ
places_of field = above_zero (below 101 (number_of field))

-- the bound that a field is: 1 to 65535
unfoldable pub bound_of : List ℕ → Option ℕ
bound_of field = above_zero (below 65536 (number_of field))

-- the kinds of step
abbrev pub kinds : List (List ℕ × Kind)
kinds =
    (codes "ask", Ask) ∷ (codes "prepare", Prepare) ∷ (codes "join", Join) ∷ (codes "release", Release) ∷
    (codes "walk", Walk) ∷ (codes "publish", Publish) ∷ (codes "show", Show) ∷ (codes "take", Take) ∷
    (codes "flag", Flag) ∷ (codes "unlink", Unlink) ∷ (codes "tail", Tail) ∷ (codes "poison", Poison) ∷
    (codes "clear", Clear) ∷ []

unfoldable pub kind_of_word : List ℕ → Option Kind
kind_of_word word = meaning_in kinds word

-- a line that is two fields: a step, or steps to the end
unfoldable pub two_fields : ℕ → List ℕ → List ℕ → Option ScheduleLine
two_fields places word of =
    if bytes_eq word (codes "go")
    then option_map Go (place_below places of)
    else (if bytes_eq word (codes "end") then option_map End (place_below places of) else None)

-- a line that is three fields: the start of a call that is one word, or steps to a kind
unfoldable pub three_fields : Bool → ℕ → List ℕ → List ℕ → List ℕ → Option ScheduleLine
three_fields is_lock places word of third =
    if bytes_eq word (codes "start")
    then option_and_then (λ me. option_map (λ call. Start me call) (lone_call_of is_lock third)) (place_below places of)
    else (if bytes_eq word (codes "until")
    then option_and_then (λ me. option_map (λ kind. Until me kind) (kind_of_word third)) (place_below places of)
    else None)

-- a line that is four fields: the start of a call that is a word and a field
unfoldable pub four_fields : Bool → ℕ → List ℕ → List ℕ → List ℕ → List ℕ → Option ScheduleLine
four_fields is_lock places word of call field =
    if bytes_eq word (codes "start")
    then option_and_then (λ me. option_map (λ made. Start me made) (paired_call_of is_lock call field)) (place_below places of)
    else None

-- the line that these fields make, of a machine of so many places that is a lock or a semaphore
abbrev pub schedule_line_in : Bool → ℕ → List (List ℕ) → Option ScheduleLine
schedule_line_in is_lock places [] = None
schedule_line_in is_lock places (word ∷ []) = if bytes_eq word (codes "word") then Some Word else None
schedule_line_in is_lock places (word ∷ of ∷ []) = two_fields places word of
schedule_line_in is_lock places (word ∷ of ∷ third ∷ []) = three_fields is_lock places word of third
schedule_line_in is_lock places (word ∷ of ∷ call ∷ field ∷ []) = four_fields is_lock places word of call field
schedule_line_in is_lock places (word ∷ of ∷ call ∷ field ∷ next ∷ fields) = None

-- the line that these bytes make behind the first line; a line has at most 80 bytes
unfoldable pub schedule_line_of : Bool → ℕ → List ℕ → Option ScheduleLine
schedule_line_of is_lock places line = if nat_lt 80 (length line) then None else schedule_line_in is_lock places (fields_of line)

-- the first line lock PLACES
unfoldable pub lock_made : List ℕ → List ℕ → Option FirstOfSchedule
lock_made word of = if bytes_eq word (codes "lock") then option_map (λ p. Lock p) (places_of of) else None

-- the first line semaphore W PLACES
unfoldable pub semaphore_made : List ℕ → List ℕ → List ℕ → Option FirstOfSchedule
semaphore_made word withheld of =
    if bytes_eq word (codes "semaphore")
    then option_and_then (λ w. option_map (λ p. Semaphore w p) (places_of of)) (number_of withheld)
    else None

-- the first line bounded MAX W PLACES
unfoldable pub bounded_made : List ℕ → List ℕ → List ℕ → List ℕ → Option FirstOfSchedule
bounded_made word bound withheld of =
    if bytes_eq word (codes "bounded")
    then option_and_then (λ b. option_and_then (λ w. option_map (λ p. Bounded b w p) (places_of of)) (number_of withheld)) (bound_of bound)
    else None

-- the first line that these fields make
abbrev pub first_schedule_in : List (List ℕ) → Option FirstOfSchedule
first_schedule_in [] = None
first_schedule_in (word ∷ []) = None
first_schedule_in (word ∷ of ∷ []) = lock_made word of
first_schedule_in (word ∷ withheld ∷ of ∷ []) = semaphore_made word withheld of
first_schedule_in (word ∷ bound ∷ withheld ∷ of ∷ []) = bounded_made word bound withheld of
first_schedule_in (word ∷ bound ∷ withheld ∷ of ∷ field ∷ fields) = None

-- the first line that these bytes make; a line has at most 80 bytes
unfoldable pub first_schedule_of : List ℕ → Option FirstOfSchedule
first_schedule_of line = if nat_lt 80 (length line) then None else first_schedule_in (fields_of line)

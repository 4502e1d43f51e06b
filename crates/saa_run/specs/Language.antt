-- The language of scripts: which line is which command, in lines, fields and numbers.
use Rattle.std.specs.Prelude.{ℕ, Bool, true, false, List, [], ◌∷◌, length, Option, Some, None, nat_lt, if◌then◌else◌, codes, option_and_then}
use Rattle.std.specs.Option.{option_map, option_map_or}
use Rattle.std.specs.Str.{bytes_eq}
use Rattle.saa_core_spec.specs.declared.run.CommandOf.TheVariants.{Call, Register, TryPoll, PollSync, PollAsync, Drop, Leave}
use Rattle.saa_run.specs.declared.script.command.Bound.{Bound}
use Rattle.saa_run.specs.declared.script.command.Bound.TheVariants.{One, Thousand, Greatest}
use Rattle.saa_run.specs.declared.script.command.FirstLine.{FirstLine}
use Rattle.saa_run.specs.declared.script.command.FirstLine.TheVariants.{Semaphore, Bounded, Lock, Gate, Barrier}
use Rattle.saa_run.specs.declared.script.command.ScriptLine.{ScriptLine}
use Rattle.saa_run.specs.declared.script.command.ScriptLine.TheVariants.{Do, Registered}
use Rattle.saa_run_text.specs.Fields.{below, either, fields_of, meaning_in, number_of}

-- pagers are numbered 0 to 99
unfoldable pub pager_of : List ℕ → Option ℕ
pager_of field = below 100 (number_of field)

-- a room is at most 65535
unfoldable pub room_of : List ℕ → Option ℕ
room_of field = below 65536 (number_of field)

-- the number of a bound that a script can name
abbrev pub bound_number : Bound → ℕ
bound_number One = 1
bound_number Thousand = 1000
bound_number Greatest = 65535

-- a bound is 1, 1000 or 65535
abbrev pub bounds : List (List ℕ × Bound)
bounds = (codes "1", One) ∷ (codes "1000", Thousand) ∷ (codes "65535", Greatest) ∷ []

unfoldable pub bound_of : List ℕ → Option Bound
bound_of field = meaning_in bounds field

-- sync or async
abbrev pub modes : List (List ℕ × Bool)
modes = (codes "sync", true) ∷ (codes "async", false) ∷ []

unfoldable pub mode_of : List ℕ → Option Bool
mode_of field = meaning_in modes field

-- What a kind of primitive adds to the language: its calls of one word, its calls of a word and a number, and what a
-- registration asks, by the fields between its pager and its mode
pub record Readings (C K : Type 0) : Type 0 where
  pub lone : List (List ℕ × C)
  pub counted : List (List ℕ × (ℕ → C))
  pub ask : List (List ℕ) → Option K

-- lines of every primitive that are a word and a pager
abbrev pub pager_lines : {C K : Type 0} → List (List ℕ × (ℕ → ScriptLine C K))
pager_lines =
    (codes "try_poll", λ pager. Do (TryPoll pager)) ∷
    (codes "poll_sync", λ pager. Do (PollSync pager)) ∷
    (codes "poll_async", λ pager. Do (PollAsync pager)) ∷
    (codes "registered", λ pager. Registered pager) ∷
    (codes "drop", λ pager. Do (Drop pager)) ∷
    (codes "leave", λ pager. Do (Leave pager)) ∷ []

-- a call that is one word
unfoldable pub lone_call_in : {C K : Type 0} → Readings C K → List ℕ → Option C
lone_call_in readings word = meaning_in readings.lone word

-- a call that is a word and a number
unfoldable pub counted_call_in : {C K : Type 0} → Readings C K → List ℕ → ℕ → Option C
counted_call_in readings word n = option_map (λ call. call n) (meaning_in readings.counted word)

-- what a registration asks, by the field between its pager and its mode, where there is one
unfoldable pub ask_in : {C K : Type 0} → Readings C K → Option (List ℕ) → Option K
ask_in readings field = readings.ask (option_map_or (λ f. f ∷ []) field [])

-- a line that is one word
unfoldable pub lone_line : {C K : Type 0} → Readings C K → List ℕ → Option (ScriptLine C K)
lone_line readings word = option_map (λ call. Do (Call call)) (lone_call_in readings word)

-- a line that is a word and a number
unfoldable pub counted_line : {C K : Type 0} → Readings C K → List ℕ → List ℕ → Option (ScriptLine C K)
counted_line readings word field = option_and_then (λ n. option_map (λ call. Do (Call call)) (counted_call_in readings word n)) (number_of field)

-- a line that is a word and a pager
unfoldable pub pager_line : {C K : Type 0} → List ℕ → List ℕ → Option (ScriptLine C K)
pager_line word field = option_and_then (λ line. option_map line (pager_of field)) (meaning_in pager_lines word)

-- a registration: the word reg, a pager, what it asks, and the mode
unfoldable pub registration : {C K : Type 0} → List ℕ → Option ℕ → Option K → Option Bool → Option (ScriptLine C K)
registration word pager ask is_sync =
    if bytes_eq word (codes "reg")
    then option_and_then (λ p. option_and_then (λ k. option_map (λ m. Do (Register p k m)) is_sync) ask) pager
    else None

-- the line that these fields make
abbrev pub line_in : {C K : Type 0} → Readings C K → List (List ℕ) → Option (ScriptLine C K)
line_in readings [] = None
line_in readings (word ∷ []) = lone_line readings word
line_in readings (word ∷ field ∷ []) = either (pager_line word field) (counted_line readings word field)
line_in readings (word ∷ pager ∷ mode ∷ []) = registration word (pager_of pager) (ask_in readings None) (mode_of mode)
line_in readings (word ∷ pager ∷ ask ∷ mode ∷ []) = registration word (pager_of pager) (ask_in readings (Some ask)) (mode_of mode)
line_in readings (word ∷ pager ∷ ask ∷ mode ∷ field ∷ fields) = None

-- the line that these bytes make behind the first line; a line has at most 80 bytes
unfoldable pub line_of : {C K : Type 0} → Readings C K → List ℕ → Option (ScriptLine C K)
line_of readings line = if nat_lt 80 (length line) then None else line_in readings (fields_of line)

-- the first lines lock ROOM and gate ROOM
unfoldable pub roomed_made : List ℕ → Option ℕ → Option FirstLine
roomed_made word room =
    if bytes_eq word (codes "lock")
    then option_map (λ r. Lock r) room
    else (if bytes_eq word (codes "gate") then option_map (λ r. Gate r) room else None)

-- the first lines semaphore P ROOM and barrier N ROOM
unfoldable pub counted_made : List ℕ → Option ℕ → Option ℕ → Option FirstLine
counted_made word number room =
    if bytes_eq word (codes "semaphore")
    then option_and_then (λ p. option_map (λ r. Semaphore p r) room) number
    else (if bytes_eq word (codes "barrier") then option_and_then (λ n. option_map (λ r. Barrier n r) room) number else None)

-- the first line bounded MAX P ROOM
unfoldable pub bounded_made : List ℕ → Option Bound → Option ℕ → Option ℕ → Option FirstLine
bounded_made word bound number room =
    if bytes_eq word (codes "bounded")
    then option_and_then (λ b. option_and_then (λ p. option_map (λ r. Bounded b p r) room) number) bound
    else None

-- the first line that these fields make
abbrev pub first_line_in : List (List ℕ) → Option FirstLine
first_line_in [] = None
first_line_in (word ∷ []) = None
first_line_in (word ∷ room ∷ []) = roomed_made word (room_of room)
first_line_in (word ∷ number ∷ room ∷ []) = counted_made word (number_of number) (room_of room)
first_line_in (word ∷ bound ∷ number ∷ room ∷ []) = bounded_made word (bound_of bound) (number_of number) (room_of room)
first_line_in (word ∷ bound ∷ number ∷ room ∷ field ∷ fields) = None

-- the first line that these bytes make; a line has at most 80 bytes
unfoldable pub first_line_of : List ℕ → Option FirstLine
first_line_of line = if nat_lt 80 (length line) then None else first_line_in (fields_of line)

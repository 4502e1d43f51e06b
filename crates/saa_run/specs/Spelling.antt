-- How each line of a script is spelled: its fields, joined by single spaces, with numbers in plain decimal.
use Rattle.std.specs.Prelude.{◌≡◌, ◌<◌, ℕ, Bool, true, false, ◌↔◌, List, [], ◌∷◌, ◌++◌, Some, codes, decimal}
use Rattle.std.specs.List.{AllByRecursion, join_with_byte}
use Rattle.saa_core_spec.specs.declared.run.CommandOf.TheVariants.{Call, Register, TryPoll, PollSync, PollAsync, Drop, Leave}
use Rattle.saa_run.specs.declared.script.command.FirstLine.{FirstLine}
use Rattle.saa_run.specs.declared.script.command.FirstLine.TheVariants.{Semaphore, Bounded, Lock, Gate, Barrier}
use Rattle.saa_run.specs.declared.script.command.ScriptLine.{ScriptLine}
use Rattle.saa_run.specs.declared.script.command.ScriptLine.TheVariants.{Do, Registered}
use Rattle.saa_run.specs.Language.{Readings, bound_number, line_of}

-- fields joined by single spaces
abbrev pub spelled : List (List ℕ) → List ℕ
spelled fields = join_with_byte 32 fields

-- a number that can be written: it has at most 6 digits
abbrev pub IsNumber : ℕ → Type 0
IsNumber n = n < 1000000

-- a pager that can be written
abbrev pub IsPager : ℕ → Type 0
IsPager n = n < 100

-- a room that can be written
abbrev pub IsRoom : ℕ → Type 0
IsRoom n = n < 65536

-- the word of a mode
abbrev pub mode_word : Bool → List ℕ
mode_word true = codes "sync"
mode_word false = codes "async"

-- how a kind of primitive spells its calls and what its registrations ask: the fields, and the numbers in them
pub record Spellings (C K : Type 0) : Type 0 where
  pub call_fields : C → List (List ℕ)
  pub call_numbers : C → List ℕ
  pub ask_fields : K → List (List ℕ)
  pub ask_numbers : K → List ℕ

-- all numbers can be written
abbrev pub AreNumbers : List ℕ → Type 0
AreNumbers numbers = AllByRecursion IsNumber numbers

-- the fields of a line
abbrev pub line_fields : {C K : Type 0} → Spellings C K → ScriptLine C K → List (List ℕ)
line_fields spellings (Do (Call call)) = spellings.call_fields call
line_fields spellings (Do (Register p ask is_sync)) = codes "reg" ∷ decimal p ∷ (spellings.ask_fields ask ++ mode_word is_sync ∷ [])
line_fields spellings (Do (TryPoll p)) = codes "try_poll" ∷ decimal p ∷ []
line_fields spellings (Do (PollSync p)) = codes "poll_sync" ∷ decimal p ∷ []
line_fields spellings (Do (PollAsync p)) = codes "poll_async" ∷ decimal p ∷ []
line_fields spellings (Do (Drop p)) = codes "drop" ∷ decimal p ∷ []
line_fields spellings (Do (Leave p)) = codes "leave" ∷ decimal p ∷ []
line_fields spellings (Registered p) = codes "registered" ∷ decimal p ∷ []

-- the numbers of a line are in range
abbrev pub IsLineInRange : {C K : Type 0} → Spellings C K → ScriptLine C K → Type 0
IsLineInRange spellings (Do (Call call)) = AreNumbers (spellings.call_numbers call)
IsLineInRange spellings (Do (Register p ask is_sync)) = IsPager p × AreNumbers (spellings.ask_numbers ask)
IsLineInRange spellings (Do (TryPoll p)) = IsPager p
IsLineInRange spellings (Do (PollSync p)) = IsPager p
IsLineInRange spellings (Do (PollAsync p)) = IsPager p
IsLineInRange spellings (Do (Drop p)) = IsPager p
IsLineInRange spellings (Do (Leave p)) = IsPager p
IsLineInRange spellings (Registered p) = IsPager p

-- the fields of a first line
abbrev pub first_fields : FirstLine → List (List ℕ)
first_fields (Semaphore permits room) = codes "semaphore" ∷ decimal permits ∷ decimal room ∷ []
first_fields (Bounded bound permits room) = codes "bounded" ∷ decimal (bound_number bound) ∷ decimal permits ∷ decimal room ∷ []
first_fields (Lock room) = codes "lock" ∷ decimal room ∷ []
first_fields (Gate room) = codes "gate" ∷ decimal room ∷ []
first_fields (Barrier size room) = codes "barrier" ∷ decimal size ∷ decimal room ∷ []

-- the numbers of a first line are in range
abbrev pub IsFirstInRange : FirstLine → Type 0
IsFirstInRange (Semaphore permits room) = IsNumber permits × IsRoom room
IsFirstInRange (Bounded bound permits room) = IsNumber permits × IsRoom room
IsFirstInRange (Lock room) = IsRoom room
IsFirstInRange (Gate room) = IsRoom room
IsFirstInRange (Barrier size room) = IsNumber size × IsRoom room

-- the bytes are the spelling of a line behind the first line
abbrev pub SpellsLine : {C K : Type 0} → Spellings C K → List ℕ → ScriptLine C K → Type 0
SpellsLine spellings bytes line = (bytes ≡ spelled (line_fields spellings line)) × IsLineInRange spellings line

-- a line is good exactly where it is a line's spelling, and then it is that line
abbrev pub IsSpelled : {C K : Type 0} → Readings C K → Spellings C K → Type 0
IsSpelled {C} {K} readings spellings = (bytes : List ℕ) (line : ScriptLine C K) → (line_of readings bytes ≡ Some line) ↔ SpellsLine spellings bytes line

-- the bytes are the spelling of a first line
abbrev pub SpellsFirst : List ℕ → FirstLine → Type 0
SpellsFirst bytes first = (bytes ≡ spelled (first_fields first)) × IsFirstInRange first

-- What the program is asked to do.
use Rattle.std.specs.Prelude.{ℕ, List, [], ◌∷◌, Option, None, Some, codes, if◌then◌else◌, ◌&&◌, nat_le}
use Rattle.std.specs.Str.{bytes_eq}
use Rattle.saa_run_text.specs.Fields.{number_of}
use Rattle.saa_run.specs.declared.wants.Wanted.{Wanted}
use Rattle.saa_run.specs.declared.wants.Wanted.TheVariants.{Script, Machine, Threads, Usage}

-- so many threads as a number says, from 1 to 32
abbrev pub threads_of : Option ℕ → Wanted
threads_of None = Usage
threads_of (Some count) = if nat_le 1 count && nat_le count 32 then Threads count else Usage

-- exactly the word script asks for a script, exactly the word machine for a schedule, and the word threads with a number for
-- threads; everything else asks to be told how the program is used
abbrev pub wanted_of : List (List ℕ) → Wanted
wanted_of [] = Usage
wanted_of (word ∷ []) = if bytes_eq word (codes "script") then Script else (if bytes_eq word (codes "machine") then Machine else Usage)
wanted_of (word ∷ count ∷ []) = if bytes_eq word (codes "threads") then threads_of (number_of count) else Usage
wanted_of (word ∷ count ∷ next ∷ words) = Usage

-- how the program is used
abbrev pub usage_text : List ℕ
usage_text = codes "usage: saa-run script | machine | threads N\n"

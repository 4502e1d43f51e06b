-- The one history of a pool's calls: who took a value, who was refused, and who gave one back, the latest first.
use Rattle.std.specs.Prelude.{◌≡◌, ℕ, suc, ◌-◌, ◌<◌, ◌==◌, if◌then◌else◌, List, [], ◌∷◌}

-- what a call did, at the step that decides it
pub data Event : Type 0 where
  took : Event
  refused : Event
  gave : Event

-- how many values are out after a history: as many as were taken and not given back
abbrev pub out_then : Event → ℕ → ℕ
out_then took out = suc out
out_then refused out = out
out_then gave out = out - 1

abbrev pub out_after : List (ℕ × Event) → ℕ
out_after [] = 0
out_after (done ∷ history) = out_then done.1 (out_after history)

-- what a call may do where so many of all values are out: it takes one only while some are in, and is refused only where all are out
abbrev pub IsAllowed : ℕ → ℕ → Event → Type 0
IsAllowed places out took = out < places
IsAllowed places out refused = out ≡ places
IsAllowed places out gave = 0 < out

-- every call did what it might where it came
abbrev pub IsHistory : ℕ → List (ℕ × Event) → Type 0
IsHistory places [] = Unit {0}
IsHistory places (done ∷ history) = IsAllowed places (out_after history) done.1 × IsHistory places history

-- what the call of this seat did, the latest first
abbrev pub part_of : ℕ → List (ℕ × Event) → List Event
part_of seat [] = []
part_of seat (done ∷ history) = if done.0 == seat then done.1 ∷ part_of seat history else part_of seat history

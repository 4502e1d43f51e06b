-- What workers on threads of their own counted, and how that is told.
use Rattle.std.specs.Prelude.{ℕ, List, Option, [], ◌∷◌, ◌++◌, ◌*◌, ◌⊎◌, codes, decimal}
use Rattle.saa_run_text.specs.Outcome.{Tells, no_memory}

-- a count on a line of its own behind its name
unfoldable pub counted_line : List ℕ → ℕ → List ℕ
counted_line name count = name ++ decimal count ++ 10 ∷ []

-- three counts
abbrev pub counts_text : ℕ → ℕ → ℕ → List ℕ
counts_text leaders available journal =
    counted_line (codes "leaders ") leaders ++ counted_line (codes "available ") available ++ counted_line (codes "journal ") journal

-- How a run of so many workers is told: some counts of leaders and permits, and a journal of 50 calls for each worker; or
-- memory was refused
abbrev pub Counted : ℕ → ℕ → Option (List ℕ) → Option (List ℕ) → Type 0
Counted status workers held holds =
    ((leaders : ℕ) × (available : ℕ) × Tells status 0 (counts_text leaders available (50 * workers)) held holds)
    ⊎ Tells status 3 no_memory held holds

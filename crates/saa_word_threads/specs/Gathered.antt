-- What a place that has left has gathered of other ones. Internal: nobody has to believe this; it is the invariant of the loop that closes a form.
use Rattle.std.specs.Prelude.{◌≡◌, ◌⊎◌, List, [], ◌∷◌, Option, Some, None}
use Rattle.atomic_table.specs.Seated.{TableId}
use Rattle.saa_word_threads.specs.declared.place.Left.{Left}
use Rattle.saa_word_threads.specs.declared.table.Departed.{Departed}
use Rattle.saa_word_threads.specs.declared.table.View.{View}
use Rattle.saa_word_threads.specs.Kept.{departed}

-- what was kept of a view is among these
abbrev pub IsAmong : Departed → List Departed → Type 0
IsAmong gone [] = ⊥
IsAmong gone (other ∷ rest) = (other ≡ gone) ⊎ IsAmong gone rest

-- a view knows these: what is kept of each is its own, or was gathered
abbrev pub Knows : View → List View → Type 0
Knows v [] = Unit {0}
Knows v (w ∷ rest) = IsAmong (departed w) (departed v ∷ v.gathered) × Knows v rest

-- a witness of these views at a table: none, of no view, or a place that has left and knows them
abbrev pub IsWitness : TableId → Option Left → List View → Type 0
IsWitness table None views = views ≡ []
IsWitness table (Some left) views = (left.seat.table_id ≡ table) × Knows left.seat.me.0 views

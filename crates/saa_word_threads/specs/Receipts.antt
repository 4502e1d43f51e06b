-- What a receipt says of a form's history.
use Rattle.std.specs.Prelude.{◌≡◌, ℕ, List, ◌∷◌}
use Rattle.atomic_table.specs.Seated.{TableId}
use Rattle.saa_word_steps.specs.declared.event.Event.{Event}
use Rattle.saa_word_steps.specs.Needs.{needs_of}
use Rattle.saa_word_proofs.specs.History.{LeadsTo}
use Rattle.saa_word_threads.specs.declared.table.About.{About}
use Rattle.saa_word_threads.specs.declared.table.Departed.{Departed}
use Rattle.saa_word_threads.specs.declared.receipt.Receipt.{Receipt}
use Rattle.saa_word_threads.specs.Kept.{BeginsWithEach, departed}
use Rattle.saa_word_threads.specs.Cells.{row_of}

-- what a receipt says: what was seen as it was given, and the part in that of the place or visitor that gave it; and what was joined to it
abbrev pub said : Receipt → List Departed
said receipt = departed receipt.seat.me.0 ∷ receipt.seat.me.0.gathered

-- it was given at this table
abbrev pub IsReceiptAt : TableId → Receipt → Type 0
IsReceiptAt table receipt = receipt.seat.table_id ≡ table

-- There is one legal history that leads to these words. It begins with each that was said to be seen, and the part that was said is the events in that
-- of the place or visitor that had seen it
pub record IsLedOn (about : About) (words : List ℕ) (said : List Departed) : Type 0 where
  pub history : List (ℕ × Event)
  pub leads : LeadsTo (needs_of about.rules) about.places about.withheld history (row_of about.places words)
  pub begins : BeginsWithEach history said

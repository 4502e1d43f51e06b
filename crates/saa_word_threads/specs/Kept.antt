-- What is always so of a table: one legal history leads to its words, and each place and each visitor knows what it has seen of that history.
use Rattle.std.specs.Prelude.{◌≡◌, ◌≢◌, ℕ, ◌+◌, ◌<◌, ◌≤◌, ◌⊎◌, Bool, true, false, List, [], ◌∷◌, ◌++◌, length}
use mathlib.Core.Option.{some}
use lib.ListN.{get_elem?}
use Rattle.atomic_table.specs.Table.{State}
use Rattle.saa_word_steps.specs.declared.event.Event.{Event}
use Rattle.saa_word_steps.specs.declared.place.Place.{Place}
use Rattle.saa_word_steps.specs.AbstractState.{AbstractState, IsRun, opening}
use Rattle.saa_word_steps.specs.Needs.{needs_of}
use Rattle.saa_word_proofs.specs.History.{BeginsWith, has_part, never_waits, part_of, seen_by}
use Rattle.saa_word_proofs.specs.Promises.{idle_place}
use Rattle.saa_word_proofs.specs.Refinement.{Invariant}
use Rattle.saa_word_proofs.specs.Registering.{is_slot}
use Rattle.saa_word_threads.specs.declared.table.Departed.{Departed}
use Rattle.saa_word_threads.specs.declared.table.Role.{Role}
use Rattle.saa_word_threads.specs.declared.table.Role.TheVariants.{Dealer, Acting, Receipt, Spent}
use Rattle.saa_word_threads.specs.declared.table.View.{View}
use Rattle.saa_word_threads.specs.declared.table.About.{About}
use Rattle.saa_word_threads.specs.Cells.{cells_of, row_of}

-- the view of the dealer, which has dealt so many places
abbrev pub dealer : ℕ → View
dealer dealt = record { role = Dealer; number = dealt; position = idle_place; seen = []; part = []; gathered = [] }

-- the view of a place or of a visitor of this number that has done nothing yet
abbrev pub fresh_view : ℕ → View
fresh_view number = record { role = Acting; number = number; position = idle_place; seen = []; part = []; gathered = [] }

-- what is kept of a view that is gathered
abbrev pub departed : View → Departed
departed v = record { number = v.number; seen = v.seen; part = v.part }

-- a view that has gathered another one, and that one from then on
abbrev pub gathering : View → View → View
gathering v w = record v { gathered = departed w ∷ v.gathered }

abbrev pub spent : View → View
spent v = record v { role = Spent }

-- the view of a receipt: what a place or a visitor has seen, and its own part of that
abbrev pub receipt_of : View → View
receipt_of v = record v { role = Receipt; gathered = [] }

-- a receipt that says what another one says too, behind its own
abbrev pub with_receipt : View → View → View
with_receipt v w = record v { gathered = v.gathered ++ departed w ∷ w.gathered }

-- whether a seat is the dealer's or a receipt, and no place's and no visitor's
abbrev pub is_unnumbered : Role → Bool
is_unnumbered Dealer = true
is_unnumbered Receipt = true
is_unnumbered role = false

-- a history begins with what each of these had seen, and in that its events are its part
abbrev pub BeginsWithEach : List (ℕ × Event) → List Departed → Type 0
BeginsWithEach history [] = Unit {0}
BeginsWithEach history (gone ∷ rest) = BeginsWith history gone.seen × (part_of gone.number gone.seen ≡ gone.part) × BeginsWithEach history rest

-- the numbers of seats: those of the places that are dealt, and that of a visitor, which goes by its seat
abbrev pub IsNumber : ℕ → ℕ → ℕ → ℕ → Type 0
IsNumber places dealt seat number = (number < dealt) ⊎ (number ≡ places + seat)

-- A view fits a history: the dealer has the first seat and has dealt so many places. The history begins with each that a
-- receipt says was seen. A place and a visitor are at the stage of their number, have seen the history as it was at their last event, and know their own
-- part of it
abbrev pub FitsAs : List (ℕ × Event) → (ℕ → Place) → ℕ → ℕ → ℕ → View → Role → Type 0
FitsAs history standing places dealt seat v Dealer = (seat ≡ 0) × (v.number ≡ dealt)
FitsAs history standing places dealt seat v Receipt = BeginsWithEach history (departed v ∷ v.gathered)
FitsAs history standing places dealt seat v role =
    IsNumber places dealt seat v.number × (standing v.number ≡ v.position) × (v.seen ≡ seen_by v.number history) × (v.part ≡ part_of v.number history)

abbrev pub Fits : List (ℕ × Event) → (ℕ → Place) → ℕ → ℕ → ℕ → View → Type 0
Fits history standing places dealt seat v = FitsAs history standing places dealt seat v v.role

-- what a view has gathered is of places that have left: none is registered in the queue, and they make no step any more
abbrev pub IsGathered : List View → Departed → Type 0
IsGathered views gone =
    (seat : ℕ) × (v : View) × (get_elem? views seat ≡ some v) × (v.role ≡ Spent) × (is_slot v.position.registration ≡ false) × (gone ≡ departed v)

abbrev pub AreGathered : List View → List Departed → Type 0
AreGathered views [] = Unit {0}
AreGathered views (gone ∷ rest) = IsGathered views gone × AreGathered views rest

-- no seat of these has this number
abbrev pub IsFree : List View → ℕ → Type 0
IsFree views number = (seat : ℕ) (v : View) → get_elem? views seat ≡ some v → is_unnumbered v.role ≡ false → v.number ≢ number

-- A table is kept: from the opening on each event of a history is enabled where it comes, and words and places refine the state behind
-- them; each view fits the history, and what a place has gathered fits it; no two seats have one number, and a number of no seat is idle and has no event.
-- No more places are dealt than there are, and no number beyond them waits
pub record Kept (about : About) (s : State (Unit {0}) View) : Type 0 where
  pub history : List (ℕ × Event)
  pub last : AbstractState
  pub standing : ℕ → Place
  pub dealt : ℕ
  pub run : IsRun (needs_of about.rules) (opening about.withheld) history last
  pub wide : length s.words ≡ cells_of about.places
  pub bounded : dealt ≤ about.places
  pub refines : Invariant (needs_of about.rules) about.places (row_of about.places s.words) standing last
  pub each : (seat : ℕ) (v : View) → get_elem? s.views seat ≡ some v → Fits history standing about.places dealt seat v
  pub gathers : (seat : ℕ) (v : View) → get_elem? s.views seat ≡ some v → is_unnumbered v.role ≡ false → AreGathered s.views v.gathered
  pub apart : (one other : ℕ) (v w : View) → get_elem? s.views one ≡ some v → get_elem? s.views other ≡ some w → is_unnumbered v.role ≡ false
      → is_unnumbered w.role ≡ false → v.number ≡ w.number → one ≡ other
  pub fresh : (number : ℕ) → IsFree s.views number → (has_part number history ≡ false) × (standing number ≡ idle_place)
  pub visits : (number : ℕ) → about.places ≤ number → never_waits (part_of number history) ≡ true

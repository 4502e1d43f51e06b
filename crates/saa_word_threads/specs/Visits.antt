-- What contracts see of visitors, and what their calls do.
use Rattle.std.specs.Prelude.{◌≡◌, ℕ, ◌≤◌}
use Rattle.atomic_table.specs.Seated.{TableId}
use Rattle.saa_word_steps.specs.declared.call.Answer.{Answer}
use Rattle.saa_word_steps.specs.declared.call.WordCall.{WordCall}
use Rattle.saa_word_steps.specs.declared.place.Next.{Next}
use Rattle.saa_word_steps.specs.declared.place.Next.TheVariants.{Going, Waits, Done}
use Rattle.saa_word_steps.specs.declared.place.Place.{Place}
use Rattle.saa_word_steps.specs.declared.place.Registration.TheVariants.{Idle}
use Rattle.saa_word_steps.specs.Needs.{Needs}
use Rattle.saa_word_proofs.specs.Promises.{idle_place}
use Rattle.saa_word_proofs.specs.Refinement.{IsVisiting}
use Rattle.saa_word_threads.specs.declared.table.View.{View}
use Rattle.saa_word_threads.specs.declared.visitor.Visitor.{Visitor}
use Rattle.saa_word_threads.specs.Called.{HasEvents, IsCalled, InCall}
use Rattle.saa_word_threads.specs.Kept.{fresh_view}

-- the view of a visitor that has done nothing yet: its number is none of a place
abbrev pub IsEntering : ℕ → View → Type 0
IsEntering places v = (number : ℕ) × (places ≤ number) × (v ≡ fresh_view number)

-- what a visitor has seen and knows as its part
abbrev pub view_of : Visitor → View
view_of visitor = visitor.seat.me.0

-- a visitor of a table that has done nothing yet
abbrev pub IsNewVisitor : TableId → ℕ → Visitor → Type 0
IsNewVisitor table places visitor = (visitor.seat.table_id ≡ table) × IsEntering places (view_of visitor)

-- A call was made by a visitor, and answered so: the visitor's view has just the events that the answer names more, and it is registered as nothing
abbrev pub IsVisited : Needs → ℕ → WordCall → Visitor → Answer → Visitor → Type 0
IsVisited needs withheld call old answer new =
    (new.seat.table_id ≡ old.seat.table_id) × IsCalled needs withheld call Idle answer Idle (view_of old) (view_of new)

-- A call was made by a visitor that came for it alone
abbrev pub IsVisitedOnce : TableId → ℕ → Needs → ℕ → WordCall → Answer → Visitor → Type 0
IsVisitedOnce table places needs withheld call answer new =
    (new.seat.table_id ≡ table) × ((v : View) × IsEntering places v × IsCalled needs withheld call Idle answer Idle v (view_of new))

-- A visitor is in a call that began at a view, and is at this stage. Internal, as that of a place
pub record InVisit (needs : Needs) (places : ℕ) (call : WordCall) (began : View) (place : Place) (v : View) : Type 0 where
  pub in_call : InCall needs places v.number call Idle began place v
  pub rested : place ≡ record idle_place { stage = place.stage }
  pub beyond : places ≤ v.number
  pub visits : IsVisiting place.stage

-- how it goes on behind a step
abbrev pub VisitNext : Needs → ℕ → ℕ → WordCall → View → Place → View → Next → Type 0
VisitNext needs withheld places call began place v (Going next) = InVisit needs places call began next v
VisitNext needs withheld places call began place v Waits = InVisit needs places call began place v
VisitNext needs withheld places call began place v (Done behind answer) = HasEvents needs withheld call Idle answer Idle began v × (v.position ≡ idle_place)

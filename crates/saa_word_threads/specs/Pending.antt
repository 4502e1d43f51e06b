-- What the functions that make the steps of a call are held to. Internal: nobody has to believe this; private functions are held to it.
use Rattle.std.specs.Prelude.{◌≡◌, ℕ, ◌<◌, true}
use Rattle.atomic_table.specs.declared.shared.Seat.{Seat as TableSeat}
use Rattle.saa_word_steps.specs.declared.call.Answer.{Answer}
use Rattle.saa_word_steps.specs.declared.call.WordCall.{WordCall}
use Rattle.saa_word_steps.specs.declared.operation.Operation.{Operation}
use Rattle.saa_word_steps.specs.declared.place.Next.{Next}
use Rattle.saa_word_steps.specs.declared.place.Place.{Place as Position}
use Rattle.saa_word_steps.specs.declared.place.Registration.TheVariants.{Idle}
use Rattle.saa_word_steps.specs.Needs.{Needs, needs_of}
use Rattle.saa_word_steps.specs.Readings.{is_taken}
use Rattle.saa_word_steps.specs.Steps.{next_of}
use Rattle.saa_word_proofs.specs.Promises.{idle_place}
use Rattle.saa_word_threads.specs.declared.call.Pending.{Pending}
use Rattle.saa_word_threads.specs.declared.form.Form.{Form}
use Rattle.saa_word_threads.specs.declared.place.Place.{Place}
use Rattle.saa_word_threads.specs.declared.table.About.{About}
use Rattle.saa_word_threads.specs.declared.table.Role.TheVariants.{Acting}
use Rattle.saa_word_threads.specs.declared.table.View.{View}
use Rattle.saa_word_threads.specs.declared.visit.Visit.{Visit}
use Rattle.saa_word_threads.specs.declared.visitor.Visitor.{Visitor}
use Rattle.saa_word_threads.specs.Called.{HasEvents, InCall, InCallNext, IsCalled}
use Rattle.saa_word_threads.specs.Public.{registered, view_of}
use Rattle.saa_word_threads.specs.Moves.{IsLookOnly, IsNext, Moves, RestsAfter, unless_joining}
use Rattle.saa_word_threads.specs.Visits.{InVisit, VisitNext, view_of as view_of_visitor}

abbrev pub Seat : Type 0
Seat = TableSeat (Unit {0}) View

-- what a form's table was told, what its requests need, and how much was withheld as it was made
abbrev pub about_of : Form → About
about_of form = form.table.shared.key

abbrev pub needs : Form → Needs
needs form = needs_of form.rules

abbrev pub withheld : Form → ℕ
withheld form = form.table.shared.key.withheld

-- a form of these rules takes such a call
abbrev pub Takes : Form → WordCall → Type 0
Takes form call = is_taken (needs form).is_lock call ≡ true

-- a seat is one of a form's table, and it is that of the place of this number
abbrev pub IsAt : Form → Seat → Type 0
IsAt form seat = seat.table_id ≡ form.table.shared.table_id

abbrev pub IsSeatOf : Form → ℕ → Seat → Type 0
IsSeatOf form me seat = (seat.table_id ≡ form.table.shared.table_id) × (seat.me.0.role ≡ Acting) × (seat.me.0.number ≡ me) × (me < form.places)

-- a seat goes on: it is the same one of the same table, with the same slots
abbrev pub IsSameSeat : Seat → Seat → Type 0
IsSameSeat old new = (new.table_id ≡ old.table_id) × (new.id ≡ old.id) × (new.me.1 ≡ old.me.1)

-- A call was made at a place of a form, and answered so
abbrev pub IsCalledAt : Form → WordCall → Place → Answer → Place → Type 0
IsCalledAt form call old answer new = IsCalled (needs form) (withheld form) call (registered old) answer (registered new) (view_of old) (view_of new)

-- One step

-- a place of this number is about to make this operation
abbrev pub MakesNext : Form → ℕ → Position → Operation → Seat → Type 0
MakesNext form me place operation seat = IsNext (needs form) form.places me place operation seat.me.0

-- it has made it and found this number
abbrev pub HasMoved : Form → ℕ → Position → ℕ → Seat → Seat → Type 0
HasMoved form me place found old new =
    Moves (needs form) (withheld form) form.places place (next_of (needs form) me place place.stage found) found old.me.0 new.me.0

-- the same of a place that looks: where it would have to join for this number, nothing has happened
abbrev pub HasLooked : Form → ℕ → Position → ℕ → Seat → Seat → Type 0
HasLooked form me place found old new = IsLookOnly (needs form) (withheld form) form.places me place found old.me.0 new.me.0

-- A call that is pending

-- it began at this place
abbrev pub BeganAt : Pending → WordCall → Place → Type 0
BeganAt pending call place =
    (pending.me ≡ place.number) × (pending.call.value ≡ call) × (pending.registered.value ≡ registered place) × (pending.seat.value ≡ place.seat)

-- A call is pending at a seat, and its place is at this stage
abbrev pub IsPending : Form → Pending → Position → Seat → Type 0
IsPending form pending place seat =
    IsSeatOf form pending.me seat
    × InCall (needs form) form.places pending.me pending.call.value pending.registered.value pending.seat.value.me.0 place seat.me.0

-- It goes on so behind a step of its place: from the next stage, from where it was, or it has ended
abbrev pub GoesOn : Form → Pending → Position → Next → Seat → Type 0
GoesOn form pending place next seat =
    IsSeatOf form pending.me seat
    × InCallNext (needs form) (withheld form) form.places pending.me pending.call.value pending.registered.value pending.seat.value.me.0 place seat.me.0 next

-- Its place has found this number; where it would have to join for it, it looks again
abbrev pub HasFound : Form → Pending → Position → ℕ → Seat → Type 0
HasFound form pending place found seat = GoesOn form pending place (unless_joining place (next_of (needs form) pending.me place place.stage found)) seat

-- It has ended with this answer, and its place rests
abbrev pub HasEnded : Form → Pending → Position → Answer → Seat → Type 0
HasEnded form pending place answer seat =
    IsSeatOf form pending.me seat
    × (HasEvents (needs form) (withheld form) pending.call.value pending.registered.value answer place.registration pending.seat.value.me.0 seat.me.0
    × RestsAfter seat.me.0.position place)

-- The same of a visitor, which has no number of a place

abbrev pub IsVisitorSeat : Form → Seat → Type 0
IsVisitorSeat form seat = (seat.table_id ≡ form.table.shared.table_id) × (seat.me.0.role ≡ Acting)

abbrev pub IsSameVisitor : Seat → Seat → Type 0
IsSameVisitor old new = (new.table_id ≡ old.table_id) × (new.id ≡ old.id) × (new.me.0.role ≡ Acting) × (new.me.0.number ≡ old.me.0.number)

-- a call was made by a visitor of a form, and answered so
abbrev pub IsCalledBy : Form → WordCall → Visitor → Answer → Visitor → Type 0
IsCalledBy form call old answer new = IsCalled (needs form) (withheld form) call Idle answer Idle (view_of_visitor old) (view_of_visitor new)

-- a call is pending at a visitor's seat, and the visitor is at this stage
abbrev pub IsVisitPending : Form → Visit → Position → Seat → Type 0
IsVisitPending form visit place seat = InVisit (needs form) form.places visit.call.value visit.seat.value.me.0 place seat.me.0

-- it goes on so behind a step
abbrev pub VisitGoesOn : Form → Visit → Position → Next → Seat → Type 0
VisitGoesOn form visit place next seat = VisitNext (needs form) (withheld form) form.places visit.call.value visit.seat.value.me.0 place seat.me.0 next

-- the visitor has found this number
abbrev pub VisitHasFound : Form → Visit → Position → ℕ → Seat → Type 0
VisitHasFound form visit place found seat = VisitGoesOn form visit place (next_of (needs form) 0 place place.stage found) seat

-- it has ended with this answer, and the visitor rests
abbrev pub VisitHasEnded : Form → Visit → Answer → Seat → Type 0
VisitHasEnded form visit answer seat =
    HasEvents (needs form) (withheld form) visit.call.value Idle answer Idle visit.seat.value.me.0 seat.me.0 × (seat.me.0.position ≡ idle_place)

-- What a call of a place does.
use Rattle.std.specs.Prelude.{◌≡◌, ℕ, Bool, true, false, List, Option, Some, None}
use Rattle.saa_word_steps.specs.declared.call.Answer.{Answer}
use Rattle.saa_word_steps.specs.declared.call.WordCall.{WordCall}
use Rattle.saa_word_steps.specs.declared.call.WordCall.TheVariants.{Available, IsShut, IsFree, IsLocked, IsShared, IsPoisoned, TryPoll}
use Rattle.saa_word_steps.specs.declared.event.Event.{Event}
use Rattle.saa_word_steps.specs.declared.place.Next.{Next}
use Rattle.saa_word_steps.specs.declared.place.Next.TheVariants.{Going, Waits, Done}
use Rattle.saa_word_steps.specs.declared.place.Place.{Place}
use Rattle.saa_word_steps.specs.declared.place.Registration.{Registration}
use Rattle.saa_word_steps.specs.Needs.{Needs}
use Rattle.saa_word_steps.specs.AbstractState.{HasShownAll}
use Rattle.saa_word_proofs.specs.Calls.{IsAnswered, asked_by}
use Rattle.saa_word_proofs.specs.CallStages.{IsReadyNext, IsUnder}
use Rattle.saa_word_proofs.specs.Registering.{registration_after_start, registration_after, starting_answer}
use Rattle.saa_word_proofs.specs.History.{named, part_of}
use Rattle.saa_word_threads.specs.declared.table.View.{View}
use Rattle.saa_word_threads.specs.Moves.{Begins, Extends, IsLegal, RestsAfter}

-- A call of a place that was registered so has these events, which end in this answer: the place's view grows by them, the answer is the one
-- that they name (others among them are granted, closed and showed, which no answer names), and what the place is registered as is read off them.
-- What the place has seen then is a legal history from the opening on, at which so much was taken, and its own events in that are its part. The
-- place has shown then each answer that it granted, in this call or before
pub record HasEvents (needs : Needs) (withheld : ℕ) (call : WordCall) (was : Registration) (answer : Answer) (now : Registration) (v w : View) : Type 0 where
  pub events : List Event
  pub extends : Extends v events w
  pub legal : IsLegal needs withheld w.seen
  pub shown : HasShownAll w.number legal.0
  pub own : part_of w.number w.seen ≡ w.part
  pub answers : IsAnswered needs call was (named events) answer
  pub registered : now ≡ registration_after (named events) (asked_by call) (registration_after_start call was)

-- A call that needs no shared word answers at its start, and has no events; each other call has
abbrev pub IsCalledFrom : Option Answer → Needs → ℕ → WordCall → Registration → Answer → Registration → View → View → Type 0
IsCalledFrom (Some said) needs withheld call was answer now v w = (answer ≡ said) × (now ≡ registration_after_start call was) × (w ≡ v)
IsCalledFrom None needs withheld call was answer now v w = HasEvents needs withheld call was answer now v w

abbrev pub IsCalled : Needs → ℕ → WordCall → Registration → Answer → Registration → View → View → Type 0
IsCalled needs withheld call was answer now v w = IsCalledFrom (starting_answer needs call was) needs withheld call was answer now v w

-- A call of a place that was registered so, which began at a view, has brought the place to this stage: what it has named so far goes with it, and
-- the place's view has grown by its events. Internal: nobody has to believe this; it is the invariant of the loop of a call
pub record InCall (needs : Needs) (places me : ℕ) (call : WordCall) (was : Registration) (began : View) (place : Place) (v : View) : Type 0 where
  pub events : List Event
  pub under : IsUnder needs call was place.back place.stage (named events)
  pub extends : Extends began events v
  pub registered : place.registration ≡ registration_after (named events) (asked_by call) (registration_after_start call was)
  pub begins : Begins needs v.position place
  pub ready : IsReadyNext needs places me (Going place)

-- the calls of one step at most
abbrev pub is_single : WordCall → Bool
is_single Available = true
is_single IsShut = true
is_single IsFree = true
is_single IsLocked = true
is_single IsShared = true
is_single IsPoisoned = true
is_single TryPoll = true
is_single _ = false

-- How a call goes on behind a step: from the next place, from where it was, or it is done and its place rests. Internal, as the invariant
abbrev pub InCallNext : Needs → ℕ → ℕ → ℕ → WordCall → Registration → View → Place → View → Next → Type 0
InCallNext needs withheld places me call was began place v (Going next) = InCall needs places me call was began next v
InCallNext needs withheld places me call was began place v Waits = InCall needs places me call was began place v
InCallNext needs withheld places me call was began place v (Done behind answer) =
    HasEvents needs withheld call was answer behind.registration began v × RestsAfter v.position behind

-- What a step of a place tells it.
use Rattle.std.specs.Prelude.{◌≡◌, ℕ, ◌⊎◌, ◌+◌, ◌<◌, ◌≤◌, Bool, true, false, if◌then◌else◌, List, ◌++◌}
use Rattle.atomic_table.specs.Table.{Me, Step}
use Rattle.saa_word_steps.specs.declared.call.WordCall.{WordCall}
use Rattle.saa_word_steps.specs.declared.event.Event.{Event}
use Rattle.saa_word_steps.specs.declared.place.Next.{Next}
use Rattle.saa_word_steps.specs.declared.place.Next.TheVariants.{Going}
use Rattle.saa_word_steps.specs.declared.place.Place.{Place}
use Rattle.saa_word_steps.specs.declared.place.Registration.{Registration}
use Rattle.saa_word_steps.specs.declared.place.Registration.TheVariants.{Idle, AnsweredAtOnce}
use Rattle.saa_word_steps.specs.declared.place.Stage.{Stage}
use Rattle.saa_word_steps.specs.declared.place.Stage.TheVariants.{Quiet, Prepare, ShowLoad, ShowStore}
use Rattle.saa_word_steps.specs.Needs.{Needs, needs_of}
use Rattle.saa_word_steps.specs.AbstractState.{AbstractState, IsRun, HasShownAll, opening}
use Rattle.saa_word_steps.specs.declared.operation.Operation.{Operation}
use Rattle.saa_word_steps.specs.Steps.{next_of, operation_of, started, word_at}
use Rattle.saa_word_steps.specs.Readings.{is_idle, is_taken}
use Rattle.saa_word_proofs.specs.History.{named, part_of, seen_by}
use Rattle.saa_word_proofs.specs.CallStages.{IsReadyNext}
use Rattle.saa_word_proofs.specs.Refinement.{IsVisiting}
use Rattle.saa_word_proofs.specs.StepRefinement.{named_at, place_after}
use Rattle.saa_word_threads.specs.declared.table.Role.TheVariants.{Acting}
use Rattle.saa_word_threads.specs.declared.table.View.{View}
use Rattle.saa_word_threads.specs.declared.table.About.{About}

-- A place's view grows by these events: they are what its part has more. What it has seen begins with what it had seen; behind that are
-- events of others and just these of its own, one of them last
pub record Extends (v : View) (events : List Event) (w : View) : Type 0 where
  pub role : w.role ≡ v.role
  pub number : w.number ≡ v.number
  pub part : w.part ≡ v.part ++ events
  pub more : List (ℕ × Event)
  pub seen : w.seen ≡ v.seen ++ more
  pub own : part_of v.number more ≡ events
  pub latest : seen_by v.number more ≡ more

-- A history is legal: from the opening on, at which so much is taken and there is no waiter, each of its events is enabled where it comes
abbrev pub IsLegal : Needs → ℕ → List (ℕ × Event) → Type 0
IsLegal needs withheld history = (last : AbstractState) × IsRun needs (opening withheld) history last

-- whether a place has answers to show at a stage
abbrev pub is_showing : Stage → Bool
is_showing (ShowLoad current value afterwards) = true
is_showing (ShowStore current next value afterwards) = true
is_showing stage = false

-- A place makes its step and goes on so with the number that it found: it is at the stage that this says, what answers name of its events is said by
-- its stage and the number, its view grows by these events, what it has seen is a legal history then in which its events are its part, and it
-- can make its next step. If it has no answer to show there, it has shown all that it granted. A visitor is at a stage of a visitor again
pub record Moves (needs : Needs) (withheld places : ℕ) (place : Place) (next : Next) (found : ℕ) (v w : View) : Type 0 where
  pub position : w.position ≡ place_after place next
  pub events : List Event
  pub names : named events ≡ named_at needs place.stage found
  pub extends : Extends v events w
  pub legal : IsLegal needs withheld w.seen
  pub shown : is_showing w.position.stage ≡ false → HasShownAll w.number legal.0
  pub own : part_of w.number w.seen ≡ w.part
  pub ready : IsReadyNext needs places v.number (Going w.position)
  pub visits : places ≤ v.number → IsVisiting w.position.stage

abbrev pub moved : About → Place → ℕ → Step (Unit {0}) → Me (Unit {0}) View → ℕ → Me (Unit {0}) View → Type 0
moved about place me st before found after =
    Moves (needs_of about.rules) about.withheld about.places place (next_of (needs_of about.rules) me place place.stage found) found before.0 after.0
    × (after.1 ≡ before.1)

-- whether a place goes on to join the waiters
abbrev pub prepares_at : Stage → Bool
prepares_at (Prepare request seen) = true
prepares_at stage = false

abbrev pub prepares : Next → Bool
prepares (Going place) = prepares_at place.stage
prepares next = false

-- how a place goes on that looks again in place of joining: it is at the stage where it was
abbrev pub unless_joining : Place → Next → Next
unless_joining place next = if prepares next then Going place else next

-- A place looks, and finds this number: it makes its step, unless it would go on to join; then nothing has happened
abbrev pub IsLookOnlyAs : Bool → Needs → ℕ → ℕ → Place → Next → ℕ → View → View → Type 0
IsLookOnlyAs true needs withheld places place next found v w = w ≡ v
IsLookOnlyAs false needs withheld places place next found v w = Moves needs withheld places place next found v w

abbrev pub IsLookOnly : Needs → ℕ → ℕ → ℕ → Place → ℕ → View → View → Type 0
IsLookOnly needs withheld places me place found v w =
    IsLookOnlyAs (prepares (next_of needs me place place.stage found)) needs withheld places place (next_of needs me place place.stage found) found v w

-- a place goes on so: it has made its step, or it is at the stage where it was and nothing has happened
abbrev pub MovesOrStays : Needs → ℕ → ℕ → ℕ → Place → Next → View → View → Type 0
MovesOrStays needs withheld places me place next v w =
    ((found : ℕ) × (next ≡ next_of needs me place place.stage found) × Moves needs withheld places place next found v w) ⊎ ((next ≡ Going place) × (w ≡ v))

abbrev pub look_only : About → Place → ℕ → Step (Unit {0}) → Me (Unit {0}) View → ℕ → Me (Unit {0}) View → Type 0
look_only about place me st before found after =
    IsLookOnly (needs_of about.rules) about.withheld about.places me place found before.0 after.0 × (after.1 ≡ before.1)

-- an answer that was given at once is taken
abbrev pub taken_once : Registration → Registration
taken_once (AnsweredAtOnce value request) = Idle
taken_once registration = registration

-- a place as it was behind its last step, but for an answer that was given at once, which it has taken where it is idle now
abbrev pub resting_as : Place → Bool → Place
resting_as was true = record was { registration = taken_once was.registration }
resting_as was false = was

-- a place rests so in no call, and has made no step since
abbrev pub RestsAfter : Place → Place → Type 0
RestsAfter was rest = (rest.stage ≡ Quiet) × (rest ≡ resting_as was (is_idle rest.registration))

-- a place is where it was behind its last step, or has started a call since
abbrev pub Begins : Needs → Place → Place → Type 0
Begins needs was place =
    (place ≡ was)
    ⊎ ((rest : Place) × (call : WordCall) × RestsAfter was rest × (is_taken needs.is_lock call ≡ true) × (place ≡ place_after rest (started needs rest call)))

-- A place of this number makes this operation next, out of so many places; or a visitor does, at a stage of a visitor
pub record IsNext (needs : Needs) (places me : ℕ) (place : Place) (operation : Operation) (v : View) : Type 0 where
  pub role : v.role ≡ Acting
  pub number : v.number ≡ me
  pub here : (me < places) ⊎ IsVisiting place.stage
  pub begins : Begins needs v.position place
  pub makes : operation ≡ operation_of needs places me place.stage
  pub inside : word_at operation < places + places + 1

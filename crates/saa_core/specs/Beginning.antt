-- How a call that may wait begins: it registers an idle ticket in one mode, and polls it in that mode where it was answered
-- true.
use Rattle.std.specs.Prelude.{◌≡◌, Bool, [], ◌∷◌, Option, Some, None, Result}
use Rattle.saa_core_spec.specs.declared.request.Request.{Request}
use Rattle.saa_core_spec.specs.declared.request.Full.{Full}
use Rattle.saa_core.specs.declared.ticket.Registration.{Registration}
use Rattle.saa_core.specs.declared.ticket.Registration.TheVariants.{Unregistered, AtOnce, InSlot}
use Rattle.saa_core_spec.specs.Asking.{registered}
use Rattle.saa_core_spec.specs.Object.{Object}
use Rattle.saa_core.specs.Slots.{WakesAnswered}
use Rattle.saa_core.specs.Tickets.{Core, StepsWithTicket, object_of}

-- whether a ticket was registered as sync; an idle one neither way
abbrev pub mode_of : Registration → Option Bool
mode_of Unregistered = None
mode_of (AtOnce value request is_sync) = Some is_sync
mode_of (InSlot slot request is_sync) = Some is_sync

-- a core with one idle ticket, as the object
abbrev pub alone : Core → Object
alone core = object_of core (Unregistered ∷ [])

-- The pending wakes after a call that may wait has begun: its registration, with this answer, leaves a wake pending for each waiter
-- that it answers; to consume its own answer at once changes none
pub record BeginWakes (old new : Core) (ticket : Registration) (request : Request) (is_sync : Bool) (answer : Result Bool Full) : Type 0 where
  pub between : Core
  pub ticket_between : Registration
  pub registration : StepsWithTicket old between ticket ticket_between (λ s name. registered s name request is_sync) answer
  pub wakes : WakesAnswered old.slots between.slots
  pub pending_wakes : new.slots.pending_wakes ≡ between.slots.pending_wakes

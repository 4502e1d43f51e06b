-- How a call that may wait begins, and how a wait ends.
use Rattle.std.specs.Prelude.{◌≡◌, ◌||◌, ℕ, Bool, true, false, Option, Some, None, Result, Ok, Err, IfOk}
use Rattle.saa_core_spec.specs.declared.request.Request.{Request}
use Rattle.saa_core_spec.specs.declared.polling.Error.{Error}
use Rattle.saa_core_spec.specs.declared.request.Full.{Full}
use Rattle.saa_core_spec.specs.declared.polling.How.{How}
use Rattle.saa_core_spec.specs.declared.polling.How.TheVariants.{Sync}
use Rattle.saa_core_spec.specs.declared.polling.Error.TheVariants.{Closed, NotReady, NotRegistered, WrongMode}
use Rattle.saa_core_spec.specs.Asking.{registered}
use Rattle.saa_core_spec.specs.Object.{Object, After}
use Rattle.saa_core_spec.specs.Polling.{withdrawn, polled, read_as}
use Rattle.saa_core.specs.declared.ticket.Registration.{Registration}
use Rattle.saa_core.specs.declared.ticket.Registration.TheVariants.{Unregistered}
use Rattle.saa_core.specs.Beginning.{mode_of}
use Rattle.saa_core.specs.Tickets.{HasAnswer, IsNeverTooMuch, Polled, is_busy, is_yes}
use Rattle.saa_core_spec.specs.Errors.{error_of, is_not_ready}
use Rattle.saa_core_waits.specs.declared.waitable.CallStart.{CallStart}
use Rattle.saa_sync.specs.declared.locked.Wake.{Wake}
use Rattle.saa_core_waits.specs.declared.waitable.CallStart.TheVariants.{Refused, Answered, Joined}

-- whether it joined the line
abbrev pub has_joined : Result CallStart Full → Bool
has_joined (Ok Joined) = true
has_joined (Ok Refused) = false
has_joined (Ok (Answered value)) = false
has_joined (Err full) = false

-- what the registration answered: false exactly where the call is refused
abbrev pub registration_of : Result CallStart Full → Result Bool Full
registration_of (Ok Refused) = Ok false
registration_of (Ok (Answered value)) = Ok true
registration_of (Ok Joined) = Ok true
registration_of (Err full) = Err full

-- what the first poll of a registration says: it is answered at once, or has joined
abbrev pub begun_poll : Result ℕ Error → Result CallStart Full
begun_poll (Ok value) = Ok (Answered value)
begun_poll (Err error) = Ok Joined

-- how a call begins, by the answer of its registration: only a true one is polled, as sync
abbrev pub begun_of : ℕ → Object → Result Bool Full → After (Result CallStart Full)
begun_of name s (Err full) = record { state = s; reply = Err full }
begun_of name s (Ok false) = record { state = s; reply = Ok Refused }
begun_of name s (Ok true) = read_as begun_poll (polled s name Sync)

abbrev pub begun_from : ℕ → After (Result Bool Full) → After (Result CallStart Full)
begun_from name after = begun_of name after.state after.reply

-- A call that may wait begins by registering its name as sync; an answer that is there at once is consumed
abbrev pub begun : Object → ℕ → Request → After (Result CallStart Full)
begun s name request = begun_from name (registered s name request true)

-- how a wait ends whose time is up, by what a last poll says: where the answer isn't there, what the name is registered for is withdrawn,
-- which disturbs nobody
abbrev pub concluded_of : ℕ → Object → Result ℕ Error → After (Result ℕ Error)
concluded_of name s (Ok value) = record { state = s; reply = Ok value }
concluded_of name s (Err NotReady) = record { state = withdrawn s name; reply = Err NotReady }
concluded_of name s (Err NotRegistered) = record { state = s; reply = Err NotRegistered }
concluded_of name s (Err WrongMode) = record { state = s; reply = Err WrongMode }
concluded_of name s (Err Closed) = record { state = s; reply = Err Closed }

abbrev pub concluded_from : ℕ → After (Result ℕ Error) → After (Result ℕ Error)
concluded_from name after = concluded_of name after.state after.reply

-- A wait whose time is up ends with a poll as sync: an answer that is there is consumed, and else the name is withdrawn
abbrev pub concluded : Object → ℕ → After (Result ℕ Error)
concluded s name = concluded_from name (polled s name Sync)

-- the slot of a wake, if there is one
abbrev pub slot_woken : Option Wake → Option ℕ
slot_woken None = None
slot_woken (Some wake) = Some wake.slot

-- What a registration as sync or as async does to a ticket: it is registered exactly where the answer is true, and an idle one that asks for no
-- more than there ever is finds at most that the room is full
pub record IsRegistered (invariant_of : Object → Type 0) (request : Request) (is_sync : Bool) (old new : Registration) (answer : Result Bool Full) : Type 0 where
  pub busy : is_busy new ≡ (is_busy old || is_yes answer)
  pub mode : old ≡ Unregistered → is_yes answer ≡ true → mode_of new ≡ Some is_sync
  pub sure : old ≡ Unregistered → IsNeverTooMuch invariant_of request → IfOk answer (λ is_registered. is_registered ≡ true)

-- What a poll does to a ticket, and that its number is one that the ticket can have: one that was answered at once is told its own
pub record IsPolled (how : How) (old new : Registration) (answer : Result ℕ Error) : Type 0 where
  pub polled : Polled old new how (error_of answer)
  pub answered : HasAnswer old answer

-- a poll as sync, and a quiet leave where the answer isn't there yet
pub record IsPolledOrLeft (old new : Registration) (answer : Result ℕ Error) : Type 0 where
  pub between : Registration
  pub polled : IsPolled Sync old between answer
  pub answered : is_not_ready (error_of answer) ≡ false → new ≡ between
  pub left : is_not_ready (error_of answer) ≡ true → new ≡ Unregistered

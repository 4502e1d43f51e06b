-- What each poll of a future does to the object, and what it says.
use Rattle.std.specs.Prelude.{◌≡◌, ℕ, Bool, true, false, Option, Some, None, is_some, Result, Ok, Err}
use Rattle.saa_core_spec.specs.declared.request.Request.{Request}
use Rattle.saa_core_spec.specs.declared.request.Full.{Full}
use Rattle.saa_core_spec.specs.declared.polling.Error.{Error}
use Rattle.saa_core_spec.specs.declared.polling.How.TheVariants.{Async}
use Rattle.saa_core.specs.declared.ticket.Registration.{Registration}
use Rattle.saa_core_spec.specs.Asking.{registered}
use Rattle.saa_core_spec.specs.Object.{Object, After}
use Rattle.saa_core_spec.specs.Polling.{polled, read_as}
use Rattle.saa_core.specs.Tickets.{is_busy, slot_of}
use Rattle.saa_core.specs.Beginning.{mode_of}
use Rattle.saa_core.specs.declared.future.Progress.{Progress}
use Rattle.saa_core.specs.declared.future.Progress.TheVariants.{Done, Joined, Waits, Refused}

-- what contracts see of a future: what it asks, what it is registered as, and whether it has ended
pub record PendingState : Type 0 where
  pub request : Request
  pub ticket : Registration
  pub has_ended : Bool

-- what always holds of a future: a registered one hasn't ended, is registered as async, and has a slot
pub record IsKept (ticket : Registration) (has_ended : Bool) : Type 0 where
  pub unended : is_busy ticket ≡ true → has_ended ≡ false
  pub mode : is_busy ticket ≡ true → mode_of ticket ≡ Some false
  pub slot : is_some (slot_of ticket) ≡ is_busy ticket

-- whether a poll ended the future
abbrev pub is_end : {T : Type 0} → Progress T → Bool
is_end (Done value) = true
is_end Joined = false
is_end Waits = false
is_end (Refused full) = true

-- whether the future joined the line by this poll
abbrev pub has_joined : {T : Type 0} → Progress T → Bool
has_joined (Done value) = false
has_joined Joined = true
has_joined Waits = false
has_joined (Refused full) = false

-- whether the future waits as it did before this poll
abbrev pub is_waiting : {T : Type 0} → Progress T → Bool
is_waiting (Done value) = false
is_waiting Joined = false
is_waiting Waits = true
is_waiting (Refused full) = false

-- what a poll of a ticket says to the future: its answer, or this where there is none
abbrev pub answer_or : Progress (Option ℕ) → Result ℕ Error → Progress (Option ℕ)
answer_or otherwise (Ok value) = Done (Some value)
answer_or otherwise (Err error) = otherwise

-- A further poll of a future polls its name as async: it waits where there is no answer
abbrev pub waited : Object → ℕ → After (Progress (Option ℕ))
waited s name = read_as (answer_or Waits) (polled s name Async)

-- the first poll, by the answer of its registration: only a true one is polled, as async
abbrev pub asked_of : ℕ → Object → Result Bool Full → After (Progress (Option ℕ))
asked_of name s (Err full) = record { state = s; reply = Refused full }
asked_of name s (Ok false) = record { state = s; reply = Done None }
asked_of name s (Ok true) = read_as (answer_or Joined) (polled s name Async)

abbrev pub asked_from : ℕ → After (Result Bool Full) → After (Progress (Option ℕ))
asked_from name after = asked_of name after.state after.reply

-- The first poll of a future registers its name as async; an answer that is there at once is consumed
abbrev pub asked : Object → ℕ → Request → After (Progress (Option ℕ))
asked s name request = asked_from name (registered s name request false)

-- what the registration of a first poll answered: false exactly where the future ends without a value. (A first poll
-- doesn't say that the future waits still)
abbrev pub registration_of : Progress (Option ℕ) → Result Bool Full
registration_of (Done None) = Ok false
registration_of (Done (Some value)) = Ok true
registration_of Joined = Ok true
registration_of Waits = Ok true
registration_of (Refused full) = Err full

-- what holds of the value that a poll ended with, if it ended with one
abbrev pub IfDone : {A : Type 0} → Progress A → (A → Type 0) → Type 0
IfDone (Done value) P = P value
IfDone Joined P = Unit {0}
IfDone Waits P = Unit {0}
IfDone (Refused full) P = Unit {0}

-- the same progress, with a value that its own may be read as
abbrev pub IsRead : {A B : Type 0} → (A → B → Type 0) → Progress A → Progress B → Type 0
IsRead Reads (Done value) other = (read : _) × Reads value read × (other ≡ Done read)
IsRead Reads Joined other = other ≡ Joined
IsRead Reads Waits other = other ≡ Waits
IsRead Reads (Refused full) other = other ≡ Refused full

-- the same progress, with its value read
abbrev pub read_progress : {A B : Type 0} → (A → B) → Progress A → Progress B
read_progress read (Done value) = Done (read value)
read_progress read Joined = Joined
read_progress read Waits = Waits
read_progress read (Refused full) = Refused full

-- a poll of a future whose value is read as a form reads it
abbrev pub progress_as : {A B : Type 0} → (A → B) → After (Progress A) → After (Progress B)
progress_as read after = record { state = after.state; reply = read_progress read after.reply }

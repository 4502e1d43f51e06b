-- Where a call stands by its stage: which events it has named there, what its place is registered as behind a step, and that the place can make its
-- next step. Internal: nobody has to believe this; it is an invariant of proofs.
use Rattle.std.specs.Prelude.{◌≡◌, ◌≢◌, ℕ, ◌+◌, ◌<◌, Bool, true, false, not, List, [], ◌∷◌, Option, Some, None}
use Rattle.saa_core_spec.specs.Values.{granted_value}
use Rattle.saa_word_steps.specs.declared.call.WordCall.{WordCall}
use Rattle.saa_word_steps.specs.declared.call.WordCall.TheVariants.{Release, Available, Shut, IsShut, ReleaseLock, ReleaseShare, Downgrade, PoisonLock, ClearPoison, IsFree, IsLocked, IsShared, IsPoisoned, TryPoll, Poll, Cancel}
use Rattle.saa_word_steps.specs.declared.call.Answer.{Answer}
use Rattle.saa_word_steps.specs.declared.call.Answer.TheVariants.{Bool as Says}
use Rattle.saa_word_steps.specs.declared.place.ReleaseAmount.{ReleaseAmount}
use Rattle.saa_word_steps.specs.declared.place.ReleaseAmount.TheVariants.{Requested, AllButAShare}
use Rattle.saa_word_steps.specs.declared.place.AfterWalk.{AfterWalk}
use Rattle.saa_word_steps.specs.declared.place.AfterWalk.TheVariants.{Tells, Ends, Takes}
use Rattle.saa_word_steps.specs.declared.place.Reading.{Reading}
use Rattle.saa_word_steps.specs.declared.place.Reading.TheVariants.{Available as ReadsAvailable, IsFree as ReadsFree, IsLocked as ReadsLocked, IsShared as ReadsShared, IsPoisoned as ReadsPoisoned}
use Rattle.saa_word_steps.specs.declared.place.Registration.{Registration}
use Rattle.saa_word_steps.specs.declared.place.Registration.TheVariants.{AnsweredAtOnce, Queued}
use Rattle.saa_word_steps.specs.declared.place.PollMode.{PollMode}
use Rattle.saa_word_steps.specs.declared.place.PollMode.TheVariants.{Tries, Awaits, Gives}
use Rattle.saa_word_steps.specs.declared.place.Stage.{Stage}
use Rattle.saa_word_steps.specs.declared.place.Stage.TheVariants.{Quiet, ReadLoad, AcquireLoad, AcquireExchange, Prepare, Join, ReleaseLoad, ReleaseExchange, Take, FlagLoad, FlagExchange, LookLoad, LookStore, Unlink, DropTail, PoisonLoad, PoisonExchange, Clear}
use Rattle.saa_word_steps.specs.declared.place.Next.{Next}
use Rattle.saa_word_steps.specs.declared.place.Next.TheVariants.{Going, Waits, Done}
use Rattle.saa_word_steps.specs.Needs.{Needs}
use Rattle.saa_word_steps.specs.declared.event.Event.{Event}
use Rattle.saa_word_steps.specs.declared.event.Event.TheVariants.{AnswerTaken}
use Rattle.saa_word_steps.specs.Steps.{IsRanged, operation_of, word_at}
use Rattle.saa_word_proofs.specs.Calls.{IsAnswered, IsCancelled, answer_named, asked_by, is_taken_up}

-- what a call gives back, and what it reads
abbrev pub given_by : WordCall → Option ReleaseAmount
given_by (Release count) = Some (Requested count)
given_by ReleaseLock = Some (Requested 0)
given_by ReleaseShare = Some (Requested 1)
given_by Downgrade = Some AllButAShare
given_by _ = None

abbrev pub read_by : WordCall → Option Reading
read_by Available = Some ReadsAvailable
read_by IsShut = Some ReadsPoisoned
read_by IsFree = Some ReadsFree
read_by IsLocked = Some ReadsLocked
read_by IsShared = Some ReadsShared
read_by IsPoisoned = Some ReadsPoisoned
read_by _ = None

-- a call that poisons a lock, or shuts a semaphore
abbrev pub is_poisoning : Bool → WordCall → Bool
is_poisoning is_lock PoisonLock = is_lock
is_poisoning is_lock Shut = not is_lock
is_poisoning is_lock _ = false

-- a call that takes its answer
abbrev pub taken_by : WordCall → Option PollMode
taken_by TryPoll = Some Tries
taken_by Poll = Some Awaits
taken_by _ = None

-- a cancel that gives back what its registration was granted has named that it took its answer, where it waited for that
abbrev pub IsGivingUp : Needs → Registration → ReleaseAmount → List Event → Type 0
IsGivingUp needs (Queued request) given events = (given ≡ Requested request) × (needs.takes request ≢ 0) × (events ≡ AnswerTaken granted_value ∷ [])
IsGivingUp needs (AnsweredAtOnce value request) given events = (given ≡ Requested request) × (is_taken_up needs request value ≡ true) × (events ≡ [])
IsGivingUp needs _ given events = ⊥

-- a call that gives something back, all but a share too, by what it does once it is done with the line
abbrev pub IsReleasing : Needs → WordCall → Registration → AfterWalk → ReleaseAmount → List Event → Type 0
IsReleasing needs call registered Tells given events = (given_by call ≡ Some given) × (events ≡ [])
IsReleasing needs call registered Ends given events = (call ≡ Cancel) × IsGivingUp needs registered given events
IsReleasing needs call registered (Takes request) given events = ⊥

-- a place that works on the line or shows answers has given something back, poisoned the lock, shut the semaphore, or left the line; or it takes its own answer
-- next, and has named nothing
abbrev pub IsWorking : Needs → WordCall → Registration → AfterWalk → List Event → Type 0
IsWorking needs call registered Tells events = (event : Event) × (events ≡ event ∷ []) × (answer_named needs call event ≡ Some (Says true)) × (call ≢ Cancel)
IsWorking needs call registered Ends events = (call ≡ Cancel) × IsCancelled needs registered events
IsWorking needs call registered (Takes request) events = (call ≡ Cancel) × (registered ≡ Queued request) × (events ≡ [])

-- a cancel that is to leave the line has named nothing
abbrev pub IsLeavingLine : WordCall → Registration → AfterWalk → List Event → Type 0
IsLeavingLine call registered (Takes request) events = (call ≡ Cancel) × (registered ≡ Queued request) × (events ≡ [])
IsLeavingLine call registered _ events = ⊥

-- a poll, or a cancel that takes its own answer
abbrev pub IsTaking : WordCall → Registration → PollMode → List Event → Type 0
IsTaking call registered (Gives request) events = (call ≡ Cancel) × (registered ≡ Queued request) × (events ≡ [])
IsTaking call registered taking events = (taken_by call ≡ Some taking) × (events ≡ [])

-- a call of a place that was registered so stands at a stage, and has named these events so far
abbrev pub IsUnder : Needs → WordCall → Registration → AfterWalk → Stage → List Event → Type 0
IsUnder needs call registered back Quiet events = ⊥
IsUnder needs call registered back (ReadLoad reading) events = (read_by call ≡ Some reading) × (events ≡ [])
IsUnder needs call registered back (AcquireLoad ask) events = (asked_by call ≡ Some ask) × (events ≡ [])
IsUnder needs call registered back (AcquireExchange ask seen) events = (asked_by call ≡ Some ask) × (events ≡ [])
IsUnder needs call registered back (Prepare request seen) events = (asked_by call ≡ Some (record { request = request; joins = true })) × (events ≡ [])
IsUnder needs call registered back (Join request seen) events = (asked_by call ≡ Some (record { request = request; joins = true })) × (events ≡ [])
IsUnder needs call registered back (ReleaseLoad given) events = IsReleasing needs call registered back given events
IsUnder needs call registered back (ReleaseExchange given seen) events = IsReleasing needs call registered back given events
IsUnder needs call registered back (Take taking) events = IsTaking call registered taking events
IsUnder needs call registered back FlagLoad events = IsLeavingLine call registered back events
IsUnder needs call registered back (FlagExchange seen) events = IsLeavingLine call registered back events
IsUnder needs call registered back (LookLoad seen current newer previous) events = IsLeavingLine call registered back events
IsUnder needs call registered back (LookStore seen current newer line) events = IsLeavingLine call registered back events
IsUnder needs call registered back (Unlink seen newer line older) events = IsLeavingLine call registered back events
IsUnder needs call registered back (DropTail seen older) events = IsLeavingLine call registered back events
IsUnder needs call registered back PoisonLoad events = (is_poisoning needs.is_lock call ≡ true) × (back ≡ Tells) × (events ≡ [])
IsUnder needs call registered back (PoisonExchange seen) events = (is_poisoning needs.is_lock call ≡ true) × (back ≡ Tells) × (events ≡ [])
IsUnder needs call registered back Clear events = (call ≡ ClearPoison) × (events ≡ [])
IsUnder needs call registered back _ events = IsWorking needs call registered back events

-- how a call that stood at a stage goes on: at another, where it was, or done with the answer that its events name
abbrev pub IsUnderNext : Needs → WordCall → Registration → AfterWalk → Stage → List Event → Next → Type 0
IsUnderNext needs call registered back stage events (Going place) = IsUnder needs call registered place.back place.stage events
IsUnderNext needs call registered back stage events Waits = IsUnder needs call registered back stage events
IsUnderNext needs call registered back stage events (Done place answer) = IsAnswered needs call registered events answer

-- how a call goes on that has just started: it has named nothing yet, where it isn't done at once
abbrev pub IsBegun : Needs → WordCall → Registration → Next → Type 0
IsBegun needs call registered (Going place) = IsUnder needs call registered place.back place.stage []
IsBegun needs call registered Waits = ⊥
IsBegun needs call registered (Done place answer) = place.stage ≡ Quiet

-- a place is registered so where its call goes on or is done, and as before where it waits; a place that is done is at rest
abbrev pub IsLeft : Registration → Registration → Next → Type 0
IsLeft was now (Going place) = place.registration ≡ now
IsLeft was now Waits = was ≡ now
IsLeft was now (Done place answer) = (place.registration ≡ now) × (place.stage ≡ Quiet)

-- a call that starts answers so, or goes on where there is no answer, and its place is registered so
abbrev pub IsStartedAs : Option Answer → Registration → Next → Type 0
IsStartedAs None now (Going place) = place.registration ≡ now
IsStartedAs (Some answer) now (Done place said) = (said ≡ answer) × (place.registration ≡ now) × (place.stage ≡ Quiet)
IsStartedAs _ now _ = ⊥

-- A place can make its next step where it goes on: what it remembers is within the bits of a count, and its word is one of the row
abbrev pub IsReadyNext : Needs → ℕ → ℕ → Next → Type 0
IsReadyNext needs places me (Going place) = IsRanged needs place.stage × (word_at (operation_of needs places me place.stage) < places + places + 1)
IsReadyNext needs places me _ = Unit {0}

-- Which answer the events of a call name. A reader of the clauses has to believe this.
use Rattle.std.specs.Prelude.{◌≡◌, ◌≢◌, ℕ, ◌⊎◌, Bool, true, false, not, ◌&&◌, ◌==◌, if◌then◌else◌, List, [], ◌∷◌, Option, Some, None, Ok, Err}
use Rattle.saa_core_spec.specs.Values.{granted_value}
use Rattle.saa_core_spec.specs.declared.polling.Error.TheVariants.{NotReady as NotYet}
use Rattle.saa_word_steps.specs.declared.call.WordCall.{WordCall}
use Rattle.saa_word_steps.specs.declared.call.WordCall.TheVariants.{Try, Register, Release, Available, Shut, IsShut, TryLock, TryShare, RegisterMode, ReleaseLock, ReleaseShare, Downgrade, PoisonLock, ClearPoison, IsFree, IsLocked, IsShared, IsPoisoned, TryPoll, Poll, Cancel}
use Rattle.saa_word_steps.specs.declared.call.Answer.{Answer}
use Rattle.saa_word_steps.specs.declared.call.Answer.TheVariants.{Bool as Says, Taken, Unit as Ended}
use Rattle.saa_word_steps.specs.declared.place.Ask.{Ask}
use Rattle.saa_word_steps.specs.declared.place.ReleaseAmount.{ReleaseAmount}
use Rattle.saa_word_steps.specs.declared.place.ReleaseAmount.TheVariants.{Requested, AllButAShare}
use Rattle.saa_word_steps.specs.declared.place.Reading.{Reading}
use Rattle.saa_word_steps.specs.declared.place.Reading.TheVariants.{Available as ReadsAvailable, IsFree as ReadsFree, IsLocked as ReadsLocked, IsShared as ReadsShared, IsPoisoned as ReadsPoisoned}
use Rattle.saa_word_steps.specs.declared.place.Registration.{Registration}
use Rattle.saa_word_steps.specs.declared.place.Registration.TheVariants.{AnsweredAtOnce, Queued}
use Rattle.saa_word_steps.specs.Needs.{Needs}
use Rattle.saa_word_steps.specs.Readings.{mode_number, read_as, refusing_answer, tried_answer}
use Rattle.saa_word_steps.specs.declared.event.Event.{Event}
use Rattle.saa_word_steps.specs.declared.event.Event.TheVariants.{Acquired, Refused, AskedPoisoned, Joined, Cancelled, Released, ReleasedNothing, Lowered, NotLowered, Poisoned, NotPoisoned, Cleared, NotCleared, NotReady, AnswerTaken, Read}

-- what a call asks for
abbrev pub asked_by : WordCall → Option Ask
asked_by (Try count) = Some (record { request = count; joins = false })
asked_by (Register count) = Some (record { request = count; joins = true })
asked_by TryLock = Some (record { request = 0; joins = false })
asked_by TryShare = Some (record { request = 1; joins = false })
asked_by (RegisterMode mode) = Some (record { request = mode_number mode; joins = true })
asked_by _ = None

-- the answer that an event names for an ask: a registration is told that it was made
abbrev pub ask_named : Needs → Ask → Event → Option Answer
ask_named needs ask (Acquired request) = if request == ask.request then Some (if ask.joins then Says true else tried_answer needs true) else None
ask_named needs ask (Refused request) = if (request == ask.request) && not ask.joins then Some (tried_answer needs false) else None
ask_named needs ask (Joined request) = if (request == ask.request) && ask.joins then Some (Says true) else None
ask_named needs ask AskedPoisoned = Some (if ask.joins then Says true else refusing_answer needs)
ask_named needs ask _ = None

-- the answer that an event names for a release or a downgrade, a reading call and a poll
abbrev pub release_named : ReleaseAmount → Event → Option Answer
release_named (Requested given) (Released request) = if request == given then Some (Says true) else None
release_named (Requested given) (ReleasedNothing request) = if request == given then Some (Says false) else None
release_named AllButAShare Lowered = Some (Says true)
release_named AllButAShare NotLowered = Some (Says false)
release_named given _ = None

abbrev pub read_named : Needs → Reading → Event → Option Answer
read_named needs reading (Read count poisoned) = Some (read_as needs reading count poisoned)
read_named needs reading _ = None

abbrev pub poll_named : Bool → Event → Option Answer
poll_named tries (AnswerTaken value) = Some (Taken (Ok (value == granted_value)))
poll_named tries NotReady = if tries then Some (Taken (Err NotYet)) else None
poll_named tries _ = None

-- the answer that an event names for poison, for a shut, and for the clearing of poison
abbrev pub poison_named : Event → Option Answer
poison_named Poisoned = Some (Says true)
poison_named NotPoisoned = Some (Says false)
poison_named _ = None

abbrev pub clear_named : Event → Option Answer
clear_named Cleared = Some (Says true)
clear_named NotCleared = Some (Says false)
clear_named _ = None

-- the answer that an event names for a call that names one; none where it isn't one of that call
abbrev pub answer_named : Needs → WordCall → Event → Option Answer
answer_named needs (Try count) event = ask_named needs (record { request = count; joins = false }) event
answer_named needs (Register count) event = ask_named needs (record { request = count; joins = true }) event
answer_named needs (Release count) event = release_named (Requested count) event
answer_named needs Available event = read_named needs ReadsAvailable event
answer_named needs Shut event = poison_named event
answer_named needs IsShut event = read_named needs ReadsPoisoned event
answer_named needs TryLock event = ask_named needs (record { request = 0; joins = false }) event
answer_named needs TryShare event = ask_named needs (record { request = 1; joins = false }) event
answer_named needs (RegisterMode mode) event = ask_named needs (record { request = mode_number mode; joins = true }) event
answer_named needs ReleaseLock event = release_named (Requested 0) event
answer_named needs ReleaseShare event = release_named (Requested 1) event
answer_named needs Downgrade event = release_named AllButAShare event
answer_named needs PoisonLock event = poison_named event
answer_named needs ClearPoison event = clear_named event
answer_named needs IsFree event = read_named needs ReadsFree event
answer_named needs IsLocked event = read_named needs ReadsLocked event
answer_named needs IsShared event = read_named needs ReadsShared event
answer_named needs IsPoisoned event = read_named needs ReadsPoisoned event
answer_named needs TryPoll event = poll_named true event
answer_named needs Poll event = poll_named false event
answer_named needs Cancel event = None

-- a cancel that gives back what its registration was granted
abbrev pub IsDropped : ℕ → List Event → Type 0
IsDropped request events = (events ≡ Released request ∷ []) ⊎ (events ≡ ReleasedNothing request ∷ [])

-- whether an answer of a registration took something, which a cancel gives back
abbrev pub is_taken_up : Needs → ℕ → ℕ → Bool
is_taken_up needs request value = (value == granted_value) && not (needs.takes request == 0)

-- what a cancel names, of a place that was registered so as it started. It leaves the line, or it takes its answer; what was granted and
-- took something it gives back, where that is held still
abbrev pub IsCancelled : Needs → Registration → List Event → Type 0
IsCancelled needs (Queued request) events =
    (events ≡ Cancelled ∷ [])
    ⊎ (((value : ℕ) × (events ≡ AnswerTaken value ∷ []) × (is_taken_up needs request value ≡ false))
    ⊎ ((needs.takes request ≢ 0) × ((rest : List Event) × (events ≡ AnswerTaken granted_value ∷ rest) × IsDropped request rest)))
IsCancelled needs (AnsweredAtOnce value request) events = (is_taken_up needs request value ≡ true) × IsDropped request events
IsCancelled needs _ events = ⊥

-- An answer is the one that a call's events name. A cancel is of a registration, and each other call names one event
abbrev pub IsAnswered : Needs → WordCall → Registration → List Event → Answer → Type 0
IsAnswered needs Cancel registered events answer = (answer ≡ Ended) × IsCancelled needs registered events
IsAnswered needs call registered events answer = (event : Event) × (events ≡ event ∷ []) × (answer_named needs call event ≡ Some answer)

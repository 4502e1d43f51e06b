-- What a place is registered as behind the start of a call and behind each event, and what a call answers at its start: all read off the
-- call, the events and what the place was registered as. A reader of the clauses has to believe this.
use Rattle.std.specs.Prelude.{◌≡◌, ℕ, Bool, true, false, if◌then◌else◌, nat_lt, ◌==◌, List, [], ◌∷◌, Option, Some, None, Ok, Err}
use Rattle.saa_core_spec.specs.Values.{granted_value, poisoned_value}
use Rattle.saa_core_spec.specs.declared.polling.Error.TheVariants.{NotRegistered}
use Rattle.saa_word_steps.specs.declared.place.Ask.{Ask}
use Rattle.saa_word_steps.specs.declared.place.Registration.{Registration}
use Rattle.saa_word_steps.specs.declared.place.Registration.TheVariants.{Idle, AnsweredAtOnce, Queued}
use Rattle.saa_word_steps.specs.declared.call.Answer.{Answer}
use Rattle.saa_word_steps.specs.declared.call.Answer.TheVariants.{Bool as Says, Taken, Unit as Ended}
use Rattle.saa_word_steps.specs.declared.call.WordCall.{WordCall}
use Rattle.saa_word_steps.specs.declared.call.WordCall.TheVariants.{Try, Register, Release, RegisterMode, TryPoll, Poll, Cancel}
use Rattle.saa_word_steps.specs.declared.event.Event.{Event}
use Rattle.saa_word_steps.specs.declared.event.Event.TheVariants.{Acquired, AskedPoisoned, Joined, Cancelled, AnswerTaken}
use Rattle.saa_word_steps.specs.Needs.{Needs}
use Rattle.saa_word_proofs.specs.Calls.{is_taken_up}

-- whether a registration holds a place of the line, or an answer that was waited for
abbrev pub is_slot : Registration → Bool
is_slot (Queued request) = true
is_slot _ = false

-- What a place is registered as behind an event of its call, which may ask for something. Got: a registration was answered at once, with
-- that request. Asked a poisoned lock: it was answered at once that the lock is poisoned. Joined: it is in the line with that request.
-- Left and took: it is idle
abbrev pub registration_after_event : Event → Option Ask → Registration → Registration
registration_after_event (Acquired request) (Some ask) was = if ask.joins then AnsweredAtOnce granted_value request else was
registration_after_event AskedPoisoned (Some ask) was = if ask.joins then AnsweredAtOnce poisoned_value ask.request else was
registration_after_event (Joined request) asks was = Queued request
registration_after_event Cancelled asks was = Idle
registration_after_event (AnswerTaken value) asks was = Idle
registration_after_event _ asks was = was

-- the same behind some events
abbrev pub registration_after : List Event → Option Ask → Registration → Registration
registration_after [] asks was = was
registration_after (event ∷ rest) asks was = registration_after rest asks (registration_after_event event asks was)

-- What a place is registered as once a call has started: a poll and a cancel take what was answered at once, and it is idle then
abbrev pub registration_after_start : WordCall → Registration → Registration
registration_after_start TryPoll (AnsweredAtOnce value request) = Idle
registration_after_start Poll (AnsweredAtOnce value request) = Idle
registration_after_start Cancel (AnsweredAtOnce value request) = Idle
registration_after_start call was = was

-- what a registration, a poll and a cancel answer at their start; nothing where they have a word to look at
abbrev pub registering_answer : Registration → Option Answer
registering_answer Idle = None
registering_answer _ = Some (Says false)

abbrev pub polling_answer : Registration → Option Answer
polling_answer Idle = Some (Taken (Err NotRegistered))
polling_answer (AnsweredAtOnce value request) = Some (Taken (Ok (value == granted_value)))
polling_answer (Queued request) = None

abbrev pub cancelling_answer : Needs → Registration → Option Answer
cancelling_answer needs Idle = Some Ended
cancelling_answer needs (AnsweredAtOnce value request) = if is_taken_up needs request value then None else Some Ended
cancelling_answer needs (Queued request) = None

-- What a call of a place that is registered so answers at its start, where it needs no word: a count above the bound, a registration where
-- it is registered, a release of nothing, a poll and a cancel without a slot, but for a cancel that gives back what was granted at once
abbrev pub starting_answer : Needs → WordCall → Registration → Option Answer
starting_answer needs (Try count) was = if nat_lt needs.top count then Some (Says false) else None
starting_answer needs (Register count) was = if nat_lt needs.top count then Some (Says false) else registering_answer was
starting_answer needs (Release count) was = if nat_lt needs.top count then Some (Says false) else (if count == 0 then Some (Says true) else None)
starting_answer needs (RegisterMode mode) was = registering_answer was
starting_answer needs TryPoll was = polling_answer was
starting_answer needs Poll was = polling_answer was
starting_answer needs Cancel was = cancelling_answer needs was
starting_answer needs _ was = None

-- each of a line is registered in it with what it asks
abbrev pub AreRegistered : (ℕ → Registration) → List (ℕ × ℕ) → Type 0
AreRegistered registered [] = Unit {0}
AreRegistered registered (asker ∷ rest) = (registered asker.0 ≡ Queued asker.1) × AreRegistered registered rest

-- What a place is about to do, and how it goes on with the number that it finds: a clause for each stage. Internal: nobody has to believe
-- this table, which says what the code does, branch for branch. What a reader has to believe is the abstract state with its events
-- (`specs/AbstractState.antt`), and what a move simulates; a line that is changed together with its code is refused there where the change breaks a
-- clause of `Simulates`.
use Rattle.std.specs.Prelude.{◌≡◌, ℕ, ◌+◌, ◌-◌, ◌%◌, ◌^◌, ◌<◌, true, false, not, ◌&&◌, ◌||◌, ◌==◌, if◌then◌else◌, nat_lt, Option, Some, None, Ok, Err}
use Rattle.saa_core_spec.specs.Held.{Exclusive, Shared}
use Rattle.saa_core_spec.specs.Values.{granted_value, poisoned_value}
use Rattle.saa_core_spec.specs.declared.polling.Error.TheVariants.{NotRegistered, NotReady}
use Rattle.saa_core_words.specs.declared.word.Word.{Word}
use Rattle.saa_core_words.specs.declared.line_word.LineWord.{LineWord}
use Rattle.saa_core_words.specs.Words.{count_bits, word_number, word_of, line_number, line_word_of, answer_number, answer_of, lock_count}
use Rattle.saa_word_steps.specs.declared.place.Place.{Place}
use Rattle.saa_word_steps.specs.declared.place.Ask.{Ask}
use Rattle.saa_word_steps.specs.declared.place.Registration.{Registration}
use Rattle.saa_word_steps.specs.declared.place.Registration.TheVariants.{Idle, AnsweredAtOnce, Queued}
use Rattle.saa_word_steps.specs.declared.place.AfterShow.{AfterShow}
use Rattle.saa_word_steps.specs.declared.place.AfterShow.TheVariants.{Ends, Again}
use Rattle.saa_word_steps.specs.declared.place.ReleaseAmount.{ReleaseAmount}
use Rattle.saa_word_steps.specs.declared.place.ReleaseAmount.TheVariants.{Requested, AllButAShare}
use Rattle.saa_word_steps.specs.declared.place.AfterWalk.{AfterWalk}
use Rattle.saa_word_steps.specs.declared.place.AfterWalk.TheVariants.{Tells, Ends as EndsCall, Takes}
use Rattle.saa_word_steps.specs.declared.place.Reading.TheVariants.{Available as ReadsAvailable, IsFree as ReadsFree, IsLocked as ReadsLocked, IsShared as ReadsShared, IsPoisoned as ReadsPoisoned}
use Rattle.saa_word_steps.specs.declared.place.PollMode.{PollMode}
use Rattle.saa_word_steps.specs.declared.place.PollMode.TheVariants.{Tries, Awaits, Gives}
use Rattle.saa_word_steps.specs.declared.place.Stage.{Stage}
use Rattle.saa_word_steps.specs.declared.place.Stage.TheVariants.{Quiet, ReadLoad, AcquireLoad, AcquireExchange, Prepare, Join, ReleaseLoad, ReleaseExchange, BackLoad, BackStore, Forward, CutToClose, CutForRetry, Close, Empty, Retry, ShowLoad, ShowStore, Take, FlagLoad, FlagExchange, LookLoad, LookStore, Unlink, DropTail, PoisonLoad, PoisonExchange, Clear}
use Rattle.saa_word_steps.specs.declared.call.Answer.{Answer}
use Rattle.saa_word_steps.specs.declared.call.Answer.TheVariants.{Bool as Says, Taken, Unit as Ended}
use Rattle.saa_word_steps.specs.declared.call.WordCall.{WordCall}
use Rattle.saa_word_steps.specs.declared.call.WordCall.TheVariants.{Try, Register, Release, Available, Shut, IsShut, TryLock, TryShare, RegisterMode, ReleaseLock, ReleaseShare, Downgrade, PoisonLock, ClearPoison, IsFree, IsLocked, IsShared, IsPoisoned, TryPoll, Poll, Cancel}
use Rattle.saa_word_steps.specs.declared.place.Next.{Next}
use Rattle.saa_word_steps.specs.declared.place.Next.TheVariants.{Going, Waits, Done}
use Rattle.saa_word_steps.specs.declared.operation.Operation.{Operation}
use Rattle.saa_word_steps.specs.declared.operation.Operation.TheVariants.{Load, Exchange, Add, Store, Swap}
use Rattle.saa_word_steps.specs.Needs.{Needs, fits_count, forgets, left_count, may_refuse}
use Rattle.saa_word_steps.specs.Readings.{is_idle, mode_number, poisoned_word, read_as, refusing_answer, refusing_word, tried_answer}
use Rattle.saa_word_steps.specs.AbstractState.{count_or}

-- a word whose count its bits hold
abbrev pub IsSmall : Word → Type 0
IsSmall word = word.count < 2 ^ count_bits

-- what is remembered is within the bits of a count
abbrev pub IsRanged : Needs → Stage → Type 0
IsRanged needs (AcquireExchange ask seen) = IsSmall seen × (fits_count needs seen.count ask.request ≡ true)
IsRanged needs (Prepare request seen) = IsSmall seen
IsRanged needs (Join request seen) = IsSmall seen
IsRanged needs (ReleaseExchange given seen) = IsSmall seen
IsRanged needs (Close seen count top) = IsSmall seen × (count < 2 ^ count_bits)
IsRanged needs (Empty seen current count line) = IsSmall seen × (count < 2 ^ count_bits)
IsRanged needs (BackLoad seen current newer) = IsSmall seen
IsRanged needs (BackStore seen current newer line) = IsSmall seen
IsRanged needs (Forward seen current count) = IsSmall seen × (count < 2 ^ count_bits)
IsRanged needs (CutToClose seen current count line) = IsSmall seen × (count < 2 ^ count_bits)
IsRanged needs (CutForRetry seen current count line) = IsSmall seen × (count < 2 ^ count_bits)
IsRanged needs (Retry seen count top) = IsSmall seen × (count < 2 ^ count_bits)
IsRanged needs (FlagExchange seen) = IsSmall seen
IsRanged needs (LookLoad seen current newer previous) = IsSmall seen
IsRanged needs (LookStore seen current newer line) = IsSmall seen
IsRanged needs (Unlink seen newer line older) = IsSmall seen
IsRanged needs (DropTail seen older) = IsSmall seen
IsRanged needs (PoisonExchange seen) = IsSmall seen
IsRanged needs (ShowLoad current value (Again seen)) = IsSmall seen
IsRanged needs (ShowStore current next value (Again seen)) = IsSmall seen
IsRanged needs _ = Unit {0}

-- a stage of a place that works on the line or shows answers
abbrev pub IsWork : Stage → Type 0
IsWork (BackLoad seen current newer) = Unit {0}
IsWork (BackStore seen current newer line) = Unit {0}
IsWork (Forward seen current count) = Unit {0}
IsWork (CutToClose seen current count line) = Unit {0}
IsWork (CutForRetry seen current count line) = Unit {0}
IsWork (Close seen count top) = Unit {0}
IsWork (Empty seen current count line) = Unit {0}
IsWork (Retry seen count top) = Unit {0}
IsWork (ShowLoad current value afterwards) = Unit {0}
IsWork (ShowStore current next value afterwards) = Unit {0}
IsWork _ = ⊥

-- a stage of a cancel that looks for itself in the line
abbrev pub IsLeave : Stage → Type 0
IsLeave FlagLoad = Unit {0}
IsLeave (FlagExchange seen) = Unit {0}
IsLeave (LookLoad seen current newer previous) = Unit {0}
IsLeave (LookStore seen current newer line) = Unit {0}
IsLeave (Unlink seen newer line older) = Unit {0}
IsLeave (DropTail seen older) = Unit {0}
IsLeave _ = ⊥

-- a stage of a place that poisons a lock or shuts a semaphore, or clears poison
abbrev pub IsPoison : Stage → Type 0
IsPoison PoisonLoad = Unit {0}
IsPoison (PoisonExchange seen) = Unit {0}
IsPoison Clear = Unit {0}
IsPoison _ = ⊥

-- the count that is left once this is given back, where it is held
abbrev pub left_from : Needs → ℕ → ReleaseAmount → Option ℕ
left_from needs count (Requested request) = left_count needs count request
left_from needs count AllButAShare = if needs.is_lock && (count == lock_count Exclusive) then Some (lock_count (Shared 1)) else None

-- the main word once something is given back: the flag is set where somebody waits
abbrev pub released : Needs → Word → ReleaseAmount → Word
released needs seen given = record {
  count = count_or seen.count (left_from needs seen.count given);
  is_flagged = seen.is_flagged || not (seen.tail == 0);
  is_poisoned = seen.is_poisoned;
  tail = seen.tail;
}

-- the main word of a line that is settled, at a count and with a tail
abbrev pub settled_word : ℕ → ℕ → Word
settled_word count tail = record { count = count; is_flagged = false; is_poisoned = false; tail = tail }

-- the main word with the flag set
abbrev pub flagged_word : Word → Word
flagged_word seen = record seen { is_flagged = true }

-- the main word once its tail has left: the flag is kept where somebody else waits
abbrev pub dropped_word : Word → ℕ → Word
dropped_word seen older = record seen { tail = older; is_flagged = not (older == 0) }

-- an exchange of the main word
abbrev pub exchanged : Word → Word → Operation
exchanged seen new = Exchange 0 (word_number count_bits seen) (word_number count_bits new)

-- the operation of a place at each stage, out of so many places
abbrev pub operation_of : Needs → ℕ → ℕ → Stage → Operation
operation_of needs places me Quiet = Load 0
operation_of needs places me (ReadLoad reading) = Load 0
operation_of needs places me (AcquireLoad ask) = Load 0
operation_of needs places me (AcquireExchange ask seen) = exchanged seen (record seen { count = seen.count + needs.takes ask.request })
operation_of needs places me (Prepare request seen) = Store (me + 1) (line_number (record { request = request; older = seen.tail; newer = 0 }))
operation_of needs places me (Join request seen) = exchanged seen (record seen { tail = me + 1 })
operation_of needs places me (ReleaseLoad given) = Load 0
operation_of needs places me (ReleaseExchange given seen) = exchanged seen (released needs seen given)
operation_of needs places me (BackLoad seen current newer) = Load current
operation_of needs places me (BackStore seen current newer line) = Store current (line_number (record line { newer = newer }))
operation_of needs places me (Forward seen current count) = Load current
operation_of needs places me (CutToClose seen current count line) = Store current (line_number (record line { older = 0 }))
operation_of needs places me (CutForRetry seen current count line) = Store current (line_number (record line { older = 0 }))
operation_of needs places me (Close seen count top) = exchanged seen (settled_word count seen.tail)
operation_of needs places me (Empty seen current count line) = exchanged seen (settled_word count 0)
operation_of needs places me (Retry seen count top) = Add 0 (count - seen.count)
operation_of needs places me (ShowLoad current value afterwards) = Load current
operation_of needs places me (ShowStore current next value afterwards) = Store (places + current) (answer_number (Some value))
operation_of needs places me (Take taking) = Swap (places + me + 1) 0
operation_of needs places me FlagLoad = Load 0
operation_of needs places me (FlagExchange seen) = exchanged seen (flagged_word seen)
operation_of needs places me (LookLoad seen current newer previous) = Load current
operation_of needs places me (LookStore seen current newer line) = Store current (line_number (record line { newer = newer }))
operation_of needs places me (Unlink seen newer line older) = Store newer (line_number (record line { older = older }))
operation_of needs places me (DropTail seen older) = exchanged seen (dropped_word seen older)
operation_of needs places me PoisonLoad = Load 0
operation_of needs places me (PoisonExchange seen) = exchanged seen (refusing_word needs seen)
operation_of needs places me Clear = exchanged poisoned_word (settled_word 0 0)

-- the index of the word that an operation is made on, and what it writes over the number that stood there
abbrev pub word_at : Operation → ℕ
word_at (Load index) = index
word_at (Exchange index old new) = index
word_at (Add index number) = index
word_at (Store index number) = index
word_at (Swap index number) = index

abbrev pub written_by : Operation → ℕ → ℕ
written_by (Load index) found = found
written_by (Exchange index old new) found = if found == old then new else found
written_by (Add index number) found = (found + number) % 2 ^ 64
written_by (Store index number) found = number
written_by (Swap index number) found = number

-- a place that goes on at a stage
abbrev pub going : Place → Stage → Next
going place stage = Going (record place { stage = stage })

-- a place that is done, and answers
abbrev pub done : Place → Answer → Next
done place answer = Done (record place { stage = Quiet }) answer

-- a place that is done with the line: it answers, or goes on to its own answer
abbrev pub finished : Place → AfterWalk → Next
finished place Tells = done place (Says true)
finished place EndsCall = done place Ended
finished place (Takes request) = going place (Take (Gives request))

-- an ask is granted at once
abbrev pub granted : Needs → Place → Ask → Next
granted needs place ask =
    if ask.joins
    then Done (record place { registration = AnsweredAtOnce granted_value ask.request; stage = Quiet }) (Says true)
    else done place (tried_answer needs true)

-- a registration at a poisoned lock, and at a shut semaphore, is answered so at once
abbrev pub found_poisoned : Needs → Place → Ask → Next
found_poisoned needs place ask =
    if ask.joins
    then Done (record place { registration = AnsweredAtOnce poisoned_value ask.request; stage = Quiet }) (Says true)
    else done place (refusing_answer needs)

-- how an ask goes on with the main word that it saw: it waits behind others and where it doesn't fit, what takes nothing is granted
-- by the look alone, and else the count is to be raised
abbrev pub decided : Needs → Place → Ask → Word → Next
decided needs place ask seen =
    if seen.is_poisoned
    then found_poisoned needs place ask
    else (if not (seen.tail == 0) || not (fits_count needs seen.count ask.request)
    then (if ask.joins then going place (Prepare ask.request seen) else done place (tried_answer needs false))
    else (if needs.takes ask.request == 0 then granted needs place ask else going place (AcquireExchange ask seen)))

-- nothing was given back: a release says so, and a cancel is done
abbrev pub gave_nothing : Place → AfterWalk → Next
gave_nothing place Tells = done place (Says false)
gave_nothing place EndsCall = done place Ended
gave_nothing place (Takes request) = done place Ended

-- how a release goes on with the main word that it saw
abbrev pub given_to : Place → ReleaseAmount → Word → Option ℕ → Next
given_to place what seen None = gave_nothing place place.back
given_to place what seen (Some left) = going place (ReleaseExchange what seen)

abbrev pub given : Needs → Place → ReleaseAmount → Word → Next
given needs place what seen =
    if forgets needs seen.is_poisoned then gave_nothing place place.back else given_to place what seen (left_from needs seen.count what)

-- the flag's holder walks from the tail of the word that it saw
abbrev pub walking : Place → Word → Next
walking place seen = going place (BackLoad seen seen.tail 0)

-- behind the last answer that is shown
abbrev pub shown_all : Place → AfterShow → Next
shown_all place Ends = finished place place.back
shown_all place (Again seen) = walking place seen

-- a cancel that has an answer: what was granted is given back, where it took something
abbrev pub dropped : Needs → Place → ℕ → ℕ → Next
dropped needs place request value =
    if value == granted_value && not (needs.takes request == 0)
    then Going (record place { registration = Idle; stage = ReleaseLoad (Requested request); back = EndsCall })
    else Done (record place { registration = Idle; stage = Quiet }) Ended

-- the answer that is taken; where none is there a poll that waits and a cancel stay as they are
abbrev pub taken_answer : Needs → Place → PollMode → Option ℕ → Next
taken_answer needs place (Gives request) (Some value) = dropped needs place request value
taken_answer needs place (Gives request) None = Waits
taken_answer needs place Awaits (Some value) = Done (record place { registration = Idle; stage = Quiet }) (Taken (Ok (value == granted_value)))
taken_answer needs place Awaits None = Waits
taken_answer needs place Tries (Some value) = Done (record place { registration = Idle; stage = Quiet }) (Taken (Ok (value == granted_value)))
taken_answer needs place Tries None = done place (Taken (Err NotReady))

-- how the walk to the tail goes on with a line word: all of the line fits, or the next is looked at, or the line is cut and closed
abbrev pub looked_at : Needs → Place → Word → ℕ → ℕ → LineWord → Next
looked_at needs place seen current count line =
    if fits_count needs count line.request
    then (if current == seen.tail
    then going place (Empty seen current (count + needs.takes line.request) line)
    else going place (Forward seen line.newer (count + needs.takes line.request)))
    else (if line.older == 0
    then going place (Close seen count 0)
    else going place (CutToClose seen current count line))

-- how the flag's holder goes on that leaves the line as it is: it shows what it granted, or tries again where only the tail differs, and else walks anew
abbrev pub closing : Place → Word → ℕ → ℕ → ℕ → Next
closing place seen count top found =
    if found == word_number count_bits seen
    then (if top == 0 then finished place place.back else going place (ShowLoad top granted_value Ends))
    else (if (word_of count_bits found).count == seen.count
    then going place (Close (word_of count_bits found) count top)
    else going place (Retry seen count top))

-- how a cancel goes on with the main word that it saw: it waits for the flag's holder, goes on to its answer where nobody waits,
-- and else is to set the flag
abbrev pub flagging : Place → Word → Next
flagging place seen =
    if seen.is_flagged then Waits else (if seen.tail == 0 then finished place place.back else going place (FlagExchange seen))

-- a line word that says nothing
abbrev pub no_line : LineWord
no_line = record { request = 0; older = 0; newer = 0 }

-- a cancel that set the flag looks for itself from the tail of the word that it saw
abbrev pub looking : Place → Word → Next
looking place seen = going place (LookLoad seen seen.tail 0 no_line)

-- how the look for itself goes on with a line word
abbrev pub looked_for : ℕ → Place → Word → ℕ → ℕ → LineWord → LineWord → Next
looked_for me place seen current newer previous line =
    if current == me + 1
    then (if newer == 0 then going place (DropTail seen line.older) else going place (Unlink seen newer previous line.older))
    else going place (LookStore seen current newer line)

-- a place that has left the line
abbrev pub left_line : Place → Place
left_line place = record place { registration = Idle; back = EndsCall }

-- how a place that is to refuse every request goes on with the main word that it saw: only a lock that one owner has is poisoned, and only a
-- semaphore shut that isn't yet, once nobody holds the flag
abbrev pub poisoning : Needs → Place → Word → Next
poisoning needs place seen =
    if seen.is_poisoned || not (may_refuse needs seen.count)
    then done place (Says false)
    else (if seen.is_flagged then Waits else going place (PoisonExchange seen))

-- how a place of this number goes on with the number that it found
abbrev pub next_of : Needs → ℕ → Place → Stage → ℕ → Next
next_of needs me place Quiet found = Going place
next_of needs me place (ReadLoad reading) found =
    done place (read_as needs reading (word_of count_bits found).count (word_of count_bits found).is_poisoned)
next_of needs me place (AcquireLoad ask) found = decided needs place ask (word_of count_bits found)
next_of needs me place (AcquireExchange ask seen) found =
    if found == word_number count_bits seen then granted needs place ask else decided needs place ask (word_of count_bits found)
next_of needs me place (Prepare request seen) found = going place (Join request seen)
next_of needs me place (Join request seen) found =
    if found == word_number count_bits seen
    then Done (record place { registration = Queued request; stage = Quiet }) (Says true)
    else decided needs place (record { request = request; joins = true }) (word_of count_bits found)
next_of needs me place (ReleaseLoad what) found = given needs place what (word_of count_bits found)
next_of needs me place (ReleaseExchange what seen) found =
    if found == word_number count_bits seen
    then (if not (seen.tail == 0) && not seen.is_flagged
    then walking place (released needs seen what)
    else finished place place.back)
    else given needs place what (word_of count_bits found)
next_of needs me place (BackLoad seen current newer) found = going place (BackStore seen current newer (line_word_of found))
next_of needs me place (BackStore seen current newer line) found =
    if line.older == 0 then going place (Forward seen current seen.count) else going place (BackLoad seen line.older current)
next_of needs me place (Forward seen current count) found = looked_at needs place seen current count (line_word_of found)
next_of needs me place (CutToClose seen current count line) found = going place (Close seen count line.older)
next_of needs me place (CutForRetry seen current count line) found = going place (Retry seen count line.older)
next_of needs me place (Close seen count top) found = closing place seen count top found
next_of needs me place (Empty seen current count line) found =
    if found == word_number count_bits seen
    then going place (ShowLoad current granted_value Ends)
    else (if line.older == 0
    then going place (Retry seen (count - needs.takes line.request) 0)
    else going place (CutForRetry seen current (count - needs.takes line.request) line))
next_of needs me place (Retry seen count top) found =
    let now : Word = word_of count_bits (written_by (Add 0 (count - seen.count)) found) in
    if top == 0 then walking place now else going place (ShowLoad top granted_value (Again now))
next_of needs me place (ShowLoad current value afterwards) found = going place (ShowStore current (line_word_of found).older value afterwards)
next_of needs me place (ShowStore current next value afterwards) found =
    if next == 0 then shown_all place afterwards else going place (ShowLoad next value afterwards)
next_of needs me place (Take taking) found = taken_answer needs place taking (answer_of (found % 65536))
next_of needs me place FlagLoad found = flagging place (word_of count_bits found)
next_of needs me place (FlagExchange seen) found =
    if found == word_number count_bits seen then looking place (flagged_word seen) else flagging place (word_of count_bits found)
next_of needs me place (LookLoad seen current newer previous) found = looked_for me place seen current newer previous (line_word_of found)
next_of needs me place (LookStore seen current newer line) found =
    if line.older == 0
    then going place (Forward seen current seen.count)
    else going place (LookLoad seen line.older current (record line { newer = newer }))
next_of needs me place (Unlink seen newer line older) found =
    if older == 0 then going (left_line place) (Forward seen newer seen.count) else going (left_line place) (BackLoad seen older newer)
next_of needs me place (DropTail seen older) found =
    if found == word_number count_bits seen
    then (if older == 0 then done (left_line place) Ended else walking (left_line place) (dropped_word seen older))
    else looking place (word_of count_bits found)
next_of needs me place PoisonLoad found = poisoning needs place (word_of count_bits found)
next_of needs me place (PoisonExchange seen) found =
    if found == word_number count_bits seen
    then (if seen.tail == 0 then finished place place.back else going place (ShowLoad seen.tail poisoned_value Ends))
    else poisoning needs place (word_of count_bits found)
next_of needs me place Clear found = done place (Says (found == word_number count_bits poisoned_word))

-- a poll as it starts: only a place that joined the line has a word to look at
abbrev pub polled_as : Place → PollMode → Registration → Next
polled_as place taking Idle = Done place (Taken (Err NotRegistered))
polled_as place taking (AnsweredAtOnce value request) = Done (record place { registration = Idle }) (Taken (Ok (value == granted_value)))
polled_as place taking (Queued request) = going place (Take taking)

-- a cancel as it starts: only a place that joined the line has a word to look at
abbrev pub cancelled_as : Needs → Place → Registration → Next
cancelled_as needs place Idle = Done place Ended
cancelled_as needs place (AnsweredAtOnce value request) = dropped needs place request value
cancelled_as needs place (Queued request) = Going (record place { stage = FlagLoad; back = Takes request })

-- a try, a registration and a release as they start
abbrev pub tried_as : Place → ℕ → Next
tried_as place request = going place (AcquireLoad (record { request = request; joins = false }))

abbrev pub registered_as : Place → ℕ → Next
registered_as place request =
    if is_idle place.registration then going place (AcquireLoad (record { request = request; joins = true })) else Done place (Says false)

abbrev pub released_as : Place → ReleaseAmount → Next
released_as place what = Going (record place { stage = ReleaseLoad what; back = Tells })

-- poison, and a shut, as they start
abbrev pub poisoned_as : Place → Next
poisoned_as place = Going (record place { stage = PoisonLoad; back = Tells })

-- a call as it starts, at a place that is in none: no word is looked at
abbrev pub started : Needs → Place → WordCall → Next
started needs place (Try count) = if nat_lt needs.top count then Done place (Says false) else tried_as place count
started needs place (Register count) = if nat_lt needs.top count then Done place (Says false) else registered_as place count
started needs place (Release count) =
    if nat_lt needs.top count then Done place (Says false) else (if count == 0 then Done place (Says true) else released_as place (Requested count))
started needs place Available = going place (ReadLoad ReadsAvailable)
started needs place Shut = poisoned_as place
started needs place IsShut = going place (ReadLoad ReadsPoisoned)
started needs place TryLock = tried_as place 0
started needs place TryShare = tried_as place 1
started needs place (RegisterMode mode) = registered_as place (mode_number mode)
started needs place ReleaseLock = released_as place (Requested 0)
started needs place ReleaseShare = released_as place (Requested 1)
started needs place Downgrade = released_as place AllButAShare
started needs place PoisonLock = poisoned_as place
started needs place ClearPoison = going place Clear
started needs place IsFree = going place (ReadLoad ReadsFree)
started needs place IsLocked = going place (ReadLoad ReadsLocked)
started needs place IsShared = going place (ReadLoad ReadsShared)
started needs place IsPoisoned = going place (ReadLoad ReadsPoisoned)
started needs place TryPoll = polled_as place Tries place.registration
started needs place Poll = polled_as place Awaits place.registration
started needs place Cancel = cancelled_as needs place place.registration

-- what a place remembers that goes on is within the bits of a count
abbrev pub IsRangedNext : Needs → Next → Type 0
IsRangedNext needs (Going place) = IsRanged needs place.stage
IsRangedNext needs Waits = Unit {0}
IsRangedNext needs (Done place answer) = IsRanged needs place.stage

-- A place that seeks the flag in its call hasn't held it there: it seeks it from the start of the call on, or not at all.
use Rattle.std.proofs.Common.{◌≡◌, ℕ, ◌+◌, ◌%◌, Bool, true, false, not, ◌&&◌, ◌||◌, if◌then◌else◌, ◌==◌, List, [], Option, Some, None, refl, sym, subst, ◌∙◌}
use Rattle.saa_core_spec.specs.Values.{granted_value}
use Rattle.saa_core_words.specs.declared.word.Word.{Word}
use Rattle.saa_core_words.specs.declared.line_word.LineWord.{LineWord}
use Rattle.saa_core_words.specs.Words.{count_bits, word_number, word_of, line_word_of, answer_of}
use Rattle.saa_word_steps.specs.declared.call.WordCall.{WordCall}
use Rattle.saa_word_steps.specs.declared.event.Event.{Event}
use Rattle.saa_word_steps.specs.declared.place.Place.{Place}
use Rattle.saa_word_steps.specs.declared.place.Ask.{Ask}
use Rattle.saa_word_steps.specs.declared.place.AfterShow.{AfterShow}
use Rattle.saa_word_steps.specs.declared.place.AfterShow.TheVariants.{Ends, Again}
use Rattle.saa_word_steps.specs.declared.place.ReleaseAmount.{ReleaseAmount}
use Rattle.saa_word_steps.specs.declared.place.AfterWalk.{AfterWalk}
use Rattle.saa_word_steps.specs.declared.place.AfterWalk.TheVariants.{Tells, Ends as EndsCall, Takes}
use Rattle.saa_word_steps.specs.declared.place.Registration.{Registration}
use Rattle.saa_word_steps.specs.declared.place.PollMode.{PollMode}
use Rattle.saa_word_steps.specs.declared.place.PollMode.TheVariants.{Tries, Awaits, Gives}
use Rattle.saa_word_steps.specs.declared.place.Stage.{Stage}
use Rattle.saa_word_steps.specs.declared.place.Stage.TheVariants.{Quiet, ReadLoad, AcquireLoad, AcquireExchange, Prepare, Join, ReleaseLoad, ReleaseExchange, BackLoad, BackStore, Forward, CutToClose, CutForRetry, Close, Empty, Retry, ShowLoad, ShowStore, Take, FlagLoad, FlagExchange, LookLoad, LookStore, Unlink, DropTail, PoisonLoad, PoisonExchange, Clear}
use Rattle.saa_word_steps.specs.declared.place.Next.{Next}
use Rattle.saa_word_steps.specs.declared.place.Next.TheVariants.{Going as GoesOn, Waits as HasToWait, Done as IsDone}
use Rattle.saa_word_steps.specs.Needs.{Needs, fits_count, forgets}
use Rattle.saa_word_steps.specs.Steps.{left_from, next_of, finished, granted, decided, gave_nothing, given_to, given, shown_all, dropped, looked_at, closing, taken_answer}
use Rattle.saa_word_proofs.specs.CallStages.{IsBegun, IsUnder}
use Rattle.saa_word_proofs.specs.Refinement.{is_holder}
use Rattle.saa_word_proofs.specs.StepRefinement.{place_after}
use Rattle.saa_word.specs.declared.moves.Move.TheVariants.{Start, Go}
use Rattle.saa_word.specs.Moves.{step_of}
use Rattle.saa_word.specs.Simulation.{call_after}
use Rattle.saa_word.specs.Trace.{PendingCall}
use Rattle.saa_word.specs.Tracks.{IsFresh, IsIn, seeks_flag}

-- whether a place that goes on so seeks the flag then
abbrev pub seeks_next : Next → Bool
seeks_next (GoesOn place) = seeks_flag place.stage
seeks_next _ = false

-- it doesn't, and neither does what is one of two such
abbrev TurnsAway : Next → Type 0
TurnsAway next = seeks_next next ≡ false

either : (test : Bool) (one other : Next) → TurnsAway one → TurnsAway other → TurnsAway (if test then one else other)
either true one other o t = o
either false one other o t = t

on-finished : (place : Place) (back : AfterWalk) → TurnsAway (finished place back)
on-finished place Tells = refl
on-finished place EndsCall = refl
on-finished place (Takes request) = refl

on-granted : (needs : Needs) (place : Place) (ask : Ask) → TurnsAway (granted needs place ask)
on-granted needs place ask = either ask.joins _ _ refl refl

on-decided : (needs : Needs) (place : Place) (ask : Ask) (seen : Word) → TurnsAway (decided needs place ask seen)
on-decided needs place ask seen =
    either seen.is_poisoned _ _
    (either ask.joins _ _ refl refl)
    (either (not (seen.tail == 0) || not (fits_count needs seen.count ask.request)) _ _
    (either ask.joins _ _ refl refl)
    (either (needs.takes ask.request == 0) _ _ (on-granted needs place ask) refl))

on-nothing : (place : Place) (back : AfterWalk) → TurnsAway (gave_nothing place back)
on-nothing place Tells = refl
on-nothing place EndsCall = refl
on-nothing place (Takes request) = refl

on-left : (place : Place) (what : ReleaseAmount) (seen : Word) (left : Option ℕ) → TurnsAway (given_to place what seen left)
on-left place what seen None = on-nothing place place.back
on-left place what seen (Some left) = refl

on-given : (needs : Needs) (place : Place) (what : ReleaseAmount) (seen : Word) → TurnsAway (given needs place what seen)
on-given needs place what seen =
    either (forgets needs seen.is_poisoned) _ _ (on-nothing place place.back) (on-left place what seen (left_from needs seen.count what))

on-shown : (place : Place) (afterwards : AfterShow) → TurnsAway (shown_all place afterwards)
on-shown place Ends = on-finished place place.back
on-shown place (Again seen) = refl

on-dropped : (needs : Needs) (place : Place) (request value : ℕ) → TurnsAway (dropped needs place request value)
on-dropped needs place request value = either (value == granted_value && not (needs.takes request == 0)) _ _ refl refl

on-taken : (needs : Needs) (place : Place) (taking : PollMode) (answer : Option ℕ) → TurnsAway (taken_answer needs place taking answer)
on-taken needs place (Gives request) (Some value) = on-dropped needs place request value
on-taken needs place (Gives request) None = refl
on-taken needs place Awaits (Some value) = refl
on-taken needs place Awaits None = refl
on-taken needs place Tries (Some value) = refl
on-taken needs place Tries None = refl

on-looked : (needs : Needs) (place : Place) (seen : Word) (current count : ℕ) (line : LineWord) → TurnsAway (looked_at needs place seen current count line)
on-looked needs place seen current count line =
    either (fits_count needs count line.request) _ _
    (either (current == seen.tail) _ _ refl refl)
    (either (line.older == 0) _ _ refl refl)

on-closing : (place : Place) (seen : Word) (count top found : ℕ) → TurnsAway (closing place seen count top found)
on-closing place seen count top found =
    either (found == word_number count_bits seen) _ _
    (either (top == 0) _ _ (on-finished place place.back) refl)
    (either ((word_of count_bits found).count == seen.count) _ _ refl refl)

-- a place at a stage that doesn't seek the flag
turns-away : (needs : Needs) (me : ℕ) (place : Place) (stage : Stage) (found : ℕ) → place.stage ≡ stage → seeks_flag stage ≡ false → TurnsAway (next_of needs me place stage found)
turns-away needs me place Quiet found at other = subst (λ (s : Stage). seeks_flag s ≡ false) (sym at) refl
turns-away needs me place (ReadLoad reading) found at other = refl
turns-away needs me place (AcquireLoad ask) found at other = on-decided needs place ask (word_of count_bits found)
turns-away needs me place (AcquireExchange ask seen) found at other =
    either (found == word_number count_bits seen) _ _ (on-granted needs place ask) (on-decided needs place ask (word_of count_bits found))
turns-away needs me place (Prepare request seen) found at other = refl
turns-away needs me place (Join request seen) found at other =
    either (found == word_number count_bits seen) _ _ refl (on-decided needs place (record { request = request; joins = true }) (word_of count_bits found))
turns-away needs me place (ReleaseLoad what) found at other = on-given needs place what (word_of count_bits found)
turns-away needs me place (ReleaseExchange what seen) found at other =
    either (found == word_number count_bits seen) _ _
    (either (not (seen.tail == 0) && not seen.is_flagged) _ _ refl (on-finished place place.back))
    (on-given needs place what (word_of count_bits found))
turns-away needs me place (BackLoad seen current newer) found at other = refl
turns-away needs me place (BackStore seen current newer line) found at other = either (line.older == 0) _ _ refl refl
turns-away needs me place (Forward seen current count) found at other = on-looked needs place seen current count (line_word_of found)
turns-away needs me place (CutToClose seen current count line) found at other = refl
turns-away needs me place (CutForRetry seen current count line) found at other = refl
turns-away needs me place (Close seen count top) found at other = on-closing place seen count top found
turns-away needs me place (Empty seen current count line) found at other =
    either (found == word_number count_bits seen) _ _ refl (either (line.older == 0) _ _ refl refl)
turns-away needs me place (Retry seen count top) found at other = either (top == 0) _ _ refl refl
turns-away needs me place (ShowLoad current value afterwards) found at other = refl
turns-away needs me place (ShowStore current next value afterwards) found at other = either (next == 0) _ _ (on-shown place afterwards) refl
turns-away needs me place (Take taking) found at other = on-taken needs place taking (answer_of (found % 65536))
turns-away needs me place (LookLoad seen current newer previous) found at other =
    either (current == me + 1) _ _ (either (newer == 0) _ _ refl refl) refl
turns-away needs me place (LookStore seen current newer line) found at other = either (line.older == 0) _ _ refl refl
turns-away needs me place (Unlink seen newer line older) found at other = either (older == 0) _ _ refl refl
turns-away needs me place (DropTail seen older) found at other =
    either (found == word_number count_bits seen) _ _ (either (older == 0) _ _ refl refl) refl
turns-away needs me place Clear found at other = refl
turns-away needs me place stage found at other = absurd (cc)

-- so a place that seeks the flag has sought it before
pub seeks-on : (needs : Needs) (me : ℕ) (place : Place) (stage : Stage) (found : ℕ) → place.stage ≡ stage → seeks_next (next_of needs me place stage found) ≡ true
    → seeks_flag stage ≡ true
seeks-on needs me place stage found at seeks = by-test (seeks_flag stage) refl
  where
    by-test : (test : Bool) → seeks_flag stage ≡ test → test ≡ true
    by-test true is = refl
    by-test false is = let wrong : false ≡ true = sym (turns-away needs me place stage found at is) ∙ seeks in absurd (cc)

-- a place that seeks the flag doesn't hold it
seeks-free : (stage : Stage) → seeks_flag stage ≡ true → is_holder stage ≡ false
seeks-free FlagLoad seeks = refl
seeks-free (FlagExchange seen) seeks = refl
seeks-free PoisonLoad seeks = refl
seeks-free (PoisonExchange seen) seeks = refl
seeks-free stage seeks = absurd (cc)

-- the call of a place behind its step
pub fresh-next : (registered : Registration) (holds : Bool) (underway : Option PendingCall) (me : ℕ) (events : List Event) (place : Place) (next : Next)
    → IsFresh underway place.stage → (seeks_next next ≡ true → seeks_flag place.stage ≡ true) → is_holder (place_after place next).stage ≡ holds
    → IsFresh (call_after registered holds underway (Go me) events (step_of next)) (place_after place next).stage
fresh-next registered holds None me events place (GoesOn behind) fresh sought one = tt
fresh-next registered holds None me events place HasToWait fresh sought one = tt
fresh-next registered holds None me events place (IsDone behind answer) fresh sought one = tt
fresh-next registered holds (Some underway) me events place (GoesOn behind) fresh sought one = λ seeks.
    let never : underway.held ≡ false = fresh (sought seeks) in
    let free : holds ≡ false = sym one ∙ seeks-free behind.stage seeks in
    rw (never, free) refl
fresh-next registered holds (Some underway) me events place HasToWait fresh sought one = fresh
fresh-next registered holds (Some underway) me events place (IsDone behind answer) fresh sought one = tt

-- and behind its start
pub fresh-begun : (needs : Needs) (registered : Registration) (holds : Bool) (underway : Option PendingCall) (me : ℕ) (call : WordCall) (place : Place) (next : Next)
    → IsIn needs underway place → IsBegun needs call place.registration next → place.stage ≡ Quiet
    → IsFresh (call_after registered holds underway (Start me call) [] (step_of next)) (place_after place next).stage
fresh-begun needs registered holds underway me call place (GoesOn behind) is begun quiet = λ seeks. refl
fresh-begun needs registered holds underway me call place HasToWait is begun quiet = absurd begun
fresh-begun needs registered holds None me call place (IsDone behind answer) is begun quiet = tt
fresh-begun needs registered holds (Some underway) me call place (IsDone behind answer) is begun quiet =
    absurd (subst (λ stage. IsUnder needs underway.call underway.registered place.back stage underway.events) quiet is)

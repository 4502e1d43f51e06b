-- What a place remembers stays within the bits of a count, whatever number it finds.
use Rattle.std.proofs.Common.{◌^◌, ◌≡◌, ℕ, ◌+◌, ◌-◌, ◌≤◌, ◌<◌, ◌%◌, Bool, true, false, not, ◌&&◌, ◌||◌, ◌==◌, if◌then◌else◌, Option, Some, None, refl, arith, inl, inr}
use Rattle.std.proofs.lemmas.Bool.{cases_Bool}
use Rattle.saa_core_words.specs.declared.word.Word.{Word}
use Rattle.saa_core_words.specs.declared.line_word.LineWord.{LineWord}
use Rattle.saa_core_words.specs.Words.{count_bits, word_number, word_of, line_word_of, answer_of}
use Rattle.saa_word_steps.specs.declared.place.Place.{Place}
use Rattle.saa_word_steps.specs.declared.place.Ask.{Ask}
use Rattle.saa_word_steps.specs.declared.place.AfterShow.{AfterShow}
use Rattle.saa_word_steps.specs.declared.place.AfterShow.TheVariants.{Ends, Again}
use Rattle.saa_word_steps.specs.declared.place.ReleaseAmount.{ReleaseAmount}
use Rattle.saa_word_steps.specs.declared.place.AfterWalk.{AfterWalk}
use Rattle.saa_word_steps.specs.declared.place.AfterWalk.TheVariants.{Tells, Ends as EndsCall, Takes}
use Rattle.saa_word_steps.specs.declared.place.PollMode.{PollMode}
use Rattle.saa_word_steps.specs.declared.place.PollMode.TheVariants.{Tries, Awaits, Gives}
use Rattle.saa_word_steps.specs.declared.place.Stage.{Stage}
use Rattle.saa_word_steps.specs.declared.place.Stage.TheVariants.{Quiet, ReadLoad, AcquireLoad, AcquireExchange, Prepare, Join, ReleaseLoad, ReleaseExchange, BackLoad, BackStore, Forward, CutToClose, CutForRetry, Close, Empty, Retry, ShowLoad, ShowStore, Take, FlagLoad, FlagExchange, LookLoad, LookStore, Unlink, DropTail, PoisonLoad, PoisonExchange, Clear}
use Rattle.saa_word_steps.specs.declared.operation.Operation.TheVariants.{Add}
use Rattle.saa_word_steps.specs.Needs.{Needs, AreNeeds, fits_count, forgets, may_refuse}
use Rattle.saa_word_steps.specs.AbstractState.{count_or}
use Rattle.saa_word_steps.proofs.Giving.{left-shrinks}
use Rattle.saa_word_steps.specs.Steps.{IsSmall, IsRanged, IsRangedNext, left_from, finished, granted, found_poisoned, gave_nothing, decided, given, given_to, shown_all, dropped, taken_answer, looked_at, closing, flagging, looked_for, poisoning, next_of, written_by}

-- a word that is read from a number is small
pub word-small : (number : ℕ) → IsSmall (word_of count_bits number)
word-small number = omega arith

-- what isn't refused fits
or-not : (other fits : Bool) → other || not fits ≡ false → fits ≡ true
or-not true true is = refl
or-not true false is = absurd (cc)
or-not false true is = refl
or-not false false is = absurd (cc)

granted-ranged : (needs : Needs) (place : Place) (ask : Ask) → IsRangedNext needs (granted needs place ask)
granted-ranged needs place ask =
    elim (cases_Bool ask.joins) [
      | inl joins ↦ rw joins tt
      | inr tries ↦ rw tries tt
    ]

finished-ranged : (needs : Needs) (place : Place) (back : AfterWalk) → IsRangedNext needs (finished place back)
finished-ranged needs place Tells = tt
finished-ranged needs place EndsCall = tt
finished-ranged needs place (Takes request) = tt

nothing-ranged : (needs : Needs) (place : Place) (back : AfterWalk) → IsRangedNext needs (gave_nothing place back)
nothing-ranged needs place Tells = tt
nothing-ranged needs place EndsCall = tt
nothing-ranged needs place (Takes request) = tt

poisoned-ranged : (needs : Needs) (place : Place) (ask : Ask) → IsRangedNext needs (found_poisoned needs place ask)
poisoned-ranged needs place ask =
    elim (cases_Bool ask.joins) [
      | inl joins ↦ rw joins tt
      | inr tries ↦ rw tries tt
    ]

decided-ranged : (needs : Needs) (place : Place) (ask : Ask) (seen : Word) → IsSmall seen → IsRangedNext needs (decided needs place ask seen)
decided-ranged needs place ask seen small =
    elim (cases_Bool seen.is_poisoned) [
      | inl poisoned ↦ rw poisoned (poisoned-ranged needs place ask)
      | inr calm ↦
          elim (cases_Bool (not (seen.tail == 0) || not (fits_count needs seen.count ask.request))) [
            | inl waits ↦
                elim (cases_Bool ask.joins) [
                  | inl joins ↦ rw (calm, waits, joins) small
                  | inr tries ↦ rw (calm, waits, tries) tt
                ]
            | inr fits ↦
                elim (cases_Bool (needs.takes ask.request == 0)) [
                  | inl nothing ↦ rw (calm, fits, nothing) (granted-ranged needs place ask)
                  | inr some ↦ rw (calm, fits, some) (small, or-not (not (seen.tail == 0)) (fits_count needs seen.count ask.request) fits)
                ]
          ]
    ]

left-small-by : (needs : Needs) → AreNeeds needs → (count : ℕ) (what : ReleaseAmount) (left : Option ℕ) → left_from needs count what ≡ left → count_or count left ≤ count
left-small-by needs lawful count what None is = omega arith
left-small-by needs lawful count what (Some left) is = left-shrinks needs lawful count what left is

-- what is left is no more than what was held
left-small : (needs : Needs) → AreNeeds needs → (count : ℕ) (what : ReleaseAmount) → count_or count (left_from needs count what) ≤ count
left-small needs lawful count what = left-small-by needs lawful count what (left_from needs count what) refl

given-to-ranged : (needs : Needs) (place : Place) (what : ReleaseAmount) (seen : Word) (left : Option ℕ) → IsSmall seen → IsRangedNext needs (given_to place what seen left)
given-to-ranged needs place what seen None small = nothing-ranged needs place place.back
given-to-ranged needs place what seen (Some left) small = small

given-by : (needs : Needs) (place : Place) (what : ReleaseAmount) (seen : Word) → IsSmall seen → (poisoned : Bool)
    → IsRangedNext needs (if poisoned then gave_nothing place place.back else given_to place what seen (left_from needs seen.count what))
given-by needs place what seen small true = nothing-ranged needs place place.back
given-by needs place what seen small false = given-to-ranged needs place what seen (left_from needs seen.count what) small

given-ranged : (needs : Needs) (place : Place) (what : ReleaseAmount) (seen : Word) → IsSmall seen → IsRangedNext needs (given needs place what seen)
given-ranged needs place what seen small = given-by needs place what seen small (forgets needs seen.is_poisoned)

shown-ranged : (needs : Needs) (place : Place) (afterwards : AfterShow) (current next value : ℕ) → IsRanged needs (ShowStore current next value afterwards) → IsRangedNext needs (shown_all place afterwards)
shown-ranged needs place Ends current next value ranged = finished-ranged needs place place.back
shown-ranged needs place (Again seen) current next value ranged = ranged

shown-next : (needs : Needs) (place : Place) (afterwards : AfterShow) (current next value : ℕ) → IsRanged needs (ShowStore current next value afterwards) → IsRanged needs (ShowLoad next value afterwards)
shown-next needs place Ends current next value ranged = tt
shown-next needs place (Again seen) current next value ranged = ranged

dropped-ranged : (needs : Needs) (place : Place) (request value : ℕ) → IsRangedNext needs (dropped needs place request value)
dropped-ranged needs place request value =
    elim (cases_Bool (value == 0 && not (needs.takes request == 0))) [
      | inl gives ↦ rw gives tt
      | inr ends ↦ rw ends tt
    ]

taken-ranged : (needs : Needs) (place : Place) (taking : PollMode) (answer : Option ℕ) → IsRangedNext needs (taken_answer needs place taking answer)
taken-ranged needs place (Gives request) (Some value) = dropped-ranged needs place request value
taken-ranged needs place (Gives request) None = tt
taken-ranged needs place Awaits (Some value) = tt
taken-ranged needs place Awaits None = tt
taken-ranged needs place Tries (Some value) = tt
taken-ranged needs place Tries None = tt

flagging-ranged : (needs : Needs) (place : Place) (seen : Word) → IsSmall seen → IsRangedNext needs (flagging place seen)
flagging-ranged needs place seen small =
    elim (cases_Bool seen.is_flagged) [
      | inl flagged ↦ rw flagged tt
      | inr free ↦
          elim (cases_Bool (seen.tail == 0)) [
            | inl none ↦ rw (free, none) (finished-ranged needs place place.back)
            | inr some ↦ rw (free, some) small
          ]
    ]

found-ranged : (needs : Needs) (me : ℕ) (place : Place) (seen : Word) (current newer : ℕ) (previous line : LineWord)
    → IsSmall seen → IsRangedNext needs (looked_for me place seen current newer previous line)
found-ranged needs me place seen current newer previous line small =
    elim (cases_Bool (current == me + 1)) [
      | inl mine ↦
          elim (cases_Bool (newer == 0)) [
            | inl tail ↦ rw (mine, tail) small
            | inr between ↦ rw (mine, between) small
          ]
      | inr other ↦ rw other small
    ]

poisoning-ranged : (needs : Needs) (place : Place) (seen : Word) → IsSmall seen → IsRangedNext needs (poisoning needs place seen)
poisoning-ranged needs place seen small =
    elim (cases_Bool (seen.is_poisoned || not (may_refuse needs seen.count))) [
      | inl refused ↦ rw refused tt
      | inr alone ↦
          elim (cases_Bool seen.is_flagged) [
            | inl flagged ↦ rw (alone, flagged) tt
            | inr free ↦ rw (alone, free) small
          ]
    ]

looked-ranged : (needs : Needs) → AreNeeds needs → needs.top < 2 ^ count_bits → (place : Place) (seen : Word) (current count : ℕ) (line : LineWord)
    → IsSmall seen → count < 2 ^ count_bits → IsRangedNext needs (looked_at needs place seen current count line)
looked-ranged needs lawful wide place seen current count line small below =
    elim (cases_Bool (fits_count needs count line.request)) [
      | inl fits ↦
          let more : count + needs.takes line.request < 2 ^ count_bits = omega (arith, wide, lawful.bounded count line.request fits) in
          elim (cases_Bool (current == seen.tail)) [
            | inl last ↦ rw (fits, last) (small, more)
            | inr between ↦ rw (fits, between) (small, more)
          ]
      | inr unfit ↦
          elim (cases_Bool (line.older == 0)) [
            | inl oldest ↦ rw (unfit, oldest) (small, below)
            | inr between ↦ rw (unfit, between) (small, below)
          ]
    ]

closing-ranged : (needs : Needs) (place : Place) (seen : Word) (count top found : ℕ) → IsSmall seen → count < 2 ^ count_bits → IsRangedNext needs (closing place seen count top found)
closing-ranged needs place seen count top found small below =
    elim (cases_Bool (found == word_number count_bits seen)) [
      | inl same ↦
          elim (cases_Bool (top == 0)) [
            | inl none ↦ rw (same, none) (finished-ranged needs place place.back)
            | inr some ↦ rw (same, some) tt
          ]
      | inr other ↦
          elim (cases_Bool ((word_of count_bits found).count == seen.count)) [
            | inl joined ↦ rw (other, joined) (word-small found, below)
            | inr given ↦ rw (other, given) (small, below)
          ]
    ]

-- what a place remembers that goes on is in range, whatever it found
pub next-ranged : (needs : Needs) → AreNeeds needs → needs.top < 2 ^ count_bits → (me : ℕ) (place : Place) (stage : Stage) (found : ℕ)
    → IsRanged needs place.stage → IsRanged needs stage → IsRangedNext needs (next_of needs me place stage found)
next-ranged needs lawful wide me place Quiet found was ranged = was
next-ranged needs lawful wide me place (ReadLoad reading) found was ranged = tt
next-ranged needs lawful wide me place (AcquireLoad ask) found was ranged = decided-ranged needs place ask (word_of count_bits found) (word-small found)
next-ranged needs lawful wide me place (AcquireExchange ask seen) found was ranged =
    elim (cases_Bool (found == word_number count_bits seen)) [
      | inl same ↦ rw same (granted-ranged needs place ask)
      | inr other ↦ rw other (decided-ranged needs place ask (word_of count_bits found) (word-small found))
    ]
next-ranged needs lawful wide me place (Prepare request seen) found was ranged = ranged
next-ranged needs lawful wide me place (Join request seen) found was ranged =
    elim (cases_Bool (found == word_number count_bits seen)) [
      | inl same ↦ rw same tt
      | inr other ↦ rw other (decided-ranged needs place (record { request = request; joins = true }) (word_of count_bits found) (word-small found))
    ]
next-ranged needs lawful wide me place (ReleaseLoad what) found was ranged =
    given-ranged needs place what (word_of count_bits found) (word-small found)
next-ranged needs lawful wide me place (ReleaseExchange what seen) found was ranged =
    elim (cases_Bool (found == word_number count_bits seen)) [
      | inl same ↦
          elim (cases_Bool (not (seen.tail == 0) && not seen.is_flagged)) [
            | inl works ↦ rw (same, works) (omega (arith, ranged, left-small needs lawful seen.count what))
            | inr ends ↦ rw (same, ends) (finished-ranged needs place place.back)
          ]
      | inr other ↦
          rw other (given-ranged needs place what (word_of count_bits found) (word-small found))
    ]
next-ranged needs lawful wide me place (BackLoad seen current newer) found was ranged = ranged
next-ranged needs lawful wide me place (BackStore seen current newer line) found was ranged =
    elim (cases_Bool (line.older == 0)) [
      | inl oldest ↦ rw oldest (ranged, ranged)
      | inr between ↦ rw between ranged
    ]
next-ranged needs lawful wide me place (Forward seen current count) found was ranged =
    looked-ranged needs lawful wide place seen current count (line_word_of found) ranged.0 ranged.1
next-ranged needs lawful wide me place (CutToClose seen current count line) found was ranged = ranged
next-ranged needs lawful wide me place (CutForRetry seen current count line) found was ranged = ranged
next-ranged needs lawful wide me place (Close seen count top) found was ranged = closing-ranged needs place seen count top found ranged.0 ranged.1
next-ranged needs lawful wide me place (Empty seen current count line) found was ranged =
    let less : count - needs.takes line.request < 2 ^ count_bits = omega (arith, ranged.1) in
    elim (cases_Bool (found == word_number count_bits seen)) [
      | inl same ↦ rw same tt
      | inr other ↦
          elim (cases_Bool (line.older == 0)) [
            | inl oldest ↦ rw (other, oldest) (ranged.0, less)
            | inr between ↦ rw (other, between) (ranged.0, less)
          ]
    ]
next-ranged needs lawful wide me place (Retry seen count top) found was ranged =
    elim (cases_Bool (top == 0)) [
      | inl none ↦ rw none (word-small (written_by (Add 0 (count - seen.count)) found))
      | inr some ↦ rw some (word-small (written_by (Add 0 (count - seen.count)) found))
    ]
next-ranged needs lawful wide me place (ShowLoad current value Ends) found was ranged = tt
next-ranged needs lawful wide me place (ShowLoad current value (Again seen)) found was ranged = ranged
next-ranged needs lawful wide me place (ShowStore current next value afterwards) found was ranged =
    elim (cases_Bool (next == 0)) [
      | inl none ↦ rw none (shown-ranged needs place afterwards current next value ranged)
      | inr some ↦ rw some (shown-next needs place afterwards current next value ranged)
    ]
next-ranged needs lawful wide me place (Take taking) found was ranged = taken-ranged needs place taking (answer_of (found % 65536))
next-ranged needs lawful wide me place FlagLoad found was ranged = flagging-ranged needs place (word_of count_bits found) (word-small found)
next-ranged needs lawful wide me place (FlagExchange seen) found was ranged =
    elim (cases_Bool (found == word_number count_bits seen)) [
      | inl same ↦ rw same ranged
      | inr other ↦ rw other (flagging-ranged needs place (word_of count_bits found) (word-small found))
    ]
next-ranged needs lawful wide me place (LookLoad seen current newer previous) found was ranged =
    found-ranged needs me place seen current newer previous (line_word_of found) ranged
next-ranged needs lawful wide me place (LookStore seen current newer line) found was ranged =
    elim (cases_Bool (line.older == 0)) [
      | inl oldest ↦ rw oldest (ranged, ranged)
      | inr between ↦ rw between ranged
    ]
next-ranged needs lawful wide me place (Unlink seen newer line older) found was ranged =
    elim (cases_Bool (older == 0)) [
      | inl oldest ↦ rw oldest (ranged, ranged)
      | inr between ↦ rw between ranged
    ]
next-ranged needs lawful wide me place (DropTail seen older) found was ranged =
    elim (cases_Bool (found == word_number count_bits seen)) [
      | inl same ↦
          elim (cases_Bool (older == 0)) [
            | inl none ↦ rw (same, none) tt
            | inr some ↦ rw (same, some) ranged
          ]
      | inr other ↦ rw other (word-small found)
    ]
next-ranged needs lawful wide me place PoisonLoad found was ranged = poisoning-ranged needs place (word_of count_bits found) (word-small found)
next-ranged needs lawful wide me place (PoisonExchange seen) found was ranged =
    elim (cases_Bool (found == word_number count_bits seen)) [
      | inl same ↦
          elim (cases_Bool (seen.tail == 0)) [
            | inl none ↦ rw (same, none) (finished-ranged needs place place.back)
            | inr some ↦ rw (same, some) tt
          ]
      | inr other ↦ rw other (poisoning-ranged needs place (word_of count_bits found) (word-small found))
    ]
next-ranged needs lawful wide me place Clear found was ranged = tt

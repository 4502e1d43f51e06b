-- Internal: nobody has to believe this; it is an invariant of proofs. What the machine promises of steps is said of their numbers.
--
-- How many steps a call has left at most, as long as no other place changes the main word. It is read off the row of numbers and the
-- stage: each quantity is how many places are met from a link along older links.
use Rattle.std.specs.Prelude.{◌≡◌, ℕ, suc, zero, ◌+◌, ◌-◌, ◌*◌, ◌<◌, ◌≤◌, Bool, not, ◌&&◌, ◌==◌, if◌then◌else◌, nat_lt}
use Rattle.saa_core_words.specs.declared.word.Word.{Word}
use Rattle.saa_core_words.specs.Words.{count_bits, word_number, word_of, line_word_of}
use Rattle.saa_word_steps.specs.declared.place.Place.{Place}
use Rattle.saa_word_steps.specs.declared.place.AfterShow.{AfterShow}
use Rattle.saa_word_steps.specs.declared.place.AfterShow.TheVariants.{Ends, Again}
use Rattle.saa_word_steps.specs.declared.place.AfterWalk.{AfterWalk}
use Rattle.saa_word_steps.specs.declared.place.PollMode.TheVariants.{Gives}
use Rattle.saa_word_steps.specs.declared.place.Stage.{Stage}
use Rattle.saa_word_steps.specs.declared.place.Stage.TheVariants.{Quiet, ReadLoad, AcquireLoad, AcquireExchange, Prepare, Join, ReleaseLoad, ReleaseExchange, BackLoad, BackStore, Forward, CutToClose, CutForRetry, Close, Empty, Retry, ShowLoad, ShowStore, Take, FlagLoad, FlagExchange, LookLoad, LookStore, Unlink, DropTail, PoisonLoad, PoisonExchange, Clear}
use Rattle.saa_word_steps.specs.declared.place.Next.{Next}
use Rattle.saa_word_steps.specs.declared.place.Next.TheVariants.{Going, Waits, Done}
use Rattle.saa_word_steps.specs.Needs.{Needs}
use Rattle.saa_word_steps.specs.Steps.{word_at, operation_of, next_of}
use Rattle.saa_word_proofs.specs.Refinement.{takes_back}
use Rattle.saa_word_proofs.specs.Rows.{updated}
use Rattle.saa_word_proofs.specs.StepRefinement.{row_after, place_after}

-- whether a link leads to one of so many places
abbrev pub is_link : ℕ → ℕ → Bool
is_link places link = not (link == 0) && nat_lt link (places + 1)

-- how many places are met from a link along older links, so many at most
abbrev pub met : ℕ → (ℕ → ℕ) → ℕ → ℕ → ℕ
met places row zero link = 0
met places row (suc more) link = if is_link places link then suc (met places row more (line_word_of (row link)).older) else 0

-- how many places are met from a link
abbrev pub way : ℕ → (ℕ → ℕ) → ℕ → ℕ
way places row link = met places row places link

-- one of two numbers: whether the main word's number is that of the word that was seen
abbrev pub by_seen : ℕ → Word → ℕ → ℕ → ℕ
by_seen number seen same stale = if number == word_number count_bits seen then same else stale

-- how many wait, from the tail of the main word's number, given how many are met from each link
abbrev pub waiting : (ℕ → ℕ) → ℕ → ℕ
waiting ways number = ways (word_of count_bits number).tail

-- what is left besides of a call that takes its own answer once it is done with the line, and gives back what it was granted: where it has to grant
-- and show first, and where it is done with that; so many wait then
abbrev pub more_to_walk : AfterWalk → ℕ → ℕ
more_to_walk back waiting = if takes_back back then 3 * waiting + 5 else 0

abbrev pub more_to_end : AfterWalk → ℕ → ℕ
more_to_end back waiting = if takes_back back then 5 * waiting + 5 else 0

-- what is left behind the last answer that is shown: to end, or to walk once more
abbrev pub left_afterwards : (ℕ → ℕ) → ℕ → AfterWalk → AfterShow → ℕ
left_afterwards ways number back Ends = more_to_end back (waiting ways number)
left_afterwards ways number back (Again seen) =
    by_seen number seen (5 * waiting ways number + 2) (3 * ways seen.tail + 5 * waiting ways number + 6) + more_to_walk back (waiting ways number)

-- how many steps are left at a stage, by how many places are met from each link and by the main word's number
abbrev pub steps_left : (ℕ → ℕ) → ℕ → AfterWalk → Stage → ℕ
steps_left ways number back Quiet = 0
steps_left ways number back (ReadLoad reading) = 1
steps_left ways number back (AcquireLoad ask) = 3
steps_left ways number back (AcquireExchange ask seen) = by_seen number seen 1 3
steps_left ways number back (Prepare request seen) = by_seen number seen 2 4
steps_left ways number back (Join request seen) = by_seen number seen 1 3
steps_left ways number back (ReleaseLoad given) = 5 * waiting ways number + 4
steps_left ways number back (ReleaseExchange given seen) = by_seen number seen (5 * waiting ways number + 3) (5 * waiting ways number + 4)
steps_left ways number back (BackLoad seen current newer) =
    2 * ways current + by_seen number seen (3 * waiting ways number + 2) (ways seen.tail + 5 * waiting ways number + 6)
    + more_to_walk back (waiting ways number)
steps_left ways number back (BackStore seen current newer line) =
    2 * ways current + by_seen number seen (3 * waiting ways number + 1) (ways seen.tail + 5 * waiting ways number + 5)
    + more_to_walk back (waiting ways number)
steps_left ways number back (Forward seen current count) =
    by_seen number seen (3 * waiting ways number + 3 - ways current) (ways seen.tail + 5 * waiting ways number + 7 - ways current)
    + more_to_walk back (waiting ways number)
steps_left ways number back (CutToClose seen current count line) =
    by_seen number seen (2 * waiting ways number + 2) (5 * waiting ways number + 5) + more_to_walk back (waiting ways number)
steps_left ways number back (CutForRetry seen current count line) = 5 * waiting ways number + 4 + more_to_walk back (waiting ways number)
steps_left ways number back (Close seen count top) =
    by_seen number seen (2 * ways top + 1 + more_to_end back (waiting ways number))
    (5 * waiting ways number + 5 * ways top + 4 + more_to_walk back (waiting ways number + ways top))
steps_left ways number back (Empty seen current count line) =
    by_seen number seen (2 * ways current + 1 + more_to_end back 0) (5 * waiting ways number + 5 + more_to_walk back (waiting ways number))
steps_left ways number back (Retry seen count top) =
    5 * waiting ways number + 2 * ways top + 3 + more_to_walk back (waiting ways number)
steps_left ways number back (ShowLoad current value afterwards) = 2 * ways current + left_afterwards ways number back afterwards
steps_left ways number back (ShowStore current next value afterwards) = 2 * ways next + 1 + left_afterwards ways number back afterwards
steps_left ways number back (Take (Gives request)) = 5 * waiting ways number + 5
steps_left ways number back (Take taking) = 1
steps_left ways number back FlagLoad = 8 * waiting ways number + 11
steps_left ways number back (FlagExchange seen) = by_seen number seen (8 * waiting ways number + 10) (8 * waiting ways number + 11)
steps_left ways number back (LookLoad seen current newer previous) =
    2 * ways current + by_seen number seen (6 * waiting ways number + 9) (ways seen.tail + 8 * waiting ways number + 13)
steps_left ways number back (LookStore seen current newer line) =
    2 * ways current + by_seen number seen (6 * waiting ways number + 8) (ways seen.tail + 8 * waiting ways number + 12)
steps_left ways number back (Unlink seen newer line older) =
    2 * ways older + by_seen number seen (3 * waiting ways number + 2) (ways seen.tail + 5 * waiting ways number + 6)
steps_left ways number back (DropTail seen older) = by_seen number seen (5 * waiting ways number + 3) (8 * waiting ways number + 10)
steps_left ways number back PoisonLoad = 2 * waiting ways number + 2
steps_left ways number back (PoisonExchange seen) = by_seen number seen (2 * waiting ways number + 1) (2 * waiting ways number + 2)
steps_left ways number back Clear = 1

-- the step bound of a place on a row of numbers, by what it does once it is done with the line and by its stage
abbrev pub step_bound : ℕ → (ℕ → ℕ) → AfterWalk → Stage → ℕ
step_bound places row back stage = steps_left (way places row) (row 0) back stage

-- how a call goes on takes fewer steps than these; there is at least one, also where it is done or waits
abbrev pub IsLower : (ℕ → ℕ) → ℕ → ℕ → Next → Type 0
IsLower ways number before (Going place) = steps_left ways number place.back place.stage < before
IsLower ways number before Waits = 0 < before
IsLower ways number before (Done place answer) = (place.stage ≡ Quiet) × (0 < before)

-- a step of a place at its stage lowers its step bound
abbrev pub IsLowered : Needs → ℕ → (ℕ → ℕ) → (ℕ → Place) → ℕ → Stage → Type 0
IsLowered needs places row standing me stage =
    IsLower (way places (row_after row (operation_of needs places me stage))) (row_after row (operation_of needs places me stage) 0)
    (step_bound places row (standing me).back stage) (next_of needs me (standing me) stage (row (word_at (operation_of needs places me stage))))

-- a step of a place that leaves the main word's number raises the step bound of no other place
abbrev pub IsKept : Needs → ℕ → (ℕ → ℕ) → (ℕ → Place) → ℕ → ℕ → Type 0
IsKept needs places row standing me other =
    row_after row (operation_of needs places me (standing me).stage) 0 ≡ row 0
    → step_bound places (row_after row (operation_of needs places me (standing me).stage)) (standing other).back (standing other).stage
    ≤ step_bound places row (standing other).back (standing other).stage

-- how many steps a place has made, once it made one more; a look that finds that it has to wait is none
abbrev pub steps_made_by : ℕ → Next → ℕ
steps_made_by made Waits = made
steps_made_by made _ = made + 1

-- how many steps each place has made since another one last changed the main word, once a place made one more, by which the main word is
-- the same or not
abbrev pub counted : (ℕ → ℕ) → ℕ → Next → Bool → ℕ → ℕ
counted made me next same place = if place == me then steps_made_by (made place) next else (if same then made place else 0)

-- what each place has made and what it has left are so many steps at most
abbrev pub AreWithin : ℕ → (ℕ → ℕ) → (ℕ → Place) → (ℕ → ℕ) → Type 0
AreWithin places row standing made = (place : ℕ) → made place + step_bound places row (standing place).back (standing place).stage ≤ 16 * places + 48

-- a step of a place keeps that
abbrev pub IsCounted : Needs → ℕ → (ℕ → ℕ) → (ℕ → Place) → ℕ → (ℕ → ℕ) → Stage → Type 0
IsCounted needs places row standing me made stage =
    AreWithin places (row_after row (operation_of needs places me stage))
    (updated standing me (place_after (standing me) (next_of needs me (standing me) stage (row (word_at (operation_of needs places me stage))))))
    (counted made me (next_of needs me (standing me) stage (row (word_at (operation_of needs places me stage))))
    (row_after row (operation_of needs places me stage) 0 == row 0))

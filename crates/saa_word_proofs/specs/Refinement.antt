-- How a row of words and the places that move on it refine the abstract state at each moment. Internal: nobody has to believe this; it is an
-- invariant of proofs.
--
-- The row is a function from indexes to numbers: 0 the main word, behind it the line word of each place, behind those the answer
-- words. A place stands in a word by its link, its number plus 1.
use Rattle.std.specs.Prelude.{◌≡◌, ℕ, ◌+◌, ◌<◌, ◌≤◌, pred, Bool, true, false, not, ◌||◌, ◌==◌, List, [], ◌∷◌, ◌++◌, Option, Some, is_some, ◌^◌}
use Rattle.saa_core_spec.specs.Object.{one_if, times}
use Rattle.saa_core_words.specs.declared.word.Word.{Word}
use Rattle.saa_core_words.specs.declared.line_word.LineWord.{LineWord}
use Rattle.saa_core_words.specs.Words.{count_bits, word_of, answer_number}
use Rattle.saa_word_steps.specs.declared.place.Place.{Place}
use Rattle.saa_word_steps.specs.declared.place.Registration.{Registration}
use Rattle.saa_word_steps.specs.declared.place.Registration.TheVariants.{Queued}
use Rattle.saa_word_steps.specs.declared.place.AfterWalk.{AfterWalk}
use Rattle.saa_word_steps.specs.declared.place.AfterWalk.TheVariants.{Takes}
use Rattle.saa_word_steps.specs.declared.place.PollMode.TheVariants.{Gives}
use Rattle.saa_word_steps.specs.declared.place.AfterShow.TheVariants.{Again}
use Rattle.saa_word_steps.specs.declared.place.Stage.{Stage}
use Rattle.saa_word_steps.specs.declared.place.Stage.TheVariants.{AcquireLoad, AcquireExchange, Prepare, Join, ReleaseLoad, ReleaseExchange, BackLoad, BackStore, Forward, CutToClose, CutForRetry, Close, Empty, Retry, ShowLoad, ShowStore, Take, FlagLoad, FlagExchange, LookLoad, LookStore, Unlink, DropTail, PoisonLoad, PoisonExchange, Clear}
use Rattle.saa_word_steps.specs.Needs.{Needs, fits_count, forgets, kept, may_refuse}
use Rattle.saa_word_steps.specs.AbstractState.{AbstractState, IsFront, IsSettledAt, is_empty, is_in, takes_of, held_by}
use Rattle.saa_word_steps.specs.Steps.{IsRanged, left_from}
use Rattle.saa_word_proofs.specs.Registering.{is_slot}
use Rattle.saa_word_proofs.specs.Rows.{IsBehind, line_of}

-- the link to the newest of a line, and that to its older neighbour where the line is empty
abbrev pub newest : ℕ → List (ℕ × ℕ) → ℕ
newest older [] = older
newest older (asker ∷ rest) = newest (asker.0 + 1) rest

-- the link to the oldest of a line; 0 where that is empty
abbrev pub oldest : List (ℕ × ℕ) → ℕ
oldest [] = 0
oldest (asker ∷ rest) = asker.0 + 1

-- each of these but the last is linked to the one behind it
abbrev pub IsAhead : (ℕ → LineWord) → List (ℕ × ℕ) → Type 0
IsAhead words [] = Unit {0}
IsAhead words (asker ∷ []) = Unit {0}
IsAhead words (asker ∷ (next ∷ rest)) = ((words asker.0).newer ≡ next.0 + 1) × IsAhead words (next ∷ rest)

-- whether a place holds the flag
abbrev pub is_holder : Stage → Bool
is_holder (BackLoad seen current newer) = true
is_holder (BackStore seen current newer line) = true
is_holder (Forward seen current count) = true
is_holder (CutToClose seen current count line) = true
is_holder (CutForRetry seen current count line) = true
is_holder (Close seen count top) = true
is_holder (Empty seen current count line) = true
is_holder (Retry seen count top) = true
is_holder (LookLoad seen current newer previous) = true
is_holder (LookStore seen current newer line) = true
is_holder (Unlink seen newer line older) = true
is_holder (DropTail seen older) = true
is_holder (ShowLoad current value (Again seen)) = true
is_holder (ShowStore current next value (Again seen)) = true
is_holder _ = false

-- whether a place is to join the line, or to ask so that it would
abbrev pub joins_line : Stage → Bool
joins_line (AcquireLoad ask) = ask.joins
joins_line (AcquireExchange ask seen) = ask.joins
joins_line (Prepare request seen) = true
joins_line (Join request seen) = true
joins_line _ = false

-- whether a place uses a word of its own at a stage
abbrev pub uses_own : Stage → Bool
uses_own (Prepare request seen) = true
uses_own (Join request seen) = true
uses_own (Take taking) = true
uses_own FlagLoad = true
uses_own (FlagExchange seen) = true
uses_own (LookLoad seen current newer previous) = true
uses_own (LookStore seen current newer line) = true
uses_own (Unlink seen newer line older) = true
uses_own (DropTail seen older) = true
uses_own _ = false

-- A visitor has no words: it stands at no stage that uses one of its own, and at none that leads to one
abbrev pub IsVisiting : Stage → Type 0
IsVisiting stage = (joins_line stage ≡ false) × (uses_own stage ≡ false)

-- an ask has to wait behind a main word
abbrev pub waits_behind : Needs → Word → ℕ → Bool
waits_behind needs seen request = not (seen.tail == 0) || not (fits_count needs seen.count request)

-- whether a place takes its own answer once it is done with the line
abbrev pub takes_back : AfterWalk → Bool
takes_back (Takes request) = true
takes_back _ = false

-- a place that takes its own answer once it is done with the line is registered in it
abbrev pub IsReturning : Registration → AfterWalk → Type 0
IsReturning registration (Takes request) = registration ≡ Queued request
IsReturning registration _ = Unit {0}

-- a cancel is of a place that is registered in the line, and takes its own answer where it isn't found there
abbrev pub IsLeaving : Registration → AfterWalk → Type 0
IsLeaving registration (Takes request) = registration ≡ Queued request
IsLeaving registration _ = ⊥

-- what a place remembers fits together, whatever stands in the words
abbrev pub IsLocallyTrue : Needs → Registration → AfterWalk → Stage → Type 0
IsLocallyTrue needs registration back (AcquireLoad ask) = (ask.request < 65536) × (ask.joins ≡ true → is_slot registration ≡ false)
IsLocallyTrue needs registration back (AcquireExchange ask seen) =
    (ask.request < 65536) × (ask.joins ≡ true → is_slot registration ≡ false) × ((seen.tail == 0) ≡ true) × (seen.is_poisoned ≡ false)
IsLocallyTrue needs registration back (Prepare request seen) =
    (request < 65536) × (is_slot registration ≡ false) × (seen.tail < 65536) × (waits_behind needs seen request ≡ true) × (seen.is_poisoned ≡ false)
IsLocallyTrue needs registration back (Join request seen) =
    (request < 65536) × (is_slot registration ≡ false) × (seen.tail < 65536) × (waits_behind needs seen request ≡ true) × (seen.is_poisoned ≡ false)
IsLocallyTrue needs registration back (ReleaseLoad given) = takes_back back ≡ false
IsLocallyTrue needs registration back (ReleaseExchange given seen) =
    (seen.tail < 65536) × ((left : ℕ) × (left_from needs seen.count given ≡ Some left)) × (forgets needs seen.is_poisoned ≡ false) × (takes_back back ≡ false)
IsLocallyTrue needs registration back (BackLoad seen current newer) = IsReturning registration back
IsLocallyTrue needs registration back (BackStore seen current newer line) = IsReturning registration back
IsLocallyTrue needs registration back (Forward seen current count) = IsReturning registration back
IsLocallyTrue needs registration back (CutToClose seen current count line) = IsReturning registration back
IsLocallyTrue needs registration back (CutForRetry seen current count line) = IsReturning registration back
IsLocallyTrue needs registration back (Close seen count top) = (seen.tail < 65536) × IsReturning registration back
IsLocallyTrue needs registration back (Empty seen current count line) = (seen.tail < 65536) × IsReturning registration back
IsLocallyTrue needs registration back (Retry seen count top) = IsReturning registration back
IsLocallyTrue needs registration back (ShowLoad current value afterwards) = IsReturning registration back
IsLocallyTrue needs registration back (ShowStore current next value afterwards) = IsReturning registration back
IsLocallyTrue needs registration back (Take (Gives request)) = registration ≡ Queued request
IsLocallyTrue needs registration back (Take taking) = is_slot registration ≡ true
IsLocallyTrue needs registration back FlagLoad = IsLeaving registration back
IsLocallyTrue needs registration back (FlagExchange seen) =
    IsLeaving registration back × (seen.tail < 65536) × ((seen.tail == 0) ≡ false) × (seen.is_flagged ≡ false)
IsLocallyTrue needs registration back (LookLoad seen current newer previous) = IsLeaving registration back
IsLocallyTrue needs registration back (LookStore seen current newer line) = IsLeaving registration back
IsLocallyTrue needs registration back (Unlink seen newer line older) = IsLeaving registration back
IsLocallyTrue needs registration back (DropTail seen older) = IsLeaving registration back × (seen.tail < 65536)
IsLocallyTrue needs registration back PoisonLoad = takes_back back ≡ false
IsLocallyTrue needs registration back (PoisonExchange seen) =
    (takes_back back ≡ false) × (seen.tail < 65536) × (may_refuse needs seen.count ≡ true) × (seen.is_flagged ≡ false) × (seen.is_poisoned ≡ false)
IsLocallyTrue needs registration back Clear = needs.is_lock ≡ true
IsLocallyTrue needs registration back _ = Unit {0}

-- whether a place takes its own answer next, or once it is done with the line, since it didn't find itself in that
abbrev pub gives_up : AfterWalk → Stage → Bool
gives_up back (BackLoad seen current newer) = takes_back back
gives_up back (BackStore seen current newer line) = takes_back back
gives_up back (Forward seen current count) = takes_back back
gives_up back (CutToClose seen current count line) = takes_back back
gives_up back (CutForRetry seen current count line) = takes_back back
gives_up back (Close seen count top) = takes_back back
gives_up back (Empty seen current count line) = takes_back back
gives_up back (Retry seen count top) = takes_back back
gives_up back (ShowLoad current value afterwards) = takes_back back
gives_up back (ShowStore current next value afterwards) = takes_back back
gives_up back (Take (Gives request)) = true
gives_up back _ = false

-- a place that is about to join has written its own line word
abbrev pub IsOwn : LineWord → Stage → Type 0
IsOwn word (Join request seen) = (word.request ≡ request) × (word.older ≡ seen.tail)
IsOwn word _ = Unit {0}

-- the places whose answers a place has to show, oldest first, and of which value: it shows the newest of them next
abbrev pub IsShowing : List (ℕ × ℕ) → ℕ → Stage → Type 0
IsShowing unshown answer_value (ShowLoad current value afterwards) = (newest 0 unshown ≡ current) × (is_empty unshown ≡ false) × (value ≡ answer_value)
IsShowing unshown answer_value (ShowStore current next value afterwards) =
    (before : List (ℕ × ℕ)) × (asker : ℕ × ℕ) × (unshown ≡ before ++ asker ∷ []) × (current ≡ asker.0 + 1) × (next ≡ newest 0 before) × (value ≡ answer_value)
IsShowing unshown answer_value _ = unshown ≡ []

-- The line as the holder of the flag sees it: those of the front, who are granted or still to be passed, those behind them, up to
-- the tail that it saw, and the waiters who were enqueued since. No more is held than it saw
pub record Work (held : ℕ) (line : List (ℕ × ℕ)) (seen : Word) : Type 0 where
  pub front : List (ℕ × ℕ)
  pub behind : List (ℕ × ℕ)
  pub joined : List (ℕ × ℕ)
  pub parts : line ≡ front ++ (behind ++ joined)
  pub tail : seen.tail ≡ newest 0 (front ++ behind)
  pub count : held ≤ seen.count

-- the front fits one after another, and the count is what was seen with what it takes
abbrev pub IsAdded : Needs → Word → List (ℕ × ℕ) → ℕ → Type 0
IsAdded needs seen front count = IsFront needs seen.count front × (count ≡ seen.count + takes_of needs front)

-- the holder looks at the first of those behind the front
abbrev pub IsAt : (ℕ → LineWord) → List (ℕ × ℕ) → ℕ → Type 0
IsAt words behind current = (current ≡ oldest behind) × (is_empty behind ≡ false) × IsAhead words behind

-- the holder looks at the last of the front, with those behind it linked
abbrev pub IsBack : (ℕ → LineWord) → List (ℕ × ℕ) → List (ℕ × ℕ) → ℕ → ℕ → Type 0
IsBack words front behind current newer =
    (current ≡ newest 0 front) × (is_empty front ≡ false) × (newer ≡ oldest behind) × IsAhead words behind

-- the holder has looked for itself among those behind the front, and is neither there nor among the waiters who were enqueued since
abbrev pub IsPassed : ℕ → List (ℕ × ℕ) → List (ℕ × ℕ) → Type 0
IsPassed me behind joined = (is_in me behind ≡ false) × (is_in me joined ≡ false)

-- the holder found itself as the last of the front, with this neighbour before it
abbrev pub IsFound : ℕ → List (ℕ × ℕ) → ℕ → Type 0
IsFound me front older = (before : List (ℕ × ℕ)) × (request : ℕ) × (front ≡ before ++ (me, request) ∷ []) × (older ≡ newest 0 before)

-- what the holder of the flag knows of the line, and which waiters it has cut off from the line
abbrev pub IsHolding : Needs → (ℕ → LineWord) → ℕ → ℕ → List (ℕ × ℕ) → List (ℕ × ℕ) → Stage → Type 0
IsHolding needs words me held line cut (BackLoad seen current newer) =
    (work : Work held line seen) × (cut ≡ []) × IsBack words work.front work.behind current newer
IsHolding needs words me held line cut (BackStore seen current newer word) =
    (work : Work held line seen) × (cut ≡ []) × IsBack words work.front work.behind current newer × (word ≡ words (pred current))
IsHolding needs words me held line cut (Forward seen current count) =
    (work : Work held line seen) × (cut ≡ []) × IsAdded needs seen work.front count × IsAt words work.behind current
IsHolding needs words me held line cut (CutToClose seen current count word) =
    (work : Work held line seen) × (cut ≡ []) × IsAdded needs seen work.front count × IsAt words work.behind current
    × (word ≡ words (pred current)) × (fits_count needs count word.request ≡ false)
IsHolding needs words me held line cut (CutForRetry seen current count word) =
    (work : Work held line seen) × (cut ≡ []) × IsAdded needs seen work.front count × IsAt words work.behind current
    × (word ≡ words (pred current))
IsHolding needs words me held line cut (Close seen count top) =
    (work : Work held line seen) × (cut ≡ work.front) × IsAdded needs seen work.front count × (top ≡ newest 0 work.front)
    × (is_empty work.behind ≡ false) × IsSettledAt needs count work.behind
IsHolding needs words me held line cut (Empty seen current count word) =
    (work : Work held line seen) × (cut ≡ []) × IsFront needs seen.count work.front × IsAt words work.behind current
    × (word ≡ words (pred current)) × (seen.tail ≡ current)
    × (fits_count needs (seen.count + takes_of needs work.front) word.request ≡ true)
    × (count ≡ seen.count + takes_of needs work.front + needs.takes word.request)
IsHolding needs words me held line cut (Retry seen count top) =
    (work : Work held line seen) × (cut ≡ work.front) × IsAdded needs seen work.front count × (top ≡ newest 0 work.front)
    × (is_empty work.behind ≡ false)
IsHolding needs words me held line cut (ShowLoad current value (Again seen)) =
    (work : Work held line seen) × (cut ≡ []) × (work.front ≡ []) × (is_empty work.behind ≡ false)
IsHolding needs words me held line cut (ShowStore current next value (Again seen)) =
    (work : Work held line seen) × (cut ≡ []) × (work.front ≡ []) × (is_empty work.behind ≡ false)
IsHolding needs words me held line cut (LookLoad seen current newer previous) =
    (work : Work held line seen) × (cut ≡ []) × IsBack words work.front work.behind current newer
    × IsPassed me work.behind work.joined × (is_empty work.behind ≡ false → previous ≡ words (pred newer))
IsHolding needs words me held line cut (LookStore seen current newer word) =
    (work : Work held line seen) × (cut ≡ []) × IsBack words work.front work.behind current newer
    × IsPassed me work.behind work.joined × (word ≡ words (pred current)) × ((current == me + 1) ≡ false)
IsHolding needs words me held line cut (Unlink seen newer word older) =
    (work : Work held line seen) × (cut ≡ []) × IsFound me work.front older × IsAt words work.behind newer × (word ≡ words (pred newer))
IsHolding needs words me held line cut (DropTail seen older) =
    (work : Work held line seen) × (cut ≡ []) × IsFound me work.front older × (work.behind ≡ [])
IsHolding needs words me held line cut _ = ⊥

-- The main word says what is held and which place is the newest, and its flag whether it has a holder: the link of that place, or 0.
-- Where nobody holds it the object isn't open, and where it isn't open its line is settled. Where a lock is poisoned nothing is
-- held and nobody waits, and where a semaphore is shut nobody waits
pub record IsMain (needs : Needs) (number : ℕ) (state : AbstractState) (holder : ℕ) : Type 0 where
  pub whole : number < 2 ^ (count_bits + 18)
  pub count : (word_of count_bits number).count ≡ state.count
  pub tail : (word_of count_bits number).tail ≡ newest 0 state.line
  pub flag : (word_of count_bits number).is_flagged ≡ not (holder == 0)
  pub poison : (word_of count_bits number).is_poisoned ≡ state.poisoned
  pub barren : state.poisoned ≡ true → (state.count ≡ kept needs state.count) × (state.line ≡ [])
  pub bounded : state.count ≤ needs.top
  pub closed : (holder == 0) ≡ true → state.unclosed ≡ false
  pub settled : state.unclosed ≡ false → IsSettledAt needs state.count state.line

-- the line words link the line, in two parts where those that are granted are cut off from those that stay
pub record IsLine (words : ℕ → LineWord) (line cut uncut : List (ℕ × ℕ)) : Type 0 where
  pub parts : line ≡ cut ++ uncut
  pub granted : IsBehind words 0 cut
  pub stays : IsBehind words 0 uncut
  pub some : is_empty uncut ≡ true → cut ≡ []

-- a place is held by the object exactly where it is registered in the line. Any number from the last place on is a visitor's, which has no words of its own: it
-- isn't registered in the line, and doesn't join it
pub record AreSeats (places : ℕ) (standing : ℕ → Place) (state : AbstractState) : Type 0 where
  pub held : (place : ℕ) → held_by place state ≡ one_if (is_slot (standing place).registration)
  pub within : (place : ℕ) → is_slot (standing place).registration ≡ true → place < places
  pub beyond : (place : ℕ) → places ≤ place → joins_line (standing place).stage ≡ false

-- the answer words are what is shown
pub record AreAnswers (places : ℕ) (row : ℕ → ℕ) (answered : ℕ → Option ℕ) : Type 0 where
  pub words : (place : ℕ) → place < places → row (places + place + 1) ≡ answer_number (answered place)
  pub small : (place value : ℕ) → answered place ≡ Some value → value < 256

-- each answer that is due is to be shown by the place that granted it, which follows the links of the places that it has to show and shows one value
pub record AreGrants (words : ℕ → LineWord) (granted : ℕ → Option ℕ) (granter : ℕ → ℕ) (unshown : ℕ → List (ℕ × ℕ)) (answer_value : ℕ → ℕ) : Type 0 where
  pub granted_to : (place other : ℕ) → is_in other (unshown place) ≡ true → (granter other ≡ place) × (granted other ≡ Some (answer_value place))
  pub unshown_by : (other : ℕ) → is_some (granted other) ≡ true → is_in other (unshown (granter other)) ≡ true
  pub once : (place other : ℕ) → times other (unshown place) ≤ 1
  pub links : (place : ℕ) → IsBehind words 0 (unshown place)
  pub small : (place : ℕ) → answer_value place < 256

-- what each place remembers is true of the words and of the object; one holds the flag at most
pub record AreStages (needs : Needs) (words : ℕ → LineWord) (standing : ℕ → Place) (held : ℕ) (line cut : List (ℕ × ℕ)) (holder : ℕ)
    (unshown : ℕ → List (ℕ × ℕ)) (answer_value : ℕ → ℕ) : Type 0 where
  pub ranged : (place : ℕ) → IsRanged needs (standing place).stage
  pub alone : (place : ℕ) → IsLocallyTrue needs (standing place).registration (standing place).back (standing place).stage
  pub apart : (place : ℕ) → gives_up (standing place).back (standing place).stage ≡ true → is_in place line ≡ false
  pub own : (place : ℕ) → IsOwn (words place) (standing place).stage
  pub showing : (place : ℕ) → IsShowing (unshown place) (answer_value place) (standing place).stage
  pub one : (place : ℕ) → is_holder (standing place).stage ≡ (holder == place + 1)
  pub holding : (place : ℕ) → holder ≡ place + 1 → IsHolding needs words place held line cut (standing place).stage

-- So many places, a row of words and the abstract state stand together
pub record Invariant (needs : Needs) (places : ℕ) (row : ℕ → ℕ) (standing : ℕ → Place) (state : AbstractState) : Type 0 where
  pub holder : ℕ
  pub cut : List (ℕ × ℕ)
  pub uncut : List (ℕ × ℕ)
  pub unshown : ℕ → List (ℕ × ℕ)
  pub answer_value : ℕ → ℕ
  pub free : (holder == 0) ≡ true → cut ≡ []
  pub main : IsMain needs (row 0) state holder
  pub line : IsLine (line_of row) state.line cut uncut
  pub seats : AreSeats places standing state
  pub answers : AreAnswers places row state.answered
  pub grants : AreGrants (line_of row) state.granted state.granter unshown answer_value
  pub stages : AreStages needs (line_of row) standing state.count state.line cut holder unshown answer_value

-- The abstract state: what a form that is kept in words is at each moment. Between an ask that waits and its answer several steps
-- of several places lie, so answers are granted, shown and taken at steps of their own. A reader of the clauses has to believe this.
use Rattle.std.specs.Prelude.{◌≡◌, ◌≢◌, ℕ, ◌+◌, ◌<◌, ◌≤◌, Bool, true, false, not, ◌||◌, if◌then◌else◌, ◌==◌, List, [], ◌∷◌, ◌++◌, length, take, drop, Option, Some, None, is_some}
use Rattle.saa_core_spec.specs.Held.{Exclusive, Shared}
use Rattle.saa_core_spec.specs.Object.{one_if, times, without}
use Rattle.saa_core_words.specs.Words.{lock_count}
use Rattle.saa_word_steps.specs.declared.event.Event.{Event}
use Rattle.saa_word_steps.specs.declared.event.Event.TheVariants.{Acquired, Refused, Joined, Released, ReleasedNothing, Lowered, NotLowered, AskedPoisoned, Cancelled, Closed, Poisoned, NotPoisoned, Cleared, NotCleared, NotReady, Granted, Showed, AnswerTaken, Read}
use Rattle.saa_word_steps.specs.Needs.{Needs, fits_count, forgets, kept, left_count, may_refuse}

-- What is held, as a count, and whether every request is refused, since a lock is poisoned or a semaphore shut; the waiters, oldest
-- first, each with the number of what it asks; whether something was given back or left since the line was last settled; the answers
-- of places that are granted and not shown yet, and the place that granted each of them, which has to show it (for a place with
-- none it says nothing); and the answers that are shown and not taken yet
pub record AbstractState : Type 0 where
  pub count : ℕ
  pub poisoned : Bool
  pub line : List (ℕ × ℕ)
  pub unclosed : Bool
  pub granted : ℕ → Option ℕ
  pub granter : ℕ → ℕ
  pub answered : ℕ → Option ℕ

-- so much is held, and nobody waits or has an answer
abbrev pub opening : ℕ → AbstractState
opening count = record {
  count = count;
  poisoned = false;
  line = [];
  unclosed = false;
  granted = λ place. None;
  granter = λ place. 0;
  answered = λ place. None;
}

-- whether there are no waiters
abbrev pub is_empty : List (ℕ × ℕ) → Bool
is_empty [] = true
is_empty (asker ∷ rest) = false

-- whether a place is a waiter
abbrev pub is_in : ℕ → List (ℕ × ℕ) → Bool
is_in place [] = false
is_in place (asker ∷ rest) = (asker.0 == place) || is_in place rest

-- these fit one after another, from a count on
abbrev pub IsFront : Needs → ℕ → List (ℕ × ℕ) → Type 0
IsFront needs count [] = Unit {0}
IsFront needs count (asker ∷ rest) = (fits_count needs count asker.1 ≡ true) × IsFront needs (count + needs.takes asker.1) rest

-- what these take together
abbrev pub takes_of : Needs → List (ℕ × ℕ) → ℕ
takes_of needs [] = 0
takes_of needs (asker ∷ rest) = needs.takes asker.1 + takes_of needs rest

-- a line is settled at a count where nobody waits, or the oldest doesn't fit
abbrev pub IsSettledAt : Needs → ℕ → List (ℕ × ℕ) → Type 0
IsSettledAt needs count [] = Unit {0}
IsSettledAt needs count (asker ∷ rest) = fits_count needs count asker.1 ≡ false

-- an answer for each of these places
abbrev pub answered_with : ℕ → List (ℕ × ℕ) → (ℕ → Option ℕ) → ℕ → Option ℕ
answered_with value askers answers place = if is_in place askers then Some value else answers place

-- the answers of these places are granted by this one
abbrev pub granted_by : ℕ → List (ℕ × ℕ) → (ℕ → ℕ) → ℕ → ℕ
granted_by place askers granter other = if is_in other askers then place else granter other

-- a place has shown each answer that it granted
abbrev pub HasShownAll : ℕ → AbstractState → Type 0
HasShownAll place state = (other : ℕ) → is_some (state.granted other) ≡ true → state.granter other ≢ place

-- a map with another answer at one place
abbrev pub with_answer : ℕ → Option ℕ → (ℕ → Option ℕ) → ℕ → Option ℕ
with_answer place answer answers other = if other == place then answer else answers other

-- an ask has to wait, or is refused: somebody waits, or it doesn't fit
abbrev pub must_wait : Needs → AbstractState → ℕ → Bool
must_wait needs state request = not (is_empty state.line) || not (fits_count needs state.count request)

-- one owner has the lock
abbrev pub IsOwned : Needs → AbstractState → Type 0
IsOwned needs state = (state.poisoned ≡ false) × (state.count ≡ lock_count Exclusive) × (needs.is_lock ≡ true)

-- a lock can be poisoned: it isn't yet, and one owner has it. A semaphore can be shut: it isn't yet
abbrev pub MayRefuse : Needs → AbstractState → Type 0
MayRefuse needs state = (state.poisoned ≡ false) × (may_refuse needs state.count ≡ true)

-- where an event of a place is enabled
abbrev pub IsEnabled : Needs → AbstractState → ℕ → Event → Type 0
IsEnabled needs state place (Acquired request) = (state.poisoned ≡ false) × (state.line ≡ []) × (fits_count needs state.count request ≡ true)
IsEnabled needs state place (Refused request) = (state.poisoned ≡ false) × (must_wait needs state request ≡ true)
IsEnabled needs state place (Joined request) =
    (state.poisoned ≡ false) × (must_wait needs state request ≡ true)
    × (is_in place state.line ≡ false) × (state.granted place ≡ None) × (state.answered place ≡ None)
IsEnabled needs state place (Released request) = (forgets needs state.poisoned ≡ false) × ((left : ℕ) × (left_count needs state.count request ≡ Some left))
IsEnabled needs state place (ReleasedNothing request) = (forgets needs state.poisoned ≡ false) → left_count needs state.count request ≡ None
IsEnabled needs state place Lowered = IsOwned needs state
IsEnabled needs state place NotLowered = IsOwned needs state → ⊥
IsEnabled needs state place AskedPoisoned = state.poisoned ≡ true
IsEnabled needs state place Cancelled = is_in place state.line ≡ true
IsEnabled needs state place (Granted askers) =
    (state.unclosed ≡ true) × (0 < askers) × (askers ≤ length state.line) × IsFront needs state.count (take askers state.line)
IsEnabled needs state place Closed = (state.unclosed ≡ true) × IsSettledAt needs state.count state.line
IsEnabled needs state place Poisoned = (state.unclosed ≡ false) × MayRefuse needs state
IsEnabled needs state place NotPoisoned = MayRefuse needs state → ⊥
IsEnabled needs state place Cleared = (state.poisoned ≡ true) × (needs.is_lock ≡ true)
IsEnabled needs state place NotCleared = state.poisoned ≡ false
IsEnabled needs state place (Showed shown_place) = (is_some (state.granted shown_place) ≡ true) × (state.granter shown_place ≡ place)
IsEnabled needs state place (AnswerTaken value) = state.answered place ≡ Some value
IsEnabled needs state place NotReady = (is_in place state.line || is_some (state.granted place)) ≡ true
IsEnabled needs state place (Read count poisoned) = (state.count ≡ count) × (state.poisoned ≡ poisoned)

-- the count that is left once a request is given back; unchanged where it isn't held
abbrev pub count_or : ℕ → Option ℕ → ℕ
count_or count None = count
count_or count (Some left) = left

-- what an event changes
abbrev pub after_event : Needs → AbstractState → ℕ → Event → AbstractState
after_event needs state place (Acquired request) = record state { count = state.count + needs.takes request }
after_event needs state place (Joined request) = record state { line = state.line ++ (place, request) ∷ [] }
after_event needs state place (Released request) =
    record state { count = count_or state.count (left_count needs state.count request); unclosed = not (is_empty state.line) || state.unclosed }
after_event needs state place Lowered =
    record state { count = lock_count (Shared 1); unclosed = not (is_empty state.line) || state.unclosed }
after_event needs state place Cancelled =
    record state { line = without place state.line; unclosed = not (is_empty (without place state.line)) }
after_event needs state place (Granted askers) =
    record state {
      count = state.count + takes_of needs (take askers state.line);
      line = drop askers state.line;
      granted = answered_with 0 (take askers state.line) state.granted;
      granter = granted_by place (take askers state.line) state.granter;
    }
after_event needs state place Closed = record state { unclosed = false }
after_event needs state place Poisoned =
    record state {
      count = kept needs state.count;
      poisoned = true;
      line = [];
      granted = answered_with 2 state.line state.granted;
      granter = granted_by place state.line state.granter;
    }
after_event needs state place Cleared = record state { poisoned = false }
after_event needs state place (Showed shown_place) =
    record state { granted = with_answer shown_place None state.granted; answered = with_answer shown_place (state.granted shown_place) state.answered }
after_event needs state place (AnswerTaken value) = record state { answered = with_answer place None state.answered }
after_event needs state place (Refused request) = state
after_event needs state place (ReleasedNothing request) = state
after_event needs state place NotLowered = state
after_event needs state place AskedPoisoned = state
after_event needs state place NotPoisoned = state
after_event needs state place NotCleared = state
after_event needs state place NotReady = state
after_event needs state place (Read count poisoned) = state

-- a list of events, each of a place, runs from one state to another: each is allowed where it comes, and changes what it says
abbrev pub IsRun : Needs → AbstractState → List (ℕ × Event) → AbstractState → Type 0
IsRun needs state [] last = state ≡ last
IsRun needs state (event ∷ events) last = IsEnabled needs state event.0 event.1 × IsRun needs (after_event needs state event.0 event.1) events last

-- how often a place is held: it waits, or its answer is to be shown, or is shown and not taken yet
abbrev pub held_by : ℕ → AbstractState → ℕ
held_by place state = times place state.line + one_if (is_some (state.granted place)) + one_if (is_some (state.answered place))

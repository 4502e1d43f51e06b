-- Answering: the fitting front of a line, settling, and answering all waiters.
use Rattle.std.specs.Prelude.{◌≡◌, ℕ, suc, ◌+◌, true, min, List, [], ◌∷◌, take, drop, if◌then◌else◌}
use Rattle.saa_core_spec.specs.Held.{Held, OfBarrier, fits, plus, max_rounds}
use Rattle.saa_core_spec.specs.Object.{Object, Entry, Idle, Waiting, Answered, Waiter, entry_at}
use Rattle.std.specs.Prelude.{slice_set}

-- the fitting front: how many of the oldest waiters fit, each what is held plus the requests before it.
-- It is the greatest such number, which `laws::settling` proves
abbrev pub fitting_front : Held → List Waiter → ℕ
fitting_front held [] = 0
fitting_front held (waiter ∷ waiters) =
    if fits held waiter.1 then suc (fitting_front (plus held waiter.1) waiters) else 0

-- held plus the requests of these waiters, one after another
abbrev pub plus_all : Held → List Waiter → Held
plus_all held [] = held
plus_all held (waiter ∷ waiters) = plus_all (plus held waiter.1) waiters

-- the entry of a waiter that is answered out of the line, and so keeps its slot
abbrev pub answered_entry : ℕ → Entry → Entry
answered_entry value Idle = Idle
answered_entry value (Waiting request is_sync) = Answered value request is_sync true
answered_entry value (Answered was request is_sync slotted) = Answered was request is_sync slotted

-- the book in which these waiters are answered with a value
abbrev pub answered_in : ℕ → List Waiter → List Entry → List Entry
answered_in value [] book = book
answered_in value (waiter ∷ waiters) book =
    answered_in value waiters (slice_set book waiter.0 (answered_entry value (entry_at book waiter.0)))

-- the k oldest waiters are granted: answered 0, their requests taken, and the line loses them
abbrev pub granted : ℕ → Object → Object
granted k s = record s {
  held = plus_all s.held (take k s.line);
  line = drop k s.line;
  book = answered_in 0 (take k s.line) s.book;
}

-- settling grants the fitting front, and changes nothing else
unfoldable pub settled : Object → Object
settled s = granted (fitting_front s.held s.line) s

-- the object is settled where nobody in front fits
abbrev pub IsSettled : Object → Type 0
IsSettled s = fitting_front s.held s.line ≡ 0

-- all waiters are answered with a value, and the line is empty
abbrev pub all_answered : ℕ → Object → Object
all_answered value s = record s { line = []; book = answered_in value s.line s.book }

-- A barrier of this size completes a round: all waiters are answered with a value, which says that they pass, and the next round
-- begins, with no arrival
abbrev pub round_complete : ℕ → Object → (size round : ℕ) → Object
round_complete value s size round = all_answered value (record s { held = OfBarrier size 0 (min (round + 1) max_rounds) })

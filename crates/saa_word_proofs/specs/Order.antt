-- FIFO, as the events of a history show it: which places wait, in which order they were answered, and what a place's own events say of that. No definition here
-- names the abstract state, or says when an event is enabled. A reader of the clauses has to believe this.
use Rattle.std.specs.Prelude.{◌≡◌, ℕ, ◌+◌, ◌≤◌, Bool, true, false, if◌then◌else◌, ◌==◌, List, [], ◌∷◌, ◌++◌, length, take, drop}
use Rattle.saa_core_spec.specs.Values.{granted_value, poisoned_value}
use Rattle.saa_core_spec.specs.Object.{one_if, times, without}
use Rattle.saa_word_steps.specs.declared.event.Event.{Event}
use Rattle.saa_word_steps.specs.declared.event.Event.TheVariants.{Joined, Cancelled, Granted, Poisoned, Showed, AnswerTaken}
use Rattle.saa_word_proofs.specs.History.{part_of}

-- A waiter is a place with the number of what it asks. A queue is a list of waiters, oldest first

-- the queue after an event of a place: one that joins is the newest waiter, one that leaves is removed; a grant dequeues that many waiters, oldest first,
-- and poison dequeues all
abbrev pub queue_after : List (ℕ × ℕ) → ℕ → Event → List (ℕ × ℕ)
queue_after queue place (Joined request) = queue ++ (place, request) ∷ []
queue_after queue place Cancelled = without place queue
queue_after queue place (Granted askers) = drop askers queue
queue_after queue place Poisoned = []
queue_after queue place _ = queue

-- the queue after a list of events
abbrev pub waiting_from : List (ℕ × ℕ) → List (ℕ × Event) → List (ℕ × ℕ)
waiting_from queue [] = queue
waiting_from queue (entry ∷ rest) = waiting_from (queue_after queue entry.0 entry.1) rest

-- the waiters after a history, oldest first
abbrev pub waiting : List (ℕ × Event) → List (ℕ × ℕ)
waiting history = waiting_from [] history

-- a waiter that was answered, and the value of its answer
pub record Answer : Type 0 where
  pub waiter : ℕ × ℕ
  pub value : ℕ

-- all waiters of a queue, answered with one value
abbrev pub each_with : ℕ → List (ℕ × ℕ) → List Answer
each_with value [] = []
each_with value (waiter ∷ rest) = record { waiter = waiter; value = value } ∷ each_with value rest

-- the waiters that an event answers: a grant that many, oldest first, and poison all
abbrev pub answers_by : List (ℕ × ℕ) → Event → List Answer
answers_by queue (Granted askers) = each_with granted_value (take askers queue)
answers_by queue Poisoned = each_with poisoned_value queue
answers_by queue _ = []

-- the answers that a list of events gives, from a queue on
abbrev pub answers_from : List (ℕ × ℕ) → List (ℕ × Event) → List Answer
answers_from queue [] = []
answers_from queue (entry ∷ rest) = answers_by queue entry.1 ++ answers_from (queue_after queue entry.0 entry.1) rest

-- the answers that a history gives, in their order
abbrev pub answers : List (ℕ × Event) → List Answer
answers history = answers_from [] history

-- the waiters that were answered, in the order of the answers
abbrev pub answered : List Answer → List (ℕ × ℕ)
answered [] = []
answered (answer ∷ rest) = answer.waiter ∷ answered rest

-- the values with which a place was answered, in the order of the answers
abbrev pub values_of : ℕ → List Answer → List ℕ
values_of place [] = []
values_of place (answer ∷ rest) = if answer.waiter.0 == place then (answer.value ∷ values_of place rest) else values_of place rest

-- What a place's own events say

-- whether a place that has joined cancels, as its later events say: it leaves before it joins again
abbrev pub cancels : List Event → Bool
cancels [] = false
cancels (Cancelled ∷ later) = true
cancels (Joined request ∷ later) = false
cancels (event ∷ later) = cancels later

-- whether a place joins among its events
abbrev pub joins : List Event → Bool
joins [] = false
joins (Joined request ∷ later) = true
joins (event ∷ later) = joins later

-- the values of the answers that a place takes among its events, in their order
abbrev pub taken : List Event → List ℕ
taken [] = []
taken (AnswerTaken value ∷ later) = value ∷ taken later
taken (event ∷ later) = taken later

-- the waiter that an event of a place enqueues, unless the place cancels among its later events
abbrev pub joined_by : ℕ → Event → List Event → List (ℕ × ℕ)
joined_by place (Joined request) later = if cancels later then [] else (place, request) ∷ []
joined_by place _ later = []

-- the waiters that have joined and haven't cancelled, in the order of joining
abbrev pub joined : List (ℕ × Event) → List (ℕ × ℕ)
joined [] = []
joined (entry ∷ rest) = joined_by entry.0 entry.1 (part_of entry.0 rest) ++ joined rest

-- whether an event shows a place its answer
abbrev pub is_show_of : ℕ → Event → Bool
is_show_of place (Showed shown_place) = shown_place == place
is_show_of place _ = false

-- how often a place is shown an answer
abbrev pub shows : ℕ → List (ℕ × Event) → ℕ
shows place [] = 0
shows place (entry ∷ rest) = one_if (is_show_of place entry.1) + shows place rest

-- A place takes its answers in their order, each once: they are those that it has taken, and then one at most that is pending. A place waits once at
-- most, and not while an answer is pending. No answer is taken before one is shown, or shown before one is there
pub record TakesInOrder (history : List (ℕ × Event)) (place : ℕ) : Type 0 where
  pub pending : List ℕ
  pub parts : values_of place (answers history) ≡ taken (part_of place history) ++ pending
  pub once : times place (waiting history) + length pending ≤ 1
  pub taken_shown : length (taken (part_of place history)) ≤ shows place history
  pub shown_answered : shows place history ≤ length (values_of place (answers history))

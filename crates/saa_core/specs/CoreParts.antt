-- What the steps of a core that grants do to it, slot by slot. No user of a semaphore or a lock must believe this: their
-- contracts speak of the object, and the proofs show that these are its steps.
use Rattle.std.specs.Prelude.{ℕ, Bool, true, false, ◌&&◌, List, [], ◌∷◌, take, Option, Some, None, nat_lt, ◌==◌, slice_set, if◌then◌else◌}
use Rattle.saa_core_spec.specs.declared.request.Request.{Request}
use Rattle.saa_core_spec.specs.Held.{Held, OfSemaphore, OfShutSemaphore, OfLock, OfGate, OfBarrier, Poisoned, fits, less}
use Rattle.saa_core_spec.specs.Object.{Waiter, is_nobody, times, without}
use Rattle.saa_core_spec.specs.Settling.{fitting_front, plus_all}
use Rattle.saa_core_spec.specs.Polling.{is_for_nothing}
use Rattle.saa_core_spec.specs.Values.{granted_value, closed_value, poisoned_value}
use Rattle.saa_core.specs.Slots.{answer_in, slots_answered}
use Rattle.saa_core.specs.Tickets.{Core}

-- a core whose k oldest waiters are granted
abbrev pub core_granted : ℕ → Core → Core
core_granted k core = record { held = plus_all core.held (take k core.slots.line); slots = slots_answered 0 k core.slots }

-- a core that settled
unfoldable pub core_settled : Core → Core
core_settled core = core_granted (fitting_front core.held core.slots.line) core

-- whether a request is granted at once
abbrev pub takes_now : Core → Request → Bool
takes_now core request = is_nobody core.slots.line && fits core.held request

-- a core that got back what a request took, where what is held has it
abbrev pub core_given_of : Core → Bool → Option Held → Core
core_given_of core true rest = core
core_given_of core false (Some rest) = core_settled (record core { held = rest })
core_given_of core false None = core

abbrev pub core_given : Core → Request → Core
core_given core request = core_given_of core (is_for_nothing request) (less core.held request)

-- a core that undoes an answer: what was granted is given back
abbrev pub core_undone : Core → ℕ → Request → Core
core_undone core value request = if value == granted_value then core_given core request else core

-- a core that a slot leaves, by its answer and whether it waits: an answer is undone, a waiter only leaves
abbrev pub core_vacated_by : Core → ℕ → Request → Option ℕ → Bool → Core
core_vacated_by core slot request (Some value) waits =
    core_undone (record core { slots = record core.slots { answers = slice_set core.slots.answers slot None } }) value request
core_vacated_by core slot request None true =
    core_settled (record core { slots = record core.slots { line = without slot core.slots.line } })
core_vacated_by core slot request None false = core

abbrev pub core_vacated : Core → ℕ → Request → Core
core_vacated core slot request =
    core_vacated_by core slot request (answer_in core.slots.answers slot) (nat_lt 0 (times slot core.slots.line))

-- what the oldest waiter asks, if that fits
abbrev pub oldest_fitting : Held → List Waiter → Option Request
oldest_fitting held [] = None
oldest_fitting held (waiter ∷ waiters) = if fits held waiter.1 then Some waiter.1 else None

-- what grants that which fits: a semaphore and a lock
abbrev pub IsGranting : Held → Type 0
IsGranting (OfSemaphore bound out) = Unit {0}
IsGranting (OfShutSemaphore bound out) = Unit {0}
IsGranting (OfLock lock) = Unit {0}
IsGranting (OfGate gate) = ⊥
IsGranting (OfBarrier size arrived round) = ⊥

-- the answer that every registration gets at once, whatever it asks: that of a poisoned lock, and that of a shut semaphore
abbrev pub answer_to_all : Held → Option ℕ
answer_to_all (OfLock Poisoned) = Some poisoned_value
answer_to_all (OfShutSemaphore bound out) = Some closed_value
answer_to_all _ = None

-- What every run keeps of its tally.
use Rattle.std.proofs.Common.{◌≡◌, ℕ, ◌+◌, ◌≤◌, Bool, false, ◌||◌, List, [], ◌∷◌, Some, subst, arith}
use Rattle.std.proofs.lemmas.Bool.Decides.{nat_tests}
use Rattle.saa_core_spec.specs.Object.{one_if, times, without}
use Rattle.saa_core_spec.proofs.Counts.{times-append, times-take_drop, times-without_same, times-without_other}
use Rattle.saa_word_steps.specs.Needs.{Needs, permit_needs}
use Rattle.saa_word_steps.specs.declared.event.Event.{Event}
use Rattle.saa_word_steps.specs.AbstractState.{AbstractState, IsEnabled, after_event, IsRun, opening, takes_of, held_by}
use Rattle.saa_word_steps.proofs.AbstractRuns.{run-keeps, waits-none, waits-some}
use Rattle.saa_word_proofs.proofs.RefinementLemmas.Lists.{takes-append}
use Rattle.saa_word_proofs.proofs.OrderLemmas.{once-kept}
use Rattle.saa_word_proofs.specs.Conservation.{Tally, nothing_yet, line_of_place, after_counting, tallied, tally_of, ConservesPermits, MayAnswer, is_grant, shuts, AreOfPermitsFrom}

-- what each event keeps of state and tally every run keeps
pub tally-keeps : (needs : Needs) (P : AbstractState → Tally → Type 0)
    → ((state : AbstractState) (tally : Tally) (place : ℕ) (event : Event) → IsEnabled needs state place event
    → P state tally → P (after_event needs state place event) (after_counting needs state tally place event))
    → (state : AbstractState) (tally : Tally) (events : List (ℕ × Event)) (last : AbstractState) → IsRun needs state events last
    → P state tally → P last (tallied needs state tally events)
tally-keeps needs P step state tally [] last run p = subst (λ l. P l tally) run p
tally-keeps needs P step state tally (event ∷ events) last run p =
    tally-keeps needs P step (after_event needs state event.0 event.1) (after_counting needs state tally event.0 event.1) events last run.1
    (step state tally event.0 event.1 run.0 p)

-- Nothing is lost

-- a line is those of one place and the others
takes-parts : (needs : Needs) (place : ℕ) (line : List (ℕ × ℕ))
    → takes_of needs (line_of_place place line) + takes_of needs (without place line) ≡ takes_of needs line
takes-parts needs place [] = omega arith
takes-parts needs place (asker ∷ rest) = grind (arith, takes-parts needs place rest)

pub run-balanced : (bound withheld : ℕ) (events : List (ℕ × Event)) (last : AbstractState)
    → IsRun (permit_needs bound) (opening withheld) events last
    → ConservesPermits (permit_needs bound) withheld last (tally_of (permit_needs bound) withheld events)
run-balanced bound withheld events last run =
    tally-keeps (permit_needs bound) (ConservesPermits (permit_needs bound) withheld) (λ state tally place event allowed was.
    grind (arith, nat_tests, allowed, was, takes-append (permit_needs bound) tally.pending, takes-parts (permit_needs bound) place tally.pending))
    (opening withheld) nothing_yet events last run (omega arith)

-- Who is granted and hasn't taken it is due or shown, and nobody else

-- the places that were granted, as often as their grants are to be shown or taken, and each place held once at most
pub record ArePending (state : AbstractState) (tally : Tally) : Type 0 where
  pub once : (place : ℕ) → held_by place state ≤ 1
  pub pending : (place : ℕ) → times place tally.pending ≡ one_if (is_grant (state.granted place)) + one_if (is_grant (state.answered place))

pub run-pending : (needs : Needs) (withheld : ℕ) (events : List (ℕ × Event)) (last : AbstractState)
    → IsRun needs (opening withheld) events last → ArePending last (tally_of needs withheld events)
run-pending needs withheld events last run =
    tally-keeps needs ArePending
    (λ state tally place event allowed was. record {
      once = once-kept needs state place event allowed was.once;
      pending = λ other. grind (
        arith,
        nat_tests,
        allowed,
        was.pending other,
        was.once other,
        waits-some,
        waits-none,
        times-append {A = ℕ},
        times-take_drop {A = ℕ},
        times-without_same {A = ℕ},
        times-without_other {A = ℕ},
      );
    })
    (opening withheld) nothing_yet events last run (grind arith)

-- Every answer is a grant, or says that the semaphore was shut

pub record AreGranted (state : AbstractState) : Type 0 where
  pub granted : (place value : ℕ) → state.granted place ≡ Some value → MayAnswer state.poisoned value
  pub answered : (place value : ℕ) → state.answered place ≡ Some value → MayAnswer state.poisoned value

granted-step : (needs : Needs) → needs.is_lock ≡ false → (state : AbstractState) (place : ℕ) (event : Event) → IsEnabled needs state place event
    → AreGranted state → AreGranted (after_event needs state place event)
granted-step needs semaphore state place event allowed was = record {
  granted = λ other value is. grind (arith, semaphore, allowed, was.granted other value, is);
  answered = λ other value is. grind (arith, nat_tests, semaphore, allowed, was.granted other value, was.answered other value, is);
}

pub opening-granted : (count : ℕ) → AreGranted (opening count)
opening-granted count = grind arith

pub run-granted : (needs : Needs) → needs.is_lock ≡ false → (withheld : ℕ) (events : List (ℕ × Event)) (last : AbstractState)
    → IsRun needs (opening withheld) events last → AreGranted last
run-granted needs semaphore withheld events last run =
    run-keeps needs AreGranted (granted-step needs semaphore) (opening withheld) events last run (opening-granted withheld)

-- Events of a semaphore

-- a semaphore is shut behind an event exactly where it was before it, or is by it, so each of its events is one of a semaphore
pub run-permits : (needs : Needs) → needs.is_lock ≡ false → (state : AbstractState) (events : List (ℕ × Event)) (last : AbstractState)
    → AreGranted state → IsRun needs state events last → AreOfPermitsFrom state.poisoned events
run-permits needs semaphore state [] last was run = tt
run-permits needs semaphore state ((place, event) ∷ events) last was run =
    let shut : (after_event needs state place event).poisoned ≡ (state.poisoned || shuts event) = grind (arith, run.0, semaphore) in
    let rest = run-permits needs semaphore (after_event needs state place event) events last (granted-step needs semaphore state place event run.0 was) run.1 in
    (grind (arith, run.0, semaphore, was.answered place), subst (λ (b : Bool). AreOfPermitsFrom b events) shut rest)

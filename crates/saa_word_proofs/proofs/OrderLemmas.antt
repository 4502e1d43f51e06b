-- What every run keeps of its queue, its answers and each place's own events.
use Rattle.std.proofs.Common.{◌≡◌, ℕ, ◌+◌, ◌≤◌, Bool, true, false, if◌then◌else◌, ◌||◌, List, [], ◌∷◌, ◌++◌, length, take, Option, Some, None, is_some, ◌==◌, refl, ap, ◌∙◌, arith, append_assoc, append-nil, take-append-drop, length-append}
use Rattle.std.proofs.lemmas.Bool.Decides.{nat_tests}
use Rattle.saa_core_spec.specs.Object.{one_if, times, without}
use Rattle.saa_core_spec.specs.Values.{granted_value, poisoned_value}
use Rattle.saa_core_spec.proofs.Counts.{times-take_drop, times-without_same}
use Rattle.saa_word_steps.specs.Needs.{Needs}
use Rattle.saa_word_steps.specs.declared.event.Event.{Event}
use Rattle.saa_word_steps.specs.declared.event.Event.TheVariants.{Acquired, Joined, Cancelled, Granted, Poisoned}
use Rattle.saa_word_steps.specs.AbstractState.{AbstractState, IsEnabled, after_event, IsRun, opening, is_in, held_by}
use Rattle.saa_word_steps.proofs.AbstractRuns.{run-once, waits-none, waits-some}
use Rattle.saa_word_proofs.proofs.RefinementLemmas.Lists.{in-none, in-append}
use Rattle.saa_word_proofs.specs.History.{part_of}
use Rattle.saa_word_proofs.specs.Order.{queue_after, waiting_from, waiting, Answer, each_with, answers_by, answers_from, answers, answered, values_of, cancels, joins, taken, joined_by, joined, shows, TakesInOrder}

-- Runs

-- a run of two lists is a run of each
pub split-run : (needs : Needs) (state : AbstractState) (front rest : List (ℕ × Event)) (last : AbstractState) → IsRun needs state (front ++ rest) last
    → (middle : AbstractState) × IsRun needs state front middle × IsRun needs middle rest last
split-run needs state [] rest last run = (state, refl, run)
split-run needs state (event ∷ front) rest last run =
    let parts = split-run needs (after_event needs state event.0 event.1) front rest last run.1 in
    (parts.0, (run.0, parts.1), parts.2)

-- no place is held twice
abbrev pub AreOnce : AbstractState → Type 0
AreOnce state = (place : ℕ) → held_by place state ≤ 1

pub once-kept : (needs : Needs) (state : AbstractState) (place : ℕ) (event : Event) → IsEnabled needs state place event → AreOnce state
    → AreOnce (after_event needs state place event)
once-kept needs state place event allowed was = run-once needs state ((place, event) ∷ []) (after_event needs state place event) (allowed, refl) was

pub opening-once : (count : ℕ) → AreOnce (opening count)
opening-once count place = omega arith

-- Who waits

pub run-waiting : (needs : Needs) (state : AbstractState) (history : List (ℕ × Event)) (last : AbstractState) → IsRun needs state history last
    → waiting_from state.line history ≡ last.line
run-waiting needs state [] last run = grind (arith, run)
run-waiting needs state ((place, event) ∷ rest) last run = grind (arith, run-waiting needs (after_event needs state place event) rest last run.1)

pub no-barging : (needs : Needs) (withheld : ℕ) (before after : List (ℕ × Event)) (place request : ℕ) (last : AbstractState)
    → IsRun needs (opening withheld) (before ++ (place, Acquired request) ∷ after) last → waiting before ≡ []
no-barging needs withheld before after place request last run =
    let parts = split-run needs (opening withheld) before ((place, Acquired request) ∷ after) last run in
    run-waiting needs (opening withheld) before parts.0 parts.1 ∙ parts.2.0.1

-- Who is out of the queue stays out until it joins

out-without : (place at : ℕ) (queue : List (ℕ × ℕ)) → is_in place queue ≡ false → is_in place (without at queue) ≡ false
out-without place at [] out = refl
out-without place at (waiter ∷ rest) out = grind (arith, out-without place at rest)

out-step : (place at : ℕ) (event : Event) (queue : List (ℕ × ℕ)) → (at == place ≡ true → joins (event ∷ []) ≡ false) → is_in place queue ≡ false
    → is_in place (queue_after queue at event) ≡ false
out-step place at event queue another out =
    grind (arith, in-append place, out-without place at queue, in-none place, waits-none place queue, times-take_drop {A = ℕ})

-- a place that waits in the end, and hasn't joined, waited all along
pub run-in : (needs : Needs) (place : ℕ) (state : AbstractState) (history : List (ℕ × Event)) (last : AbstractState) → IsRun needs state history last
    → joins (part_of place history) ≡ false → is_in place last.line ≡ true → is_in place state.line ≡ true
run-in needs place state [] last run none some = grind (arith, run, some)
run-in needs place state ((at, event) ∷ rest) last run none some =
    grind (arith, some, out-step place at event state.line, run-in needs place (after_event needs state at event) rest last run.1)

pub not-barged : (needs : Needs) (withheld : ℕ) (before between after : List (ℕ × Event)) (waiter other request : ℕ) (last : AbstractState)
    → IsRun needs (opening withheld) (before ++ (other, Acquired request) ∷ between ++ (waiter, Cancelled) ∷ after) last
    → joins (part_of waiter between) ≡ true
not-barged needs withheld before between after waiter other request last run =
    let leaves = split-run needs (opening withheld) (before ++ (other, Acquired request) ∷ between) ((waiter, Cancelled) ∷ after) last run in
    let gets = split-run needs (opening withheld) before ((other, Acquired request) ∷ between) leaves.0 leaves.1 in
    grind (arith, run-in needs waiter (after_event needs gets.0 other (Acquired request)) between leaves.0 gets.2.1, leaves.2.0, ap (is_in waiter) gets.2.0.1)

-- What later events of a place say of its registration

pub run-cancels : (needs : Needs) (place : ℕ) (state : AbstractState) (history : List (ℕ × Event)) (last : AbstractState) → IsRun needs state history last
    → is_in place state.line ≡ false → cancels (part_of place history) ≡ false
run-cancels needs place state [] last run out = refl
run-cancels needs place state ((at, event) ∷ rest) last run out =
    grind (arith, nat_tests, out-step place at event state.line, run.0, run-cancels needs place (after_event needs state at event) rest last run.1)

-- Those of a queue who stay in it, as later events say

-- those of a queue who don't cancel in what follows
abbrev pub remaining : List (ℕ × ℕ) → List (ℕ × Event) → List (ℕ × ℕ)
remaining [] history = []
remaining (waiter ∷ rest) history = if cancels (part_of waiter.0 history) then remaining rest history else (waiter ∷ remaining rest history)

remaining-append : (front behind : List (ℕ × ℕ)) (history : List (ℕ × Event))
    → remaining (front ++ behind) history ≡ remaining front history ++ remaining behind history
remaining-append [] behind history = refl
remaining-append (waiter ∷ rest) behind history = grind (arith, remaining-append rest behind history)

remaining-same : (queue : List (ℕ × ℕ)) (one other : List (ℕ × Event))
    → ((place : ℕ) → is_in place queue ≡ true → cancels (part_of place one) ≡ cancels (part_of place other)) → remaining queue one ≡ remaining queue other
remaining-same [] one other same = refl
remaining-same (waiter ∷ rest) one other same =
    grind (arith, nat_tests, same waiter.0, remaining-same rest one other (λ place some. same place (grind (arith, some))))

remaining-end : (queue : List (ℕ × ℕ)) → remaining queue [] ≡ queue
remaining-end [] = refl
remaining-end (waiter ∷ rest) = grind (arith, remaining-end rest)

remaining-left : (place : ℕ) (queue : List (ℕ × ℕ)) (rest : List (ℕ × Event))
    → remaining queue ((place, Cancelled) ∷ rest) ≡ remaining (without place queue) rest
remaining-left place [] rest = refl
remaining-left place (waiter ∷ behind) rest = grind (arith, remaining-left place behind rest, nat_tests)

answered-each : (value : ℕ) (queue : List (ℕ × ℕ)) → answered (each_with value queue) ≡ queue
answered-each value [] = refl
answered-each value (waiter ∷ rest) = ap (λ (l : List (ℕ × ℕ)). waiter ∷ l) (answered-each value rest)

answered-append : (front behind : List Answer) → answered (front ++ behind) ≡ answered front ++ answered behind
answered-append [] behind = refl
answered-append (answer ∷ rest) behind = ap (λ (l : List (ℕ × ℕ)). answer.waiter ∷ l) (answered-append rest behind)

-- what an event leaves of a queue and adds to it is whom it answers and what is left behind it
remaining-step : (needs : Needs) (state : AbstractState) (place : ℕ) (event : Event) (rest : List (ℕ × Event)) (last : AbstractState)
    → IsEnabled needs state place event → IsRun needs (after_event needs state place event) rest last → AreOnce state
    → remaining state.line ((place, event) ∷ rest) ++ joined_by place event (part_of place rest)
    ≡ answered (answers_by state.line event) ++ remaining (queue_after state.line place event) rest
remaining-step needs state place Cancelled rest last allowed run once = grind (arith, append-nil {A = ℕ × ℕ}, remaining-left place state.line rest)
remaining-step needs state place Poisoned rest last allowed run once = grind (
  arith,
  append-nil {A = ℕ × ℕ},
  remaining-same state.line ((place, Poisoned) ∷ rest) [] (λ other some. grind (arith, run-cancels needs other _ rest last run refl)),
  remaining-end,
  answered-each poisoned_value state.line,
)
remaining-step needs state place (Granted askers) rest last allowed run once = grind (
  arith,
  append-nil {A = ℕ × ℕ},
  remaining-same state.line ((place, Granted askers) ∷ rest) rest (λ other some. grind arith),
  remaining-same (take askers state.line) rest [] (λ other some.
      grind (arith, once other, some, run-cancels needs other _ rest last run, in-none other, waits-some other, times-take_drop {A = ℕ})),
  remaining-end,
  take-append-drop askers state.line,
  remaining-append,
  answered-each granted_value (take askers state.line),
)
remaining-step needs state place event rest last allowed run once = grind (
  arith,
  append-nil {A = ℕ × ℕ},
  remaining-same state.line ((place, event) ∷ rest) rest (λ other some. grind (arith, nat_tests, allowed, some)),
  remaining-append state.line,
)

-- the waiters that stay, and those that have joined, are those that are answered and those that wait in the end
pub run-in_order : (needs : Needs) (state : AbstractState) (history : List (ℕ × Event)) (last : AbstractState) → IsRun needs state history last → AreOnce state
    → remaining state.line history ++ joined history ≡ answered (answers_from state.line history) ++ waiting_from state.line history
run-in_order needs state [] last run once = append-nil (remaining state.line []) ∙ remaining-end state.line
run-in_order needs state ((place, event) ∷ rest) last run once = grind (
  arith,
  run-in_order needs (after_event needs state place event) rest last run.1 (once-kept needs state place event run.0 once),
  remaining-step needs state place event rest last run.0 run.1 once,
  answered-append,
  append_assoc {A = ℕ × ℕ},
)

pub in-order : (needs : Needs) (withheld : ℕ) (history : List (ℕ × Event)) (last : AbstractState)
    → IsRun needs (opening withheld) history last → joined history ≡ answered (answers history) ++ waiting history
in-order needs withheld history last run = run-in_order needs (opening withheld) history last run (opening-once withheld)

-- A place takes its answers in their order

-- the value of an answer, where there is one
abbrev pub kept_by : Option ℕ → List ℕ
kept_by None = []
kept_by (Some value) = value ∷ []

-- what a place has of its answers: one that is shown, or one that is to be shown
abbrev pub has_of : AbstractState → ℕ → List ℕ
has_of state place = kept_by (state.answered place) ++ kept_by (state.granted place)

values-append : (place : ℕ) (front behind : List Answer) → values_of place (front ++ behind) ≡ values_of place front ++ values_of place behind
values-append place [] behind = refl
values-append place (answer ∷ rest) behind = grind (arith, values-append place rest behind)

values-each : (place value : ℕ) (queue : List (ℕ × ℕ)) → times place queue ≤ 1
    → values_of place (each_with value queue) ≡ (if is_in place queue then value ∷ [] else [])
values-each place value [] once = refl
values-each place value (waiter ∷ rest) once = grind (arith, values-each place value rest, in-none place rest)

-- what a place takes by an event of a place
abbrev pub taken_by : ℕ → ℕ → Event → List ℕ
taken_by other place event = if place == other then taken (event ∷ []) else []

taken-step : (other place : ℕ) (event : Event) (rest : List (ℕ × Event))
    → taken (part_of other ((place, event) ∷ rest)) ≡ taken_by other place event ++ taken (part_of other rest)
taken-step other place _ rest = grind arith

-- what a place has, and is answered by an event, is what it takes by that, and has behind it
has-step : (needs : Needs) (state : AbstractState) (other place : ℕ) (event : Event) → IsEnabled needs state place event → AreOnce state
    → has_of state other ++ values_of other (answers_by state.line event)
    ≡ taken_by other place event ++ has_of (after_event needs state place event) other
has-step needs state other place event allowed once = grind (
  arith,
  nat_tests,
  allowed,
  once other,
  waits-some other,
  times-take_drop {A = ℕ},
  values-each other,
  append-nil {A = ℕ},
)

pub run-taken : (needs : Needs) (place : ℕ) (state : AbstractState) (history : List (ℕ × Event)) (last : AbstractState) → IsRun needs state history last → AreOnce state
    → has_of state place ++ values_of place (answers_from state.line history) ≡ taken (part_of place history) ++ has_of last place
run-taken needs place state [] last run once = append-nil (has_of state place) ∙ ap (λ (z : AbstractState). has_of z place) run
run-taken needs place state ((at, event) ∷ rest) last run once = grind (
  arith,
  run-taken needs place (after_event needs state at event) rest last run.1 (once-kept needs state at event run.0 once),
  has-step needs state place at event run.0 once,
  taken-step place at event rest,
  values-append,
  append_assoc {A = ℕ},
)

-- What is shown is taken, or is there still

pub run-shown : (needs : Needs) (place : ℕ) (state : AbstractState) (history : List (ℕ × Event)) (last : AbstractState) → IsRun needs state history last → AreOnce state
    → one_if (is_some (state.answered place)) + shows place history ≡ length (taken (part_of place history)) + one_if (is_some (last.answered place))
run-shown needs place state [] last run once = omega (arith, ap (λ (z : AbstractState). one_if (is_some (z.answered place))) run)
run-shown needs place state ((at, event) ∷ rest) last run once =
    let later = run-shown needs place (after_event needs state at event) rest last run.1 (once-kept needs state at event run.0 once) in
    grind (arith, nat_tests, later, run.0, once place)

pub taken-in-order : (needs : Needs) (withheld : ℕ) (history : List (ℕ × Event)) (last : AbstractState)
    → IsRun needs (opening withheld) history last → (place : ℕ) → TakesInOrder history place
taken-in-order needs withheld history last run place =
    let parts : values_of place (answers history) ≡ taken (part_of place history) ++ has_of last place =
    run-taken needs place (opening withheld) history last run (opening-once withheld) in
    let shown = run-shown needs place (opening withheld) history last run (opening-once withheld) in
    let once = run-once needs (opening withheld) history last run (opening-once withheld) place in
    record {
      pending = has_of last place;
      parts = parts;
      once = grind (arith, run-waiting needs (opening withheld) history last run, once);
      taken_shown = omega (arith, shown);
      shown_answered = grind (arith, shown, ap length parts, length-append (taken (part_of place history)) (has_of last place));
    }

-- Nobody behind a waiter is answered before it

-- whether one place is among those before another place in a queue
abbrev pub is_ahead : ℕ → ℕ → List (ℕ × ℕ) → Bool
is_ahead one place [] = false
is_ahead one place (waiter ∷ rest) = if waiter.0 == place then false else ((waiter.0 == one) || is_ahead one place rest)

ahead-some : (one place : ℕ) (front behind : List (ℕ × ℕ)) → is_in place front ≡ true → is_ahead one place (front ++ behind) ≡ is_ahead one place front
ahead-some one place [] behind some = absurd (cc)
ahead-some one place (waiter ∷ rest) behind some = grind (arith, ahead-some one place rest behind)

-- a place in front is ahead of one behind
ahead-none : (one place : ℕ) (front behind : List (ℕ × ℕ)) → is_in place front ≡ false → is_ahead one place (front ++ behind) ≡ false
    → (is_in one front ≡ false) × (is_ahead one place behind ≡ false)
ahead-none one place [] behind out none = (refl, none)
ahead-none one place (waiter ∷ rest) behind out none = grind (arith, ahead-none one place rest behind)

ahead-without : (one place at : ℕ) (queue : List (ℕ × ℕ)) → at == place ≡ false → is_ahead one place queue ≡ false
    → is_ahead one place (without at queue) ≡ false
ahead-without one place at [] apart none = refl
ahead-without one place at (waiter ∷ rest) apart none = grind (arith, nat_tests, ahead-without one place at rest apart)

-- who joins isn't ahead of anybody
ahead-joined : (one place request : ℕ) (queue : List (ℕ × ℕ)) → is_in one queue ≡ false → is_in place (queue ++ (one, request) ∷ []) ≡ true
    → is_ahead one place (queue ++ (one, request) ∷ []) ≡ false
ahead-joined one place request [] out some = grind arith
ahead-joined one place request (waiter ∷ rest) out some = grind (arith, ahead-joined one place request rest)

-- a place isn't ahead of another one, and has no answer
abbrev IsBehind : ℕ → ℕ → AbstractState → Type 0
IsBehind one place state = (is_ahead one place state.line ≡ false) × (state.granted one ≡ None) × (state.answered one ≡ None)

-- one event keeps that, and the place takes nothing by it, where the other one waits before it and behind it
behind-step : (needs : Needs) (one place : ℕ) (state : AbstractState) (at : ℕ) (event : Event) → IsEnabled needs state at event → AreOnce state
    → is_in place state.line ≡ true → is_in place (after_event needs state at event).line ≡ true → IsBehind one place state
    → IsBehind one place (after_event needs state at event) × (taken_by one at event ≡ [])
behind-step needs one place state at _ allowed once before after was = grind (
  arith,
  nat_tests,
  allowed,
  before,
  after,
  was,
  once place,
  waits-some place,
  times-take_drop {A = ℕ},
  in-none,
  take-append-drop {A = ℕ × ℕ},
  ahead-none one place,
  ahead-some one place state.line,
  ahead-without one place at state.line,
  times-without_same at state.line,
)

pub run-behind : (needs : Needs) (one place : ℕ) (state : AbstractState) (history : List (ℕ × Event)) (last : AbstractState) → IsRun needs state history last
    → AreOnce state → joins (part_of place history) ≡ false → is_in place last.line ≡ true → IsBehind one place state → taken (part_of one history) ≡ []
run-behind needs one place state [] last run once none waits was = refl
run-behind needs one place state ((at, event) ∷ rest) last run once none waits was =
    let next : AbstractState = after_event needs state at event in
    let none_later : joins (part_of place rest) ≡ false = grind (arith, none) in
    let before = run-in needs place state ((at, event) ∷ rest) last run none waits in
    let after = run-in needs place next rest last run.1 none_later waits in
    let now = behind-step needs one place state at event run.0 once before after was in
    let later = run-behind needs one place next rest last run.1 (once-kept needs state at event run.0 once) none_later waits now.0 in
    grind (arith, taken-step one at event rest, now.1, later)

pub not-overtaken : (needs : Needs) (withheld : ℕ) (before between after : List (ℕ × Event)) (first second request : ℕ) (last : AbstractState)
    → IsRun needs (opening withheld) (before ++ (second, Joined request) ∷ between ++ (first, Cancelled) ∷ after) last
    → joins (part_of first between) ≡ false → taken (part_of second between) ≡ []
not-overtaken needs withheld before between after first second request last run none =
    let leaves = split-run needs (opening withheld) (before ++ (second, Joined request) ∷ between) ((first, Cancelled) ∷ after) last run in
    let joining = split-run needs (opening withheld) before ((second, Joined request) ∷ between) leaves.0 leaves.1 in
    let state : AbstractState = after_event needs joining.0 second (Joined request) in
    let allowed = joining.2.0 in
    let once : AreOnce joining.0 = run-once needs (opening withheld) before joining.0 joining.1 (opening-once withheld) in
    let waits = run-in needs first state between leaves.0 joining.2.1 none leaves.2.0 in
    run-behind needs second first state between leaves.0 joining.2.1
    (once-kept needs joining.0 second (Joined request) allowed once) none leaves.2.0
    (ahead-joined second first request joining.0.line allowed.2 waits, allowed.3, allowed.4)

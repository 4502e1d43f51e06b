-- A place that has no answer to show has shown all that it granted, also in the state behind what it has seen: only it shows what it granted.
use Rattle.std.proofs.Common.{◌≡◌, ℕ, ◌≤◌, true, false, ◌==◌, List, [], ◌∷◌, ◌++◌, take, is_some, refl, sym, ap, subst, ◌∙◌, arith, inl, inr}
use Rattle.std.proofs.lemmas.Bool.{cases_Bool}
use Rattle.saa_core_spec.specs.Object.{one_if}
use Rattle.saa_core_spec.proofs.Counts.{number_same, same_number}
use Rattle.saa_word_steps.specs.declared.event.Event.{Event}
use Rattle.saa_word_steps.specs.declared.event.Event.TheVariants.{Granted, Poisoned, Showed}
use Rattle.saa_word_steps.specs.declared.place.Place.{Place}
use Rattle.saa_word_steps.specs.declared.place.Stage.{Stage}
use Rattle.saa_word_steps.specs.declared.place.Stage.TheVariants.{ShowLoad, ShowStore}
use Rattle.saa_word_steps.specs.Needs.{Needs}
use Rattle.saa_word_steps.specs.AbstractState.{AbstractState, IsEnabled, IsRun, HasShownAll, after_event, held_by, is_in, opening}
use Rattle.saa_word_steps.proofs.AbstractRuns.{run-once, waits-parts, waits-some}
use Rattle.saa_word_proofs.specs.History.{has_part, seen_by}
use Rattle.saa_word_proofs.specs.Refinement.{IsShowing, Invariant}
use Rattle.saa_word_threads.specs.Moves.{IsLegal, is_showing}
use Rattle.saa_word_threads.proofs.Growing.{neither, seen-rest}

-- At a stage

none-to-show : (unshown : List (ℕ × ℕ)) (answer_value : ℕ) (stage : Stage) → is_showing stage ≡ false → IsShowing unshown answer_value stage → unshown ≡ []
none-to-show unshown answer_value (ShowLoad current value afterwards) never shows = absurd (cc)
none-to-show unshown answer_value (ShowStore current next value afterwards) never shows = absurd (cc)
none-to-show unshown answer_value stage never shows = shows

pub has-shown-all : (needs : Needs) (places : ℕ) (row : ℕ → ℕ) (standing : ℕ → Place) (state : AbstractState) → (s : Invariant needs places row standing state)
    → (me : ℕ) → is_showing (standing me).stage ≡ false → HasShownAll me state
has-shown-all needs places row standing state s me never other granted mine =
    let none : s.unshown me ≡ [] = none-to-show (s.unshown me) (s.answer_value me) (standing me).stage never (s.stages.showing me) in
    let there : is_in other (s.unshown (state.granter other)) ≡ true = s.grants.unshown_by other granted in
    let wrong : true ≡ false = sym there ∙ ap (λ (n : ℕ). is_in other (s.unshown n)) mine ∙ ap (is_in other) none in
    absurd (cc)

-- Behind events of others

-- a place has this one's answer to show
abbrev IsToShow : ℕ → ℕ → AbstractState → Type 0
IsToShow place other state = (is_some (state.granted other) ≡ true) × (state.granter other ≡ place)

-- who leaves the line has no answer due
out-of-line : (state : AbstractState) (place other : ℕ) → held_by other state ≤ 1 → IsToShow place other state → is_in other state.line ≡ true → ⊥
out-of-line state place other once listed there = absurd (omega (arith, once, ap one_if listed.0, waits-some other state.line there))

out-of-front : (state : AbstractState) (place other askers : ℕ) → held_by other state ≤ 1 → IsToShow place other state → is_in other (take askers state.line) ≡ true → ⊥
out-of-front state place other askers once listed there =
    absurd (omega (arith, once, ap one_if listed.0, waits-parts other askers state.line, waits-some other (take askers state.line) there))

owes-on : (needs : Needs) (state : AbstractState) (place other at : ℕ) (event : Event) → at == place ≡ false → IsEnabled needs state at event
    → held_by other state ≤ 1 → IsToShow place other state → IsToShow place other (after_event needs state at event)
owes-on needs state place other at (Granted askers) apart allowed once listed =
    elim (cases_Bool (is_in other (take askers state.line))) [
      | inl there ↦ absurd (out-of-front state place other askers once listed there)
      | inr out ↦ (rw out listed.0, rw out listed.1)
    ]
owes-on needs state place other at Poisoned apart allowed once listed =
    elim (cases_Bool (is_in other state.line)) [
      | inl there ↦ absurd (out-of-line state place other once listed there)
      | inr out ↦ (rw out listed.0, rw out listed.1)
    ]
owes-on needs state place other at (Showed shown_place) apart allowed once listed =
    elim (cases_Bool (other == shown_place)) [
      | inl same ↦
          let mine : at ≡ place = sym allowed.1 ∙ ap state.granter (sym (same_number other shown_place same)) ∙ listed.1 in
          let wrong : true ≡ false = sym (number_same place) ∙ ap (λ (n : ℕ). n == place) (sym mine) ∙ apart in absurd (cc)
      | inr differs ↦ (rw differs listed.0, listed.1)
    ]
owes-on needs state place other at event apart allowed once listed = listed

unshown-still : (needs : Needs) (place other : ℕ) (state : AbstractState) (events : List (ℕ × Event)) (last : AbstractState) → has_part place events ≡ false
    → IsRun needs state events last → ((held : ℕ) → held_by held state ≤ 1) → IsToShow place other state → IsToShow place other last
unshown-still needs place other state [] last none run once listed = subst (IsToShow place other) run listed
unshown-still needs place other state (event ∷ events) last none run once listed =
    let both = neither (event.0 == place) (has_part place events) none in
    let after : AbstractState = after_event needs state event.0 event.1 in
    unshown-still needs place other after events last both.1 run.1 (run-once needs state (event ∷ []) after (run.0, refl) once)
    (owes-on needs state place other event.0 event.1 both.0 run.0 (once other) listed)

-- What a place has seen

run-parts : (needs : Needs) (state last : AbstractState) (front rest : List (ℕ × Event)) → IsRun needs state (front ++ rest) last
    → (middle : AbstractState) × IsRun needs state front middle × IsRun needs middle rest last
run-parts needs state last [] rest run = (state, refl, run)
run-parts needs state last (event ∷ front) rest run =
    let more = run-parts needs (after_event needs state event.0 event.1) last front rest run.1 in (more.0, (run.0, more.1), more.2)

-- what a place has seen of a legal history is legal, and where it has shown all behind the history it had shown all behind that
pub seen-legal : (needs : Needs) (withheld place : ℕ) (history : List (ℕ × Event)) (last : AbstractState) → IsRun needs (opening withheld) history last
    → (legal : IsLegal needs withheld (seen_by place history)) × (HasShownAll place last → HasShownAll place legal.0)
seen-legal needs withheld place history last run =
    let tail = seen-rest place history in
    let parts =
    run-parts needs (opening withheld) last (seen_by place history) tail.0 (subst (λ (l : List (ℕ × Event)). IsRun needs (opening withheld) l last) tail.1 run) in
    let once = run-once needs (opening withheld) (seen_by place history) parts.0 parts.1 (λ held. omega arith) in (
      (parts.0, parts.1),
      λ nothing other granted mine.
          let still = unshown-still needs place other parts.0 tail.0 last tail.2 parts.2 once (granted, mine) in nothing other still.0 still.1,
    )

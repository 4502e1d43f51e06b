-- While no place is in a call the object is at rest, and so it is while no place is in the line or has an answer to take.
use Rattle.saa_word_steps.proofs.AbstractRuns.{waits-some}
use Rattle.saa_word_steps.specs.declared.place.Registration.TheVariants.{Queued}
use Rattle.saa_word_steps.specs.declared.place.Registration.{Registration}
use Rattle.std.proofs.Common.{◌≡◌, ℕ, ◌+◌, pred, true, false, not, List, [], ◌∷◌, ◌++◌, ◌==◌, Option, None, is_some, refl, sym, ap, subst, ◌∙◌, arith, ◌⊎◌, inl, inr}
use Rattle.std.proofs.lemmas.Bool.Decides.{nat_tests}
use Rattle.saa_core_spec.specs.Object.{one_if, times}
use Rattle.saa_core_spec.proofs.Counts.{number_same}
use Rattle.saa_word_steps.specs.declared.place.Place.{Place}
use Rattle.saa_word_steps.specs.declared.place.Stage.{Stage}
use Rattle.saa_word_steps.specs.declared.place.Stage.TheVariants.{Quiet, AcquireExchange, ReleaseExchange}
use Rattle.saa_word_steps.specs.Needs.{Needs}
use Rattle.saa_word_steps.specs.AbstractState.{AbstractState, is_in}
use Rattle.saa_core_words.specs.declared.line_word.LineWord.{LineWord}
use Rattle.saa_word_proofs.specs.Refinement.{is_holder, IsHolding, IsShowing, Invariant, AreSeats}
use Rattle.saa_word_proofs.specs.Registering.{is_slot}
use Rattle.saa_word_proofs.specs.Rows.{IsBehind, line_of}
use Rattle.saa_word_proofs.specs.Alone.{PlacesAreQuiescent}
use Rattle.saa_word_proofs.specs.Promises.{WordsAreQuiescent}

pub none-answered : (answer : Option ℕ) → one_if (is_some answer) ≡ 0 → answer ≡ None
none-answered _ none = grind arith

pub slot-is : (registration : Registration) → is_slot registration ≡ true → (request : ℕ) × (registration ≡ Queued request)
slot-is (Queued request) slot = (request, refl)
slot-is _ slot = absurd (cc)

-- a waiter is shown no answer, and joined the line
pub waits-slot : (places me : ℕ) (standing : ℕ → Place) (state : AbstractState) → AreSeats places standing state → is_in me state.line ≡ true
    → (is_slot (standing me).registration ≡ true) × (state.answered me ≡ None)
waits-slot places me standing state seats waits = grind (arith, seats.held me, waits-some me state.line waits, none-answered (state.answered me))

module _ {needs : Needs} {places : ℕ} {row : ℕ → ℕ} {standing : ℕ → Place} {state : AbstractState} (s : Invariant needs places row standing state) where
  -- where no place is at a stage of the flag's holder nobody holds the flag
  pub nobody-holds : ((place : ℕ) → is_holder (standing place).stage ≡ false) → s.holder == 0 ≡ true
  nobody-holds none = grind (arith, nat_tests, none (pred s.holder), s.stages.one (pred s.holder))

  -- where no place has an answer to show none is due
  pub all-shown : ((place : ℕ) → s.unshown place ≡ []) → (place : ℕ) → state.granted place ≡ None
  all-shown none place =
      grind (arith, ap (is_in place) (none (state.granter place)), s.grants.unshown_by place, none-answered (state.granted place))

  -- a place in no call has none to show
  pub quiet-unshown : (place : ℕ) → (standing place).stage ≡ Quiet → s.unshown place ≡ []
  quiet-unshown place quiet = subst (λ (stage : Stage). IsShowing (s.unshown place) (s.answer_value place) stage) quiet (s.stages.showing place)

-- where nobody holds the flag and no answer is due
free-rest : (needs : Needs) (places : ℕ) (row : ℕ → ℕ) (standing : ℕ → Place) (state : AbstractState) (s : Invariant needs places row standing state)
    → s.holder == 0 ≡ true → ((place : ℕ) → state.granted place ≡ None) → WordsAreQuiescent needs row state
free-rest needs places row standing state s free paid =
    let closed : state.unclosed ≡ false = s.main.closed free in
    let whole : s.uncut ≡ state.line = ap (λ (l : List (ℕ × ℕ)). l ++ s.uncut) (sym (s.free free)) ∙ sym s.line.parts in
    record {
      clear = s.main.flag ∙ ap not free;
      paid = paid;
      closed = closed;
      settled = s.main.settled closed;
      linked = subst (λ (l : List (ℕ × ℕ)). IsBehind (line_of row) 0 l) whole s.line.stays;
    }

pub at-rest : (needs : Needs) (places : ℕ) (row : ℕ → ℕ) (standing : ℕ → Place) (state : AbstractState)
    → Invariant needs places row standing state → PlacesAreQuiescent standing → WordsAreQuiescent needs row state
at-rest needs places row standing state s quiet =
    free-rest needs places row standing state s (nobody-holds s (λ place. ap is_holder (quiet place)))
    (all-shown s (λ place. quiet-unshown s place (quiet place)))

-- No place is in the line

-- each part of a line without waiters has none
pub parts-none : (front rest : List (ℕ × ℕ)) → (front ++ rest ≡ [] → ⊥) ⊎ ((front ≡ []) × (rest ≡ []))
parts-none [] [] = inr (refl, refl)
parts-none _ _ = inl (λ none. absurd (cc))

-- whoever holds the flag has looked at somebody in the line
holding-some : (needs : Needs) (words : ℕ → LineWord) (me held : ℕ) (cut : List (ℕ × ℕ)) (stage : Stage) → IsHolding needs words me held [] cut stage → ⊥
holding-some needs words me held cut (AcquireExchange ask seen) h = h
holding-some needs words me held cut (ReleaseExchange what seen) h = h
holding-some needs words me held cut stage h = grind (arith, h, parts-none)

nobody-in : (line : List (ℕ × ℕ)) → ((place : ℕ) → times place line ≡ 0) → line ≡ []
nobody-in [] none = refl
nobody-in (asker ∷ rest) none =
    absurd (omega (arith, none asker.0, ap one_if (number_same asker.0)))

-- Where no place is registered in the line nobody waits and no answer is due; so nobody holds the flag, whatever calls are underway
pub rest-unregistered : (needs : Needs) (places : ℕ) (row : ℕ → ℕ) (standing : ℕ → Place) (state : AbstractState)
    → Invariant needs places row standing state → ((place : ℕ) → is_slot (standing place).registration ≡ false) → WordsAreQuiescent needs row state
rest-unregistered needs places row standing state s out =
    let nothing : (place : ℕ) → times place state.line + one_if (is_some (state.granted place)) + one_if (is_some (state.answered place)) ≡ 0 = λ place.
    s.seats.held place ∙ ap one_if (out place) in
    let nobody : state.line ≡ [] = nobody-in state.line (λ place. omega (arith, nothing place)) in
    let some = holding-some needs (line_of row) (pred s.holder) state.count s.cut (standing (pred s.holder)).stage in
    let free : s.holder == 0 ≡ true = grind (arith, nat_tests, nobody, s.stages.holding (pred s.holder), some) in
    free-rest needs places row standing state s free (λ place. none-answered (state.granted place) (omega (arith, nothing place)))

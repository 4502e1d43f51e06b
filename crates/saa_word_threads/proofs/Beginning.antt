-- A place that has started a call since its last step: words and places refine the same state, with the place where it stands now.
use Rattle.std.proofs.Common.{◌≡◌, ℕ, ◌^◌, ◌<◌, ◌≤◌, ◌⊎◌, ◌==◌, Bool, true, false, refl, sym, ap, subst, ◌∙◌, inl, inr}
use Rattle.std.proofs.lemmas.Bool.{cases_Bool}
use Rattle.saa_core_words.specs.Words.{count_bits}
use Rattle.saa_word_steps.specs.declared.call.WordCall.{WordCall}
use Rattle.saa_word_steps.specs.declared.call.WordCall.TheVariants.{TryPoll}
use Rattle.saa_word_steps.specs.declared.place.Place.{Place}
use Rattle.saa_word_steps.specs.declared.place.Registration.{Registration}
use Rattle.saa_word_steps.specs.declared.place.Registration.TheVariants.{Idle, AnsweredAtOnce, Queued}
use Rattle.saa_word_steps.specs.declared.place.Stage.TheVariants.{Quiet}
use Rattle.saa_word_steps.specs.declared.place.PollMode.TheVariants.{Tries}
use Rattle.saa_word_steps.specs.Needs.{Needs}
use Rattle.saa_word_steps.specs.AbstractState.{AbstractState}
use Rattle.saa_word_steps.specs.Steps.{polled_as, started}
use Rattle.saa_word_steps.specs.Readings.{is_idle, is_taken}
use Rattle.saa_word_proofs.specs.Refinement.{Invariant, joins_line}
use Rattle.saa_word_proofs.specs.Rows.{updated}
use Rattle.saa_word_proofs.specs.StepRefinement.{place_after}
use Rattle.saa_word_proofs.proofs.RefinementLemmas.Lists.{all-same, updated-at, updated-same}
use Rattle.saa_word_proofs.proofs.RefinementLemmas.Starting.{starts-anyone}
use Rattle.saa_word_threads.specs.Moves.{Begins, RestsAfter, resting_as, taken_once}

-- the last of two updates at one place is what stands
pub updated-twice : (standing : ℕ → Place) (me : ℕ) (one other : Place) → updated (updated standing me one) me other ≡ updated standing me other
updated-twice standing me one other =
    all-same (updated (updated standing me one) me other) (updated standing me other) (λ place.
    elim (cases_Bool (place == me)) [
      | inl same ↦ rw same refl
      | inr apart ↦ rw apart refl
    ])

-- a place at rest is where it was behind its last step, or has polled once, for an answer that was given at once
rest-polled : (needs : Needs) (was rest : Place) (registration : Registration) → was.registration ≡ registration
    → rest.stage ≡ Quiet → rest ≡ record was { registration = taken_once was.registration }
    → (rest ≡ was) ⊎ ((was.stage ≡ Quiet) × (rest ≡ place_after was (started needs was TryPoll)))
rest-polled needs was rest Idle is quiet rests =
    inl (rests ∙ ap (λ (r : Registration). record was { registration = r }) (ap taken_once is ∙ sym is))
rest-polled needs was rest (Queued request) is quiet rests =
    inl (rests ∙ ap (λ (r : Registration). record was { registration = r }) (ap taken_once is ∙ sym is))
rest-polled needs was rest (AnsweredAtOnce value request) is quiet rests =
    inr (
      ap (λ (p : Place). p.stage) (sym rests) ∙ quiet,
      rests ∙ ap (λ (r : Registration). record was { registration = r }) (ap taken_once is)
          ∙ sym (ap (λ (r : Registration). place_after was (polled_as was Tries r)) is),
    )

rest-since : (needs : Needs) (was rest : Place) (idle : Bool) → is_idle rest.registration ≡ idle → RestsAfter was rest
    → (rest ≡ was) ⊎ ((was.stage ≡ Quiet) × (rest ≡ place_after was (started needs was TryPoll)))
rest-since needs was rest true is since =
    rest-polled needs was rest was.registration refl since.0 (since.1 ∙ ap (resting_as was) is)
rest-since needs was rest false is since = inl (since.1 ∙ ap (resting_as was) is)

module _ (needs : Needs) (wide : needs.top < 2 ^ count_bits) (places : ℕ) (row : ℕ → ℕ) (state : AbstractState) (me : ℕ) where
  -- a call that starts where the place stands
  start-at : (standing : ℕ → Place) (was : Place) (call : WordCall) → standing me ≡ was → Invariant needs places row standing state
      → was.stage ≡ Quiet → is_taken needs.is_lock call ≡ true → (places ≤ me → joins_line (place_after was (started needs was call)).stage ≡ false)
      → Invariant needs places row (updated standing me (place_after was (started needs was call))) state
  start-at standing was call at s quiet taken free =
      subst (λ (p : Place). Invariant needs places row (updated standing me (place_after p (started needs p call))) state) at
      (starts-anyone needs wide places row standing state me call
      (subst (λ (p : Place). places ≤ me → joins_line (place_after p (started needs p call)).stage ≡ false) (sym at) free) s
      (ap (λ (p : Place). p.stage) at ∙ quiet) taken)

  -- a place that rests
  rest-refines : (standing : ℕ → Place) (was rest : Place) → standing me ≡ was → RestsAfter was rest → Invariant needs places row standing state
      → Invariant needs places row (updated standing me rest) state
  rest-refines standing was rest at since s =
      elim (rest-since needs was rest (is_idle rest.registration) refl since) [
        | inl same ↦ subst (λ (f : ℕ → Place). Invariant needs places row f state) (sym (updated-same standing me rest (same ∙ sym at))) s
        | inr polled ↦
            subst (λ (p : Place). Invariant needs places row (updated standing me p) state) (sym polled.1)
            (start-at standing was TryPoll at s polled.0 refl
            (λ out. ap (λ (p : Place). joins_line p.stage) (sym polled.1) ∙ ap joins_line since.0))
      ]

  pub begins-refines : (standing : ℕ → Place) (was place : Place) → standing me ≡ was → (places ≤ me → joins_line place.stage ≡ false) → Begins needs was place
      → Invariant needs places row standing state → Invariant needs places row (updated standing me place) state
  begins-refines standing was place at free (inl same) s =
      subst (λ (f : ℕ → Place). Invariant needs places row f state) (sym (updated-same standing me place (same ∙ sym at))) s
  begins-refines standing was place at free (inr begun) s =
      let rest : Place = begun.0 in
      let call : WordCall = begun.1 in
      let behind : Place = place_after rest (started needs rest call) in
      subst (λ (p : Place). Invariant needs places row (updated standing me p) state) (sym begun.4)
      (subst (λ (f : ℕ → Place). Invariant needs places row f state) (updated-twice standing me rest behind)
      (start-at (updated standing me rest) rest call (updated-at standing me rest) (rest-refines standing was rest at begun.2 s) begun.2.0 begun.3
      (subst (λ (p : Place). places ≤ me → joins_line p.stage ≡ false) begun.4 free)))

-- What a place has made since another one last changed the main word, and what it has left, stay within one bound.
use Rattle.std.proofs.Common.{◌^◌, ◌≡◌, ℕ, ◌+◌, ◌*◌, ◌<◌, ◌≤◌, ◌==◌, refl, arith}
use Rattle.std.proofs.lemmas.Bool.Decides.{nat_tests}
use Rattle.saa_core_spec.proofs.Counts.{number_same, number_other}
use Rattle.saa_core_words.specs.Words.{count_bits}
use Rattle.saa_word_steps.specs.declared.place.Place.{Place}
use Rattle.saa_word_steps.specs.declared.place.Next.{Next}
use Rattle.saa_word_steps.specs.declared.place.Next.TheVariants.{Waits}
use Rattle.saa_word_steps.specs.declared.place.Stage.TheVariants.{Quiet}
use Rattle.saa_word_steps.specs.Needs.{Needs, AreNeeds}
use Rattle.saa_word_steps.specs.AbstractState.{AbstractState}
use Rattle.saa_word_steps.specs.Steps.{word_at, operation_of, next_of}
use Rattle.saa_word_proofs.specs.Refinement.{Invariant}
use Rattle.saa_word_proofs.specs.StepRefinement.{row_after, place_after}
use Rattle.saa_word_proofs.proofs.RefinementLemmas.Lists.{each-updated}
use Rattle.saa_word_proofs.proofs.RefinementLemmas.Polls.{only-stalls-anyone}
use Rattle.saa_word_proofs.specs.StepBound.{step_bound, counted, AreWithin, IsCounted}
use Rattle.saa_word_proofs.proofs.StepBoundLemmas.Bounds.{step_bound-bounded}
use Rattle.saa_word_proofs.proofs.StepBoundLemmas.Kept.{kept-row, kept}
use Rattle.saa_word_proofs.proofs.StepBoundLemmas.Lowered.{lowered}

-- each step of a place keeps what all places have made and have left within the bound
pub counted-within : (needs : Needs) → AreNeeds needs → needs.top < 2 ^ count_bits → (places : ℕ) (row : ℕ → ℕ) (standing : ℕ → Place) (state : AbstractState) (me : ℕ)
    (made : ℕ → ℕ) → Invariant needs places row standing state → ((standing me).stage ≡ Quiet → ⊥) → AreWithin places row standing made
    → IsCounted needs places row standing me made (standing me).stage
counted-within needs lawful wide places row standing state me made s busy within =
    let found : ℕ = row (word_at (operation_of needs places me (standing me).stage)) in
    let new : ℕ → ℕ = row_after row (operation_of needs places me (standing me).stage) in
    let next : Next = next_of needs me (standing me) (standing me).stage found in
    each-updated
    (λ (n : ℕ) (p : Place). counted made me next (new 0 == row 0) n + step_bound places new p.back p.stage ≤ 16 * places + 48)
    standing me (place_after (standing me) next)
    (grind (
      arith,
      number_same me,
      within me,
      lowered needs lawful wide places row standing state me s (standing me).stage refl busy,
      λ (waits : next ≡ Waits). kept-row places row new (standing me).back (standing me).stage
          (only-stalls-anyone needs places row standing state me s (standing me).stage refl waits).1,
    ))
    (λ other apart.
    rw (number_other other me apart)
    (grind (
      arith,
      nat_tests,
      within other,
      kept needs places row standing state me other s apart,
      step_bound-bounded places new (standing other).back (standing other).stage,
    )))

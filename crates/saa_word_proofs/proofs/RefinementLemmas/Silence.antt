-- A step that waits is no event.
use Rattle.std.proofs.Common.{◌≡◌, ℕ, ◌^◌, ◌<◌, true, false, [], refl, sym, ap, ◌∙◌, arith}
use Rattle.saa_core_words.specs.Words.{count_bits}
use Rattle.saa_word_steps.specs.declared.place.Place.{Place}
use Rattle.saa_word_steps.specs.declared.place.Stage.{Stage}
use Rattle.saa_word_steps.specs.declared.place.Stage.TheVariants.{ReleaseExchange}
use Rattle.saa_word_steps.specs.declared.place.Next.{Next}
use Rattle.saa_word_steps.specs.declared.place.Next.TheVariants.{Waits}
use Rattle.saa_word_steps.specs.Needs.{Needs, AreNeeds}
use Rattle.saa_word_steps.specs.AbstractState.{AbstractState}
use Rattle.saa_word_steps.specs.Steps.{word_at, operation_of, next_of}
use Rattle.saa_word_proofs.specs.Refinement.{Invariant}
use Rattle.saa_word_proofs.specs.StepRefinement.{StepRefines, named_at}
use Rattle.saa_word_proofs.proofs.RefinementLemmas.Lists.{updated-same}
use Rattle.saa_word_proofs.proofs.RefinementLemmas.Polls.{says_wait, goes-on, only-stalls-anyone}
use Rattle.saa_word_proofs.proofs.RefinementLemmas.Steps.{step-anyone}

-- it names nothing
unnamed : (needs : Needs) (me : ℕ) (place : Place) (stage : Stage) (found : ℕ) → next_of needs me place stage found ≡ Waits → named_at needs stage found ≡ []
unnamed needs me place (ReleaseExchange what seen) found waits =
    let wrong : false ≡ true = sym (goes-on needs me place (ReleaseExchange what seen) found refl) ∙ ap says_wait waits in absurd (cc)
unnamed needs me place stage found waits = grind (arith, waits)

-- The step of a place or of a visitor
pub silent-step-anyone : (needs : Needs) → AreNeeds needs → needs.top < 2 ^ count_bits → (places : ℕ) (row : ℕ → ℕ) (standing : ℕ → Place) (state : AbstractState) (me : ℕ)
    → places < 65536 → Invariant needs places row standing state
    → (made : StepRefines needs places row standing state me (standing me).stage)
    × (next_of needs me (standing me) (standing me).stage (row (word_at (operation_of needs places me (standing me).stage))) ≡ Waits → made.events ≡ [])
silent-step-anyone needs lawful wide places row standing state me room s = by _ refl
  where
    made : StepRefines needs places row standing state me (standing me).stage
    made = step-anyone needs lawful wide places row standing state me room s (standing me).stage refl

    -- by how its place goes on: a step that waits is no event
    by : (next : Next) → next_of needs me (standing me) (standing me).stage (row (word_at (operation_of needs places me (standing me).stage))) ≡ next
        → (other : StepRefines needs places row standing state me (standing me).stage) × (next ≡ Waits → other.events ≡ [])
    by Waits is =
        let only = only-stalls-anyone needs places row standing state me s (standing me).stage refl is in
        let names = sym (unnamed needs me (standing me) (standing me).stage (row (word_at (operation_of needs places me (standing me).stage))) is) in (
          record {
            events = [];
            last = state;
            run = refl;
            names = names;
            inside = made.inside;
            invariant = rw (is, only.1, updated-same standing me (standing me) refl) s;
          },
          λ waits. refl,
        )
    by _ is = (made, λ waits. absurd (cc))

-- the same at a place
pub silent-step : (needs : Needs) → AreNeeds needs → needs.top < 2 ^ count_bits → (places : ℕ) (row : ℕ → ℕ) (standing : ℕ → Place) (state : AbstractState) (me : ℕ)
    → places < 65536 → me < places → Invariant needs places row standing state
    → (made : StepRefines needs places row standing state me (standing me).stage)
    × (next_of needs me (standing me) (standing me).stage (row (word_at (operation_of needs places me (standing me).stage))) ≡ Waits → made.events ≡ [])
silent-step needs lawful wide places row standing state me room here s = silent-step-anyone needs lawful wide places row standing state me room s

-- What a place has seen begins the history, and has all its events.
use Rattle.std.proofs.Common.{arith, ◌≡◌, ℕ, false, List, [], ◌∷◌, refl, ap, inl, inr}
use Rattle.std.proofs.lemmas.Bool.{cases_Bool}
use Rattle.saa_word_steps.specs.declared.event.Event.{Event}
use Rattle.saa_word_proofs.specs.History.{BeginsWith, has_part, part_of, seen_by}

pub begins-seen : (place : ℕ) (history : List (ℕ × Event)) → BeginsWith history (seen_by place history)
begins-seen place [] = ([], refl)
begins-seen place (entry ∷ rest) =
    elim (cases_Bool (has_part place (entry ∷ rest))) [
      | inl some ↦ rw some (let more = begins-seen place rest in (more.0, ap (λ (l : List (ℕ × Event)). entry ∷ l) more.1))
      | inr none ↦ rw none (entry ∷ rest, refl)
    ]

-- a place with no event has no part
no-part : (place : ℕ) (history : List (ℕ × Event)) → has_part place history ≡ false → part_of place history ≡ []
no-part place [] none = refl
no-part place (entry ∷ rest) none = grind (arith, none, no-part place rest)

pub part-seen : (place : ℕ) (history : List (ℕ × Event)) → part_of place (seen_by place history) ≡ part_of place history
part-seen place [] = refl
part-seen place (entry ∷ rest) = grind (arith, part-seen place rest, no-part place (entry ∷ rest))

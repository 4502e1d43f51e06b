-- Two beginnings of one history: one begins with the other.
use Rattle.std.proofs.Common.{◌≡◌, ◌≢◌, ◌⊎◌, ℕ, List, [], ◌∷◌, ◌++◌, get_or, refl, sym, ap, ◌∙◌, arith, inl, inr}
use Rattle.std.specs.Prelude.{All}
use Rattle.saa_word_steps.specs.declared.event.Event.{Event}
use Rattle.saa_word_steps.specs.declared.event.Event.TheVariants.{Acquired, ReleasedNothing}
use Rattle.saa_word_proofs.specs.History.{BeginsWith}
use Rattle.saa_word_threads.specs.declared.table.About.{About}
use Rattle.saa_word_threads.specs.declared.table.View.{View}
use Rattle.saa_word_threads.specs.Dealt.{AreLedTo}

first_of : List (ℕ × Event) → ℕ × Event
first_of [] = (0, ReleasedNothing 0)
first_of (entry ∷ rest) = entry

rest_of : List (ℕ × Event) → List (ℕ × Event)
rest_of [] = []
rest_of (entry ∷ rest) = rest

compared-at : (one other more beyond : List (ℕ × Event)) → one ++ more ≡ other ++ beyond → BeginsWith one other ⊎ BeginsWith other one
unfolding first_of rest_of
compared-at one [] more beyond is = inl (one, refl)
compared-at [] (entry ∷ other) more beyond is = inr (entry ∷ other, refl)
compared-at (entry ∷ one) (another ∷ other) more beyond is =
    let same : entry ≡ another = ap first_of is in
    elim (compared-at one other more beyond (ap rest_of is)) [
      | inl longer ↦
          inl (longer.0, ap (λ (e : ℕ × Event). e ∷ one) same ∙ ap (λ (l : List (ℕ × Event)). another ∷ l) longer.1)
      | inr longer ↦
          inr (longer.0, ap (λ (e : ℕ × Event). e ∷ other) (sym same) ∙ ap (λ (l : List (ℕ × Event)). entry ∷ l) longer.1)
    ]

pub compared : (about : About) (words : List ℕ) (views : List View) → AreLedTo about words views
    → All (λ v. All (λ w. BeginsWith v.seen w.seen ⊎ BeginsWith w.seen v.seen) views) views
compared about words views led = λ one unknown within other nobody here.
    let v = led.each one unknown within in
    let w = led.each other nobody here in
    compared-at (get_or views one unknown).seen (get_or views other nobody).seen v.0.0 w.0.0 (sym v.0.1 ∙ w.0.1)

pub one-first : (about : About) (words : List ℕ) (v w : View) (one other request : ℕ) → AreLedTo about words (v ∷ w ∷ []) → one ≢ other
    → v.seen ≡ (one, Acquired request) ∷ [] → w.seen ≢ (other, Acquired request) ∷ []
unfolding first_of
one-first about words v w one other request led apart first second =
    let begins : BeginsWith led.history v.seen = (led.each 0 v (omega arith)).0 in
    let starts : BeginsWith led.history w.seen = (led.each 1 v (omega arith)).0 in
    let here : led.history ≡ (one, Acquired request) ∷ begins.0 = begins.1 ∙ ap (λ (l : List (ℕ × Event)). l ++ begins.0) first in
    let there : led.history ≡ (other, Acquired request) ∷ starts.0 = starts.1 ∙ ap (λ (l : List (ℕ × Event)). l ++ starts.0) second in
    apart (ap (λ (entry : ℕ × Event). entry.0) (ap first_of (sym here ∙ there)))

-- Who holds the flag behind a move.
use Rattle.std.proofs.Common.{◌≡◌, ℕ, zero, suc, ◌+◌, Bool, true, false, not, ◌==◌, refl, sym, ap, ◌∙◌, arith, inl, inr}
use Rattle.std.proofs.lemmas.Bool.{cases_Bool}
use Rattle.saa_core_spec.proofs.Counts.{number_same, same_number}
use Rattle.saa_word_steps.specs.declared.place.Place.{Place}
use Rattle.saa_word_steps.specs.Needs.{Needs}
use Rattle.saa_word_steps.specs.AbstractState.{AbstractState}
use Rattle.saa_word_proofs.specs.Refinement.{is_holder, Invariant}
use Rattle.saa_word_proofs.specs.Rows.{main_of}
use Rattle.saa_word.specs.Simulation.{holder_after}

-- a mark that is negated
pub not-true : (mark : Bool) → not mark ≡ true → mark ≡ false
not-true true is = absurd (cc)
not-true false is = refl

pub not-false : (mark : Bool) → not mark ≡ false → mark ≡ true
not-false true is = refl
not-false false is = absurd (cc)

-- a link that leads to a place
link-of : (link : ℕ) → link == 0 ≡ false → (place : ℕ) × (link ≡ place + 1)
link-of zero is = absurd (cc)
link-of (suc place) is = (place, omega arith)

-- two links that lead to the same places but for one
stays-held : (was now me : ℕ) → ((place : ℕ) → place == me ≡ false → (was == place + 1) ≡ (now == place + 1)) → was == 0 ≡ false → now == 0 ≡ false → now ≡ was
stays-held was now me agree was_some now_some =
    let old = link-of was was_some in
    let new = link-of now now_some in
    elim (cases_Bool (old.0 == me)) [
      | inr apart ↦
          let test : now == old.0 + 1 ≡ true = sym (agree old.0 apart) ∙ ap (λ (n : ℕ). n == old.0 + 1) old.1 ∙ number_same (old.0 + 1) in
          same_number now (old.0 + 1) test ∙ sym old.1
      | inl mine ↦
          elim (cases_Bool (new.0 == me)) [
            | inl also ↦
                let one : old.0 ≡ me = same_number old.0 me mine in
                let two : new.0 ≡ me = same_number new.0 me also in
                omega (arith, one, two, old.1, new.1)
            | inr apart ↦
                let test : was == new.0 + 1 ≡ true = agree new.0 apart ∙ ap (λ (n : ℕ). n == new.0 + 1) new.1 ∙ number_same (new.0 + 1) in
                new.1 ∙ sym (same_number was (new.0 + 1) test)
          ]
    ]

is-taken : (was now me : ℕ) → ((place : ℕ) → place == me ≡ false → (was == place + 1) ≡ (now == place + 1)) → was == 0 ≡ true → now == 0 ≡ false → now ≡ me + 1
is-taken was now me agree none now_some =
    let new = link-of now now_some in
    elim (cases_Bool (new.0 == me)) [
      | inl mine ↦ let is : new.0 ≡ me = same_number new.0 me mine in omega (arith, is, new.1)
      | inr apart ↦
          let test : was == new.0 + 1 ≡ true = agree new.0 apart ∙ ap (λ (n : ℕ). n == new.0 + 1) new.1 ∙ number_same (new.0 + 1) in
          let one : was ≡ new.0 + 1 = same_number was (new.0 + 1) test in
          let other : was ≡ 0 = same_number was 0 none in
          absurd (omega (arith, one, other))
    ]

-- Where one place alone moved
pub held-after : (needs : Needs) (places many : ℕ) (row other : ℕ → ℕ) (standing after : ℕ → Place) (abstract last : AbstractState) (me : ℕ)
    → (s : Invariant needs places row standing abstract) (t : Invariant needs many other after last) → ((place : ℕ) → place == me ≡ false → after place ≡ standing place)
    → t.holder ≡ holder_after s.holder me (main_of row) (main_of other)
held-after needs places many row other standing after abstract last me s t apart =
    let agree : (place : ℕ) → place == me ≡ false → (s.holder == place + 1) ≡ (t.holder == place + 1) = λ place differs.
    sym (s.stages.one place) ∙ ap (λ (p : Place). is_holder p.stage) (sym (apart place differs)) ∙ t.stages.one place in
    elim (cases_Bool (main_of other).is_flagged) [
      | inl set ↦
          let now : t.holder == 0 ≡ false = not-true (t.holder == 0) (sym t.main.flag ∙ set) in
          elim (cases_Bool (main_of row).is_flagged) [
            | inl before ↦ rw (set, before) (stays-held s.holder t.holder me agree (not-true (s.holder == 0) (sym s.main.flag ∙ before)) now)
            | inr before ↦ rw (set, before) (is-taken s.holder t.holder me agree (not-false (s.holder == 0) (sym s.main.flag ∙ before)) now)
          ]
      | inr clear ↦ rw clear (same_number t.holder 0 (not-false (t.holder == 0) (sym t.main.flag ∙ clear)))
    ]

-- and where none did
pub held-same : (needs : Needs) (places : ℕ) (row : ℕ → ℕ) (standing : ℕ → Place) (abstract : AbstractState) (me : ℕ) (s : Invariant needs places row standing abstract)
    → holder_after s.holder me (main_of row) (main_of row) ≡ s.holder
held-same needs places row standing abstract me s =
    elim (cases_Bool (main_of row).is_flagged) [
      | inl set ↦ rw set refl
      | inr clear ↦ rw clear (sym (same_number s.holder 0 (not-false (s.holder == 0) (sym s.main.flag ∙ clear))))
    ]

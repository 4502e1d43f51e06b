-- Steps of a place that poisons a lock or shuts a semaphore, or clears poison: each keeps that words and places refine the abstract state.
use Rattle.std.proofs.Common.{◌≡◌, ℕ, ◌+◌, ◌≤◌, true, false, not, ◌||◌, [], ◌∷◌, ◌==◌, refl, sym, ap, ◌∙◌, arith, inl, inr, append-nil}
use Rattle.std.proofs.lemmas.Bool.{cases_Bool}
use Rattle.std.proofs.lemmas.Bool.Decides.{nat_tests}
use Rattle.saa_core_spec.proofs.Counts.{same_number}
use Rattle.saa_core_words.specs.declared.word.Word.{Word}
use Rattle.saa_core_words.specs.Words.{count_bits, word_number}
use Rattle.saa_word_steps.specs.declared.place.Place.{Place}
use Rattle.saa_word_steps.specs.declared.place.AfterShow.TheVariants.{Ends}
use Rattle.saa_word_steps.specs.declared.place.AfterWalk.{AfterWalk}
use Rattle.saa_word_steps.specs.declared.place.Next.{Next}
use Rattle.saa_word_steps.specs.declared.place.Stage.TheVariants.{Quiet, ShowLoad, PoisonLoad, PoisonExchange, Clear}
use Rattle.saa_word_steps.specs.Needs.{Needs, kept, may_refuse}
use Rattle.saa_word_steps.proofs.Giving.{kept-small, kept-twice}
use Rattle.saa_word_steps.specs.declared.event.Event.TheVariants.{Poisoned, NotPoisoned, Cleared, NotCleared}
use Rattle.saa_word_steps.specs.AbstractState.{AbstractState, MayRefuse, is_empty, is_in}
use Rattle.saa_word_steps.specs.Steps.{poisoning, settled_word}
use Rattle.saa_word_steps.specs.Readings.{poisoned_word, refusing_word}
use Rattle.saa_word_proofs.specs.Refinement.{newest, is_holder, takes_back, Invariant}
use Rattle.saa_word_proofs.specs.Rows.{line_of, main_of}
use Rattle.saa_word_proofs.specs.StepRefinement.{poisoning_events}
use Rattle.saa_word_proofs.proofs.RefinementLemmas.Lists.{updated-same, front-none, front-some}
use Rattle.saa_word_proofs.proofs.RefinementLemmas.Rows.{either, IsStep, at-stage, moved, loaded, main-found, count-small, tail-small}
use Rattle.saa_word_proofs.proofs.RefinementLemmas.Holders.{main-now, nobody-holds}
use Rattle.saa_word_proofs.proofs.RefinementLemmas.Outcomes.{rests, exchanged, unseen, Outcome, not-holder, only-looked}
use Rattle.saa_word_proofs.proofs.RefinementLemmas.Linking.{linked-all}
use Rattle.saa_word_proofs.proofs.RefinementLemmas.Ending.{end_stage, ended, ended-ranged, ended-alone, ended-apart, ended-joins, ended-own, ended-showing, ended-holder, returning-any}
use Rattle.saa_word_proofs.proofs.RefinementLemmas.Granting.{answering, granting, nobody}

-- Poison that is decided by the main word as it stands
poisoning-outcome : (needs : Needs) (places : ℕ) (row : ℕ → ℕ) (standing : ℕ → Place) (state : AbstractState) (me : ℕ)
    → (s : Invariant needs places row standing state) → is_holder (standing me).stage ≡ false → s.unshown me ≡ []
    → takes_back (standing me).back ≡ false
    → Outcome needs places row standing state me (poisoning needs (standing me) (main_of row)) (poisoning_events needs (main_of row))
poisoning-outcome needs places row standing state me s none nothing tells =
    let seen : Word = main_of row in
    elim (cases_Bool (seen.is_poisoned || not (may_refuse needs seen.count))) [
      | inl refused ↦
          let other : MayRefuse needs state → ⊥ = λ owned. grind (arith, refused, owned.0, owned.1, s.main.count, s.main.poison) in
          rw refused (record {
            events = NotPoisoned ∷ [];
            last = state;
            run = (other, refl);
            names = refl;
            invariant = rests needs places row standing state me s (standing me).registration refl none nothing;
          })
      | inr owned ↦
          rw owned (either (λ (next : Next). Outcome needs places row standing state me next []) seen.is_flagged _ _
          (λ flagged. unseen (rw (updated-same standing me (standing me) refl) s))
          (λ clear. unseen (moved needs places row standing state me s (record (standing me) { stage = PoisonExchange seen }) (λ out. refl) refl
          (count-small (row 0)) (tells, tail-small (row 0), grind (arith, owned), clear, grind (arith, owned))
          (λ gives. absurd (cc)) tt nothing (sym none) (λ is. absurd (not-holder needs places row standing state me s none is)))))
    ]

-- The poisoner looks at the main word
pub step-PoisonLoad : IsStep PoisonLoad
step-PoisonLoad needs lawful wide places row standing state me room s at =
    let known = at-stage needs places row standing state me s _ at in
    let out = poisoning-outcome needs places row standing state me s (ap is_holder at) known.showing known.alone in
    only-looked needs places row standing state me PoisonLoad out refl refl refl refl

-- the object once a lock is poisoned, or a semaphore shut
abbrev poisoned_after : Needs → AbstractState → ℕ → AbstractState
poisoned_after needs state me = answering state me 2 (kept needs state.count) state.line [] true state.unclosed

-- A poisoner that saw a lock of one owner poisons it, and a place that shuts a semaphore does so, and shows that to all waiters; or decides by the word that it found
pub step-PoisonExchange : (seen : Word) → IsStep (PoisonExchange seen)
step-PoisonExchange seen needs lawful wide places row standing state me room s at =
    let known = at-stage needs places row standing state me s _ at in
    let none : is_holder (standing me).stage ≡ false = ap is_holder at in
    elim (cases_Bool (row 0 == word_number count_bits seen)) [
      | inl same ↦
          let is : main_of row ≡ seen = main-found (row 0) seen known.ranged known.alone.1 same in
          let tail : seen.tail ≡ newest 0 state.line = grind (arith, is, s.main.tail) in
          let unheld : s.holder == 0 ≡ true = grind (arith, is, s.main.flag, known.alone.3) in
          let calm : state.poisoned ≡ false = grind (arith, is, s.main.poison, known.alone.4) in
          let counts : seen.count ≡ state.count = grind (arith, is, s.main.count) in
          let owned : may_refuse needs state.count ≡ true = ap (may_refuse needs) (sym counts) ∙ known.alone.2 in
          let less : kept needs state.count ≤ state.count = kept-small needs state.count in
          let keeps : kept needs seen.count ≡ kept needs state.count = ap (kept needs) counts in
          let zero : s.holder ≡ 0 = same_number s.holder 0 unheld in
          let goes = granting needs places row standing state me s (word_number count_bits (refusing_word needs seen)) 2 _ state.line [] 0 true state.unclosed
          (omega arith) (λ other is. absurd (omega (arith, zero, is))) known.showing (sym (append-nil state.line))
          (linked-all (line_of row) state.line s.cut s.uncut s.line (s.free unheld)) tt
          (main-now needs (poisoned_after needs state me) 0 (refusing_word needs seen) (omega (arith, keeps, less, s.main.bounded, wide)) (omega arith)
          keeps refl refl refl (λ poisoned. (kept-twice needs state.count, refl)) (omega (arith, less, s.main.bounded))
          (λ free. s.main.closed unheld) (λ closed. tt))
          (λ other differs. ap (λ (n : ℕ). n == other + 1) zero) in
          let back : AfterWalk = (standing me).back in
          let out : takes_back back ≡ true → is_in me state.line ≡ false = λ gives. let wrong : true ≡ false = sym gives ∙ known.alone.0 in absurd (cc) in
          let returning = returning-any (standing me).registration (standing me).back known.alone.0 in
          record {
            events = Poisoned ∷ [];
            last = poisoned_after needs state me;
            run = ((s.main.closed unheld, (calm, owned)), refl);
            names = rw same refl;
            inside = omega arith;
            invariant =
                elim (cases_Bool (seen.tail == 0)) [
                  | inl alone_there ↦
                      rw (same, alone_there, ended (standing me) back)
                      (goes (end_stage back) (λ out. ended-joins back) (ended-ranged needs back) (ended-alone needs (standing me).registration back returning)
                      (λ gives. out (sym (ended-apart back) ∙ gives)) (ended-own (line_of row me) back)
                      (ended-showing state.line 2 back (front-none state.line seen.tail tail alone_there))
                      (ended-holder back ∙ sym (nobody me)) (λ is. absurd (omega (arith, is))))
                  | inr others ↦
                      rw (same, others)
                      (goes (ShowLoad seen.tail 2 Ends) (λ out. refl) tt returning out tt (sym tail, front-some state.line seen.tail tail others, refl)
                      (sym (nobody me)) (λ is. absurd (omega (arith, is))))
                ];
          }
      | inr differs ↦
          let out = poisoning-outcome needs places row standing state me s none known.showing known.alone.0 in
          only-looked needs places row standing state me (PoisonExchange seen) out refl (rw differs refl) (rw differs refl) (rw differs refl)
    ]

-- the main word of a poisoned lock is that of poison alone, and that of a shut semaphore has its count beside it
pub poisoned-number : (needs : Needs) (places : ℕ) (row : ℕ → ℕ) (standing : ℕ → Place) (state : AbstractState) (s : Invariant needs places row standing state)
    → state.poisoned ≡ true → row 0 ≡ word_number count_bits (refusing_word needs (main_of row))
poisoned-number needs places row standing state s poisoned =
    let barren = s.main.barren poisoned in
    let unheld : s.holder == 0 ≡ true = nobody-holds needs places row standing state s (ap is_empty barren.1) in
    let word : Word = main_of row in
    let count : word.count ≡ kept needs word.count = s.main.count ∙ barren.0 ∙ ap (kept needs) (sym s.main.count) in
    let flag : word.is_flagged ≡ false = s.main.flag ∙ ap not unheld in
    let poison : word.is_poisoned ≡ true = s.main.poison ∙ poisoned in
    let tail : word.tail ≡ 0 = s.main.tail ∙ ap (newest 0) barren.1 in
    let is : word ≡ refusing_word needs word = λ i. record { count = count i; is_flagged = flag i; is_poisoned = poison i; tail = tail i } in
    let kept : word_number count_bits word ≡ row 0 = grind (arith, s.main.whole, nat_tests) in
    sym kept ∙ ap (word_number count_bits) is

-- A call that clears poison does so in one exchange, or finds none
pub step-Clear : IsStep Clear
step-Clear needs lawful wide places row standing state me room s at =
    let known = at-stage needs places row standing state me s _ at in
    let none : is_holder (standing me).stage ≡ false = ap is_holder at in
    elim (cases_Bool (row 0 == word_number count_bits poisoned_word)) [
      | inl same ↦
          let is : main_of row ≡ poisoned_word = main-found (row 0) poisoned_word (omega arith) (omega arith) same in
          let poisoned : state.poisoned ≡ true = sym s.main.poison ∙ ap (λ (w : Word). w.is_poisoned) is in
          let barren = s.main.barren poisoned in
          let none_held : state.count ≡ 0 = barren.0 ∙ rw known.alone refl in
          let unheld : s.holder == 0 ≡ true = nobody-holds needs places row standing state s (ap is_empty barren.1) in
          record {
            events = Cleared ∷ [];
            last = record state { poisoned = false };
            run = ((poisoned, known.alone), refl);
            names = rw same refl;
            inside = omega arith;
            invariant = rw same (exchanged needs places row standing state me s (word_number count_bits (settled_word 0 0)) state.count state.unclosed false s.holder
                (record (standing me) { stage = Quiet }) (λ out. refl) refl tt tt refl tt known.showing (sym none ∙ s.stages.one me)
                (λ is. absurd (not-holder needs places row standing state me s none is)) (λ other differs. refl) (λ other it. omega arith) (λ free. free)
                (main-now needs (record state { poisoned = false }) s.holder (settled_word 0 0) (omega arith) (omega arith) (sym none_held)
                (sym (ap (newest 0) barren.1)) (sym (ap not unheld)) refl (λ now. absurd (cc)) s.main.bounded s.main.closed s.main.settled));
          }
      | inr differs ↦
          let is : state.poisoned ≡ true → row 0 ≡ word_number count_bits poisoned_word =
          λ poisoned. poisoned-number needs places row standing state s poisoned ∙ rw known.alone refl in
          record {
            events = NotCleared ∷ [];
            last = state;
            run = (grind (arith, nat_tests, differs, is), refl);
            names = rw differs refl;
            inside = omega arith;
            invariant = rw differs (loaded needs places row _ state 0 (rests needs places row standing state me s (standing me).registration refl none known.showing));
          }
    ]

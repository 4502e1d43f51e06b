-- What a step writes into a row, and a step that writes nothing.
use Rattle.std.proofs.Common.{if◌then◌else◌, Bool, ◌≡◌, ℕ, ◌+◌, ◌<◌, ◌≤◌, true, false, List, Option, ◌==◌, refl, sym, ap, subst, ◌∙◌, arith, ◌^◌}
use Rattle.std.proofs.lemmas.Bool.Decides.{nat_tests}
use Rattle.saa_core_spec.specs.Object.{one_if, times}
use Rattle.saa_core_spec.proofs.Counts.{same_number, number_other, one_if-le, times-append}
use Rattle.saa_core_words.specs.declared.word.Word.{Word}
use Rattle.saa_core_words.specs.declared.line_word.LineWord.{LineWord}
use Rattle.saa_core_words.specs.Words.{count_bits, word_number, word_of, line_word_of}
use Rattle.saa_core_words.proofs.Words.{word-read}
use Rattle.saa_word_steps.specs.declared.place.Place.{Place}
use Rattle.saa_word_steps.specs.declared.place.Registration.{Registration}
use Rattle.saa_word_steps.specs.declared.place.AfterWalk.{AfterWalk}
use Rattle.saa_word_steps.specs.declared.place.Stage.{Stage}
use Rattle.saa_word_steps.specs.declared.place.Stage.TheVariants.{Join}
use Rattle.saa_word_steps.specs.Needs.{Needs, AreNeeds}
use Rattle.saa_word_steps.specs.AbstractState.{AbstractState, is_in, held_by}
use Rattle.saa_word_steps.specs.Steps.{IsRanged, IsSmall}
use Rattle.saa_word_proofs.specs.Refinement.{joins_line, is_holder, gives_up, IsLocallyTrue, IsOwn, IsShowing, IsHolding, AreSeats, IsLine, AreGrants, AreAnswers, Invariant}
use Rattle.saa_word_proofs.specs.Rows.{line_of, updated}
use Rattle.saa_word_proofs.specs.Registering.{is_slot}
use Rattle.saa_word_proofs.specs.StepRefinement.{StepRefines}
use Rattle.saa_word_proofs.proofs.RefinementLemmas.Lists.{behind-same, each-updated, all-same, updated-same, updated-at, updated-other}
use Rattle.saa_word_proofs.proofs.RefinementLemmas.Frames.{stages-next}

-- what is so of both ways of a test is so of the one that it takes
pub either : {A : Type 0} (P : A → Type 0) (test : Bool) (one other : A) → (test ≡ true → P one) → (test ≡ false → P other) → P (if test then one else other)
either P true one other o t = o refl
either P false one other o t = t refl

-- A main word that is found as it was seen is what was seen
pub main-found : (number : ℕ) (seen : Word) → IsSmall seen → seen.tail < 65536 → number == word_number count_bits seen ≡ true → word_of count_bits number ≡ seen
main-found number seen small tail same =
    ap (word_of count_bits) (same_number number (word_number count_bits seen) same) ∙ word-read count_bits seen small tail

-- what a main word is written as is small, and is read again
pub word-whole : (word : Word) → IsSmall word → word.tail < 65536 → word_number count_bits word < 2 ^ (count_bits + 18)
word-whole word small tail = omega (arith, small, tail, one_if-le word.is_flagged, one_if-le word.is_poisoned)

-- the count and the tail of a number are within their bits
pub count-small : (number : ℕ) → (word_of count_bits number).count < 2 ^ count_bits
count-small number = omega arith

pub tail-small : (number : ℕ) → (word_of count_bits number).tail < 65536
tail-small number = omega arith

-- a write to the main word leaves the line words
pub line-main : (row : ℕ → ℕ) (number : ℕ) → line_of (updated row 0 number) ≡ line_of row
line-main row number = all-same _ _ (λ place. ap line_word_of (grind (arith, nat_tests)))

-- a write to a line word leaves the others
pub line-at : (row : ℕ → ℕ) (at number : ℕ) → line_of (updated row (at + 1) number) at ≡ line_word_of number
line-at row at number = ap line_word_of (updated-at row (at + 1) number)

-- a number at another index is as it was, and so is another line word
pub row-other : (row : ℕ → ℕ) (at number other : ℕ) → (other ≡ at → ⊥) → updated row at number other ≡ row other
row-other row at number other apart = updated-other row at number other (number_other other at apart)

pub line-other : (row : ℕ → ℕ) (at number place : ℕ) → (place ≡ at → ⊥) → line_of (updated row (at + 1) number) place ≡ line_of row place
line-other row at number place apart = ap line_word_of (row-other row (at + 1) number (place + 1) (λ is. apart (omega (arith, is))))

-- a place that is registered in the line isn't about to join
pub own-any : (needs : Needs) (registration : Registration) (back : AfterWalk) (stage : Stage) (word : LineWord)
    → IsLocallyTrue needs registration back stage → is_slot registration ≡ true → IsOwn word stage
own-any needs registration back (Join request seen) word alone slot = let wrong : true ≡ false = sym slot ∙ alone.1 in absurd (cc)
own-any needs registration back _ word alone slot = tt

-- the seats where one place moved, by what is held then
pub seats-by : (places : ℕ) (standing : ℕ → Place) (state last : AbstractState) (me : ℕ) (place : Place) → AreSeats places standing state
    → ((other : ℕ) → held_by other last ≡ one_if (is_slot (updated standing me place other).registration))
    → (is_slot place.registration ≡ true → me < places) → (places ≤ me → joins_line place.stage ≡ false) → AreSeats places (updated standing me place) last
seats-by places standing state last me place was held here free = record {
  held = held;
  within = each-updated (λ (n : ℕ) (p : Place). is_slot p.registration ≡ true → n < places) standing me place here (λ other apart. was.within other);
  beyond = each-updated (λ (n : ℕ) (p : Place). places ≤ n → joins_line p.stage ≡ false) standing me place free (λ other apart. was.beyond other);
}

-- a place that is registered as it was leaves the seats as they are
pub seats-next : (places : ℕ) (standing : ℕ → Place) (state last : AbstractState) (me : ℕ) (place : Place) → AreSeats places standing state
    → (places ≤ me → joins_line place.stage ≡ false) → is_slot place.registration ≡ is_slot (standing me).registration
    → ((other : ℕ) → held_by other last ≡ held_by other state) → AreSeats places (updated standing me place) last
seats-next places standing state last me place was free same held =
    seats-by places standing state last me place was (each-updated (λ (n : ℕ) (p : Place). held_by n last ≡ one_if (is_slot p.registration)) standing me place
    (held me ∙ was.held me ∙ ap one_if (sym same)) (λ other apart. held other ∙ was.held other)) (λ slot. was.within me (sym same ∙ slot)) free

-- A row that is written at a word that isn't the main one, where the line words of those in line, or of those whose answer isn't shown, are as they were
pub line-kept : (words new : ℕ → LineWord) (line cut uncut : List (ℕ × ℕ)) → IsLine words line cut uncut
    → ((place : ℕ) → 0 < times place line → new place ≡ words place) → IsLine new line cut uncut
line-kept words new line cut uncut was same =
    record {
      parts = was.parts;
      granted = behind-same words new 0 cut (λ place there. same place (rw was.parts (omega (arith, there, times-append)))) was.granted;
      stays = behind-same words new 0 uncut (λ place there. same place (rw was.parts (omega (arith, there, times-append)))) was.stays;
      some = was.some;
    }

pub grants-kept : (words new : ℕ → LineWord) (granted : ℕ → Option ℕ) (granter : ℕ → ℕ) (unshown : ℕ → List (ℕ × ℕ)) (answer_value : ℕ → ℕ)
    → AreGrants words granted granter unshown answer_value → ((place other : ℕ) → 0 < times other (unshown place) → new other ≡ words other)
    → AreGrants new granted granter unshown answer_value
grants-kept words new granted granter unshown answer_value was same = record {
  granted_to = was.granted_to;
  unshown_by = was.unshown_by;
  once = was.once;
  small = was.small;
  links = λ place. behind-same words new 0 (unshown place) (same place) (was.links place);
}

-- and the answer words, where none of them is written
pub answers-kept : (places : ℕ) (row : ℕ → ℕ) (at number : ℕ) (answered : ℕ → Option ℕ) → at ≤ places → AreAnswers places row answered
    → AreAnswers places (updated row at number) answered
answers-kept places row at number answered below was = record {
  words = λ place inside. row-other row at number (places + place + 1) (λ is. omega (arith, is, below)) ∙ was.words place inside;
  small = was.small;
}

-- The step of a place or of a visitor at a stage, and that of a place alone
abbrev pub IsStep : Stage → Type 0
IsStep stage =
    (needs : Needs) → AreNeeds needs → needs.top < 2 ^ count_bits → (places : ℕ) (row : ℕ → ℕ) (standing : ℕ → Place) (state : AbstractState) (me : ℕ)
    → places < 65536 → Invariant needs places row standing state → (standing me).stage ≡ stage → StepRefines needs places row standing state me stage

abbrev pub IsOwnStep : Stage → Type 0
IsOwnStep stage =
    (needs : Needs) → AreNeeds needs → needs.top < 2 ^ count_bits → (places : ℕ) (row : ℕ → ℕ) (standing : ℕ → Place) (state : AbstractState) (me : ℕ)
    → places < 65536 → me < places → Invariant needs places row standing state → (standing me).stage ≡ stage
    → StepRefines needs places row standing state me stage

-- What is so of a place at a stage
pub record IsAtStage (needs : Needs) (places : ℕ) (row : ℕ → ℕ) (standing : ℕ → Place) (state : AbstractState) (me : ℕ) (s : Invariant needs places row standing state)
    (stage : Stage) : Type 0 where
  pub ranged : IsRanged needs stage
  pub alone : IsLocallyTrue needs (standing me).registration (standing me).back stage
  pub apart : gives_up (standing me).back stage ≡ true → is_in me state.line ≡ false
  pub own : IsOwn (line_of row me) stage
  pub showing : IsShowing (s.unshown me) (s.answer_value me) stage
  pub holding : s.holder ≡ me + 1 → IsHolding needs (line_of row) me state.count state.line s.cut stage
  pub mine : is_holder stage ≡ true → s.holder ≡ me + 1

pub at-stage : (needs : Needs) (places : ℕ) (row : ℕ → ℕ) (standing : ℕ → Place) (state : AbstractState) (me : ℕ) (s : Invariant needs places row standing state)
    (stage : Stage) → (standing me).stage ≡ stage → IsAtStage needs places row standing state me s stage
at-stage needs places row standing state me s stage at =
    subst (λ (stage : Stage). IsAtStage needs places row standing state me s stage) at (record {
      ranged = s.stages.ranged me;
      alone = s.stages.alone me;
      apart = s.stages.apart me;
      own = s.stages.own me;
      showing = s.stages.showing me;
      holding = s.stages.holding me;
      mine = λ holds. same_number s.holder (me + 1) (sym (s.stages.one me) ∙ holds);
    })

-- A step that leaves words and object as they are
pub moved : (needs : Needs) (places : ℕ) (row : ℕ → ℕ) (standing : ℕ → Place) (state : AbstractState) (me : ℕ) (s : Invariant needs places row standing state) (place : Place)
    → (places ≤ me → joins_line place.stage ≡ false) → is_slot place.registration ≡ is_slot (standing me).registration
    → IsRanged needs place.stage → IsLocallyTrue needs place.registration place.back place.stage
    → (gives_up place.back place.stage ≡ true → is_in me state.line ≡ false)
    → IsOwn (line_of row me) place.stage → IsShowing (s.unshown me) (s.answer_value me) place.stage
    → is_holder place.stage ≡ is_holder (standing me).stage
    → (s.holder ≡ me + 1 → IsHolding needs (line_of row) me state.count state.line s.cut place.stage)
    → Invariant needs places row (updated standing me place) state
moved needs places row standing state me s place free same ranged alone apart own showing holder holding = record {
  holder = s.holder;
  cut = s.cut;
  uncut = s.uncut;
  unshown = s.unshown;
  answer_value = s.answer_value;
  free = s.free;
  main = s.main;
  line = s.line;
  seats = seats-next places standing state state me place s.seats free same (λ other. refl);
  answers = s.answers;
  grants = s.grants;
  stages = stages-next needs (line_of row) (line_of row) standing state.count state.count state.line state.line s.cut s.cut s.holder s.holder s.unshown s.unshown
      s.answer_value s.answer_value me place s.stages ranged alone apart own showing (holder ∙ s.stages.one me) holding
      (λ other differs out. out)
      (λ other differs. s.stages.own other) (λ other differs. refl) (λ other differs. refl) (λ other differs. refl) (λ other differs. s.stages.holding other);
}

-- a step that only loads leaves the row
pub loaded : (needs : Needs) (places : ℕ) (row : ℕ → ℕ) (standing : ℕ → Place) (state : AbstractState) (at : ℕ)
    → Invariant needs places row standing state → Invariant needs places (updated row at (row at)) standing state
loaded needs places row standing state at s = rw (updated-same row at (row at) refl) s

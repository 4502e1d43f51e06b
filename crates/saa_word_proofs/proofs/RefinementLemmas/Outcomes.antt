-- What a place that moved has come to, and what it isn't where it doesn't hold the flag.
use Rattle.std.proofs.Common.{◌≡◌, ℕ, ◌+◌, ◌<◌, ◌≤◌, Bool, true, false, List, [], ◌==◌, refl, sym, ◌∙◌, arith, append-nil}
use Rattle.std.proofs.lemmas.Bool.Decides.{nat_tests}
use Rattle.saa_word_steps.specs.declared.place.Place.{Place}
use Rattle.saa_word_steps.specs.declared.place.Next.{Next}
use Rattle.saa_word_steps.specs.declared.place.Registration.{Registration}
use Rattle.saa_word_steps.specs.declared.place.Stage.{Stage}
use Rattle.saa_word_steps.specs.declared.place.Stage.TheVariants.{Quiet}
use Rattle.saa_word_steps.specs.Needs.{Needs}
use Rattle.saa_word_steps.specs.declared.event.Event.{Event}
use Rattle.saa_word_steps.specs.AbstractState.{AbstractState, IsRun}
use Rattle.saa_word_steps.specs.Steps.{IsRanged, word_at, written_by, operation_of, next_of}
use Rattle.saa_word_proofs.specs.Refinement.{joins_line, is_holder, gives_up, IsLocallyTrue, IsOwn, IsShowing, IsHolding, IsMain, Invariant}
use Rattle.saa_word_proofs.specs.Rows.{line_of, updated}
use Rattle.saa_word_proofs.specs.StepRefinement.{StepRefines, named_at, place_after, row_after}
use Rattle.saa_word_proofs.specs.History.{named, of_place}
use Rattle.saa_word_proofs.specs.Registering.{is_slot}
use Rattle.saa_word_proofs.proofs.RefinementLemmas.Frames.{holding-frame, stages-next}
use Rattle.saa_word_proofs.proofs.RefinementLemmas.Rows.{loaded, moved, line-main, seats-next, answers-kept}

-- a place that doesn't hold the flag isn't its holder
pub not-holder : (needs : Needs) (places : ℕ) (row : ℕ → ℕ) (standing : ℕ → Place) (state : AbstractState) (me : ℕ) (s : Invariant needs places row standing state)
    → is_holder (standing me).stage ≡ false → s.holder ≡ me + 1 → ⊥
not-holder needs places row standing state me s none is = grind (arith, nat_tests, s.stages.one me, none, is)

-- a place that doesn't hold the flag and is in no call any more
pub rests : (needs : Needs) (places : ℕ) (row : ℕ → ℕ) (standing : ℕ → Place) (state : AbstractState) (me : ℕ) (s : Invariant needs places row standing state)
    (registration : Registration) → is_slot registration ≡ is_slot (standing me).registration → is_holder (standing me).stage ≡ false → s.unshown me ≡ []
    → Invariant needs places row (updated standing me (record (standing me) { registration = registration; stage = Quiet })) state
rests needs places row standing state me s registration same none nothing =
    moved needs places row standing state me s (record (standing me) { registration = registration; stage = Quiet }) (λ out. refl) same
    tt tt (λ gives. absurd (cc)) tt nothing (sym none) (λ it. absurd (not-holder needs places row standing state me s none it))

-- What a place that moved has come to, where the row is as it was: these events, with what answers name among them
pub record Outcome (needs : Needs) (places : ℕ) (row : ℕ → ℕ) (standing : ℕ → Place) (state : AbstractState) (me : ℕ) (next : Next) (wanted : List Event) : Type 0 where
  pub events : List Event
  pub last : AbstractState
  pub run : IsRun needs state (of_place me events) last
  pub names : named events ≡ wanted
  pub invariant : Invariant needs places row (updated standing me (place_after (standing me) next)) last

-- what is no event
pub unseen : {needs : Needs} {places : ℕ} {row : ℕ → ℕ} {standing : ℕ → Place} {state : AbstractState} {me : ℕ} {next : Next}
    → Invariant needs places row (updated standing me (place_after (standing me) next)) state → Outcome needs places row standing state me next []
unseen {state = state} invariant = record { events = []; last = state; run = refl; names = refl; invariant = invariant }

pub silent : {needs : Needs} {places : ℕ} {row : ℕ → ℕ} {standing : ℕ → Place} {state : AbstractState} {me : ℕ} {stage : Stage}
    → [] ≡ named_at needs stage (row (word_at (operation_of needs places me stage))) → word_at (operation_of needs places me stage) < places + places + 1
    → Invariant needs places (row_after row (operation_of needs places me stage))
    (updated standing me (place_after (standing me) (next_of needs me (standing me) stage (row (word_at (operation_of needs places me stage)))))) state
    → StepRefines needs places row standing state me stage
silent {state = state} names inside invariant = record { events = []; last = state; run = refl; names = names; inside = inside; invariant = invariant }

-- A step that leaves the main word as it was is what its place has come to
pub only-looked : (needs : Needs) (places : ℕ) (row : ℕ → ℕ) (standing : ℕ → Place) (state : AbstractState) (me : ℕ) (stage : Stage) {next : Next} {wanted : List Event}
    → Outcome needs places row standing state me next wanted → word_at (operation_of needs places me stage) ≡ 0
    → written_by (operation_of needs places me stage) (row 0) ≡ row 0 → next_of needs me (standing me) stage (row 0) ≡ next → named_at needs stage (row 0) ≡ wanted
    → StepRefines needs places row standing state me stage
only-looked needs places row standing state me stage {next = next} out main same goes names = record {
  events = out.events;
  last = out.last;
  run = out.run;
  names = rw (main, names) out.names;
  inside = omega (arith, main);
  invariant = rw (main, same, goes) (loaded needs places row (updated standing me (place_after (standing me) next)) out.last 0 out.invariant);
}

-- A write to the main word alone: the count, the marks and the flag's holder may change, and only this place moves
pub exchanged : (needs : Needs) (places : ℕ) (row : ℕ → ℕ) (standing : ℕ → Place) (state : AbstractState) (me : ℕ) (s : Invariant needs places row standing state)
    (number count : ℕ) (unclosed poisoned : Bool) (holder : ℕ) (place : Place)
    → (places ≤ me → joins_line place.stage ≡ false) → is_slot place.registration ≡ is_slot (standing me).registration
    → IsRanged needs place.stage → IsLocallyTrue needs place.registration place.back place.stage → gives_up place.back place.stage ≡ false
    → IsOwn (line_of row me) place.stage → IsShowing (s.unshown me) (s.answer_value me) place.stage → is_holder place.stage ≡ (holder == me + 1)
    → (holder ≡ me + 1 → IsHolding needs (line_of row) me count state.line s.cut place.stage)
    → ((other : ℕ) → (other ≡ me → ⊥) → (s.holder == other + 1) ≡ (holder == other + 1))
    → ((other : ℕ) → s.holder ≡ other + 1 → count ≤ state.count) → ((holder == 0) ≡ true → s.holder == 0 ≡ true)
    → IsMain needs number (record state { count = count; unclosed = unclosed; poisoned = poisoned }) holder
    → Invariant needs places (updated row 0 number) (updated standing me place) (record state { count = count; unclosed = unclosed; poisoned = poisoned })
exchanged needs places row standing state me s number count unclosed poisoned holder place free same ranged alone stays own showing one holding ones less
    freed main =
    record {
      holder = holder;
      cut = s.cut;
      uncut = s.uncut;
      unshown = s.unshown;
      answer_value = s.answer_value;
      free = λ none. s.free (freed none);
      main = main;
      line = rw (line-main row number) s.line;
      seats = seats-next places standing state (record state { count = count; unclosed = unclosed; poisoned = poisoned }) me place s.seats free same (λ other. refl);
      answers = answers-kept places row 0 number state.answered (omega arith) s.answers;
      grants = rw (line-main row number) s.grants;
      stages = rw (line-main row number)
          (stages-next needs (line_of row) (line_of row) standing state.count count state.line state.line s.cut s.cut s.holder holder s.unshown s.unshown
          s.answer_value s.answer_value me place s.stages ranged alone (λ gives. let wrong : true ≡ false = sym gives ∙ stays in absurd (cc)) own showing one holding
          (λ other apart out. out) (λ other apart. s.stages.own other) (λ other apart. refl) (λ other apart. refl) ones
          (λ other apart it. holding-frame (line_of row) (line_of row) state.count count state.line state.line [] (less other it)
          (sym (append-nil state.line)) (λ one there. refl) needs other s.cut (standing other).stage refl (s.stages.holding other it)));
    }

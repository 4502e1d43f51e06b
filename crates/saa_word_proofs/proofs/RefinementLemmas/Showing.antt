-- Steps of a place that shows answers, and of one that takes its own.
use Rattle.std.proofs.Common.{◌≡◌, ℕ, ◌+◌, ◌<◌, true, false, List, [], ◌∷◌, ◌++◌, ◌==◌, Option, Some, None, is_some, refl, sym, ap, subst, ◌∙◌, arith, inl, inr, append-nil, ◌%◌, not, ◌&&◌, ◌||◌}
use Rattle.std.proofs.lemmas.Bool.{cases_lt}
use Rattle.std.proofs.lemmas.Bool.Decides.{nat_tests}
use Rattle.saa_core_spec.specs.Object.{one_if, times}
use Rattle.saa_core_spec.proofs.Counts.{number_same, number_other, one_if-same, one_if-le, times-append}
use Rattle.saa_core_words.specs.declared.line_word.LineWord.{LineWord}
use Rattle.saa_core_words.specs.Words.{line_word_of, answer_number, answer_of}
use Rattle.saa_word_steps.specs.declared.place.Place.{Place}
use Rattle.saa_word_steps.specs.declared.place.AfterShow.{AfterShow}
use Rattle.saa_word_steps.specs.declared.place.AfterShow.TheVariants.{Ends, Again}
use Rattle.saa_word_steps.specs.declared.place.Stage.{Stage}
use Rattle.saa_word_steps.specs.declared.place.Stage.TheVariants.{ShowLoad, ShowStore, Quiet, ReleaseLoad, BackLoad, Take}
use Rattle.saa_word_steps.specs.Needs.{Needs}
use Rattle.saa_word_steps.specs.AbstractState.{AbstractState, is_in, held_by, with_answer, is_empty}
use Rattle.saa_word_steps.specs.Steps.{IsRanged, shown_all, taken_answer}
use Rattle.saa_word_steps.proofs.AbstractRuns.{waits-some, waits-none}
use Rattle.saa_word_proofs.specs.Refinement.{joins_line, newest, is_holder, gives_up, IsLocallyTrue, IsOwn, IsShowing, Work, IsHolding, AreSeats, AreAnswers, AreGrants, Invariant}
use Rattle.saa_word_proofs.specs.Rows.{IsBehind, line_of, updated}
use Rattle.saa_word_proofs.specs.Registering.{is_slot}
use Rattle.saa_core_spec.specs.Values.{granted_value}
use Rattle.saa_core_words.proofs.Words.{answer-read}
use Rattle.saa_word_steps.specs.declared.place.ReleaseAmount.TheVariants.{Requested}
use Rattle.saa_word_steps.specs.declared.place.Registration.{Registration}
use Rattle.saa_word_steps.specs.declared.place.Registration.TheVariants.{Idle}
use Rattle.saa_word_steps.specs.declared.place.AfterWalk.{AfterWalk}
use Rattle.saa_word_steps.specs.declared.place.AfterWalk.TheVariants.{Ends as EndsCall}
use Rattle.saa_word_steps.specs.declared.place.PollMode.{PollMode}
use Rattle.saa_word_steps.specs.declared.place.PollMode.TheVariants.{Tries, Gives}
use Rattle.saa_word_steps.specs.declared.call.Answer.TheVariants.{Unit as Ended}
use Rattle.saa_word_steps.specs.declared.place.Next.{Next}
use Rattle.saa_word_steps.specs.declared.place.Next.TheVariants.{Going, Done}
use Rattle.saa_word_steps.specs.declared.event.Event.TheVariants.{Showed, AnswerTaken, NotReady}
use Rattle.saa_word_proofs.specs.StepRefinement.{place_after, taken_events}
use Rattle.saa_word_proofs.proofs.RefinementLemmas.Lists.{each-updated, updated-other, newest-last, in-some, in-append, split-last, behind-same, behind-front, behind-rest, updated-same, newest-empty, empty-nil}
use Rattle.saa_word_proofs.proofs.RefinementLemmas.Frames.{holding-frame, stages-next}
use Rattle.saa_word_proofs.proofs.RefinementLemmas.Rows.{IsStep, moved, loaded, row-other, at-stage, seats-next, line-kept, either, IsOwnStep, IsAtStage, seats-by, grants-kept}
use Rattle.saa_word_proofs.proofs.RefinementLemmas.Outcomes.{silent, rests, unseen, Outcome, not-holder}
use Rattle.saa_word_proofs.proofs.RefinementLemmas.Ending.{end_stage, ended, ended-ranged, ended-alone, ended-apart, ended-joins, ended-own, ended-showing, ended-holder}

-- An answer word is written: the line words and the main word stay
line-answer : (row : ℕ → ℕ) (places at number place : ℕ) → place < places → 0 < at → line_of (updated row (places + at) number) place ≡ line_of row place
line-answer row places at number place inside some = grind (arith, nat_tests, inside, some)

-- a place that doesn't join says nothing of its line word
own-free : (word : LineWord) (stage : Stage) → joins_line stage ≡ false → IsOwn word stage
own-free word stage never = grind (arith, never)

-- the answer words once one of them is written
answers-written : (places : ℕ) (row : ℕ → ℕ) (answered : ℕ → Option ℕ) (at : ℕ) (answer : Option ℕ) → ((value : ℕ) → answer ≡ Some value → value < 256)
    → AreAnswers places row answered → AreAnswers places (updated row (places + (at + 1)) (answer_number answer)) (with_answer at answer answered)
answers-written places row answered at answer fits was =
    record {
      words = λ place inside. grind (arith, nat_tests, was.words place inside);
      small = λ place value is. grind (arith, nat_tests, is, fits value, was.small place value);
    }

module _ (needs : Needs) (places : ℕ) (row : ℕ → ℕ) (standing : ℕ → Place) (state : AbstractState)
    (s : Invariant needs places row standing state) where
  -- each member of a line is one of the places
  line-inside : (other : ℕ) → 0 < times other state.line → other < places
  line-inside other there = s.seats.within other (grind (arith, there, s.seats.held other))

  -- so is each place whose answer isn't shown
  granted-inside : (place other : ℕ) → is_in other (s.unshown place) ≡ true → other < places
  granted-inside place other there = s.seats.within other (grind (arith, s.grants.granted_to place other there, s.seats.held other))

  -- what isn't shown once the newest of what a place had to show is
  grants-shown : (me : ℕ)
      (before : List (ℕ × ℕ)) (asker : ℕ × ℕ) (number : ℕ) → s.unshown me ≡ before ++ asker ∷ []
      → AreGrants (line_of (updated row (places + (asker.0 + 1)) number)) (with_answer asker.0 None state.granted) state.granter (updated s.unshown me before) s.answer_value
  grants-shown me before asker number is =
      let new : ℕ → LineWord = line_of (updated row (places + (asker.0 + 1)) number) in
      let same : (place : ℕ) → place < places → new place ≡ line_of row place =
      λ place inside. line-answer row places (asker.0 + 1) number place inside (omega arith) in
      let whole : (other : ℕ) → times other (s.unshown me) ≡ times other before + times other (asker ∷ []) =
      λ other. ap (λ (l : List (ℕ × ℕ)). times other l) is ∙ times-append other before (asker ∷ []) in
      let still : (other : ℕ) → is_in other before ≡ true → is_in other (s.unshown me) ≡ true =
      λ other there. in-some other (s.unshown me) (omega (arith, whole other, waits-some other before there)) in
      let mine : is_in asker.0 (s.unshown me) ≡ true = in-some asker.0 (s.unshown me) (omega (arith, whole asker.0, one_if-same asker.0)) in
      let gone : (other : ℕ) → is_in other before ≡ true → other == asker.0 ≡ false =
      λ other there. grind (arith, nat_tests, there, s.grants.once me other, whole other, waits-some other before there) in
      record {
        granted_to = λ place other there.
            grind (arith, nat_tests, there, still other, gone other, s.grants.granted_to place other, s.grants.granted_to me asker.0 mine);
        unshown_by = λ other some. grind (arith, nat_tests, some, s.grants.unshown_by other, ap (is_in other) is, in-append other before (asker ∷ []));
        once = λ place other. grind (arith, nat_tests, s.grants.once place other, s.grants.once me other, whole other);
        small = s.grants.small;
        links = each-updated (λ (place : ℕ) (l : List (ℕ × ℕ)). IsBehind new 0 l) s.unshown me before
            (behind-same (line_of row) new 0 before (λ place there. same place (granted-inside me place (still place (in-some place before there))))
            (behind-front (line_of row) 0 before (asker ∷ []) (subst (λ (l : List (ℕ × ℕ)). IsBehind (line_of row) 0 l) is (s.grants.links me))))
            (λ other apart. behind-same (line_of row) new 0 (s.unshown other)
            (λ place there. same place (granted-inside other place (in-some place (s.unshown other) there))) (s.grants.links other));
      }

  -- What an answer word that is written leaves, where a place moves and has these to show, by what holds of seats, answers and grants then
  written : (at number : ℕ) (granted answered : ℕ → Option ℕ) (unshown : ℕ → List (ℕ × ℕ)) (me : ℕ) (place : Place) → 0 < at
      → AreSeats places (updated standing me place) (record state { granted = granted; answered = answered })
      → AreAnswers places (updated row (places + at) number) answered
      → AreGrants (line_of (updated row (places + at) number)) granted state.granter unshown s.answer_value
      → ((other : ℕ) → (other ≡ me → ⊥) → unshown other ≡ s.unshown other)
      → IsRanged needs place.stage → IsLocallyTrue needs place.registration place.back place.stage
      → (gives_up place.back place.stage ≡ true → is_in me state.line ≡ false) → ((word : LineWord) → IsOwn word place.stage)
      → IsShowing (unshown me) (s.answer_value me) place.stage → is_holder place.stage ≡ is_holder (standing me).stage
      → (s.holder ≡ me + 1 → IsHolding needs (line_of row) me state.count state.line s.cut place.stage)
      → Invariant needs places (updated row (places + at) number) (updated standing me place) (record state { granted = granted; answered = answered })
  written at number granted answered unshown me place some seats answers grants shows ranged alone apart own showing holder holding =
      let new : ℕ → LineWord = line_of (updated row (places + at) number) in
      let same : (place : ℕ) → place < places → new place ≡ line_of row place = λ place inside. line-answer row places at number place inside some in
      let in_line : (place : ℕ) → 0 < times place state.line → new place ≡ line_of row place = λ place there. same place (line-inside place there) in
      let holds : (place : ℕ) (stage : Stage) → IsHolding needs (line_of row) place state.count state.line s.cut stage
      → IsHolding needs new place state.count state.line s.cut stage =
      λ place stage. holding-frame (line_of row) new state.count state.count state.line state.line [] (omega arith)
      (sym (append-nil state.line)) in_line needs place s.cut stage refl in
      let owns : (other : ℕ) → IsOwn (new other) (standing other).stage = λ other. elim (cases_lt other places) [
        | inl inside ↦ subst (λ (w : LineWord). IsOwn w (standing other).stage) (sym (same other inside)) (s.stages.own other)
        | inr beyond ↦ own-free (new other) (standing other).stage (s.seats.beyond other beyond)
      ] in
      let main : updated row (places + at) number 0 ≡ row 0 = row-other row (places + at) number 0 (λ is. absurd (omega (arith, is, some))) in
      record {
        holder = s.holder;
        cut = s.cut;
        uncut = s.uncut;
        unshown = unshown;
        answer_value = s.answer_value;
        free = s.free;
        main = rw main (record {
          whole = s.main.whole;
          count = s.main.count;
          tail = s.main.tail;
          flag = s.main.flag;
          poison = s.main.poison;
          barren = s.main.barren;
          bounded = s.main.bounded;
          closed = s.main.closed;
          settled = s.main.settled;
        });
        line = line-kept (line_of row) new state.line s.cut s.uncut s.line in_line;
        seats = seats;
        answers = answers;
        grants = grants;
        stages = stages-next needs (line_of row) new standing state.count state.count state.line state.line s.cut s.cut s.holder s.holder s.unshown unshown
            s.answer_value s.answer_value me place s.stages ranged alone apart (own (new me)) showing (holder ∙ s.stages.one me)
            (λ it. holds me place.stage (holding it))
            (λ other differs out. out) (λ other differs. owns other) shows (λ other differs. refl) (λ other differs. refl)
            (λ other differs it. holds other (standing other).stage (s.stages.holding other it));
      }

  -- what is so once a place goes on at a stage, whatever that is, of which the premises say what is so
  abbrev pub AtAny : ℕ → List (ℕ × ℕ) → (Place → Type 0) → Type 0
  AtAny me before P =
      (stage : Stage) → joins_line stage ≡ false → IsRanged needs stage → IsLocallyTrue needs (standing me).registration (standing me).back stage
      → (gives_up (standing me).back stage ≡ true → is_in me state.line ≡ false) → ((word : LineWord) → IsOwn word stage) → IsShowing before (s.answer_value me) stage
      → is_holder stage ≡ is_holder (standing me).stage
      → (s.holder ≡ me + 1 → IsHolding needs (line_of row) me state.count state.line s.cut stage) → P (record (standing me) { stage = stage })

-- The line word of the newest that isn't shown is looked at
pub step-ShowLoad : (current value : ℕ) (afterwards : AfterShow) → IsStep (ShowLoad current value afterwards)
step-ShowLoad current value afterwards needs lawful wide places row standing state me room s at =
    let known = at-stage needs places row standing state me s _ at in
    let stage : Stage = ShowLoad current value afterwards in
    let split = split-last (s.unshown me) known.showing.1 in
    let link : current ≡ split.last.0 + 1 = sym known.showing.0 ∙ ap (newest 0) split.is ∙ newest-last 0 split.before split.last in
    let there : 0 < times split.last.0 (s.unshown me) =
    omega (arith, ap (λ (l : List (ℕ × ℕ)). times split.last.0 l) split.is, times-append split.last.0 split.before (split.last ∷ []), one_if-same split.last.0) in
    let links = behind-rest (line_of row) 0 split.before (split.last ∷ []) (subst (λ (l : List (ℕ × ℕ)). IsBehind (line_of row) 0 l) split.is (s.grants.links me)) in
    let older : (line_word_of (row current)).older ≡ newest 0 split.before = ap (λ (n : ℕ). (line_word_of (row n)).older) link ∙ links.1 in
    let next : ℕ = (line_word_of (row current)).older in
    silent refl (omega (arith, link, granted-inside needs places row standing state s me split.last.0 (in-some split.last.0 (s.unshown me) there)))
    (loaded needs places row _ state current
    (moved needs places row standing state me s (record (standing me) { stage = ShowStore current next value afterwards }) (λ out. refl) refl
    (grind (arith, known.ranged)) known.alone known.apart tt (split.before, split.last, split.is, link, older, known.showing.2)
    (ap is_holder (sym at)) (λ it. grind (arith, known.holding it))))

-- The newest of the answers that aren't shown is shown
pub step-ShowStore : (current next value : ℕ) (afterwards : AfterShow) → IsStep (ShowStore current next value afterwards)
step-ShowStore current next value afterwards needs lawful wide places row standing state me room s at =
    let known = at-stage needs places row standing state me s _ at in
    let stage : Stage = ShowStore current next value afterwards in
    let before : List (ℕ × ℕ) = known.showing.0 in
    let asker : ℕ × ℕ = known.showing.1 in
    let mine : is_in asker.0 (s.unshown me) ≡ true =
    in-some asker.0 (s.unshown me) (omega (arith, ap (λ (l : List (ℕ × ℕ)). times asker.0 l) known.showing.2, times-append asker.0 before (asker ∷ []), one_if-same asker.0)) in
    let granted : state.granted asker.0 ≡ Some (s.answer_value me) = (s.grants.granted_to me asker.0 mine).1 in
    let last : AbstractState = record state { granted = with_answer asker.0 None state.granted; answered = with_answer asker.0 (state.granted asker.0) state.answered } in
    let row_is : updated row (places + current) (answer_number (Some value)) ≡ updated row (places + (asker.0 + 1)) (answer_number (Some (s.answer_value me))) =
    ap (λ (n : ℕ). updated row (places + n) (answer_number (Some value))) known.showing.3
    ∙ ap (λ (n : ℕ). updated row (places + (asker.0 + 1)) (answer_number (Some n))) known.showing.5 in
    let empty : next == 0 ≡ is_empty before = ap (λ (n : ℕ). n == 0) known.showing.4 ∙ newest-empty before in
    let nothing : next == 0 ≡ true → before ≡ [] = λ done. empty-nil before (sym empty ∙ done) in
    let Stands : Place → Type 0 = λ p. Invariant needs places (updated row (places + current) (answer_number (Some value))) (updated standing me p) last in
    let then_stands : AtAny needs places row standing state s me before Stands =
    λ goes never ranged alone apart own showing holder holding.
    subst (λ (r : ℕ → ℕ). Invariant needs places r (updated standing me (record (standing me) { stage = goes })) last) (sym row_is)
    (written needs places row standing state s (asker.0 + 1) (answer_number (Some (s.answer_value me))) last.granted last.answered (updated s.unshown me before) me
    (record (standing me) { stage = goes }) (omega arith)
    (seats-next places standing state last me (record (standing me) { stage = goes }) s.seats (λ out. never) refl
    (λ other. grind (arith, nat_tests, s.seats.held other, granted, one_if-le (is_slot (standing other).registration))))
    (rw granted (answers-written places row state.answered asker.0 (Some (s.answer_value me))
    (λ value is. let same : s.answer_value me ≡ value = cc in omega (arith, same, s.grants.small me)) s.answers))
    (grants-shown needs places row standing state s me before asker (answer_number (Some (s.answer_value me))) known.showing.2)
    (λ other differs. updated-other s.unshown me before other (number_other other me differs))
    ranged alone apart own (rw (number_same me) showing) holder holding) in
    record {
      events = Showed asker.0 ∷ [];
      last = last;
      run = ((ap is_some granted, (s.grants.granted_to me asker.0 mine).0), refl);
      names = refl;
      inside = omega (arith, known.showing.3, granted-inside needs places row standing state s me asker.0 mine);
      invariant =
          either (λ (n : Next). Stands (place_after (standing me) n)) (next == 0) _ _
          (λ done. at-end needs places row standing state me s current next value afterwards before (nothing done) known at Stands then_stands)
          (λ more. then_stands (ShowLoad next value afterwards) refl (grind (arith, known.ranged)) known.alone known.apart (λ word. tt)
          (sym known.showing.4, sym empty ∙ more, known.showing.5) (ap is_holder (sym at)) (λ it. grind (arith, known.holding it)));
    }
  where
    at-end : (needs : Needs) (places : ℕ) (row : ℕ → ℕ) (standing : ℕ → Place) (state : AbstractState) (me : ℕ) (s : Invariant needs places row standing state)
        (current next value : ℕ) (afterwards : AfterShow) (before : List (ℕ × ℕ)) → before ≡ []
        → IsAtStage needs places row standing state me s (ShowStore current next value afterwards) → (standing me).stage ≡ ShowStore current next value afterwards
        → (P : Place → Type 0) → AtAny needs places row standing state s me before P → P (place_after (standing me) (shown_all (standing me) afterwards))
    at-end needs places row standing state me s current next value Ends before nothing known at P goes =
        let back : AfterWalk = (standing me).back in
        subst P (sym (ended (standing me) back))
        (goes (end_stage back) (ended-joins back) (ended-ranged needs back) (ended-alone needs (standing me).registration back known.alone)
        (λ gives. known.apart (sym (ended-apart back) ∙ gives)) (λ word. ended-own word back) (ended-showing before (s.answer_value me) back nothing)
        (ended-holder back ∙ ap is_holder (sym at)) (λ it. absurd (known.holding it)))
    at-end needs places row standing state me s current next value (Again seen) before nothing known at P goes =
        goes (BackLoad seen seen.tail 0) refl known.ranged known.alone known.apart (λ word. tt) nothing (ap is_holder (sym at))
        (λ it.
        let h = known.holding it in
        let work : Work state.count state.line seen = h.0 in
        let tail : seen.tail ≡ newest 0 work.behind = work.tail ∙ ap (λ (l : List (ℕ × ℕ)). newest 0 (l ++ work.behind)) h.2 in
        let now : Work state.count state.line seen = record {
          front = work.behind;
          behind = [];
          joined = work.joined;
          parts = work.parts ∙ ap (λ (l : List (ℕ × ℕ)). l ++ (work.behind ++ work.joined)) h.2;
          tail = tail ∙ ap (newest 0) (sym (append-nil work.behind));
          count = work.count;
        } in
        (now, h.1, (tail, h.3, refl, tt)))

-- an answer word is read as the answer that it shows
pub answer-again : (answer : Option ℕ) → ((value : ℕ) → answer ≡ Some value → value < 256) → answer_of (answer_number answer % 65536) ≡ answer
answer-again answer small = let read = answer-read answer small in grind (arith, read, small)

-- An answer is taken, whatever the place does next
taken : (needs : Needs) (places : ℕ) (row : ℕ → ℕ) (standing : ℕ → Place) (state : AbstractState) (me value : ℕ)
    → me < places → (s : Invariant needs places row standing state) → is_slot (standing me).registration ≡ true → is_holder (standing me).stage ≡ false
    → state.answered me ≡ Some value
    → (place : Place) → is_slot place.registration ≡ false → IsRanged needs place.stage → IsLocallyTrue needs place.registration place.back place.stage
    → gives_up place.back place.stage ≡ false → ((word : LineWord) → IsOwn word place.stage) → IsShowing (s.unshown me) (s.answer_value me) place.stage
    → is_holder place.stage ≡ false
    → Invariant needs places (updated row (places + me + 1) 0) (updated standing me place) (record state { answered = with_answer me None state.answered })
taken needs places row standing state me value here s slot none is place idle ranged alone apart own showing free =
    let index : places + (me + 1) ≡ places + me + 1 = omega arith in
    let last : AbstractState = record state { answered = with_answer me None state.answered } in
    subst (λ (n : ℕ). Invariant needs places (updated row n 0) (updated standing me place) last) index
    (written needs places row standing state s (me + 1) 0 state.granted (with_answer me None state.answered) s.unshown me place (omega arith)
    (seats-by places standing state last me place s.seats (λ other. grind (arith, nat_tests, s.seats.held other, slot, is, idle))
    (λ slot. here) (λ out. absurd (omega (arith, out, here))))
    (answers-written places row state.answered me None (λ value is. absurd (cc)) s.answers)
    (grants-kept (line_of row) (line_of (updated row (places + (me + 1)) 0)) state.granted state.granter s.unshown s.answer_value s.grants
    (λ other one there. line-answer row places (me + 1) 0 one
    (granted-inside needs places row standing state s other one (in-some one (s.unshown other) there)) (omega arith)))
    (λ other differs. refl) ranged alone (λ gives. let wrong : true ≡ false = sym gives ∙ apart in absurd (cc)) own showing (free ∙ sym none)
    (λ it. absurd (not-holder needs places row standing state me s none it)))

-- a place that is held and has no answer to take is in the line, or its answer is to be shown
pub held-else : (state : AbstractState) (me : ℕ) → held_by me state ≡ 1 → state.answered me ≡ None → (is_in me state.line || is_some (state.granted me)) ≡ true
held-else state me held none = grind (arith, held, none, waits-none me state.line)

-- who takes its answer is registered in the line
pub take-slot : (needs : Needs) (registration : Registration) (back : AfterWalk) (taking : PollMode) → IsLocallyTrue needs registration back (Take taking)
    → is_slot registration ≡ true
take-slot needs registration back taking alone = grind (arith, alone)

-- the step of a place that takes its answer, by the answer that it is shown
takes : (needs : Needs) (places : ℕ) (row : ℕ → ℕ) (standing : ℕ → Place) (state : AbstractState) (me : ℕ)
    → me < places → (s : Invariant needs places row standing state) → is_slot (standing me).registration ≡ true → is_holder (standing me).stage ≡ false
    → s.unshown me ≡ [] → (taking : PollMode) (answer : Option ℕ) → state.answered me ≡ answer → row (places + me + 1) ≡ answer_number answer
    → Outcome needs places (updated row (places + me + 1) 0) standing state me (taken_answer needs (standing me) taking answer) (taken_events taking answer)
takes needs places row standing state me here s slot none nothing (Gives request) (Some value) is number = record {
  events = AnswerTaken value ∷ [];
  last = record state { answered = with_answer me None state.answered };
  run = (is, refl);
  names = refl;
  invariant =
      let drops : Place = record (standing me) { registration = Idle; stage = ReleaseLoad (Requested request); back = EndsCall } in
      let quiet : Place = record (standing me) { registration = Idle; stage = Quiet } in
      either (λ (n : Next).
      Invariant needs places (updated row (places + me + 1) 0) (updated standing me (place_after (standing me) n)) (record state { answered = with_answer me None state.answered }))
      (value == granted_value && not (needs.takes request == 0)) (Going drops) (Done quiet Ended)
      (λ up. taken needs places row standing state me value here s slot none is drops refl tt refl refl (λ word. tt) nothing refl)
      (λ free. taken needs places row standing state me value here s slot none is quiet refl tt tt refl (λ word. tt) nothing refl);
}
takes needs places row standing state me here s slot none nothing Tries None is number = record {
  events = NotReady ∷ [];
  last = state;
  run = (held-else state me (s.seats.held me ∙ ap one_if slot) is, refl);
  names = refl;
  invariant =
      rw (updated-same row (places + me + 1) 0 (sym number)) (rests needs places row standing state me s (standing me).registration refl none nothing);
}
takes needs places row standing state me here s slot none nothing _ (Some value) is number = record {
  events = AnswerTaken value ∷ [];
  last = record state { answered = with_answer me None state.answered };
  run = (is, refl);
  names = refl;
  invariant = taken needs places row standing state me value here s slot none is (record (standing me) { registration = Idle; stage = Quiet })
      refl tt tt refl (λ word. tt) nothing refl;
}
takes needs places row standing state me here s slot none nothing _ None is number =
    unseen (rw (updated-same row (places + me + 1) 0 (sym number), updated-same standing me (standing me) refl) s)

-- A place takes its answer, or finds none
pub step-Take : (taking : PollMode) → IsOwnStep (Take taking)
step-Take taking needs lawful wide places row standing state me room here s at =
    let known = at-stage needs places row standing state me s _ at in
    let slot : is_slot (standing me).registration ≡ true = take-slot needs (standing me).registration (standing me).back taking known.alone in
    let number : row (places + me + 1) ≡ answer_number (state.answered me) = s.answers.words me here in
    let answer_is : answer_of (row (places + me + 1) % 65536) ≡ state.answered me =
    ap (λ (n : ℕ). answer_of (n % 65536)) number ∙ answer-again (state.answered me) (s.answers.small me) in
    let out = takes needs places row standing state me here s slot (ap is_holder at) known.showing taking (state.answered me) refl number in
    record {
      events = out.events;
      last = out.last;
      run = out.run;
      names = rw answer_is out.names;
      inside = omega (arith, here);
      invariant = rw answer_is out.invariant;
    }

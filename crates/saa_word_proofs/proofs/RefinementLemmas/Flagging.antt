-- Steps that set the flag, or find that they need not: those of a cancel, which looks for itself in the line from then on, and of a release.
use Rattle.std.proofs.Common.{◌≡◌, ℕ, ◌+◌, ◌<◌, Bool, true, false, not, [], ◌==◌, if◌then◌else◌, refl, sym, ap, subst, ◌∙◌, arith, inl, inr, pred, List, ◌∷◌, ◌++◌, append-nil, append_assoc, ◌≤◌, ◌&&◌, ◌||◌, Option, Some, None}
use Rattle.std.proofs.lemmas.Bool.{cases_Bool}
use Rattle.std.proofs.lemmas.Bool.Decides.{nat_tests}
use Rattle.saa_core_spec.proofs.Counts.{number_same, same_number}
use Rattle.saa_core_words.specs.declared.word.Word.{Word}
use Rattle.saa_core_words.specs.Words.{count_bits, word_number, line_number, line_word_of}
use Rattle.saa_core_words.specs.declared.line_word.LineWord.{LineWord}
use Rattle.saa_word_steps.specs.declared.place.Place.{Place}
use Rattle.saa_word_steps.specs.declared.place.AfterWalk.{AfterWalk}
use Rattle.saa_word_steps.specs.declared.place.Stage.TheVariants.{FlagLoad, FlagExchange, LookLoad, Forward, LookStore, Unlink, DropTail, Quiet, ReleaseLoad, ReleaseExchange, BackLoad}
use Rattle.saa_word_steps.specs.Needs.{Needs, forgets}
use Rattle.saa_word_steps.specs.AbstractState.{AbstractState, is_empty, is_in, IsEnabled, after_event, IsSettledAt}
use Rattle.saa_word_steps.specs.Steps.{flagged_word, flagging, no_line, left_from, gave_nothing, given_to, released}
use Rattle.saa_word_steps.specs.declared.place.ReleaseAmount.{ReleaseAmount}
use Rattle.saa_word_steps.specs.declared.place.ReleaseAmount.TheVariants.{Requested, AllButAShare}
use Rattle.saa_word_steps.specs.declared.place.Stage.{Stage}
use Rattle.saa_word_steps.proofs.Giving.{calm-loose, kept-shut, left-share, left-shrinks}
use Rattle.saa_word_proofs.specs.Refinement.{newest, is_holder, IsLeaving, Invariant, Work, IsAdded, IsPassed, IsFound, takes_back}
use Rattle.saa_word_proofs.specs.Rows.{line_of, main_of, updated, IsBehind}
use Rattle.saa_word_proofs.specs.StepRefinement.{gave, gave_not, left_events, place_after}
use Rattle.saa_word_proofs.proofs.RefinementLemmas.Lists.{updated-same, newest-empty, front-none, in-append, oldest-empty, split-last, newest-last, empty-nil, behind-rest, front-some}
use Rattle.saa_word_proofs.proofs.RefinementLemmas.Frames.{whole-work, newest-stands, work-front}
use Rattle.saa_word_proofs.proofs.RefinementLemmas.Rows.{either, IsOwnStep, at-stage, moved, main-found, count-small, tail-small, loaded, IsStep}
use Rattle.saa_word_proofs.proofs.RefinementLemmas.Holders.{main-now}
use Rattle.saa_word_proofs.proofs.RefinementLemmas.Outcomes.{exchanged, silent, unseen, Outcome, not-holder, only-looked, rests}
use Rattle.saa_word_proofs.proofs.RefinementLemmas.Ending.{end_stage, ended, ended-ranged, ended-alone, ended-own, ended-showing, ended-holder, ended-apart, ended-joins, returning-any}
use Rattle.saa_word_proofs.proofs.RefinementLemmas.Linking.{in-line, relinked, linked-all}
use Rattle.saa_word_proofs.proofs.RefinementLemmas.Storing.{stored}

-- A cancel that is decided by the main word as it stands: by its flag, and by whether nobody waits
flagging-outcome : (needs : Needs) (places : ℕ) (row : ℕ → ℕ) (standing : ℕ → Place) (state : AbstractState) (me : ℕ)
    → me < places → (s : Invariant needs places row standing state) → is_holder (standing me).stage ≡ false → s.unshown me ≡ []
    → IsLeaving (standing me).registration (standing me).back
    → Outcome needs places row standing state me (flagging (standing me) (main_of row)) []
flagging-outcome needs places row standing state me here s none nothing leaving =
    let back : AfterWalk = (standing me).back in
    let goes = either (λ next. Outcome needs places row standing state me next []) in
    let invariant = λ (place : Place). moved needs places row standing state me s place (λ out. absurd (omega (arith, out, here))) in
    let no_holder : s.holder ≡ me + 1 → ⊥ = not-holder needs places row standing state me s none in
    goes (main_of row).is_flagged _ _
    (λ set. unseen (subst (λ (p : ℕ → Place). Invariant needs places row p state) (sym (updated-same standing me (standing me) refl)) s))
    (λ clear. goes ((main_of row).tail == 0) _ _
    (λ nobody. unseen (subst (λ (p : Place). Invariant needs places row (updated standing me p) state) (sym (ended (standing me) back))
    (invariant (record (standing me) { stage = end_stage back }) refl (ended-ranged needs back)
    (ended-alone needs (standing me).registration back (grind (arith, leaving)))
    (λ gives. ap (is_in me) (front-none state.line _ s.main.tail nobody)) (ended-own (line_of row me) back)
    (ended-showing (s.unshown me) (s.answer_value me) back nothing) (ended-holder back ∙ sym none) (λ it. absurd (no_holder it)))))
    (λ some. unseen (invariant (record (standing me) { stage = FlagExchange (main_of row) }) refl (count-small (row 0)) (leaving, tail-small (row 0), some, clear)
    (λ gives. absurd (cc)) tt nothing (sym none) (λ it. absurd (no_holder it)))))

-- The main word is loaded: the cancel waits, is done with the line, or is to set the flag
pub step-FlagLoad : IsOwnStep FlagLoad
step-FlagLoad needs lawful wide places row standing state me room here s at =
    let known = at-stage needs places row standing state me s _ at in
    let out = flagging-outcome needs places row standing state me here s (ap is_holder at) known.showing known.alone in
    only-looked needs places row standing state me FlagLoad out refl refl refl refl

-- a mark whose opposite is false is true
pub not-true : (mark : Bool) → not mark ≡ false → mark ≡ true
not-true mark is = grind (arith, is)

-- The flag is set where somebody waits and nobody holds it: this place holds it, and looks for itself from the tail. Or the main word is another
-- one by now, and decides as where it is loaded
pub step-FlagExchange : (seen : Word) → IsOwnStep (FlagExchange seen)
step-FlagExchange seen needs lawful wide places row standing state me room here s at =
    let known = at-stage needs places row standing state me s _ at in
    elim (cases_Bool (row 0 == word_number count_bits seen)) [
      | inl same ↦
          let is : main_of row ≡ seen = main-found (row 0) seen known.ranged known.alone.1 same in
          let somebody : ((main_of row).tail == 0) ≡ false = ap (λ (w : Word). w.tail == 0) is ∙ known.alone.2 in
          let nobody : s.holder == 0 ≡ true = grind (arith, s.main.flag, is, known.alone.3) in
          let word : Word = flagged_word (main_of row) in
          silent refl (omega arith) (rw (same, ← is)
          (exchanged needs places row standing state me s (word_number count_bits word) state.count state.unclosed state.poisoned (me + 1)
          (record (standing me) { stage = LookLoad word word.tail 0 no_line }) (λ out. absurd (omega (arith, out, here))) refl (count-small (row 0))
          known.alone.0 refl tt known.showing (sym (number_same (me + 1)))
          (λ it. (
            whole-work state.count state.line word s.main.tail (omega (arith, s.main.count)),
            s.free nobody,
            (s.main.tail, front-some state.line _ s.main.tail somebody, refl, tt),
            (refl, refl),
            (λ there. absurd (cc)),
          ))
          (λ other apart. grind (arith, nat_tests, nobody, apart)) (λ other it. omega arith) (λ free. grind (arith, nat_tests, free))
          (main-now needs state (me + 1) word (count-small (row 0)) (tail-small (row 0)) s.main.count s.main.tail (grind (arith, nat_tests)) s.main.poison
          s.main.barren s.main.bounded (λ free. grind (arith, nat_tests, free)) s.main.settled)))
      | inr differs ↦
          let out = flagging-outcome needs places row standing state me here s (ap is_holder at) known.showing known.alone.0 in
          only-looked needs places row standing state me (FlagExchange seen) out refl (rw differs refl) (rw differs refl) refl
    ]

-- The line word of the last of the front is loaded: it is the own one, or is to be linked to those behind it
pub step-LookLoad : (seen : Word) (current newer : ℕ) (previous : LineWord) → IsOwnStep (LookLoad seen current newer previous)
step-LookLoad seen current newer previous needs lawful wide places row standing state me room here s at =
    let known = at-stage needs places row standing state me s _ at in
    let knows = known.holding (known.mine refl) in
    let work : Work state.count state.line seen = knows.0 in
    let there = newest-stands work.front current knows.2.1 knows.2.0 in
    let seat = in-line places standing state (pred current) s.seats (work-front state.count state.line seen work (pred current) there.0) in
    let line : LineWord = line_word_of (row current) in
    let goes = λ (next : Stage). moved needs places row standing state me s (record (standing me) { stage = next })
    (λ out. absurd (omega (arith, out, here))) refl in
    silent refl (omega (arith, there.1, seat.0)) (elim (cases_Bool (current == me + 1)) [
      | inl own ↦
          -- the holder finds itself as the last of the front, and its line word names the place before it
          let split = split-last work.front knows.2.1 in
          let parts : state.line ≡ split.before ++ (split.last ∷ (work.behind ++ work.joined)) =
          work.parts ∙ ap (λ l. l ++ (work.behind ++ work.joined)) split.is ∙ append_assoc split.before (split.last ∷ []) (work.behind ++ work.joined) in
          let link : current ≡ split.last.0 + 1 = knows.2.0 ∙ ap (newest 0) split.is ∙ newest-last 0 split.before split.last in
          let mine : split.last.0 ≡ me = omega (arith, link, same_number current (me + 1) own) in
          let linked = linked-all (line_of row) state.line s.cut s.uncut s.line knows.1 in
          let whole = behind-rest (line_of row) 0 split.before (split.last ∷ (work.behind ++ work.joined))
          (subst (λ l. IsBehind (line_of row) 0 l) parts linked) in
          let is : IsFound me work.front line.older = (
            split.before,
            split.last.1,
            split.is ∙ ap (λ n. split.before ++ (n, split.last.1) ∷ []) mine,
            ap (λ n. (line_word_of (row n)).older) link ∙ whole.1,
          ) in
          elim (cases_Bool (newer == 0)) [
            | inl last ↦
                let none = empty-nil work.behind (sym (oldest-empty work.behind) ∙ ap (λ (n : ℕ). n == 0) (sym knows.2.2) ∙ last) in
                let tail = work.tail ∙ ap (λ (l : List (ℕ × ℕ)). newest 0 (work.front ++ l)) none ∙ ap (newest 0) (append-nil work.front) ∙ sym knows.2.0 in
                rw (own, last) (loaded needs places row _ state current (goes (DropTail seen line.older) known.ranged
                (known.alone, omega (arith, tail, link, mine, here, room)) (λ gives. absurd (cc)) tt known.showing (ap is_holder (sym at))
                (λ it. (work, knows.1, is, none))))
            | inr more ↦
                let some : is_empty work.behind ≡ false = sym (oldest-empty work.behind) ∙ ap (λ (n : ℕ). n == 0) (sym knows.2.2) ∙ more in
                rw (own, more) (loaded needs places row _ state current
                (goes (Unlink seen newer previous line.older) known.ranged known.alone (λ gives. absurd (cc))
                tt known.showing (ap is_holder (sym at)) (λ it. (work, knows.1, is, (knows.2.2, some, knows.2.3), knows.4 some))))
          ]
      | inr other ↦
          rw other (loaded needs places row _ state current (goes (LookStore seen current newer line) known.ranged known.alone (λ gives. absurd (cc))
          tt known.showing (ap is_holder (sym at)) (λ it. (work, knows.1, knows.2, knows.3, ap (λ (n : ℕ). line_word_of (row n)) there.1, other))))
    ])

-- It is written with the link to the one behind it; the look goes on to the one before, or the whole line is passed
pub step-LookStore : (seen : Word) (current newer : ℕ) (line : LineWord) → IsOwnStep (LookStore seen current newer line)
step-LookStore seen current newer line needs lawful wide places row standing state me room here s at =
    let known = at-stage needs places row standing state me s _ at in
    let knows = known.holding (known.mine refl) in
    let flag = known.mine refl in
    let store = stored needs places row standing state s seen current newer line knows.0 room knows.1 knows.2 knows.4 in
    let work : Work state.count state.line seen = store.walk.work in
    let passed : IsPassed me work.behind work.joined = store.walk.passed me knows.5 knows.3 in
    let number : ℕ = line_number (record line { newer = newer }) in
    let goes = λ (next : Stage).
    relinked needs places row standing state me s next current (pred current) number s.cut s.uncut store.link (λ out. absurd (omega (arith, out, here)))
    flag store.waits store.linked in
    silent refl (omega (arith, store.link, store.inside)) (elim (cases_Bool (line.older == 0)) [
      | inl none ↦
          let nobody : work.front ≡ [] = front-none work.front _ store.walk.before none in
          rw none (goes (Forward seen current seen.count) (known.ranged, known.ranged) (grind (arith, known.alone))
          (λ gives. grind (arith, work.parts, nobody, passed, in-append me work.behind work.joined)) tt known.showing refl
          (work, knows.1, subst (λ l. IsAdded needs seen l seen.count) (sym nobody) (tt, omega arith), store.walk.behind))
      | inr some ↦
          let somebody : is_empty work.front ≡ false = front-some work.front _ store.walk.before some in
          rw some (goes (LookLoad seen line.older current (record line { newer = newer })) known.ranged known.alone (λ gives. absurd (cc)) tt known.showing refl
          (work, knows.1, (store.walk.before, somebody, store.walk.behind.0, store.walk.behind.2), passed, (λ there. sym store.written)))
    ])

-- What a place gives back, and whether it has it

-- that it isn't held is enabled where it isn't
nothing-enabled : (needs : Needs) (state : AbstractState) (me : ℕ) (what : ReleaseAmount) → (forgets needs state.poisoned ≡ false → left_from needs state.count what ≡ None)
    → IsEnabled needs state me (gave_not what)
nothing-enabled needs state me (Requested request) none = none
nothing-enabled needs state me AllButAShare none = λ owned. grind (arith, owned, none (calm-loose needs state.poisoned owned.0))

-- what is left is the count behind its event
gave-run : (needs : Needs) (state : AbstractState) (me : ℕ) (what : ReleaseAmount) (left : ℕ) → forgets needs state.poisoned ≡ false
    → left_from needs state.count what ≡ Some left → IsEnabled needs state me (gave what)
    × (after_event needs state me (gave what) ≡ record state { count = left; unclosed = not (is_empty state.line) || state.unclosed })
gave-run needs state me (Requested request) left loose is = ((loose, (left, is)), grind (arith, is))
gave-run needs state me AllButAShare left loose is =
    let share = left-share needs state.count left is in ((grind (arith, share, loose), share.1.0, share.1.1), grind (arith, is))

module _ (needs : Needs) (places : ℕ) (row : ℕ → ℕ) (standing : ℕ → Place) (state : AbstractState) (me : ℕ) (s : Invariant needs places row standing state)
    (none : is_holder (standing me).stage ≡ false) (nothing : s.unshown me ≡ []) where
  -- A release of what isn't held, or of a poisoned lock
  nothing-outcome : (what : ReleaseAmount) → (forgets needs state.poisoned ≡ false → left_from needs state.count what ≡ None)
      → Outcome needs places row standing state me (gave_nothing (standing me) (standing me).back) (gave_not what ∷ [])
  nothing-outcome what gone = record {
    events = gave_not what ∷ [];
    last = state;
    run = (nothing-enabled needs state me what gone, grind arith);
    names = grind arith;
    invariant =
        let quiet : place_after (standing me) (gave_nothing (standing me) (standing me).back) ≡ record (standing me) { stage = Quiet } = grind arith in
        rw quiet (rests needs places row standing state me s (standing me).registration refl none nothing);
  }

  -- A release that is decided by the main word as it stands
  given-outcome : takes_back (standing me).back ≡ false → (what : ReleaseAmount) (poisoned : Bool) (left : Option ℕ)
      → forgets needs (main_of row).is_poisoned ≡ poisoned → left_from needs (main_of row).count what ≡ left
      → Outcome needs places row standing state me
      (if poisoned then gave_nothing (standing me) (standing me).back else given_to (standing me) what (main_of row) left)
      (if poisoned then gave_not what ∷ [] else left_events what left)
  given-outcome ends what true left mark is = nothing-outcome what (λ loose. grind (arith, mark, s.main.poison, loose))
  given-outcome ends what false None mark is = nothing-outcome what (λ calm. ap (λ (n : ℕ). left_from needs n what) (sym s.main.count) ∙ is)
  given-outcome ends what false (Some left) mark is =
      unseen (moved needs places row standing state me s (record (standing me) { stage = ReleaseExchange what (main_of row) }) (λ out. refl) refl
      (count-small (row 0)) (tail-small (row 0), (left, is), mark, ends) (λ gives. absurd (cc)) tt nothing (sym none)
      (λ it. absurd (not-holder needs places row standing state me s none it)))

-- A call that is to give back looks at the main word
pub step-ReleaseLoad : (what : ReleaseAmount) → IsStep (ReleaseLoad what)
step-ReleaseLoad what needs lawful wide places row standing state me room s at =
    let known = at-stage needs places row standing state me s _ at in
    let out = given-outcome needs places row standing state me s (ap is_holder at) known.showing known.alone what _ _ refl refl in
    only-looked needs places row standing state me (ReleaseLoad what) out refl refl refl refl

-- A call that gives back lowers the count, and works on the line where there are waiters and nobody works on it
pub step-ReleaseExchange : (what : ReleaseAmount) (seen : Word) → IsStep (ReleaseExchange what seen)
step-ReleaseExchange what seen needs lawful wide places row standing state me room s at =
    let known = at-stage needs places row standing state me s _ at in
    let back : AfterWalk = (standing me).back in
    let returning = returning-any (standing me).registration back known.alone.3 in
    let none : is_holder (standing me).stage ≡ false = ap is_holder at in
    let left : ℕ = known.alone.1.0 in
    elim (cases_Bool (row 0 == word_number count_bits seen)) [
      | inl same ↦
          let is : main_of row ≡ seen = main-found (row 0) seen known.ranged known.alone.0 same in
          let counted : (seen.count ≡ state.count) × (seen.is_poisoned ≡ state.poisoned) = rw (← is) (s.main.count, s.main.poison) in
          let linked : (seen.tail ≡ newest 0 state.line) × (seen.is_flagged ≡ not (s.holder == 0)) = rw (← is) (s.main.tail, s.main.flag) in
          let empty : seen.tail == 0 ≡ is_empty state.line = ap (λ (n : ℕ). n == 0) linked.0 ∙ newest-empty state.line in
          let calm : forgets needs state.poisoned ≡ false = ap (forgets needs) (sym counted.1) ∙ known.alone.2 in
          let left_now : left_from needs state.count what ≡ Some left = ap (λ (n : ℕ). left_from needs n what) (sym counted.0) ∙ known.alone.1.1 in
          let less : left ≤ seen.count = left-shrinks needs lawful seen.count what left known.alone.1.1 in
          let word : Word = released needs seen what in
          let word_count : word.count ≡ left = rw known.alone.1.1 refl in
          let after : AbstractState = record state { count = left; unclosed = not (is_empty state.line) || state.unclosed } in
          -- the count falls; which place holds the flag afterwards, and what this place does then, is said by the premises
          let gives = λ (stage : Stage) (holder : ℕ).
          exchanged needs places row standing state me s (word_number count_bits word) left after.unclosed state.poisoned holder
          (record (standing me) { stage = stage }) in
          let main = λ (holder : ℕ) (flag : word.is_flagged ≡ not (holder == 0))
          (nobody : (holder == 0) ≡ true → (is_empty state.line ≡ true) × (s.holder == 0 ≡ true)).
          main-now needs after holder word (omega (arith, word_count, less, counted.0, s.main.bounded, wide)) known.alone.0 word_count linked.0 flag counted.1
          (λ poisoned. (kept-shut needs left state.poisoned calm poisoned, (s.main.barren poisoned).1)) (omega (arith, less, counted.0, s.main.bounded))
          (λ free. rw (nobody free).0 (s.main.closed (nobody free).1))
          (λ closed. let none : [] ≡ state.line = grind (arith, closed) in subst (λ (l : List (ℕ × ℕ)). IsSettledAt needs left l) none tt) in
          record {
            events = gave what ∷ [];
            last = after;
            run = gave-run needs state me what left calm left_now;
            names = rw same (grind arith);
            inside = omega arith;
            invariant =
                elim (cases_Bool (not (seen.tail == 0) && not seen.is_flagged)) [
                  | inl takes ↦
                      let nobody : s.holder == 0 ≡ true = grind (arith, takes, linked.1) in
                      rw (same, takes) (gives (BackLoad word word.tail 0) (me + 1) (λ out. refl) refl (omega (arith, word_count, less, known.ranged)) returning
                      known.alone.3 tt known.showing (sym (number_same (me + 1)))
                      (λ it. (
                        whole-work left state.line word linked.0 (omega (arith, word_count)),
                        s.free nobody,
                        (linked.0, grind (arith, takes, empty), refl, tt),
                      )) (λ other apart. grind (arith, nat_tests, nobody, apart))
                      (λ other it. omega (arith, less, counted.0)) (λ free. nobody)
                      (main (me + 1) (grind (arith, nat_tests, takes)) (λ free. grind (arith, nat_tests, free))))
                  | inr ends ↦ rw (same, ends, ended (standing me) back)
                      (gives (end_stage back) s.holder (λ out. ended-joins back) refl (ended-ranged needs back)
                      (ended-alone needs (standing me).registration back returning) (ended-apart back ∙ known.alone.3) (ended-own (line_of row me) back)
                      (ended-showing (s.unshown me) (s.answer_value me) back known.showing) (ended-holder back ∙ sym none ∙ s.stages.one me)
                      (λ it. absurd (not-holder needs places row standing state me s none it)) (λ other apart. refl)
                      (λ other it. omega (arith, less, counted.0)) (λ free. free)
                      (main s.holder (grind (arith, ends, linked.1)) (λ free. (sym empty ∙ grind (arith, ends, linked.1, free), free))))
                ];
          }
      | inr differs ↦
          let out = given-outcome needs places row standing state me s none known.showing known.alone.3 what _ _ refl refl in
          only-looked needs places row standing state me (ReleaseExchange what seen) out refl (rw differs refl) (rw differs refl) (rw differs refl)
    ]

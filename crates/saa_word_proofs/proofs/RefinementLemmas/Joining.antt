-- Steps of a place that asks: it is answered by the main word as it stands, or has to write the count, its line word, the tail.
use Rattle.std.proofs.Common.{◌≤◌, ◌^◌, ◌≡◌, ℕ, ◌+◌, ◌<◌, Bool, true, false, List, [], ◌∷◌, ◌==◌, if◌then◌else◌, refl, sym, ap, ◌∙◌, arith, inl, inr, ◌++◌, is_some, subst, append-nil, append_assoc}
use Rattle.std.proofs.lemmas.Bool.{cases_Bool}
use Rattle.std.proofs.lemmas.Bool.Decides.{nat_tests}
use Rattle.saa_core_spec.specs.Values.{poisoned_value}
use Rattle.saa_core_spec.proofs.Counts.{same_number, number_other, one_if-same, times-append}
use Rattle.saa_core_spec.specs.Object.{one_if, times}
use Rattle.saa_core_words.specs.declared.word.Word.{Word}
use Rattle.saa_core_words.specs.Words.{count_bits, word_number, line_number, line_word_of}
use Rattle.saa_core_words.specs.declared.line_word.LineWord.{LineWord}
use Rattle.saa_core_words.proofs.Words.{line_word-read}
use Rattle.saa_word_steps.specs.declared.place.Place.{Place}
use Rattle.saa_word_steps.specs.declared.place.Ask.{Ask}
use Rattle.saa_word_steps.specs.declared.place.Reading.{Reading}
use Rattle.saa_word_steps.specs.declared.place.Registration.{Registration}
use Rattle.saa_word_steps.specs.declared.place.Registration.TheVariants.{AnsweredAtOnce, Queued}
use Rattle.saa_word_steps.specs.declared.call.Answer.{Answer}
use Rattle.saa_word_steps.specs.declared.place.Next.{Next}
use Rattle.saa_word_steps.specs.declared.place.Next.TheVariants.{Done}
use Rattle.saa_word_steps.specs.declared.place.Stage.TheVariants.{Quiet, ReadLoad, AcquireLoad, AcquireExchange, Prepare, Join}
use Rattle.saa_word_steps.specs.Needs.{Needs, fits_count}
use Rattle.saa_word_steps.specs.declared.event.Event.{Event}
use Rattle.saa_word_steps.specs.declared.event.Event.TheVariants.{AskedPoisoned, Acquired, Refused, Read, Joined}
use Rattle.saa_word_steps.specs.AbstractState.{AbstractState, IsRun, must_wait, is_empty, is_in, held_by, IsSettledAt}
use Rattle.saa_word_steps.specs.Steps.{decided, done}
use Rattle.saa_word_steps.proofs.AbstractRuns.{joined-settled}
use Rattle.saa_word_proofs.specs.Refinement.{joins_line, is_holder, waits_behind, Invariant, IsOwn, IsMain}
use Rattle.saa_word_proofs.specs.Rows.{main_of, updated, line_of}
use Rattle.saa_word_proofs.specs.Registering.{is_slot}
use Rattle.saa_word_proofs.specs.History.{named, of_place}
use Rattle.saa_word_proofs.specs.StepRefinement.{decided_events}
use Rattle.saa_word_proofs.proofs.RefinementLemmas.Lists.{newest-empty, front-none, each-updated, newest-append, newest-uncut, in-none, in-append, behind-append, in-some}
use Rattle.saa_word_proofs.proofs.RefinementLemmas.Rows.{either, IsStep, at-stage, moved, loaded, count-small, tail-small, IsOwnStep, main-found, line-main, line-at, line-other, row-other, seats-next, seats-by, line-kept, grants-kept, answers-kept}
use Rattle.saa_word_proofs.proofs.RefinementLemmas.Outcomes.{rests, unseen, not-holder, Outcome, only-looked, silent, exchanged}
use Rattle.saa_word_proofs.proofs.RefinementLemmas.Frames.{holding-frame, stages-next}
use Rattle.saa_word_proofs.proofs.RefinementLemmas.Holders.{some-behind, nobody-holds, main-now, never-barren}

-- a place that only reads answers by the main word as it stands
pub step-ReadLoad : (reading : Reading) → IsStep (ReadLoad reading)
step-ReadLoad reading needs lawful wide places row standing state me room s at =
    let known = at-stage needs places row standing state me s _ at in
    record {
      events = Read (main_of row).count (main_of row).is_poisoned ∷ [];
      last = state;
      run = ((sym s.main.count, sym s.main.poison), refl);
      names = refl;
      inside = omega arith;
      invariant = loaded needs places row (updated standing me (record (standing me) { stage = Quiet })) state 0
          (rests needs places row standing state me s (standing me).registration refl (ap is_holder at) known.showing);
    }

-- an ask has to wait exactly where it has to wait behind the main word
pub waits-same : (needs : Needs) (places : ℕ) (row : ℕ → ℕ) (standing : ℕ → Place) (state : AbstractState) (s : Invariant needs places row standing state) (request : ℕ)
    → waits_behind needs (main_of row) request ≡ must_wait needs state request
waits-same needs places row standing state s request =
    let empty : (main_of row).tail == 0 ≡ is_empty state.line = ap (λ (n : ℕ). n == 0) s.main.tail ∙ newest-empty state.line in rw (empty, s.main.count) refl

-- what is so of both ways that an ask goes on, with the events of each, is so of the one that it takes
goes-by : (P : Next → List Event → Type 0) (test : Bool) (one other : Next) (ones others : List Event) → (test ≡ true → P one ones)
    → (test ≡ false → P other others) → P (if test then one else other) (if test then ones else others)
goes-by P true one other ones others o t = o refl
goes-by P false one other ones others o t = t refl

-- An ask that is decided by the main word as it stands
decided-outcome : (needs : Needs) → needs.top < 2 ^ count_bits → (places : ℕ) (row : ℕ → ℕ) (standing : ℕ → Place) (state : AbstractState) (me : ℕ)
    → (s : Invariant needs places row standing state) → is_holder (standing me).stage ≡ false → s.unshown me ≡ []
    → (ask : Ask) → (places ≤ me → ask.joins ≡ false) → ask.request < 65536 → (ask.joins ≡ true → is_slot (standing me).registration ≡ false)
    → Outcome needs places row standing state me (decided needs (standing me) ask (main_of row)) (decided_events needs ask.request ask.joins (main_of row))
decided-outcome needs wide places row standing state me s none nothing ask unjoined small idle =
    let seen : Word = main_of row in
    let goes = goes-by (Outcome needs places row standing state me) in
    goes seen.is_poisoned _ _ _ _ (λ poisoned. at-once poisoned_value _ _ (AskedPoisoned ∷ []) (sym s.main.poison ∙ poisoned, refl) refl)
    (λ clean.
    let calm : state.poisoned ≡ false = sym s.main.poison ∙ clean in
    goes (waits_behind needs seen ask.request) _ _ _ _
    (λ waits. goes ask.joins _ _ _ _
    (λ joins. unseen (moved needs places row standing state me s (record (standing me) { stage = Prepare ask.request seen })
    (λ out. sym joins ∙ unjoined out) refl (count-small (row 0)) (small, idle joins, tail-small (row 0), waits, clean)
    (λ gives. absurd (cc)) tt nothing (sym none) (λ is. absurd (no_holder is))))
    (λ refused. resting (standing me).registration _ (Refused ask.request ∷ []) refl
    ((calm, sym (waits-same needs places row standing state s ask.request) ∙ waits), refl) refl))
    (λ free.
    let both : (seen.tail == 0 ≡ true) × (fits_count needs seen.count ask.request ≡ true) = (grind (arith, free), grind (arith, free)) in
    let fits : fits_count needs state.count ask.request ≡ true = ap (λ (n : ℕ). fits_count needs n ask.request) (sym s.main.count) ∙ both.1 in
    goes (needs.takes ask.request == 0) _ _ _ _
    (λ nothing_taken.
    let same = ap (λ (n : ℕ). record state { count = n }) (omega (arith, same_number (needs.takes ask.request) 0 nothing_taken)) in
    at-once 0 _ _ (Acquired ask.request ∷ []) ((calm, front-none state.line _ s.main.tail both.0, fits), same) refl)
    (λ takes. unseen (moved needs places row standing state me s (record (standing me) { stage = AcquireExchange ask seen }) unjoined refl
    (count-small (row 0), both.1) (small, idle, both.0, clean) (λ gives. absurd (cc)) tt nothing (sym none) (λ is. absurd (no_holder is))))))
  where
    no_holder : s.holder ≡ me + 1 → ⊥
    no_holder = not-holder needs places row standing state me s none

    resting : (registration : Registration) (answer : Answer) (events : List Event) → is_slot registration ≡ is_slot (standing me).registration
        → IsRun needs state (of_place me events) state → named events ≡ events
        → Outcome needs places row standing state me (Done (record (standing me) { registration = registration; stage = Quiet }) answer) events
    resting registration answer events same run names =
        record { events = events; last = state; run = run; names = names; invariant = rests needs places row standing state me s registration same none nothing }

    -- it is answered at once, whether it registers or tries
    at-once : (value : ℕ) (registers tries : Answer) (events : List Event) → IsRun needs state (of_place me events) state → named events ≡ events
        → Outcome needs places row standing state me (if ask.joins
        then Done (record (standing me) { registration = AnsweredAtOnce value ask.request; stage = Quiet }) registers
        else done (standing me) tries) events
    at-once value registers tries events run names =
        either (λ next. Outcome needs places row standing state me next events) ask.joins _ _
        (λ joins. resting (AnsweredAtOnce value ask.request) registers events (sym (idle joins)) run names)
        (λ tried. resting (standing me).registration tries events refl run names)

-- a place that asks loads the main word and is decided by it
pub step-AcquireLoad : (ask : Ask) → IsStep (AcquireLoad ask)
step-AcquireLoad ask needs lawful wide places row standing state me room s at =
    let known = at-stage needs places row standing state me s _ at in
    let out = decided-outcome needs wide places row standing state me s (ap is_holder at)
    known.showing ask (λ out. ap joins_line (sym at) ∙ s.seats.beyond me out) known.alone.0 known.alone.1 in
    only-looked needs places row standing state me (AcquireLoad ask) out refl refl refl refl

-- a place raises the count, where the main word is as it saw it and nobody waits, and else is decided by the main word as it stands
pub step-AcquireExchange : (ask : Ask) (seen : Word) → IsStep (AcquireExchange ask seen)
step-AcquireExchange ask seen needs lawful wide places row standing state me room s at =
    let known = at-stage needs places row standing state me s _ at in
    let none : is_holder (standing me).stage ≡ false = ap is_holder at in
    elim (cases_Bool (row 0 == word_number count_bits seen)) [
      | inl same ↦
          let is : main_of row ≡ seen = main-found (row 0) seen known.ranged.0 (omega (arith, same_number seen.tail 0 known.alone.2)) same in
          let calm : state.poisoned ≡ false = sym s.main.poison ∙ ap (λ (w : Word). w.is_poisoned) is ∙ known.alone.3 in
          let alone : (main_of row).tail == 0 ≡ true = ap (λ (w : Word). w.tail == 0) is ∙ known.alone.2 in
          let fits : fits_count needs (main_of row).count ask.request ≡ true = ap (λ (w : Word). fits_count needs w.count ask.request) is ∙ known.ranged.1 in
          let empty : state.line ≡ [] = front-none state.line _ s.main.tail alone in
          let nobody : s.holder == 0 ≡ true = nobody-holds needs places row standing state s (ap is_empty empty) in
          let within : (main_of row).count + needs.takes ask.request ≤ needs.top = lawful.bounded (main_of row).count ask.request fits in
          let word : Word = record (main_of row) { count = (main_of row).count + needs.takes ask.request } in
          let after : AbstractState = record state { count = state.count + needs.takes ask.request } in
          let raise = λ (registration : Registration) (kept : is_slot registration ≡ is_slot (standing me).registration).
          exchanged needs places row standing state me s (word_number count_bits word) after.count state.unclosed state.poisoned s.holder
          (record (standing me) { registration = registration; stage = Quiet }) (λ out. refl) kept tt tt refl tt known.showing (sym none ∙ s.stages.one me)
          (λ it. absurd (not-holder needs places row standing state me s none it)) (λ other apart. refl)
          (λ other it. absurd (omega (arith, it, same_number s.holder 0 nobody))) (λ free. free)
          (main-now needs after s.holder word (omega (arith, within, wide)) (tail-small (row 0))
          (ap (λ (n : ℕ). n + needs.takes ask.request) s.main.count) s.main.tail s.main.flag s.main.poison (never-barren needs after calm)
          (omega (arith, within, s.main.count)) s.main.closed (λ closed. subst (λ (l : List (ℕ × ℕ)). IsSettledAt needs after.count l) (sym empty) tt)) in
          record {
            events = Acquired ask.request ∷ [];
            last = after;
            run = ((calm, empty, rw (← s.main.count) fits), refl);
            names = rw same refl;
            inside = omega arith;
            invariant =
                elim (cases_Bool ask.joins) [
                  | inl joins ↦ rw (same, ← is, joins) (raise (AnsweredAtOnce 0 ask.request) (sym (known.alone.1 joins)))
                  | inr tries ↦ rw (same, ← is, tries) (raise (standing me).registration refl)
                ];
          }
      | inr differs ↦
          let out = decided-outcome needs wide places row standing state me s none known.showing ask (λ out. ap joins_line (sym at) ∙ s.seats.beyond me out) known.alone.0 known.alone.1 in
          only-looked needs places row standing state me (AcquireExchange ask seen) out refl (rw differs refl) (rw differs refl) (rw differs refl)
    ]

-- a place that isn't registered in the line doesn't stand in it, and nobody has an answer to show it
pub outside : (needs : Needs) (places : ℕ) (row : ℕ → ℕ) (standing : ℕ → Place) (state : AbstractState) (me : ℕ) (s : Invariant needs places row standing state)
    → is_slot (standing me).registration ≡ false → (times me state.line ≡ 0) × (is_some (state.granted me) ≡ false) × (is_some (state.answered me) ≡ false)
outside needs places row standing state me s idle =
    let held : held_by me state ≡ 0 = s.seats.held me ∙ ap one_if idle in
    (omega (arith, held), grind (arith, held), grind (arith, held))

-- a place writes its own line word before it joins
pub step-Prepare : (request : ℕ) (seen : Word) → IsOwnStep (Prepare request seen)
step-Prepare request seen needs lawful wide places row standing state me room here s at =
    let known = at-stage needs places row standing state me s _ at in
    let none : is_holder (standing me).stage ≡ false = ap is_holder at in
    let out = outside needs places row standing state me s known.alone.1 in
    let word : LineWord = record { request = request; older = seen.tail; newer = 0 } in
    let number : ℕ = line_number word in
    let new : ℕ → LineWord = line_of (updated row (me + 1) number) in
    let read : line_word_of number ≡ word = line_word-read word known.alone.0 known.alone.2 (omega arith) in
    let same : (place : ℕ) → (place ≡ me → ⊥) → new place ≡ line_of row place = line-other row me number in
    let apart_line : (place : ℕ) → 0 < times place state.line → place ≡ me → ⊥ =
    λ place there is. absurd (omega (arith, there, ap (λ (n : ℕ). times n state.line) is, out.0)) in
    silent refl (omega (arith, here)) (record {
      holder = s.holder;
      cut = s.cut;
      uncut = s.uncut;
      unshown = s.unshown;
      answer_value = s.answer_value;
      free = s.free;
      main = subst (λ (n : ℕ). IsMain needs n state s.holder) (sym (row-other row (me + 1) number 0 (λ is. absurd (omega (arith, is))))) s.main;
      line = line-kept (line_of row) new state.line s.cut s.uncut s.line (λ place there. same place (apart_line place there));
      seats = seats-next places standing state state me (record (standing me) { stage = Join request seen }) s.seats (λ out. absurd (omega (arith, out, here))) refl
          (λ other. refl);
      answers = answers-kept places row (me + 1) number state.answered (omega (arith, here)) s.answers;
      grants = grants-kept (line_of row) new state.granted state.granter s.unshown s.answer_value s.grants (λ place other there. same other (λ is.
          let due = (s.grants.granted_to place other (in-some other (s.unshown place) there)).1 in grind (arith, out.1, is, due)));
      stages = stages-next needs (line_of row) new standing state.count state.count state.line state.line s.cut s.cut
          s.holder s.holder s.unshown s.unshown s.answer_value s.answer_value me (record (standing me) { stage = Join request seen }) s.stages
          known.ranged known.alone (λ gives. absurd (cc))
          (ap (λ (w : LineWord). w.request) (line-at row me number ∙ read), ap (λ (w : LineWord). w.older) (line-at row me number ∙ read)) known.showing
          (sym none ∙ s.stages.one me) (λ it. absurd (not-holder needs places row standing state me s none it)) (λ other apart out. out)
          (λ other apart. subst (λ (w : LineWord). IsOwn w (standing other).stage) (sym (same other apart)) (s.stages.own other))
          (λ other apart. refl) (λ other apart. refl) (λ other apart. refl)
          (λ other apart it. holding-frame (line_of row) new state.count state.count state.line state.line [] (omega arith) (sym (append-nil state.line))
          (λ place there. same place (apart_line place there)) needs other s.cut (standing other).stage refl (s.stages.holding other it));
    })

-- a place joins the line, where the main word is as it saw it, and else is decided by the main word as it stands
pub step-Join : (request : ℕ) (seen : Word) → IsOwnStep (Join request seen)
step-Join request seen needs lawful wide places row standing state me room here s at =
    let known = at-stage needs places row standing state me s _ at in
    let none : is_holder (standing me).stage ≡ false = ap is_holder at in
    elim (cases_Bool (row 0 == word_number count_bits seen)) [
      | inl same ↦
          let is : main_of row ≡ seen = main-found (row 0) seen known.ranged known.alone.2 same in
          let calm : state.poisoned ≡ false = sym s.main.poison ∙ ap (λ (w : Word). w.is_poisoned) is ∙ known.alone.4 in
          let waits = sym (waits-same needs places row standing state s request) ∙ ap (λ (w : Word). waits_behind needs w request) is ∙ known.alone.3 in
          let out = outside needs places row standing state me s known.alone.1 in
          let line : List (ℕ × ℕ) = (me, request) ∷ [] in
          let after : AbstractState = record state { line = state.line ++ line } in
          let place : Place = record (standing me) { registration = Queued request; stage = Quiet } in
          let word : Word = record (main_of row) { tail = me + 1 } in
          let not_joined : (other : ℕ) → (other ≡ me → ⊥) → is_in other line ≡ false = λ other apart. rw (number_other me other (λ is. apart (sym is))) refl in
          record {
            events = Joined request ∷ [];
            last = after;
            run = ((calm, waits, in-none me state.line out.0, grind (arith, out.1), grind (arith, out.2)), refl);
            names = rw same refl;
            inside = omega arith;
            invariant = rw (same, ← is) (record {
              holder = s.holder;
              cut = s.cut;
              uncut = s.uncut ++ line;
              unshown = s.unshown;
              answer_value = s.answer_value;
              free = s.free;
              main = main-now needs after s.holder word (count-small (row 0)) (omega (arith, room, here)) s.main.count (sym (newest-append 0 state.line line))
                  s.main.flag s.main.poison (never-barren needs after calm) s.main.bounded s.main.closed
                  (λ closed. joined-settled needs state.count me request state.line waits (s.main.settled closed));
              line = rw (line-main row (word_number count_bits word)) (record {
                parts = ap (λ (l : List (ℕ × ℕ)). l ++ line) s.line.parts ∙ append_assoc s.cut s.uncut line;
                granted = s.line.granted;
                stays = behind-append (line_of row) 0 s.uncut line s.line.stays (
                  known.own.0,
                  known.own.1 ∙ ap (λ (w : Word). w.tail) (sym is) ∙ s.main.tail
                      ∙ newest-uncut state.line s.cut s.uncut s.line.parts s.line.some,
                  tt,
                );
                some = λ none. let wrong : true ≡ false = sym none ∙ some-behind s.uncut line refl in absurd (cc);
              });
              seats = seats-by places standing state after me place s.seats
                  (each-updated (λ (n : ℕ) (p : Place). held_by n after ≡ one_if (is_slot p.registration)) standing me place
                  (omega (arith, s.seats.held me, ap one_if known.alone.1, times-append me state.line line, one_if-same me))
                  (λ other apart. grind (arith, nat_tests, apart, s.seats.held other, times-append other state.line line))) (λ slot. here) (λ out. refl);
              answers = answers-kept places row 0 (word_number count_bits word) state.answered (omega arith) s.answers;
              grants = rw (line-main row (word_number count_bits word)) s.grants;
              stages = rw (line-main row (word_number count_bits word))
                  (stages-next needs (line_of row) (line_of row) standing state.count state.count state.line after.line s.cut s.cut s.holder s.holder s.unshown
                  s.unshown s.answer_value s.answer_value me place s.stages tt tt (λ gives. absurd (cc)) tt known.showing (sym none ∙ s.stages.one me)
                  (λ it. absurd (not-holder needs places row standing state me s none it))
                  (λ other apart out. rw (in-append other state.line line, out) (not_joined other apart))
                  (λ other apart. s.stages.own other) (λ other apart. refl) (λ other apart. refl) (λ other apart. refl)
                  (λ other apart it. holding-frame (line_of row) (line_of row) state.count state.count state.line after.line line (omega arith) refl
                  (λ one there. refl) needs other s.cut (standing other).stage (not_joined other apart) (s.stages.holding other it)));
            });
          }
      | inr differs ↦
          let ask : Ask = record { request = request; joins = true } in
          let out = decided-outcome needs wide places row standing state me s none known.showing ask (λ out. absurd (omega (arith, out, here))) known.alone.0 (λ joins. known.alone.1) in
          only-looked needs places row standing state me (Join request seen) out refl (rw differs refl) (rw differs refl) (rw differs refl)
    ]

-- The holder of the flag leaves the line: what this leaves of the object, of the seats and of what the others remember, and the steps by which a cancel leaves.
use Rattle.std.proofs.Common.{◌≡◌, ℕ, ◌+◌, ◌<◌, ◌≤◌, true, false, not, List, [], ◌∷◌, ◌++◌, ◌==◌, refl, sym, ap, subst, ◌∙◌, arith, inl, inr, append_assoc, ◌^◌, pred, append-nil}
use Rattle.std.proofs.lemmas.Bool.{cases_Bool}
use Rattle.std.proofs.lemmas.Bool.Decides.{nat_tests}
use Rattle.saa_core_spec.specs.Object.{one_if, times, without}
use Rattle.saa_core_spec.proofs.Counts.{number_same, number_other, one_if-same, times-append, same_number}
use Rattle.saa_core_words.specs.declared.word.Word.{Word}
use Rattle.saa_core_words.specs.declared.line_word.LineWord.{LineWord}
use Rattle.saa_word_steps.specs.declared.place.Place.{Place}
use Rattle.saa_word_steps.specs.declared.place.Registration.TheVariants.{Idle}
use Rattle.saa_word_steps.specs.declared.place.AfterWalk.TheVariants.{Ends as EndsCall}
use Rattle.saa_word_steps.specs.declared.place.Stage.{Stage}
use Rattle.saa_word_steps.specs.Needs.{Needs}
use Rattle.saa_word_steps.specs.declared.event.Event.TheVariants.{Cancelled}
use Rattle.saa_word_steps.specs.AbstractState.{AbstractState, IsRun, is_empty, is_in}
use Rattle.saa_word_steps.specs.Steps.{next_of, IsRanged, left_line, no_line, dropped_word}
use Rattle.saa_word_proofs.specs.Refinement.{newest, is_holder, gives_up, IsLocallyTrue, IsOwn, IsShowing, Work, IsFound, IsHolding, IsMain, AreSeats, Invariant, IsAhead, IsAdded}
use Rattle.saa_word_proofs.specs.Rows.{IsBehind, line_of, updated, main_of}
use Rattle.saa_word_proofs.specs.Registering.{is_slot}
use Rattle.saa_word_proofs.specs.History.{of_place}
use Rattle.saa_core_words.specs.Words.{count_bits, word_number, line_number}
use Rattle.saa_word_steps.specs.declared.place.Stage.TheVariants.{Quiet, BackLoad, Forward, LookLoad, Unlink, DropTail}
use Rattle.saa_word_steps.specs.declared.place.Next.{Next}
use Rattle.saa_word_proofs.specs.StepRefinement.{place_after}
use Rattle.saa_word_proofs.proofs.RefinementLemmas.Lists.{in-none, in-some, newest-append, newest-in, behind-append, behind-front, behind-rest, newest-any, newest-last, ahead-frame, front-none, front-some}
use Rattle.saa_word_proofs.proofs.RefinementLemmas.Frames.{stages-next, whole-work}
use Rattle.saa_word_proofs.proofs.RefinementLemmas.Rows.{own-any, seats-by, grants-kept, answers-kept, either, IsOwnStep, at-stage, main-found, count-small, line-main, row-other, moved, loaded}
use Rattle.saa_word_proofs.proofs.RefinementLemmas.Granting.{in-waits, in-no, held-once, newest-rest, holder-none, nobody}
use Rattle.saa_word_proofs.proofs.RefinementLemmas.Linking.{in-line, line-room, linked-all}
use Rattle.saa_word_proofs.proofs.RefinementLemmas.Holders.{some-behind, some-append, main-now, calm-held, holding-some, never-barren}
use Rattle.saa_word_proofs.proofs.RefinementLemmas.Walking.{rewritten}
use Rattle.saa_word_proofs.proofs.RefinementLemmas.Outcomes.{silent}

-- The object once a place has left the line, with the waiters that are left
abbrev pub left : AbstractState → List (ℕ × ℕ) → AbstractState
left state rest = record state { line = rest; unclosed = not (is_empty rest) }

-- Lines

-- a line without a place that doesn't wait is as it was
without-out : (place : ℕ) (line : List (ℕ × ℕ)) → is_in place line ≡ false → without place line ≡ line
without-out place [] out = refl
without-out place (asker ∷ rest) out = grind (arith, out, without-out place rest)

-- a place that waits once leaves the waiters before it and behind it
without-once : (place request : ℕ) (before after : List (ℕ × ℕ)) → times place (before ++ (place, request) ∷ after) ≡ 1
    → without place (before ++ (place, request) ∷ after) ≡ before ++ after
without-once place request [] after once = grind (arith, number_same place, once, in-none place after, without-out place after)
without-once place request (asker ∷ rest) after once =
    grind (arith, once, number_same place, times-append place rest ((place, request) ∷ after), without-once place request rest after)

-- a place that waits where the holder found itself waits once
found-once : (places : ℕ) (standing : ℕ → Place) (state : AbstractState) (me request : ℕ) (before after : List (ℕ × ℕ))
    → AreSeats places standing state → state.line ≡ before ++ (me, request) ∷ after → times me state.line ≡ 1
found-once places standing state me request before after seats parts =
    let waits : 0 < times me state.line =
    omega (arith, ap (λ (l : List (ℕ × ℕ)). times me l) parts, times-append me before ((me, request) ∷ after), one_if-same me) in
    (in-line places standing state me seats waits).2

-- nobody is behind a place that waits and is the newest of the line
pub alone-behind : (places : ℕ) (standing : ℕ → Place) (state : AbstractState) (me request : ℕ) (before after : List (ℕ × ℕ))
    → AreSeats places standing state → state.line ≡ before ++ (me, request) ∷ after → newest 0 state.line ≡ me + 1 → after ≡ []
alone-behind places standing state me request before [] seats parts last = refl
alone-behind places standing state me request before (asker ∷ rest) seats parts last =
    let all : List (ℕ × ℕ) = (me, request) ∷ (asker ∷ rest) in
    let again = newest-in (me + 1) me (asker ∷ rest) refl (sym (newest-append 0 before all) ∙ ap (newest 0) (sym parts) ∙ last) in
    let once = found-once places standing state me request before (asker ∷ rest) seats parts in
    absurd (omega (arith, again, once, ap (λ (l : List (ℕ × ℕ)). times me l) parts, times-append me before all, one_if-same me))

-- the line with the holder in it, as it found itself, and those behind it
pub found-parts : (me held older : ℕ) (line : List (ℕ × ℕ)) (seen : Word) (work : Work held line seen) (found : IsFound me work.front older)
    → line ≡ found.0 ++ (me, found.1) ∷ (work.behind ++ work.joined)
found-parts me held older line seen work found =
    work.parts ∙ ap (λ (l : List (ℕ × ℕ)). l ++ (work.behind ++ work.joined)) found.2
    ∙ append_assoc found.0 ((me, found.1) ∷ []) (work.behind ++ work.joined)

-- the link to the place before the holder is within its bits
pub found-room : (row : ℕ → ℕ) (line before after : List (ℕ × ℕ)) (asker : ℕ × ℕ)
    → IsBehind (line_of row) 0 line → line ≡ before ++ asker ∷ after → newest 0 before < 65536
found-room row line before after asker linked parts =
    let all = behind-rest (line_of row) 0 before (asker ∷ after) (subst (λ (l : List (ℕ × ℕ)). IsBehind (line_of row) 0 l) parts linked) in
    subst (λ (n : ℕ). n < 65536) all.1 (line-room (row (asker.0 + 1))).1

-- The event, for the object with the waiters that are left
left-run : (needs : Needs) (places : ℕ) (standing : ℕ → Place) (state : AbstractState) (me request : ℕ) (before after : List (ℕ × ℕ)) → AreSeats places standing state
    → state.line ≡ before ++ (me, request) ∷ after → IsRun needs state (of_place me (Cancelled ∷ [])) (left state (before ++ after))
left-run needs places standing state me request before after seats parts =
    let once = found-once places standing state me request before after seats parts in
    let rest : without me state.line ≡ before ++ after = rw parts (without-once me request before after (ap (λ (l : List (ℕ × ℕ)). times me l) (sym parts) ∙ once)) in
    (in-some me state.line (omega (arith, once)), ap (λ (l : List (ℕ × ℕ)). left state l) rest)

-- The whole

-- The holder leaves the line by a write that leaves the line words of all who don't wait, and goes on at a stage
leaving : (needs : Needs) (places : ℕ) (row : ℕ → ℕ) (standing : ℕ → Place) (state : AbstractState) (me : ℕ) (s : Invariant needs places row standing state)
    (at number : ℕ) (rest : List (ℕ × ℕ)) (next : ℕ)
    → me < places → at ≤ places → s.holder ≡ me + 1 → ((place : ℕ) → times place state.line ≡ one_if (me == place) + times place rest)
    → ((place : ℕ) → is_in place state.line ≡ false → line_of (updated row at number) place ≡ line_of row place)
    → IsBehind (line_of (updated row at number)) 0 rest → IsMain needs (updated row at number 0) (left state rest) next
    → ((other : ℕ) → (other ≡ me → ⊥) → (s.holder == other + 1) ≡ (next == other + 1))
    → (stage : Stage) → IsRanged needs stage → IsLocallyTrue needs Idle EndsCall stage → (gives_up EndsCall stage ≡ false)
    → IsOwn (line_of (updated row at number) me) stage → IsShowing (s.unshown me) (s.answer_value me) stage → is_holder stage ≡ (next == me + 1)
    → (next ≡ me + 1 → IsHolding needs (line_of (updated row at number)) me state.count rest [] stage)
    → Invariant needs places (updated row at number) (updated standing me (record (left_line (standing me)) { stage = stage })) (left state rest)
leaving needs places row standing state me s at number rest next here below mine counted words linked main others stage ranged alone stays own showing holder holding =
    let new : ℕ → LineWord = line_of (updated row at number) in
    let place : Place = record (left_line (standing me)) { stage = stage } in
    let slot : is_slot (standing me).registration ≡ true = (in-line places standing state me s.seats (omega (arith, counted me, one_if-same me))).1 in
    let unshown : (place other : ℕ) → 0 < times other (s.unshown place) → is_in other state.line ≡ false = λ place other listed.
    let granted = s.grants.granted_to place other (in-some other (s.unshown place) listed) in
    grind (arith, granted, held-once places standing state s.seats other, in-waits other state.line) in
    record {
      holder = next;
      cut = [];
      uncut = rest;
      unshown = s.unshown;
      answer_value = s.answer_value;
      free = λ nobody. refl;
      main = main;
      line = record { parts = refl; granted = tt; stays = linked; some = λ none. refl };
      seats = seats-by places standing state (left state rest) me place s.seats
          (λ other. grind (arith, nat_tests, counted other, s.seats.held other, slot)) (λ slot. here) (λ out. absurd (omega (arith, out, here)));
      answers = answers-kept places row at number state.answered below s.answers;
      grants = grants-kept (line_of row) new state.granted state.granter s.unshown s.answer_value s.grants
          (λ place other listed. words other (unshown place other listed));
      stages = stages-next needs (line_of row) new standing state.count state.count state.line rest s.cut []
          s.holder next s.unshown s.unshown s.answer_value s.answer_value me place s.stages
          ranged alone (λ gives. let wrong : true ≡ false = sym gives ∙ stays in absurd (cc)) own showing holder holding
          (λ other differs out. in-none other rest (omega (arith, counted other, in-no other state.line out)))
          (λ other differs. owns other) (λ other differs. refl) (λ other differs. refl) others
          (λ other differs is. absurd (differs (omega (arith, is, mine))));
    }
  where
    owns : (other : ℕ) → IsOwn (line_of (updated row at number) other) (standing other).stage
    owns other =
        elim (cases_Bool (is_in other state.line)) [
          | inl waits ↦
              own-any needs (standing other).registration (standing other).back (standing other).stage (line_of (updated row at number) other)
              (s.stages.alone other) (in-line places standing state other s.seats (in-waits other state.line waits)).1
          | inr out ↦ subst (λ (w : LineWord). IsOwn w (standing other).stage) (sym (words other out)) (s.stages.own other)
        ]

-- Where there are waiters behind the holder, the first of them is linked to the place before the holder
pub step-Unlink : (seen : Word) (newer : ℕ) (line : LineWord) (older : ℕ) → IsOwnStep (Unlink seen newer line older)
step-Unlink seen newer line older needs lawful wide places row standing state me room here s at =
    let known = at-stage needs places row standing state me s _ at in
    let mine = known.mine refl in
    let knows = known.holding mine in
    let work : Work state.count state.line seen = knows.0 in
    let before : List (ℕ × ℕ) = knows.2.0 in
    let after : List (ℕ × ℕ) = work.behind ++ work.joined in
    let parts : state.line ≡ before ++ (me, knows.2.1) ∷ after = found-parts me state.count older state.line seen work knows.2 in
    let linked = linked-all (line_of row) state.line s.cut s.uncut s.line knows.1 in
    let older_small : older < 65536 = rw knows.2.3 (found-room row state.line before after (me, knows.2.1) linked parts) in
    let done = rewritten places row standing state s.cut s.uncut seen work newer older line s.seats s.line knows.1 knows.3 knows.4 older_small in
    let number : ℕ = line_number (record line { older = older }) in
    let new : ℕ → LineWord = line_of (updated row (pred newer + 1) number) in
    let links : IsBehind new 0 (before ++ after) = behind-append new 0 before after
    (behind-front new 0 before ((me, knows.2.1) ∷ []) (subst (λ (l : List (ℕ × ℕ)). IsBehind new 0 l) knows.2.2 done.granted))
    (subst (λ (n : ℕ). IsBehind new n after) knows.2.3 done.stays) in
    let ahead : IsAhead new work.behind =
    ahead-frame (line_of row) new work.behind (λ other stands. grind (arith, nat_tests, done.newer, done.others other)) knows.3.2 in
    let some : is_empty after ≡ false = some-append work.behind work.joined knows.3.1 in
    let main : IsMain needs (row 0) (left state (before ++ after)) s.holder = record {
      whole = s.main.whole;
      count = s.main.count;
      tail = s.main.tail ∙ ap (newest 0) parts ∙ newest-rest 0 before ((me, knows.2.1) ∷ after) refl
          ∙ newest-any (me + 1) 0 after some ∙ sym (newest-rest 0 before after some);
      flag = s.main.flag;
      poison = s.main.poison;
      barren = never-barren needs (left state (before ++ after)) (calm-held needs places row standing state me s mine);
      bounded = s.main.bounded;
      closed = λ free. absurd (omega (arith, mine, same_number s.holder 0 free));
      settled = λ closed. grind (arith, closed, some-behind before after some);
    } in
    let work_now : Work state.count (before ++ after) seen = record {
      front = before;
      behind = work.behind;
      joined = work.joined;
      parts = refl;
      tail = work.tail ∙ newest-rest 0 work.front work.behind knows.3.1 ∙ sym (newest-rest 0 before work.behind knows.3.1);
      count = work.count;
    } in
    let goes = leaving needs places row standing state me s (pred newer + 1) number (before ++ after) s.holder here (omega (arith, done.inside)) mine
    (λ place. omega (arith, ap (λ (l : List (ℕ × ℕ)). times place l) parts, times-append place before ((me, knows.2.1) ∷ after), times-append place before after))
    (λ other out. done.others other (λ is. omega (arith, done.waits, ap (λ (n : ℕ). times n state.line) is, in-no other state.line out))) links
    (subst (λ (n : ℕ). IsMain needs n (left state (before ++ after)) s.holder) (sym (row-other row (pred newer + 1) number 0 (λ is. omega (arith, is)))) main)
    (λ other differs. refl) in
    let holds : true ≡ (s.holder == me + 1) = sym (ap is_holder at) ∙ s.stages.one me in
    record {
      events = Cancelled ∷ [];
      last = left state (before ++ after);
      run = left-run needs places standing state me knows.2.1 before after s.seats parts;
      names = refl;
      inside = omega (arith, done.link, done.inside);
      invariant = subst (λ (link : ℕ). Invariant needs places (updated row link number) (updated standing me
          (place_after (standing me) (next_of needs me (standing me) (Unlink seen newer line older) (row newer)))) (left state (before ++ after))) (sym done.link)
          (elim (cases_Bool (older == 0)) [
            | inl first ↦
                let nobody : before ≡ [] = front-none before older knows.2.3 first in
                rw first
                (goes (Forward seen newer seen.count) (known.ranged, known.ranged) tt refl tt known.showing holds
                (λ is. (
                  work_now,
                  refl,
                  subst (λ (l : List (ℕ × ℕ)). IsAdded needs seen l seen.count) (sym nobody) (tt, omega arith),
                  (knows.3.0, knows.3.1, ahead),
                )))
            | inr others ↦
                rw others
                (goes (BackLoad seen older newer) known.ranged tt refl tt known.showing holds
                (λ is. (work_now, refl, (knows.2.3, front-some before older knows.2.3 others, knows.3.0, ahead))))
          ]);
    }

-- What dropping the tail leaves, for any stage that the holder goes on at: the flag is kept where somebody waits
dropping : (needs : Needs) (places : ℕ) (row : ℕ → ℕ) (standing : ℕ → Place) (state : AbstractState) (me : ℕ) (s : Invariant needs places row standing state)
    (seen : Word) (older request : ℕ) (before : List (ℕ × ℕ))
    → me < places → s.holder ≡ me + 1 → s.cut ≡ [] → main_of row ≡ seen → state.line ≡ before ++ (me, request) ∷ [] → older ≡ newest 0 before
    → (stage : Stage) (next : ℕ) → IsRanged needs stage → IsLocallyTrue needs Idle EndsCall stage → gives_up EndsCall stage ≡ false
    → ((word : LineWord) → IsOwn word stage)
    → IsShowing (s.unshown me) (s.answer_value me) stage → is_holder stage ≡ (next == me + 1)
    → (next ≡ me + 1 → IsHolding needs (line_of row) me state.count before [] stage)
    → ((other : ℕ) → (other ≡ me → ⊥) → (s.holder == other + 1) ≡ (next == other + 1)) → (older == 0) ≡ (next == 0)
    → Invariant needs places (updated row 0 (word_number count_bits (dropped_word seen older)))
    (updated standing me (record (left_line (standing me)) { stage = stage })) (left state before)
dropping needs places row standing state me s seen older request before here mine none found parts is stage next ranged alone stays own showing holder holding
    others flag =
    let calm : state.poisoned ≡ false = calm-held needs places row standing state me s mine in
    let linked = linked-all (line_of row) state.line s.cut s.uncut s.line none in
    let linked_front : IsBehind (line_of row) 0 before =
    behind-front (line_of row) 0 before ((me, request) ∷ []) (subst (λ (l : List (ℕ × ℕ)). IsBehind (line_of row) 0 l) parts linked) in
    let older_small : older < 65536 = rw is (found-room row state.line before [] (me, request) linked parts) in
    let number : ℕ = word_number count_bits (dropped_word seen older) in
    let main : IsMain needs number (left state before) next =
    main-now needs (left state before) next (dropped_word seen older) (subst (λ (w : Word). w.count < 2 ^ count_bits) found (count-small (row 0))) older_small
    (grind (arith, found, s.main.count)) is (ap not flag) (grind (arith, found, s.main.poison)) (never-barren needs (left state before) calm) s.main.bounded
    (λ free. ap (λ (l : List (ℕ × ℕ)). not (is_empty l)) (front-none before older is (flag ∙ free))) (λ closed. grind (arith, closed)) in
    leaving needs places row standing state me s 0 number before next here (omega arith) mine
    (λ place. omega (arith, ap (λ (l : List (ℕ × ℕ)). times place l) parts, times-append place before ((me, request) ∷ [])))
    (λ other out. ap (λ (words : ℕ → LineWord). words other) (line-main row number)) (rw (line-main row number) linked_front) main others stage ranged alone stays
    (own (line_of (updated row 0 number) me)) showing holder (λ keeps. rw (line-main row number) (holding keeps))

-- Where no waiter is behind the holder, the tail is the place before it; where another word stands there, the holder looks for itself again from that
pub step-DropTail : (seen : Word) (older : ℕ) → IsOwnStep (DropTail seen older)
step-DropTail seen older needs lawful wide places row standing state me room here s at =
    let known = at-stage needs places row standing state me s _ at in
    let mine = known.mine refl in
    let knows = known.holding mine in
    elim (cases_Bool (row 0 == word_number count_bits seen)) [
      | inl same ↦
          let work : Work state.count state.line seen = knows.0 in
          let before : List (ℕ × ℕ) = knows.2.0 in
          let request : ℕ = knows.2.1 in
          let found : main_of row ≡ seen = main-found (row 0) seen known.ranged known.alone.1 same in
          let parts : state.line ≡ before ++ (me, request) ∷ work.joined =
          found-parts me state.count older state.line seen work knows.2 ∙ ap (λ (l : List (ℕ × ℕ)). before ++ (me, request) ∷ (l ++ work.joined)) knows.3 in
          let alone_there : work.joined ≡ [] =
          alone-behind places standing state me request before work.joined s.seats parts
          (grind (arith, s.main.tail, found, work.tail, knows.3, knows.2.2, append-nil work.front, newest-last 0 before (me, request))) in
          let number : ℕ = word_number count_bits (dropped_word seen older) in
          let line : state.line ≡ before ++ (me, request) ∷ [] = parts ∙ ap (λ (l : List (ℕ × ℕ)). before ++ (me, request) ∷ l) alone_there in
          record {
            events = Cancelled ∷ [];
            last = left state before;
            run = subst (λ (l : List (ℕ × ℕ)). IsRun needs state (of_place me (Cancelled ∷ [])) (left state l)) (append-nil before)
                (left-run needs places standing state me request before [] s.seats line);
            names = rw same refl;
            inside = omega arith;
            invariant =
                let goes = dropping needs places row standing state me s seen older request before here mine knows.1 found line knows.2.3 in
                rw same
                (either (λ (n : Next). Invariant needs places (updated row 0 number) (updated standing me (place_after (standing me) n)) (left state before)) (older == 0) _ _
                (λ first. goes Quiet 0 tt tt refl (λ word. tt) known.showing (sym (nobody me)) (λ is. absurd (omega (arith, is)))
                (λ other apart. holder-none s.holder me other mine apart) first)
                (λ others. goes (BackLoad (dropped_word seen older) older 0) s.holder known.ranged tt refl (λ word. tt) known.showing
                (sym (ap is_holder at) ∙ s.stages.one me)
                (λ keeps. (whole-work state.count before _ knows.2.3 work.count, refl, (knows.2.3, front-some before older knows.2.3 others, refl, tt)))
                (λ other apart. refl) (others ∙ sym (number_other s.holder 0 (λ is. omega (arith, is, mine))))));
          }
      | inr differs ↦
          let next : Place = record (standing me) { stage = LookLoad (main_of row) (main_of row).tail 0 no_line } in
          let some : is_empty state.line ≡ false = holding-some needs (line_of row) me state.count state.line s.cut (DropTail seen older) knows in
          silent (rw differs refl) (omega arith) (rw differs (loaded needs places row _ state 0
          (moved needs places row standing state me s next (λ out. absurd (omega (arith, out, here)))
          refl (count-small (row 0)) known.alone.0 (λ gives. absurd (cc)) tt known.showing (ap is_holder (sym at))
          (λ is. (whole-work state.count state.line _ s.main.tail (omega (arith, s.main.count)), knows.1, (s.main.tail, some, refl, tt), (refl, refl), λ none. absurd (cc))))))
    ]

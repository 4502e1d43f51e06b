-- The three ways to publish what was granted: to close the line, to empty it and to add to the count. Each keeps that words and places refine the
-- abstract state.
use Rattle.std.proofs.Common.{◌≡◌, ℕ, ◌+◌, ◌≤◌, false, List, [], ◌++◌, ◌==◌, refl, sym, ap, subst, ◌∙◌, arith, inl, inr, append-nil, ◌^◌, ◌-◌, ◌<◌, true, ◌∷◌, ◌/◌, ◌%◌}
use Rattle.std.proofs.lemmas.Bool.{cases_Bool}
use Rattle.std.proofs.lemmas.Bool.Decides.{nat_tests}
use Rattle.saa_core_words.specs.declared.word.Word.{Word}
use Rattle.saa_core_words.specs.Words.{count_bits, word_number, word_of}
use Rattle.saa_word_steps.specs.declared.place.AfterWalk.{AfterWalk}
use Rattle.saa_word_steps.specs.declared.place.AfterShow.TheVariants.{Ends, Again}
use Rattle.saa_word_steps.specs.declared.place.Stage.TheVariants.{Close, Retry, ShowLoad, CutForRetry, Empty, BackLoad}
use Rattle.saa_word_steps.specs.AbstractState.{IsFront, IsSettledAt, is_empty, takes_of}
use Rattle.saa_word_steps.specs.Steps.{settled_word}
use Rattle.saa_word_proofs.specs.Refinement.{newest, is_holder, Work, IsMain}
use Rattle.saa_word_proofs.specs.Rows.{line_of, main_of, IsBehind}
use Rattle.saa_core_words.specs.declared.line_word.LineWord.{LineWord}
use Rattle.saa_word_steps.specs.Needs.{fits_count}
use Rattle.saa_word_proofs.proofs.RefinementLemmas.Rows.{IsStep, main-found, count-small, tail-small, at-stage, moved, loaded}
use Rattle.saa_word_proofs.proofs.RefinementLemmas.Granting.{close-run, newest-rest, settled-append, settled-main, front-bounded, parts-linked, holder-none, nobody, granting, by-grant, granted, round-run, settled-front}
use Rattle.saa_word_proofs.proofs.RefinementLemmas.Leaving.{alone-behind}
use Rattle.saa_word_proofs.proofs.RefinementLemmas.Holders.{some-append, calm-held, some-behind, never-barren}
use Rattle.saa_word_proofs.proofs.RefinementLemmas.Ending.{end_stage, ended, ended-ranged, ended-alone, ended-apart, ended-joins, ended-own, ended-showing, ended-holder}
use Rattle.saa_word_proofs.proofs.RefinementLemmas.Outcomes.{silent}
use Rattle.saa_word_proofs.proofs.RefinementLemmas.Lists.{front-none, front-some, newest-last, front-append, takes-append, front-lower}
use Rattle.saa_word_proofs.proofs.RefinementLemmas.Linking.{looked, linked-all}
use Rattle.saa_word_proofs.proofs.RefinementLemmas.Frames.{whole-work}

-- A holder that closes the line publishes what it granted, or goes on with the word that it found
pub step-Close : (seen : Word) (count top : ℕ) → IsStep (Close seen count top)
step-Close seen count top needs lawful wide places row standing state me room s at =
    let known = at-stage needs places row standing state me s _ at in
    let mine = known.mine refl in
    let holding = known.holding mine in
    let work : Work state.count state.line seen = holding.0 in
    let rest : List (ℕ × ℕ) = work.behind ++ work.joined in
    elim (cases_Bool (row 0 == word_number count_bits seen)) [
      | inl same ↦
          let back : AfterWalk = (standing me).back in
          let found : main_of row ≡ seen = main-found (row 0) seen known.ranged.0 known.alone.0 same in
          let counted : seen.count ≡ state.count = grind (arith, found, s.main.count) in
          let adds : count ≡ state.count + takes_of needs work.front = omega (arith, counted, holding.2.1) in
          let fits : IsFront needs state.count work.front = subst (λ (n : ℕ). IsFront needs n work.front) counted holding.2.0 in
          let some : is_empty rest ≡ false = some-append work.behind work.joined holding.4 in
          let tail : seen.tail ≡ newest 0 rest = grind (arith, found, s.main.tail, work.parts, newest-rest 0 work.front rest some) in
          let settled : IsSettledAt needs count rest = settled-append needs count work.behind work.joined holding.4 holding.5 in
          let main = settled-main needs lawful state me work.front rest count seen.tail (calm-held needs places row standing state me s mine)
          known.ranged.1 known.alone.0 fits s.main.bounded adds tail settled in
          let linked = parts-linked (line_of row) state.line s.cut s.uncut work.front rest s.line holding.1 work.parts in
          let goes = granting needs places row standing state me s (word_number count_bits (settled_word count seen.tail)) 0 _ work.front rest 0 _ false
          (omega arith) (λ other is. omega (arith, mine, is)) known.showing work.parts linked.0 linked.1 main
          (λ other apart. holder-none s.holder me other mine apart) in
          by-grant (close-run needs state me work.front rest work.parts fits (rw (← adds) settled) s.main.settled) refl (omega arith)
          (elim (cases_Bool (top == 0)) [
            | inl empty ↦
                rw (same, empty, ended (standing me) back)
                (goes (end_stage back) (λ out. ended-joins back) (ended-ranged needs back) (ended-alone needs (standing me).registration back known.alone.1)
                (λ gives. known.apart (sym (ended-apart back) ∙ gives)) (ended-own (line_of row me) back)
                (ended-showing work.front 0 back (front-none work.front top holding.3 empty)) (ended-holder back ∙ sym (nobody me))
                (λ is. absurd (omega (arith, is))))
            | inr there ↦
                rw (same, there)
                (goes (ShowLoad top 0 Ends) (λ out. refl) tt known.alone.1 known.apart tt (sym holding.3, front-some work.front top holding.3 there, refl)
                (sym (nobody me)) (λ is. absurd (omega (arith, is))))
          ])
      | inr differs ↦
          silent refl (omega arith) (elim (cases_Bool ((main_of row).count == seen.count)) [
            | inl same ↦
                let counted : seen.count ≡ (main_of row).count = grind (arith, nat_tests, same) in
                let now : Work state.count state.line (main_of row) = record {
                  front = work.front;
                  behind = rest;
                  joined = [];
                  parts = rw (append-nil rest) work.parts;
                  tail = s.main.tail ∙ ap (newest 0) work.parts;
                  count = omega (arith, s.main.count);
                } in
                rw (differs, same) (loaded needs places row _ state 0
                (moved needs places row standing state me s (record (standing me) { stage = Close (main_of row) count top }) (λ out. refl) refl
                (count-small (row 0), known.ranged.1) (tail-small (row 0), known.alone.1) known.apart tt known.showing (ap is_holder (sym at))
                (λ is. (
                  now,
                  holding.1,
                  (subst (λ (n : ℕ). IsFront needs n work.front) counted holding.2.0, omega (arith, holding.2.1, counted)),
                  holding.3,
                  some-append work.behind work.joined holding.4,
                  settled-append needs count work.behind work.joined holding.4 holding.5,
                ))))
            | inr changed ↦
                rw (differs, changed) (loaded needs places row _ state 0
                (moved needs places row standing state me s (record (standing me) { stage = Retry seen count top }) (λ out. refl) refl
                known.ranged known.alone.1 known.apart tt known.showing (ap is_holder (sym at))
                (λ is. (work, holding.1, holding.2, holding.3, holding.4))))
          ])
    ]

-- Where all fit, the line is emptied; else all but the last of them go round
pub step-Empty : (seen : Word) (current count : ℕ) (word : LineWord) → IsStep (Empty seen current count word)
step-Empty seen current count word needs lawful wide places row standing state me room s at =
    let known = at-stage needs places row standing state me s _ at in
    let mine = known.mine refl in
    let holding = known.holding mine in
    let work : Work state.count state.line seen = holding.0 in
    let linked = linked-all (line_of row) state.line s.cut s.uncut s.line holding.1 in
    let look = looked (line_of row) state.count state.line seen work current linked holding.3 in
    elim (cases_Bool (row 0 == word_number count_bits seen)) [
      | inl same ↦
          let found : main_of row ≡ seen = main-found (row 0) seen known.ranged.0 known.alone.0 same in
          let counted : seen.count ≡ state.count = grind (arith, found, s.main.count) in
          let asker : ℕ × ℕ = look.asker in
          let all : List (ℕ × ℕ) = work.front ++ asker ∷ [] in
          let behind : state.line ≡ work.front ++ asker ∷ (look.rest ++ work.joined) =
          work.parts ∙ ap (λ (l : List (ℕ × ℕ)). work.front ++ (l ++ work.joined)) look.behind in
          let gone = alone-behind places standing state asker.0 asker.1 work.front (look.rest ++ work.joined) s.seats behind
          (sym s.main.tail ∙ ap (λ (w : Word). w.tail) found ∙ holding.5 ∙ look.link) in
          let whole : state.line ≡ all = behind ∙ ap (λ (l : List (ℕ × ℕ)). work.front ++ asker ∷ l) gone in
          let parts : state.line ≡ all ++ [] = whole ∙ sym (append-nil all) in
          let asks : word.request ≡ asker.1 = ap (λ (w : LineWord). w.request) holding.4 ∙ look.request in
          let fits : IsFront needs state.count all =
          subst (λ (n : ℕ). IsFront needs n all) counted
          (front-append needs seen.count work.front (asker ∷ []) holding.2
          (subst (λ (n : ℕ). fits_count needs (seen.count + takes_of needs work.front) n ≡ true) asks holding.6, tt)) in
          let adds : count ≡ state.count + takes_of needs all =
          omega (arith, counted, holding.7, ap needs.takes asks, takes-append needs work.front (asker ∷ [])) in
          let main = settled-main needs lawful state me all [] count 0 (calm-held needs places row standing state me s mine)
          known.ranged.1 (omega arith) fits s.main.bounded adds refl tt in
          by-grant (close-run needs state me all [] parts fits tt s.main.settled) refl (omega arith)
          (rw same
          (granting needs places row standing state me s (word_number count_bits (settled_word count 0)) 0 _ all [] 0 _ false
          (omega arith) (λ other is. omega (arith, mine, is)) known.showing parts
          (subst (λ (l : List (ℕ × ℕ)). IsBehind (line_of row) 0 l) whole linked) tt main (λ other apart. holder-none s.holder me other mine apart)
          (ShowLoad current 0 Ends) (λ out. refl) tt known.alone.1 known.apart tt
          (newest-last 0 work.front asker ∙ sym look.link, some-behind work.front (asker ∷ []) refl, refl) (sym (nobody me)) (λ is. absurd (omega (arith, is)))))
      | inr differs ↦
          let fewer : ℕ = count - needs.takes word.request in
          let left : fewer ≡ seen.count + takes_of needs work.front = omega (arith, holding.7) in
          let small : fewer < 2 ^ count_bits = omega (arith, known.ranged.1) in
          let older : word.older ≡ newest 0 work.front = ap (λ (w : LineWord). w.older) holding.4 ∙ look.older in
          silent refl (omega arith) (elim (cases_Bool (word.older == 0)) [
            | inl only ↦
                let front : work.front ≡ [] = front-none work.front word.older older only in
                rw (differs, only) (loaded needs places row _ state 0
                (moved needs places row standing state me s (record (standing me) { stage = Retry seen fewer 0 }) (λ out. refl) refl
                (known.ranged.0, small) known.alone.1 known.apart tt known.showing (ap is_holder (sym at))
                (λ is. (work, holding.1 ∙ sym front, (holding.2, left), sym (ap (λ (l : List (ℕ × ℕ)). newest 0 l) front), holding.3.1))))
            | inr others ↦
                rw (differs, others) (loaded needs places row _ state 0
                (moved needs places row standing state me s (record (standing me) { stage = CutForRetry seen current fewer word }) (λ out. refl) refl
                (known.ranged.0, small) known.alone.1 known.apart tt known.showing (ap is_holder (sym at))
                (λ is. (work, holding.1, (holding.2, left), holding.3, holding.4))))
          ])
    ]

-- A holder that retries adds what it granted to the count, shows the answers, and walks anew
pub step-Retry : (seen : Word) (count top : ℕ) → IsStep (Retry seen count top)
step-Retry seen count top needs lawful wide places row standing state me room s at =
    let known = at-stage needs places row standing state me s _ at in
    let mine = known.mine refl in
    let holding = known.holding mine in
    let work : Work state.count state.line seen = holding.0 in
    let rest : List (ℕ × ℕ) = work.behind ++ work.joined in
    let some : is_empty rest ≡ false = some-append work.behind work.joined holding.4 in
    let fits : IsFront needs state.count work.front = front-lower needs lawful state.count seen.count work.front work.count holding.2.0 in
    let more : ℕ = count - seen.count in
    let adds : more ≡ takes_of needs work.front = omega (arith, holding.2.1) in
    let number : ℕ = (row 0 + more) % 2 ^ 64 in
    let now : Word = word_of count_bits number in
    let bounded : state.count + takes_of needs work.front ≤ needs.top = front-bounded needs lawful state.count work.front fits s.main.bounded in
    let small : row 0 % 2 ^ count_bits + more < 2 ^ count_bits = omega (arith, s.main.count, bounded, wide, adds) in
    let is : number ≡ row 0 + more = omega (arith, s.main.whole, small) in
    let low : (row 0 + more) % 2 ^ count_bits ≡ row 0 % 2 ^ count_bits + more = omega (arith, small) in
    let high : (row 0 + more) / 2 ^ count_bits ≡ row 0 / 2 ^ count_bits = omega (arith, small) in
    let main : IsMain needs number (granted needs state me work.front rest state.unclosed) s.holder = record {
      whole = rw is (omega (arith, s.main.whole, small));
      count = rw (is, low) (omega (arith, s.main.count, adds));
      tail = rw (is, high) (s.main.tail ∙ ap (newest 0) work.parts ∙ newest-rest 0 work.front rest some);
      flag = rw (is, high) s.main.flag;
      poison = rw (is, high) s.main.poison;
      barren = never-barren needs (granted needs state me work.front rest state.unclosed) (calm-held needs places row standing state me s mine);
      bounded = bounded;
      closed = s.main.closed;
      settled = λ closed. grind (arith, work.parts, s.main.settled closed, settled-front needs state.count state.line work.front rest work.parts fits (s.main.settled closed));
    } in
    let linked = parts-linked (line_of row) state.line s.cut s.uncut work.front rest s.line holding.1 work.parts in
    let held : state.count + takes_of needs work.front ≤ now.count = omega (arith, main.count) in
    let holder : true ≡ (s.holder == me + 1) = sym (ap is_holder at) ∙ s.stages.one me in
    let goes = granting needs places row standing state me s number 0 _ work.front rest s.holder _ state.unclosed
    (omega arith) (λ other is. omega (arith, mine, is)) known.showing work.parts linked.0 linked.1 main (λ other apart. refl) in
    by-grant (round-run needs state me work.front rest work.parts fits s.main.settled) refl (omega arith)
    (elim (cases_Bool (top == 0)) [
      | inl empty ↦
          rw empty
          (goes (BackLoad now now.tail 0) (λ out. refl) (count-small number) known.alone known.apart tt (front-none work.front top holding.3 empty) holder
          (λ is. (whole-work (state.count + takes_of needs work.front) rest now main.tail held, refl, (main.tail, some, refl, tt))))
      | inr there ↦
          rw there
          (goes (ShowLoad top 0 (Again now)) (λ out. refl) (count-small number) known.alone known.apart tt
          (sym holding.3, front-some work.front top holding.3 there, refl) holder
          (λ is. (
            record { front = []; behind = rest; joined = []; parts = sym (append-nil rest); tail = main.tail; count = held },
            refl,
            refl,
            some,
          )))
    ])

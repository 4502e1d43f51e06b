-- A step of a place that leaves the main word raises the step bound of no other place.
use Rattle.std.proofs.Common.{◌≡◌, ℕ, ◌+◌, ◌≤◌, true, List, [], ◌∷◌, ◌++◌, refl, sym, ap, ◌∙◌, arith, append_assoc, append-nil}
use Rattle.saa_core_spec.specs.Object.{one_if, times}
use Rattle.saa_core_spec.proofs.Counts.{times-append}
use Rattle.saa_core_words.specs.declared.word.Word.{Word}
use Rattle.saa_word_steps.specs.declared.place.Place.{Place}
use Rattle.saa_word_steps.specs.declared.place.AfterShow.TheVariants.{Ends, Again}
use Rattle.saa_word_steps.specs.declared.place.AfterWalk.{AfterWalk}
use Rattle.saa_word_steps.specs.declared.place.Stage.{Stage}
use Rattle.saa_word_steps.specs.declared.place.Stage.TheVariants.{BackLoad, BackStore, Forward, CutToClose, CutForRetry, Close, Empty, Retry, ShowLoad, ShowStore, Take, LookLoad, LookStore, Unlink, Prepare}
use Rattle.saa_word_steps.specs.Needs.{Needs}
use Rattle.saa_word_steps.specs.AbstractState.{AbstractState, held_by}
use Rattle.saa_word_steps.specs.Steps.{operation_of, word_at}
use Rattle.saa_word_proofs.specs.Refinement.{newest, is_holder, Work, IsAt, IsShowing, IsHolding, Invariant}
use Rattle.saa_word_proofs.specs.Rows.{line_of, main_of, updated}
use Rattle.saa_word_proofs.specs.StepRefinement.{row_after}
use Rattle.saa_word_proofs.proofs.RefinementLemmas.Lists.{updated-same}
use Rattle.saa_word_proofs.specs.StepBound.{way, waiting, steps_left, step_bound, IsKept}
use Rattle.saa_word_proofs.proofs.RefinementLemmas.Leaving.{found-parts}
use Rattle.saa_word_proofs.proofs.RefinementLemmas.Rows.{IsAtStage, at-stage}
use Rattle.saa_word_proofs.proofs.StepBoundLemmas.Ways.{IsWay, way-front, way-length, ways-store, apart-way}
use Rattle.saa_word_proofs.proofs.StepBoundLemmas.Lines.{look, look-parts, look-there, at-way, unshown-held, unshown-none, unshown-way, uncut-way, cut-way, part-way, back-way, cut-line, past-line}

pub kept-row : (places : ℕ) (row new : ℕ → ℕ) (back : AfterWalk) (stage : Stage) → new ≡ row
    → step_bound places new back stage ≤ step_bound places row back stage
kept-row places row new back stage same = omega (arith, ap (λ (now : ℕ → ℕ). step_bound places now back stage) same)

kept-ways : (places : ℕ) (row new : ℕ → ℕ) (back : AfterWalk) (stage : Stage) → way places new ≡ way places row → new 0 ≡ row 0
    → step_bound places new back stage ≤ step_bound places row back stage
kept-ways places row new back stage same number =
    rw (same, number) (omega arith)

-- A store to a line word

-- as many are met from a link once a number is written over the line word of a place
abbrev IsMetAsBefore : ℕ → (ℕ → ℕ) → ℕ → ℕ → ℕ → Type 0
IsMetAsBefore places row at number link = way places (updated row (at + 1) number) link ≡ way places row link

met-as-before : (places : ℕ) (row : ℕ → ℕ) (at number link : ℕ) (line : List (ℕ × ℕ)) → IsWay places row link line → times at line ≡ 0
    → IsMetAsBefore places row at number link
met-as-before places row at number link line leads out =
    way-length places (updated row (at + 1) number) link line (apart-way places row link line at number leads out)
    ∙ sym (way-length places row link line leads)

module _ (needs : Needs) (places : ℕ) (row : ℕ → ℕ) (standing : ℕ → Place) (state : AbstractState) (s : Invariant needs places row standing state)
    (other : ℕ) where
  -- a row on which the other place's step bound isn't raised
  abbrev IsNotRaised : (ℕ → ℕ) → Type 0
  IsNotRaised new = step_bound places new (standing other).back (standing other).stage ≤ step_bound places row (standing other).back (standing other).stage

  -- a store to the line word of a place whose answer the other place isn't to show, and that isn't in the line if that holds the flag
  module _ (at number : ℕ) (none : times at (s.unshown other) ≡ 0) where
    module _ (clear : times at state.line ≡ 0) where
      line-kept : (link : ℕ) (part rest : List (ℕ × ℕ)) → state.line ≡ part ++ rest → IsWay places row link part → IsMetAsBefore places row at number link
      line-kept link part rest parts leads =
          met-as-before places row at number link part leads (omega (arith, clear, ap (times at) parts, times-append at part rest))

      module _ (seen : Word) (work : Work state.count state.line seen) (whole : s.cut ≡ []) where
        part-kept : (part rest : List (ℕ × ℕ)) → state.line ≡ part ++ rest → (link : ℕ) → link ≡ newest 0 part → IsMetAsBefore places row at number link
        part-kept part rest parts link newest_is =
            line-kept link part rest parts (part-way needs places row standing state s whole part rest parts link newest_is)

        tail-kept : IsMetAsBefore places row at number seen.tail
        tail-kept = part-kept (work.front ++ work.behind) work.joined (work.parts ∙ sym (append_assoc work.front work.behind work.joined)) seen.tail work.tail

        front-kept : (current : ℕ) → current ≡ newest 0 work.front → IsMetAsBefore places row at number current
        front-kept = part-kept work.front (work.behind ++ work.joined) work.parts

        at-kept : (current : ℕ) → IsAt (line_of row) work.behind current → IsMetAsBefore places row at number current
        at-kept current looks =
            let l = look needs places row standing state s seen work whole current looks in
            line-kept current (work.front ++ l.asker ∷ []) (l.rest ++ work.joined)
            (look-parts needs places row standing state s seen work whole current l ∙ sym (append_assoc work.front (l.asker ∷ []) (l.rest ++ work.joined)))
            (at-way needs places row standing state s seen work whole current l)

      cut-kept : (top : ℕ) → top ≡ newest 0 s.cut → IsMetAsBefore places row at number top
      cut-kept top newest_is = line-kept top s.cut s.uncut s.line.parts (cut-way needs places row standing state s top newest_is)

    unshown-kept : (part rest : List (ℕ × ℕ)) (link : ℕ) → s.unshown other ≡ part ++ rest → link ≡ newest 0 part → IsMetAsBefore places row at number link
    unshown-kept part rest link parts newest_is =
        met-as-before places row at number link part
        (way-front places row _ (s.unshown other) (unshown-way needs places row standing state s other _ refl) part rest parts link newest_is)
        (omega (arith, none, ap (times at) parts, times-append at part rest))

    module _ (less : waiting (way places (updated row (at + 1) number)) (row 0) ≤ waiting (way places row) (row 0)) where
      links-kept : (stage : Stage) → (is_holder stage ≡ true → IsHolding needs (line_of row) other state.count state.line s.cut stage)
          → IsShowing (s.unshown other) (s.answer_value other) stage
          → (is_holder stage ≡ true → times at state.line ≡ 0)
          → (is_holder stage ≡ true → waiting (way places (updated row (at + 1) number)) (row 0) ≡ waiting (way places row) (row 0))
          → (back : AfterWalk) → steps_left (way places (updated row (at + 1) number)) (row 0) back stage ≤ steps_left (way places row) (row 0) back stage
      links-kept (BackLoad seen current newer) h showing clear same back =
          let k = h refl in grind (arith, same, tail-kept (clear refl) seen k.0 k.1, front-kept (clear refl) seen k.0 k.1 current k.2.0)
      links-kept (BackStore seen current newer line) h showing clear same back =
          let k = h refl in grind (arith, same, tail-kept (clear refl) seen k.0 k.1, front-kept (clear refl) seen k.0 k.1 current k.2.0)
      links-kept (LookLoad seen current newer previous) h showing clear same back =
          let k = h refl in grind (arith, same, tail-kept (clear refl) seen k.0 k.1, front-kept (clear refl) seen k.0 k.1 current k.2.0)
      links-kept (LookStore seen current newer line) h showing clear same back =
          let k = h refl in grind (arith, same, tail-kept (clear refl) seen k.0 k.1, front-kept (clear refl) seen k.0 k.1 current k.2.0)
      links-kept (Forward seen current count) h showing clear same back =
          let k = h refl in grind (arith, same, tail-kept (clear refl) seen k.0 k.1, at-kept (clear refl) seen k.0 k.1 current k.3)
      links-kept (Empty seen current count line) h showing clear same back =
          let k = h refl in grind (arith, same, at-kept (clear refl) seen k.0 k.1 current k.3)
      links-kept (Unlink seen newer line older) h showing clear same back =
          let k = h refl in
          let parts = found-parts other state.count older state.line seen k.0 k.2 in
          grind (arith, same, tail-kept (clear refl) seen k.0 k.1, part-kept (clear refl) seen k.0 k.1 k.2.0 _ parts older k.2.3)
      links-kept (Close seen count top) h showing clear same back = grind (arith, same, cut-kept (clear refl) top ((h refl).3 ∙ ap (newest 0) (sym (h refl).1)))
      links-kept (Retry seen count top) h showing clear same back = grind (arith, same, cut-kept (clear refl) top ((h refl).3 ∙ ap (newest 0) (sym (h refl).1)))
      links-kept (ShowLoad current value Ends) h showing clear same back = grind (arith, less, unshown-kept _ [] current (sym (append-nil _)) (sym showing.0))
      links-kept (ShowLoad current value (Again seen)) h showing clear same back =
          grind (arith, same, tail-kept (clear refl) seen (h refl).0 (h refl).1, unshown-kept _ [] current (sym (append-nil _)) (sym showing.0))
      links-kept (ShowStore current next value Ends) h showing clear same back = grind (arith, less, unshown-kept showing.0 _ next showing.2 showing.4)
      links-kept (ShowStore current next value (Again seen)) h showing clear same back =
          grind (arith, same, tail-kept (clear refl) seen (h refl).0 (h refl).1, unshown-kept showing.0 _ next showing.2 showing.4)
      links-kept _ h showing clear same back = grind (arith, less, same)

    kept-store : (index : ℕ) → index ≡ at + 1 → updated row index number 0 ≡ row 0
        → waiting (way places (updated row index number)) (row 0) ≤ waiting (way places row) (row 0)
        → (is_holder (standing other).stage ≡ true → times at state.line ≡ 0)
        → (is_holder (standing other).stage ≡ true → waiting (way places (updated row (at + 1) number)) (row 0) ≡ waiting (way places row) (row 0))
        → IsNotRaised (updated row index number)
    kept-store index is main less clear same =
        let k = at-stage needs places row standing state other s (standing other).stage refl in
        rw (main, is) (links-kept (rw is at less) (standing other).stage (λ holding. k.holding (k.mine holding)) k.showing clear same (standing other).back)

  -- a store of the flag's holder to the line word of the first of those behind the front
  kept-first : (me : ℕ) → (other ≡ me → ⊥) → s.holder ≡ me + 1 → (seen : Word) (work : Work state.count state.line seen) → s.cut ≡ []
      → (index number : ℕ) → IsAt (line_of row) work.behind index → updated row index number 0 ≡ row 0
      → waiting (way places (updated row index number)) (row 0) ≤ waiting (way places row) (row 0)
      → IsNotRaised (updated row index number)
  kept-first me apart mine seen work whole index number looks main less =
      let l = look needs places row standing state s seen work whole index looks in
      let free : is_holder (standing other).stage ≡ true → ⊥ = λ holding.
      let theirs = (at-stage needs places row standing state other s (standing other).stage refl).mine holding in apart (omega (arith, mine, theirs)) in
      kept-store l.asker.0 number (unshown-none needs places row standing state s other l.asker.0
      (look-there needs places row standing state s seen work whole index l)) index l.link main less
      (λ holding. absurd (free holding)) (λ holding. absurd (free holding))

  kept-by : (me : ℕ) → (other ≡ me → ⊥) → (stage : Stage) → IsAtStage needs places row standing state me s stage
      → (is_holder stage ≡ true → IsHolding needs (line_of row) me state.count state.line s.cut stage)
      → row_after row (operation_of needs places me stage) 0 ≡ row 0 → IsNotRaised (row_after row (operation_of needs places me stage))
  kept-by me apart (Prepare request seen) k h main =
      let free : held_by me state ≡ 0 = s.seats.held me ∙ ap one_if k.alone.1 in
      let same = met-as-before places row me _ (main_of row).tail s.uncut (uncut-way needs places row standing state s)
      (omega (arith, free, ap (times me) s.line.parts, times-append me s.cut s.uncut)) in
      kept-store me _ (omega (arith, free, unshown-held needs places row standing state s other me)) (me + 1) refl main
      (omega (arith, same)) (λ holding. omega (arith, free)) (λ holding. same)
  kept-by me apart (BackStore seen current newer line) k h main =
      let back = back-way needs places row standing state s seen (h refl).0 (h refl).1 current newer line (h refl).2 (h refl).3 in
      kept-ways places row _ _ (standing other).stage (ways-store places row current _ (λ some within. back.stored)) main
  kept-by me apart (LookStore seen current newer line) k h main =
      let back = back-way needs places row standing state s seen (h refl).0 (h refl).1 current newer line (h refl).2 (h refl).4 in
      kept-ways places row _ _ (standing other).stage (ways-store places row current _ (λ some within. back.stored)) main
  kept-by me apart (CutToClose seen current count line) k h main =
      let cut = cut-line needs places row standing state s seen (h refl).0 (h refl).1 current line (h refl).3 (h refl).4 in
      kept-first me apart (k.mine refl) seen (h refl).0 (h refl).1 current _ (h refl).3 main (omega (arith, cut.rest_was, cut.rest_ways))
  kept-by me apart (CutForRetry seen current count line) k h main =
      let cut = cut-line needs places row standing state s seen (h refl).0 (h refl).1 current line (h refl).3 (h refl).4 in
      kept-first me apart (k.mine refl) seen (h refl).0 (h refl).1 current _ (h refl).3 main (omega (arith, cut.rest_was, cut.rest_ways))
  kept-by me apart (Unlink seen newer line older) k h main =
      let past = past-line needs places row standing state s seen (h refl).0 (h refl).1 me newer older line (h refl).2 (h refl).3 (h refl).4 in
      kept-first me apart (k.mine refl) seen (h refl).0 (h refl).1 newer _ (h refl).3 main (omega (arith, past.rest_was, past.rest_ways))
  kept-by me apart (ShowStore current next value afterwards) k h main =
      kept-ways places row _ _ (standing other).stage (ways-store places row (places + current) _ (λ some within. absurd (omega (arith, k.showing.3)))) main
  kept-by me apart (Take taking) k h main =
      kept-ways places row _ _ (standing other).stage (ways-store places row (places + me + 1) 0 (λ some within. absurd (omega arith))) main
  kept-by me apart stage k h main =
      kept-row places row _ _ (standing other).stage (updated-same row (word_at (operation_of needs places me stage)) _ (grind (arith, main)))

pub kept : (needs : Needs) (places : ℕ) (row : ℕ → ℕ) (standing : ℕ → Place) (state : AbstractState) (me other : ℕ) → Invariant needs places row standing state
    → (other ≡ me → ⊥) → IsKept needs places row standing me other
kept needs places row standing state me other s apart =
    let k = at-stage needs places row standing state me s (standing me).stage refl in
    kept-by needs places row standing state s other me apart (standing me).stage k (λ holds. k.holding (k.mine holds))

-- Each step of a place lowers its step bound.
use Rattle.std.proofs.Common.{◌≡◌, ℕ, ◌+◌, ◌-◌, ◌*◌, ◌%◌, ◌<◌, ◌≤◌, true, false, ◌==◌, if◌then◌else◌, [], ◌∷◌, ◌++◌, length-append, Bool, Option, refl, sym, ap, arith, inl, inr, ◌^◌}
use Rattle.std.proofs.lemmas.Bool.{cases_Bool}
use Rattle.std.proofs.lemmas.Bool.Decides.{nat_tests}
use Rattle.saa_core_spec.proofs.Counts.{number_same}
use Rattle.saa_core_words.specs.declared.word.Word.{Word}
use Rattle.saa_core_words.specs.Words.{count_bits, word_number, word_of, line_word_of}
use Rattle.saa_core_words.proofs.Words.{word-read}
use Rattle.saa_word_steps.specs.declared.place.Place.{Place}
use Rattle.saa_word_steps.specs.declared.place.ReleaseAmount.{ReleaseAmount}
use Rattle.saa_word_steps.specs.declared.place.AfterShow.TheVariants.{Ends, Again}
use Rattle.saa_word_steps.specs.declared.place.Stage.{Stage}
use Rattle.saa_word_steps.specs.declared.place.Stage.TheVariants.{Quiet, AcquireExchange, Prepare, Join, ReleaseLoad, ReleaseExchange, BackStore, Forward, CutToClose, CutForRetry, Close, Empty, Retry, ShowLoad, ShowStore, Take, FlagExchange, LookLoad, LookStore, Unlink, DropTail, PoisonExchange, Clear}
use Rattle.saa_word_steps.specs.Needs.{Needs, AreNeeds}
use Rattle.saa_word_steps.specs.AbstractState.{AbstractState, count_or}
use Rattle.saa_word_steps.specs.Steps.{exchanged, left_from, gave_nothing, given_to, IsSmall, word_at, written_by, operation_of, next_of, released, settled_word, flagged_word, dropped_word}
use Rattle.saa_word_steps.specs.Readings.{refusing_word}
use Rattle.saa_word_steps.proofs.Giving.{left-shrinks}
use Rattle.saa_word_proofs.specs.Refinement.{takes_back, is_holder, IsHolding, Invariant}
use Rattle.saa_word_proofs.specs.Rows.{line_of, main_of, updated}
use Rattle.saa_word_proofs.specs.StepRefinement.{row_after}
use Rattle.saa_word_proofs.specs.StepBound.{way, waiting, steps_left, step_bound, IsLower, IsLowered}
use Rattle.saa_word_proofs.proofs.RefinementLemmas.Lists.{updated-same, front-lower}
use Rattle.saa_word_proofs.proofs.RefinementLemmas.Granting.{front-bounded}
use Rattle.saa_word_proofs.proofs.RefinementLemmas.Rows.{IsAtStage, at-stage, main-found, row-other}
use Rattle.saa_word_proofs.proofs.StepBoundLemmas.Ways.{met-nobody, way-length, older-length, ways-store}
use Rattle.saa_word_proofs.proofs.StepBoundLemmas.Lines.{unshown-way, part-way, tail-length, line-length, back-way, at-length, next-length, cut-line, found-way, past-line}

-- a small number is that of the main word that is read from it
found-seen : (number : ℕ) → number < 2 ^ (count_bits + 18) → number == word_number count_bits (word_of count_bits number) ≡ true
found-seen number small = grind (arith, nat_tests)

-- How a place goes on, by how many are met from each link

-- a release, whatever is left of the count
given-lower : (ways : ℕ → ℕ) (number before : ℕ) (place : Place) (what : ReleaseAmount) (seen : Word) (gone : Bool) (left : Option ℕ)
    → number == word_number count_bits seen ≡ true → 5 * waiting ways number + 3 < before
    → IsLower ways number before (if gone then gave_nothing place place.back else given_to place what seen left)
given-lower ways number before place what seen gone left fresh more = grind arith

-- a look at the next of those behind the front
forward-lower : (needs : Needs) (me : ℕ) (ways : ℕ → ℕ) (number found : ℕ) (place : Place) (seen : Word) (current count : ℕ)
    → ways 0 ≡ 0 → ways current ≤ waiting ways number → ways current ≤ ways seen.tail
    → (current == seen.tail ≡ false → ways (line_word_of found).newer ≡ ways current + 1)
    → IsLower ways number (steps_left ways number place.back (Forward seen current count)) (next_of needs me place (Forward seen current count) found)
forward-lower needs me ways number found place seen current count nobody within_line within_tail more = grind arith

-- an exchange that finds another word than the one that was seen
missed-lower : (needs : Needs) (places me : ℕ) (ways : ℕ → ℕ) (number : ℕ) (place : Place) (stage : Stage) (seen new : Word) → ways 0 ≡ 0
    → number == word_number count_bits (word_of count_bits number) ≡ true → number == word_number count_bits seen ≡ false
    → operation_of needs places me stage ≡ exchanged seen new
    → IsLower ways number (steps_left ways number place.back stage) (next_of needs me place stage number)
missed-lower needs places me ways number place (ReleaseExchange given mine) seen new nobody fresh differs is =
    let apart : number == word_number count_bits mine ≡ false = grind (arith, differs, is) in
    rw apart (given-lower ways number _ place given (word_of count_bits number) _ (left_from needs (word_of count_bits number).count given) fresh (omega arith))
missed-lower needs places me ways number place stage seen new nobody fresh differs is = grind arith

module _ (needs : Needs) (lawful : AreNeeds needs) (wide : needs.top < 2 ^ count_bits) (places : ℕ) (row : ℕ → ℕ) (standing : ℕ → Place) (state : AbstractState)
    (me : ℕ) (s : Invariant needs places row standing state) where
  fresh : row 0 == word_number count_bits (word_of count_bits (row 0)) ≡ true
  fresh = found-seen (row 0) s.main.whole

  nobody : way places row 0 ≡ 0
  nobody = met-nobody places row places

  -- a number that is written over the main word leaves all ways
  main-kept : (number : ℕ) → way places (updated row 0 number) ≡ way places row
  main-kept number = ways-store places row 0 number (λ some within. absurd (omega (arith, some)))

  -- a step lowers the step bound where it leaves all ways, and this number in the main word, and finds that one
  abbrev IsLowerAt : ℕ → ℕ → Stage → Type 0
  IsLowerAt number found stage =
      IsLower (way places row) number (step_bound places row (standing me).back stage) (next_of needs me (standing me) stage found)

  -- a step that writes what stood there, and a store that leaves the older link of a line word
  load : (stage : Stage) → written_by (operation_of needs places me stage) (row (word_at (operation_of needs places me stage)))
      ≡ row (word_at (operation_of needs places me stage)) → IsLowerAt (row 0) (row (word_at (operation_of needs places me stage))) stage
      → IsLowered needs places row standing me stage
  load stage same lower =
      let all : row_after row (operation_of needs places me stage) ≡ row = updated-same row (word_at (operation_of needs places me stage)) _ same in
      rw (ap (way places) all, ap (λ (now : ℕ → ℕ). now 0) all) lower

  store : (stage : Stage) → 0 < word_at (operation_of needs places me stage) → (word_at (operation_of needs places me stage) ≤ places
      → (line_word_of (written_by (operation_of needs places me stage) (row (word_at (operation_of needs places me stage))))).older
      ≡ (line_word_of (row (word_at (operation_of needs places me stage)))).older)
      → IsLowerAt (row 0) (row (word_at (operation_of needs places me stage))) stage → IsLowered needs places row standing me stage
  store stage some same lower =
      let index : ℕ = word_at (operation_of needs places me stage) in
      rw (ways-store places row index _ (λ there. same), row-other row index _ 0 (λ is. absurd (omega (arith, is, some)))) lower

  -- an exchange of the main word
  exchange : (stage : Stage) (seen new : Word) → operation_of needs places me stage ≡ exchanged seen new
      → (row 0 == word_number count_bits seen ≡ true → IsLowerAt (word_number count_bits new) (row 0) stage)
      → IsLowered needs places row standing me stage
  exchange stage seen new is taken =
      rw (is, main-kept (written_by (exchanged seen new) (row 0))) (elim (cases_Bool (row 0 == word_number count_bits seen)) [
        | inl same ↦ rw same (taken same)
        | inr differs ↦ rw differs (missed-lower needs places me (way places row) (row 0) (standing me) stage seen new nobody fresh differs is)
      ])

  -- so many wait as are met from the tail that was seen, and then as are met from the tail that is written
  seen-met : (seen : Word) → IsSmall seen → seen.tail < 65536 → row 0 == word_number count_bits seen ≡ true
      → waiting (way places row) (row 0) ≡ way places row seen.tail
  seen-met seen small tail same = ap (λ (w : Word). way places row w.tail) (main-found (row 0) seen small tail same)

  new-met : (new : Word) → IsSmall new → new.tail < 65536
      → (word_number count_bits new == word_number count_bits new ≡ true) × (waiting (way places row) (word_number count_bits new) ≡ way places row new.tail)
  new-met new small tail = (number_same (word_number count_bits new), ap (λ (w : Word). way places row w.tail) (word-read count_bits new small tail))

  lowered-at : (stage : Stage) → IsAtStage needs places row standing state me s stage
      → (is_holder stage ≡ true → IsHolding needs (line_of row) me state.count state.line s.cut stage) → (stage ≡ Quiet → ⊥)
      → IsLowered needs places row standing me stage
  lowered-at Quiet k h busy = absurd (busy refl)
  lowered-at (AcquireExchange ask seen) k h busy = exchange (AcquireExchange ask seen) seen _ refl (λ same. grind (arith, same))
  lowered-at (Prepare request seen) k h busy = grind arith
  lowered-at (Join request seen) k h busy = exchange (Join request seen) seen _ refl (λ same. grind (arith, same))
  lowered-at (ReleaseExchange given seen) k h busy =
      exchange (ReleaseExchange given seen) seen (released needs seen given) refl
      (λ same.
      let was = seen-met seen k.ranged k.alone.0 same in
      let fewer : (released needs seen given).count ≤ seen.count =
      omega (arith, ap (count_or seen.count) k.alone.1.1, left-shrinks needs lawful seen.count given k.alone.1.0 k.alone.1.1) in
      let now = new-met (released needs seen given) (omega (arith, k.ranged, fewer)) k.alone.0 in
      let ends : takes_back (standing me).back ≡ false = k.alone.3 in grind (arith, now))
  lowered-at (Close seen count top) k h busy =
      exchange (Close seen count top) seen (settled_word count seen.tail) refl
      (λ same. grind (arith, nobody, same, seen-met seen k.ranged.0 k.alone.0 same, new-met (settled_word count seen.tail) k.ranged.1 k.alone.0))
  lowered-at (Empty seen current count line) k h busy =
      exchange (Empty seen current count line) seen (settled_word count 0) refl
      (λ same. grind (arith, nobody, same, seen-met seen k.ranged.0 k.alone.0 same, new-met (settled_word count 0) k.ranged.1 (omega arith)))
  lowered-at (Retry seen count top) k h busy =
      let fits = front-lower needs lawful state.count seen.count (h refl).0.front (h refl).0.count (h refl).2.0 in
      let within = front-bounded needs lawful state.count (h refl).0.front fits s.main.bounded in
      let room : (main_of row).count + (count - seen.count) < 2 ^ count_bits = omega (arith, s.main.count, within, wide, (h refl).2.1) in
      let now : ℕ = (row 0 + (count - seen.count)) % 2 ^ 64 in
      let tail : (word_of count_bits now).tail ≡ (main_of row).tail = omega (arith, s.main.whole, room) in
      rw (main-kept now) (grind (arith, nobody, found-seen now (omega (arith, s.main.whole, room)), ap (way places row) tail))
  lowered-at (Take taking) k h busy = store (Take taking) (omega arith) (λ within. absurd (omega (arith, within))) (grind arith)
  lowered-at (FlagExchange seen) k h busy =
      exchange (FlagExchange seen) seen (flagged_word seen) refl
      (λ same. grind (arith, nobody, same, seen-met seen k.ranged k.alone.1 same, new-met (flagged_word seen) k.ranged k.alone.1))
  lowered-at (PoisonExchange seen) k h busy =
      exchange (PoisonExchange seen) seen (refusing_word needs seen) refl
      (λ same. grind (arith, nobody, same, k.alone, seen-met seen k.ranged k.alone.1 same))
  lowered-at Clear k h busy = (refl, omega arith)
  lowered-at (BackStore seen current newer line) k h busy =
      let back = back-way needs places row standing state s seen (h refl).0 (h refl).1 current newer line (h refl).2 (h refl).3 in
      store (BackStore seen current newer line) back.some (λ within. back.stored) (grind (arith, nobody, back.older))
  lowered-at (LookStore seen current newer line) k h busy =
      let back = back-way needs places row standing state s seen (h refl).0 (h refl).1 current newer line (h refl).2 (h refl).4 in
      store (LookStore seen current newer line) back.some (λ within. back.stored) (grind (arith, nobody, back.older))
  lowered-at (LookLoad seen current newer previous) k _ busy =
      let h = k.holding (k.mine refl) in
      let leads = part-way needs places row standing state s h.1 h.0.front (h.0.behind ++ h.0.joined) h.0.parts current h.2.0 in
      load (LookLoad seen current newer previous) refl (grind (arith, nobody, older-length places row current h.0.front leads h.2.1))
  lowered-at (Forward seen current count) k h busy =
      let here = at-length needs places row standing state s seen (h refl).0 (h refl).1 current (h refl).3 in
      let line = line-length needs places row standing state s seen (h refl).0 (h refl).1 in
      let tail = tail-length needs places row standing state s seen (h refl).0 (h refl).1 in
      load (Forward seen current count) refl (forward-lower needs me (way places row) (row 0) _ (standing me) seen current count
      nobody (omega (arith, here, line)) (omega (arith, here, tail))
      (λ more. omega (arith, here, next-length needs places row standing state s seen (h refl).0 (h refl).1 (h refl).0.behind current refl (h refl).3 more)))
  lowered-at (CutToClose seen current count line) k h busy =
      grind (arith, cut-line needs places row standing state s seen (h refl).0 (h refl).1 current line (h refl).3 (h refl).4)
  lowered-at (CutForRetry seen current count line) k h busy =
      grind (arith, cut-line needs places row standing state s seen (h refl).0 (h refl).1 current line (h refl).3 (h refl).4)
  lowered-at (Unlink seen newer line older) k h busy =
      grind (arith, nobody, past-line needs places row standing state s seen (h refl).0 (h refl).1 me newer older line (h refl).2 (h refl).3 (h refl).4)
  lowered-at (DropTail seen older) k h busy =
      let found = found-way needs places row standing state s seen (h refl).0 (h refl).1 me older (h refl).2 in
      exchange (DropTail seen older) seen (dropped_word seen older) refl (λ same. grind (
        arith,
        nobody,
        same,
        seen-met seen k.ranged k.alone.1 same,
        new-met (dropped_word seen older) k.ranged found.1,
        tail-length needs places row standing state s seen (h refl).0 (h refl).1,
        way-length places row older (h refl).2.0 found.0,
        (h refl).3,
        (h refl).2.2,
        length-append (h refl).2.0 ((me, (h refl).2.1) ∷ []),
      ))
  lowered-at (ShowLoad current value afterwards) k h busy =
      let leads = unshown-way needs places row standing state s me current (sym k.showing.0) in
      load (ShowLoad current value afterwards) refl (grind (arith, nobody, older-length places row current (s.unshown me) leads k.showing.1))
  lowered-at (ShowStore current next value Ends) k h busy =
      store (ShowStore current next value Ends) (omega (arith, k.showing.3)) (λ within. absurd (omega (arith, k.showing.3, within))) (grind (arith, nobody))
  lowered-at (ShowStore current next value (Again seen)) k h busy =
      let line = line-length needs places row standing state s seen (h refl).0 (h refl).1 in
      let tail = tail-length needs places row standing state s seen (h refl).0 (h refl).1 in
      store (ShowStore current next value (Again seen)) (omega (arith, k.showing.3)) (λ within. absurd (omega (arith, k.showing.3, within)))
      (grind (arith, nobody, line, tail))
  lowered-at (ReleaseLoad given) k h busy =
      load (ReleaseLoad given) refl
      (given-lower (way places row) (row 0) _ (standing me) given (main_of row) _ (left_from needs (main_of row).count given) fresh (omega arith))
  lowered-at stage k h busy = load stage refl (grind (arith, fresh, nobody))

  pub lowered : (stage : Stage) → (standing me).stage ≡ stage → (stage ≡ Quiet → ⊥) → IsLowered needs places row standing me stage
  lowered stage at =
      let k = at-stage needs places row standing state me s stage at in lowered-at stage k (λ holds. k.holding (k.mine holds))

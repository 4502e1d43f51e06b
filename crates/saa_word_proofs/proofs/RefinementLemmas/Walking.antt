-- The holder of the flag walks the line, from the tail that it saw to the oldest and from there on, and cuts the granted waiters off from those
-- that stay: each step keeps how words, places and the abstract state stand together.
use Rattle.std.proofs.Common.{◌^◌, ◌≡◌, ℕ, ◌+◌, ◌<◌, pred, true, false, List, [], ◌∷◌, ◌++◌, ◌==◌, refl, sym, ap, subst, ◌∙◌, arith, inl, inr, append_assoc}
use Rattle.std.proofs.lemmas.Bool.{cases_Bool}
use Rattle.saa_core_spec.proofs.Counts.{same_number, one_if-same, times-append}
use Rattle.saa_core_words.specs.declared.word.Word.{Word}
use Rattle.saa_core_words.specs.declared.line_word.LineWord.{LineWord}
use Rattle.saa_core_words.specs.Words.{count_bits, line_number, line_word_of}
use Rattle.saa_word_steps.specs.declared.place.Place.{Place}
use Rattle.saa_word_steps.specs.declared.place.Stage.TheVariants.{BackLoad, BackStore, Forward, CutToClose, Close, Empty, CutForRetry, Retry}
use Rattle.saa_word_steps.specs.Needs.{fits_count}
use Rattle.saa_word_steps.specs.AbstractState.{IsFront, IsSettledAt, takes_of, is_empty, AbstractState}
use Rattle.saa_word_steps.specs.Steps.{next_of}
use Rattle.saa_word_proofs.specs.Refinement.{newest, is_holder, Work, IsAdded, IsAt, IsLine, AreSeats}
use Rattle.saa_word_proofs.specs.Rows.{line_of, updated, IsBehind}
use Rattle.saa_word_proofs.specs.StepRefinement.{place_after}
use Rattle.saa_core_spec.specs.Object.{one_if, times}
use Rattle.saa_core_words.proofs.Words.{line_word-read}
use Rattle.saa_word_proofs.proofs.RefinementLemmas.Lists.{front-append, takes-append, front-none, front-some, behind-same, behind-front, behind-rest}
use Rattle.saa_word_proofs.proofs.RefinementLemmas.Frames.{newest-stands, oldest-stands, work-front, work-behind}
use Rattle.saa_word_proofs.proofs.RefinementLemmas.Rows.{IsStep, at-stage, moved, loaded, line-at, line-other}
use Rattle.saa_word_proofs.proofs.RefinementLemmas.Storing.{IsStored, stored}
use Rattle.saa_word_proofs.proofs.RefinementLemmas.Linking.{in-line, relinked, IsLooked, looked, linked-all, tail-room, line-room}
use Rattle.saa_word_proofs.proofs.RefinementLemmas.Holders.{some-append}
use Rattle.saa_word_proofs.proofs.RefinementLemmas.Outcomes.{silent}

-- The line word of the last of the front is loaded, before it is linked to those behind it
pub step-BackLoad : (seen : Word) (current newer : ℕ) → IsStep (BackLoad seen current newer)
step-BackLoad seen current newer needs lawful wide places row standing state me room s at =
    let known = at-stage needs places row standing state me s _ at in
    let knows = known.holding (known.mine refl) in
    let there = newest-stands knows.0.front current knows.2.1 knows.2.0 in
    let seat = in-line places standing state (pred current) s.seats (work-front state.count state.line seen knows.0 (pred current) there.0) in
    silent refl (omega (arith, there.1, seat.0)) (loaded needs places row _ state current
    (moved needs places row standing state me s (record (standing me) { stage = BackStore seen current newer (line_word_of (row current)) }) (λ out. refl) refl
    known.ranged known.alone known.apart tt known.showing (ap is_holder (sym at))
    (λ is. (knows.0, knows.1, knows.2, ap (λ (n : ℕ). line_word_of (row n)) there.1))))

-- It is written with the link to the one behind it; the walk goes on to the one before, or turns at the oldest
pub step-BackStore : (seen : Word) (current newer : ℕ) (line : LineWord) → IsStep (BackStore seen current newer line)
step-BackStore seen current newer line needs lawful wide places row standing state me room s at =
    let known = at-stage needs places row standing state me s _ at in
    let knows = known.holding (known.mine refl) in
    let flag = known.mine refl in
    let store : IsStored places row state s.cut s.uncut seen current newer line knows.0 =
    stored needs places row standing state s seen current newer line knows.0 room knows.1 knows.2 knows.3 in
    let work : Work state.count state.line seen = store.walk.work in
    let number : ℕ = line_number (record line { newer = newer }) in
    silent refl (omega (arith, store.link, store.inside)) (elim (cases_Bool (line.older == 0)) [
      | inl none ↦
          rw none
          (relinked needs places row standing state me s (Forward seen current seen.count) current (pred current) number s.cut s.uncut store.link (λ out. refl) flag
          store.waits store.linked
          (known.ranged, known.ranged) known.alone known.apart tt known.showing refl
          (work, knows.1, subst (λ l. IsAdded needs seen l seen.count) (sym (front-none work.front _ store.walk.before none)) (tt, omega arith), store.walk.behind))
      | inr some ↦
          rw some
          (relinked needs places row standing state me s (BackLoad seen line.older current) current (pred current) number s.cut s.uncut store.link (λ out. refl) flag
          store.waits store.linked
          known.ranged known.alone known.apart tt known.showing refl
          (work, knows.1, (store.walk.before, front-some work.front _ store.walk.before some, store.walk.behind.0, store.walk.behind.2)))
    ])

-- A waiter that fits is passed; the line is emptied where all fit, and cut and closed at the first that does not
pub step-Forward : (seen : Word) (current count : ℕ) → IsStep (Forward seen current count)
step-Forward seen current count needs lawful wide places row standing state me room s at =
    let known = at-stage needs places row standing state me s _ at in
    let knows = known.holding (known.mine refl) in
    let work : Work state.count state.line seen = knows.0 in
    let there = oldest-stands work.behind current knows.3.1 knows.3.0 in
    let seat = in-line places standing state (pred current) s.seats (work-behind state.count state.line seen work (pred current) there.0) in
    let found : LineWord = line_word_of (row current) in
    let is : found ≡ line_of row (pred current) = ap (λ (n : ℕ). line_word_of (row n)) there.1 in
    let look : IsLooked (line_of row) state.count state.line seen work current =
    looked (line_of row) state.count state.line seen work current (linked-all (line_of row) state.line s.cut s.uncut s.line knows.1) knows.3 in
    let older : found.older ≡ newest 0 work.front = ap (λ (w : LineWord). w.older) is ∙ look.older in
    let request : found.request ≡ look.asker.1 = ap (λ (w : LineWord). w.request) is ∙ look.request in
    let tail : seen.tail < 65536 = tail-room places standing state seen work s.seats room knows.3.1 in
    silent refl (omega (arith, there.1, seat.0)) (loaded needs places row
    (updated standing me (place_after (standing me) (next_of needs me (standing me) (Forward seen current count) (row current)))) state current
    (elim (cases_Bool (fits_count needs count found.request)) [
      | inl fits ↦
          let more : ℕ = count + needs.takes found.request in
          let small : more < 2 ^ count_bits = omega (arith, lawful.bounded count found.request fits, wide) in
          let fits_there : fits_count needs (seen.count + takes_of needs work.front) found.request ≡ true =
          ap (λ (n : ℕ). fits_count needs n found.request) (sym knows.2.1) ∙ fits in
          elim (cases_Bool (current == seen.tail)) [
            | inl last ↦
                rw (fits, last)
                (moved needs places row standing state me s (record (standing me) { stage = Empty seen current more found })
                (λ out. refl) refl (known.ranged.0, small) (tail, known.alone) known.apart tt known.showing (ap is_holder (sym at))
                (λ holder. (work, knows.1, knows.2.0, knows.3, is, sym (same_number current seen.tail last), fits_there, omega (arith, knows.2.1))))
            | inr differs ↦
                let some : is_empty look.rest ≡ false = grind (arith, differs, look.last) in
                let front : List (ℕ × ℕ) = work.front ++ look.asker ∷ [] in
                let after : Work state.count state.line seen = record {
                  front = front;
                  behind = look.rest;
                  joined = work.joined;
                  parts = work.parts ∙ ap (λ (l : List (ℕ × ℕ)). work.front ++ (l ++ work.joined)) look.behind
                      ∙ sym (append_assoc work.front (look.asker ∷ []) (look.rest ++ work.joined));
                  tail = work.tail ∙ ap (λ (l : List (ℕ × ℕ)). newest 0 (work.front ++ l)) look.behind
                      ∙ ap (newest 0) (sym (append_assoc work.front (look.asker ∷ []) look.rest));
                  count = work.count;
                } in
                let fit : IsFront needs seen.count front = front-append needs seen.count work.front (look.asker ∷ []) knows.2.0
                (ap (fits_count needs (seen.count + takes_of needs work.front)) (sym request) ∙ fits_there, tt) in
                let adds : more ≡ seen.count + takes_of needs front =
                omega (arith, knows.2.1, ap needs.takes request, takes-append needs work.front (look.asker ∷ [])) in
                rw (fits, differs)
                (moved needs places row standing state me s (record (standing me) { stage = Forward seen found.newer more })
                (λ out. refl) refl (known.ranged.0, small) known.alone known.apart tt known.showing (ap is_holder (sym at))
                (λ holder. (after, knows.1, (fit, adds), (ap (λ (w : LineWord). w.newer) is ∙ look.newer some, some, look.ahead))))
          ]
      | inr unfit ↦
          elim (cases_Bool (found.older == 0)) [
            | inl none ↦
                let nobody : work.front ≡ [] = front-none work.front _ older none in
                rw (unfit, none)
                (moved needs places row standing state me s (record (standing me) { stage = Close seen count 0 })
                (λ out. refl) refl known.ranged (tail, known.alone) known.apart tt known.showing (ap is_holder (sym at))
                (λ holder. (
                  work,
                  knows.1 ∙ sym nobody,
                  knows.2,
                  sym (ap (newest 0) nobody),
                  knows.3.1,
                  subst (λ l. IsSettledAt needs count l) (sym look.behind) (ap (λ (n : ℕ). fits_count needs count n) (sym request) ∙ unfit),
                )))
            | inr some ↦
                rw (unfit, some)
                (moved needs places row standing state me s (record (standing me) { stage = CutToClose seen current count found })
                (λ out. refl) refl known.ranged known.alone known.apart tt known.showing (ap is_holder (sym at))
                (λ holder. (work, knows.1, knows.2, knows.3, is, unfit)))
          ]
    ]))

-- What another older link in the line word of the first of those behind the front leaves: the front is linked as it was, and those behind it to that link
pub record IsRewritten (places : ℕ) (words new : ℕ → LineWord) (state : AbstractState) (seen : Word) (work : Work state.count state.line seen) (current older : ℕ)
    : Type 0 where
  pub link : current ≡ pred current + 1
  pub inside : pred current < places
  pub waits : 0 < times (pred current) state.line
  pub look : IsLooked words state.count state.line seen work current
  pub granted : IsBehind new 0 work.front
  pub stays : IsBehind new older (work.behind ++ work.joined)
  pub others : (other : ℕ) → (other ≡ pred current → ⊥) → new other ≡ words other
  pub newer : (new (pred current)).newer ≡ (words (pred current)).newer

pub rewritten : (places : ℕ) (row : ℕ → ℕ) (standing : ℕ → Place) (state : AbstractState) (cut uncut : List (ℕ × ℕ)) (seen : Word) (work : Work state.count state.line seen)
    (current older : ℕ) (line : LineWord) → AreSeats places standing state → IsLine (line_of row) state.line cut uncut → cut ≡ []
    → IsAt (line_of row) work.behind current → line ≡ line_of row (pred current) → older < 65536
    → IsRewritten places (line_of row) (line_of (updated row (pred current + 1) (line_number (record line { older = older })))) state seen work current older
rewritten places row standing state cut uncut seen work current older line seats is none at word room =
    let there = oldest-stands work.behind current at.1 at.0 in
    let waits = work-behind state.count state.line seen work (pred current) there.0 in
    let seat = in-line places standing state (pred current) seats waits in
    let linked = linked-all (line_of row) state.line cut uncut is none in
    let look : IsLooked (line_of row) state.count state.line seen work current = looked (line_of row) state.count state.line seen work current linked at in
    let rest : List (ℕ × ℕ) = look.rest ++ work.joined in
    let place : pred current ≡ look.asker.0 = omega (arith, look.link) in
    let number : ℕ = line_number (record line { older = older }) in
    let new : ℕ → LineWord = line_of (updated row (pred current + 1) number) in
    let small = subst (λ (w : LineWord). (w.request < 65536) × (w.older < 65536) × (w.newer < 65536)) (sym word) (line-room (row (pred current + 1))) in
    let written = line-at row (pred current) number ∙ line_word-read (record line { older = older }) small.0 room small.2 in
    let written_there : new look.asker.0 ≡ record line { older = older } = subst (λ (n : ℕ). new n ≡ record line { older = older }) place written in
    let parts : state.line ≡ work.front ++ look.asker ∷ rest = work.parts ∙ ap (λ (l : List (ℕ × ℕ)). work.front ++ (l ++ work.joined)) look.behind in
    let all : IsBehind (line_of row) 0 (work.front ++ look.asker ∷ rest) = subst (λ l. IsBehind (line_of row) 0 l) parts linked in
    let mark : one_if (look.asker.0 == pred current) ≡ 1 = ap (λ (n : ℕ). one_if (n == pred current)) (sym place) ∙ one_if-same (pred current) in
    let once : 1 ≡ times (pred current) work.front + (1 + times (pred current) rest) =
    omega (arith, seat.2, ap (λ (l : List (ℕ × ℕ)). times (pred current) l) parts, times-append (pred current) work.front (look.asker ∷ rest), mark) in
    let others : (other : ℕ) → (other ≡ pred current → ⊥) → new other ≡ line_of row other = line-other row (pred current) number in
    let same : (l : List (ℕ × ℕ)) → times (pred current) l ≡ 0 → (place : ℕ) → 0 < times place l → new place ≡ line_of row place =
    λ l out place stands. others place (λ is. omega (arith, out, stands, ap (λ (n : ℕ). times n l) is)) in
    record {
      link = there.1;
      inside = seat.0;
      waits = waits;
      look = look;
      granted = behind-same (line_of row) new 0 work.front (same work.front (omega (arith, once))) (behind-front (line_of row) 0 work.front (look.asker ∷ rest) all);
      stays = subst (λ (l : List (ℕ × ℕ)). IsBehind new older (l ++ work.joined)) (sym look.behind) (
        ap (λ (w : LineWord). w.request) written_there ∙ ap (λ (w : LineWord). w.request) word ∙ look.request,
        ap (λ (w : LineWord). w.older) written_there,
        behind-same (line_of row) new (look.asker.0 + 1) rest (same rest (omega (arith, once))) (behind-rest (line_of row) 0 work.front (look.asker ∷ rest) all).2,
      );
      others = others;
      newer = ap (λ (w : LineWord). w.newer) written ∙ ap (λ (w : LineWord). w.newer) word;
    }

-- A line is cut in two parts where the first of those behind the front is linked to nobody
cut : (places : ℕ) (words new : ℕ → LineWord) (state : AbstractState) (seen : Word) (work : Work state.count state.line seen) (current : ℕ)
    → IsRewritten places words new state seen work current 0 → is_empty work.behind ≡ false → IsLine new state.line work.front (work.behind ++ work.joined)
cut places words new state seen work current done some =
    let waits = some-append work.behind work.joined some in
    record { parts = work.parts; granted = done.granted; stays = done.stays; some = λ gone. grind (arith, gone, waits) }

-- The cut before the line is closed: the oldest waiter that stays does not fit
pub step-CutToClose : (seen : Word) (current count : ℕ) (line : LineWord) → IsStep (CutToClose seen current count line)
step-CutToClose seen current count line needs lawful wide places row standing state me room s at =
    let known = at-stage needs places row standing state me s _ at in
    let knows = known.holding (known.mine refl) in
    let done = rewritten places row standing state s.cut s.uncut seen knows.0 current 0 line s.seats s.line knows.1 knows.3 knows.4 (omega arith) in
    silent refl (omega (arith, done.link, done.inside))
    (relinked needs places row standing state me s (Close seen count line.older) current (pred current) _ knows.0.front (knows.0.behind ++ knows.0.joined) done.link
    (λ out. refl) (known.mine refl) done.waits (cut places (line_of row) _ state seen knows.0 current done knows.3.1)
    known.ranged (tail-room places standing state seen knows.0 s.seats room knows.3.1, known.alone) known.apart tt known.showing refl (
      knows.0,
      refl,
      knows.2,
      ap (λ (w : LineWord). w.older) knows.4 ∙ done.look.older,
      knows.3.1,
      subst (λ l. IsSettledAt needs count l) (sym done.look.behind)
          (ap (λ (n : ℕ). fits_count needs count n) (sym done.look.request) ∙ ap (λ (w : LineWord). fits_count needs count w.request) (sym knows.4) ∙ knows.5),
    ))

-- The cut before the holder walks anew: the line could not be emptied, and its last waits on
pub step-CutForRetry : (seen : Word) (current count : ℕ) (line : LineWord) → IsStep (CutForRetry seen current count line)
step-CutForRetry seen current count line needs lawful wide places row standing state me room s at =
    let known = at-stage needs places row standing state me s _ at in
    let knows = known.holding (known.mine refl) in
    let done = rewritten places row standing state s.cut s.uncut seen knows.0 current 0 line s.seats s.line knows.1 knows.3 knows.4 (omega arith) in
    silent refl (omega (arith, done.link, done.inside))
    (relinked needs places row standing state me s (Retry seen count line.older) current (pred current) _ knows.0.front (knows.0.behind ++ knows.0.joined) done.link
    (λ out. refl) (known.mine refl) done.waits (cut places (line_of row) _ state seen knows.0 current done knows.3.1)
    known.ranged known.alone known.apart tt known.showing refl
    (knows.0, refl, knows.2, ap (λ (w : LineWord). w.older) knows.4 ∙ done.look.older, knows.3.1))

-- The holder of the flag links the last of the front to those behind it: what the line is to it then.
use Rattle.std.proofs.Common.{◌≡◌, ℕ, ◌+◌, ◌<◌, pred, false, List, [], ◌∷◌, ◌++◌, ◌==◌, refl, sym, ap, subst, ◌∙◌, arith, append_assoc}
use Rattle.std.proofs.lemmas.Bool.Decides.{nat_tests}
use Rattle.saa_core_spec.proofs.Counts.{times-append}
use Rattle.saa_core_words.specs.declared.word.Word.{Word}
use Rattle.saa_core_words.specs.declared.line_word.LineWord.{LineWord}
use Rattle.saa_core_words.specs.Words.{line_number}
use Rattle.saa_core_words.proofs.Words.{line_word-read}
use Rattle.saa_core_spec.specs.Object.{times}
use Rattle.saa_word_steps.specs.declared.place.Place.{Place}
use Rattle.saa_word_steps.specs.Needs.{Needs}
use Rattle.saa_word_steps.specs.AbstractState.{AbstractState}
use Rattle.saa_word_proofs.specs.Refinement.{newest, Work, IsAt, IsBack, IsPassed, IsLine, Invariant}
use Rattle.saa_word_proofs.specs.Rows.{IsBehind, line_of, updated}
use Rattle.saa_word_proofs.proofs.RefinementLemmas.Lists.{split-last, newest-last, behind-frame, behind-rest, ahead-frame, ahead-cons}
use Rattle.saa_word_proofs.proofs.RefinementLemmas.Frames.{newest-stands, work-front}
use Rattle.saa_word_proofs.proofs.RefinementLemmas.Rows.{line-at, line-other}
use Rattle.saa_word_proofs.proofs.RefinementLemmas.Linking.{in-line, oldest-room, line-room, linked-all}

-- The line as the holder sees it once it linked the last of the front to the waiters behind it: the front ends with the place that is
-- older, and a holder that isn't that last one has passed itself by no less
pub record IsWalked (new : ℕ → LineWord) (held : ℕ) (line : List (ℕ × ℕ)) (seen : Word) (current older : ℕ) (was : Work held line seen) : Type 0 where
  pub work : Work held line seen
  pub before : older ≡ newest 0 work.front
  pub behind : IsAt new work.behind current
  pub passed : (place : ℕ) → (current == place + 1) ≡ false → IsPassed place was.behind was.joined → IsPassed place work.behind work.joined

-- The holder has written the newer link of the last of the front
pub record IsStored (places : ℕ) (row : ℕ → ℕ) (state : AbstractState) (cut uncut : List (ℕ × ℕ)) (seen : Word) (current newer : ℕ) (line : LineWord)
    (was : Work state.count state.line seen) : Type 0 where
  pub link : current ≡ pred current + 1
  pub inside : pred current < places
  pub waits : 0 < times (pred current) state.line
  pub written : line_of (updated row (pred current + 1) (line_number (record line { newer = newer }))) (pred current) ≡ record line { newer = newer }
  pub linked : IsLine (line_of (updated row (pred current + 1) (line_number (record line { newer = newer })))) state.line cut uncut
  pub walk : IsWalked (line_of (updated row (pred current + 1) (line_number (record line { newer = newer })))) state.count state.line seen current line.older was

-- what the last of the front, whose line word it knows, becomes by such a store: it is the first of those behind it, and what links the line is as it was
pub stored : (needs : Needs) (places : ℕ) (row : ℕ → ℕ) (standing : ℕ → Place) (state : AbstractState) (s : Invariant needs places row standing state)
    (seen : Word) (current newer : ℕ) (line : LineWord) (work : Work state.count state.line seen) → places < 65536 → s.cut ≡ []
    → IsBack (line_of row) work.front work.behind current newer → line ≡ line_of row (pred current)
    → IsStored places row state s.cut s.uncut seen current newer line work
stored needs places row standing state s seen current newer line work room uncut back is =
    let there = newest-stands work.front current back.1 back.0 in
    let waits = work-front state.count state.line seen work (pred current) there.0 in
    let seat = in-line places standing state (pred current) s.seats waits in
    let number : ℕ = line_number (record line { newer = newer }) in
    let new : ℕ → LineWord = line_of (updated row (pred current + 1) number) in
    let others : (place : ℕ) → (place ≡ pred current → ⊥) → new place ≡ line_of row place = line-other row (pred current) number in
    let small : (line.request < 65536) × (line.older < 65536) × (line.newer < 65536) =
    rw is (line-room (row (pred current + 1))) in
    let newer_small : newer < 65536 = rw back.2 (oldest-room places standing state seen work s.seats room) in
    let written : new (pred current) ≡ record line { newer = newer } =
    line-at row (pred current) number ∙ line_word-read (record line { newer = newer }) small.0 small.1 newer_small in
    let same : (place : ℕ) → ((new place).request ≡ (line_of row place).request) × ((new place).older ≡ (line_of row place).older) =
    λ place. (grind (arith, nat_tests, written, is, others place), grind (arith, nat_tests, written, is, others place)) in
    let split = split-last work.front back.1 in
    let parts : state.line ≡ split.before ++ ((split.last ∷ work.behind) ++ work.joined) =
    work.parts ∙ ap (λ l. l ++ (work.behind ++ work.joined)) split.is ∙ append_assoc split.before (split.last ∷ []) (work.behind ++ work.joined) in
    let link : current ≡ split.last.0 + 1 = back.0 ∙ ap (newest 0) split.is ∙ newest-last 0 split.before split.last in
    let place : pred current ≡ split.last.0 = omega (arith, link) in
    let linked = linked-all (line_of row) state.line s.cut s.uncut s.line uncut in
    let whole = behind-rest (line_of row) 0 split.before ((split.last ∷ work.behind) ++ work.joined) (subst (λ l. IsBehind (line_of row) 0 l) parts linked) in
    let apart : (other : ℕ) → 0 < times other work.behind → other ≡ pred current → ⊥ =
    λ other behind is.
    let here : 0 < times (pred current) work.behind = rw (← is) behind in
    omega (arith, there.0, seat.2, here, ap (times (pred current)) work.parts, times-append) in
    record {
      link = there.1;
      inside = seat.0;
      waits = waits;
      written = written;
      linked = record {
        parts = s.line.parts;
        granted = behind-frame (line_of row) new 0 s.cut (λ place there. same place) s.line.granted;
        stays = behind-frame (line_of row) new 0 s.uncut (λ place there. same place) s.line.stays;
        some = s.line.some;
      };
      walk = record {
        work = record {
          front = split.before;
          behind = split.last ∷ work.behind;
          joined = work.joined;
          parts = parts;
          tail = work.tail ∙ ap (λ l. newest 0 (l ++ work.behind)) split.is ∙ ap (newest 0) (append_assoc split.before (split.last ∷ []) work.behind);
          count = work.count;
        };
        before = ap (λ (w : LineWord). w.older) is ∙ ap (λ (n : ℕ). (line_of row n).older) place ∙ whole.1;
        behind = (
          link,
          refl,
          ahead-cons new split.last work.behind
              (ap (λ (n : ℕ). (new n).newer) (sym place) ∙ ap (λ (w : LineWord). w.newer) written ∙ back.2)
              (ahead-frame (line_of row) new work.behind (λ other waits. ap (λ (w : LineWord). w.newer) (others other (apart other waits))) back.3),
        );
        passed = λ other differs none. grind (arith, nat_tests, link, differs, none);
      };
    }

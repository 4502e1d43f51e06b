-- What a step leaves as it was: of the words, of what the other places remember, and of what the holder of the flag knows.
use Rattle.std.proofs.Common.{◌≡◌, ℕ, ◌+◌, ◌<◌, ◌≤◌, pred, true, false, List, [], ◌++◌, ◌==◌, sym, ap, ◌∙◌, arith, append_assoc, append-nil}
use Rattle.std.proofs.lemmas.Bool.Decides.{nat_tests}
use Rattle.saa_core_spec.specs.Object.{times}
use Rattle.saa_core_spec.proofs.Counts.{times-append}
use Rattle.saa_core_words.specs.declared.word.Word.{Word}
use Rattle.saa_core_words.specs.declared.line_word.LineWord.{LineWord}
use Rattle.saa_word_steps.specs.declared.place.Place.{Place}
use Rattle.saa_word_steps.specs.declared.place.AfterShow.TheVariants.{Again}
use Rattle.saa_word_steps.specs.declared.place.Stage.{Stage}
use Rattle.saa_word_steps.specs.declared.place.Stage.TheVariants.{BackLoad, BackStore, Forward, CutToClose, CutForRetry, Close, Empty, Retry, ShowLoad, ShowStore, LookLoad, LookStore, Unlink, DropTail}
use Rattle.saa_word_steps.specs.Needs.{Needs}
use Rattle.saa_word_steps.specs.AbstractState.{is_empty, is_in}
use Rattle.saa_word_steps.specs.Steps.{IsRanged}
use Rattle.saa_word_proofs.specs.Refinement.{newest, oldest, is_holder, gives_up, IsLocallyTrue, IsOwn, IsShowing, Work, IsHolding, AreStages, IsAhead, IsAt, IsBack}
use Rattle.saa_word_proofs.specs.Rows.{updated}
use Rattle.saa_word_proofs.proofs.RefinementLemmas.Lists.{each-updated, in-append, newest-in, newest-some, ahead-frame}

-- the whole line, as one that takes the flag sees it
abbrev pub whole-work : (held : ℕ) (line : List (ℕ × ℕ)) (seen : Word) → seen.tail ≡ newest 0 line → held ≤ seen.count → Work held line seen
whole-work held line seen tail counted = record {
  front = line;
  behind = [];
  joined = [];
  parts = sym (append-nil line);
  tail = tail ∙ ap (newest 0) (sym (append-nil line));
  count = counted;
}

-- a place behind the front, or in it, is in the line
pub work-behind : (held : ℕ) (line : List (ℕ × ℕ)) (seen : Word) (work : Work held line seen) (place : ℕ)
    → 0 < times place work.behind → 0 < times place line
work-behind held line seen work place there = rw work.parts (omega (arith, there, times-append))

pub work-front : (held : ℕ) (line : List (ℕ × ℕ)) (seen : Word) (work : Work held line seen) (place : ℕ)
    → 0 < times place work.front → 0 < times place line
work-front held line seen work place there = rw work.parts (omega (arith, there, times-append))

-- the newest of a front stands in it, and the oldest of those behind it among them
pub newest-stands : (line : List (ℕ × ℕ)) (link : ℕ) → is_empty line ≡ false → link ≡ newest 0 line → (0 < times (pred link) line) × (link ≡ pred link + 1)
newest-stands line link some is =
    let link_is : link ≡ pred link + 1 = omega (arith, is, newest-some 0 line some) in
    (newest-in 0 (pred link) line some (sym is ∙ link_is), link_is)

pub oldest-stands : (line : List (ℕ × ℕ)) (link : ℕ) → is_empty line ≡ false → link ≡ oldest line → (0 < times (pred link) line) × (link ≡ pred link + 1)
oldest-stands line link some is = (grind (arith, nat_tests, some, is), grind (arith, nat_tests, some, is))

-- Less is held, more have joined, and the line words of those in line are as they were
module _ (words new : ℕ → LineWord) (held now : ℕ) (line after more : List (ℕ × ℕ)) (less : now ≤ held) (grown : after ≡ line ++ more)
    (same : (place : ℕ) → 0 < times place line → new place ≡ words place) where
  abbrev framed : (seen : Word) → Work held line seen → Work now after seen
  framed seen work = record {
    front = work.front;
    behind = work.behind;
    joined = work.joined ++ more;
    parts = rw (grown, work.parts) (simp append_assoc);
    tail = work.tail;
    count = omega (arith, less, work.count);
  }

  ahead : (seen : Word) (work : Work held line seen) → IsAhead words work.behind → IsAhead new work.behind
  ahead seen work =
      ahead-frame words new work.behind (λ place there. ap (λ (w : LineWord). w.newer) (same place (work-behind held line seen work place there)))

  -- the line word of the first of those behind the front, and of the last of that
  first : (seen : Word) (work : Work held line seen) (current : ℕ) → IsAt words work.behind current → words (pred current) ≡ new (pred current)
  first seen work current at = sym (same (pred current) (work-behind held line seen work (pred current) (oldest-stands work.behind current at.1 at.0).0))

  last : (seen : Word) (work : Work held line seen) (current newer : ℕ) → IsBack words work.front work.behind current newer
      → words (pred current) ≡ new (pred current)
  last seen work current newer back =
      sym (same (pred current) (work-front held line seen work (pred current) (newest-stands work.front current back.1 back.0).0))

  -- what the holder knows holds still
  pub holding-frame : (needs : Needs) (me : ℕ) (cut : List (ℕ × ℕ)) (stage : Stage) → is_in me more ≡ false
      → IsHolding needs words me held line cut stage → IsHolding needs new me now after cut stage
  holding-frame needs me cut (BackLoad seen current newer) none h = (framed seen h.0, h.1, (h.2.0, h.2.1, h.2.2, ahead seen h.0 h.2.3))
  holding-frame needs me cut (BackStore seen current newer word) none h =
      (framed seen h.0, h.1, (h.2.0, h.2.1, h.2.2, ahead seen h.0 h.2.3), h.3 ∙ last seen h.0 current newer h.2)
  holding-frame needs me cut (Forward seen current count) none h = (framed seen h.0, h.1, h.2, (h.3.0, h.3.1, ahead seen h.0 h.3.2))
  holding-frame needs me cut (CutToClose seen current count word) none h =
      (framed seen h.0, h.1, h.2, (h.3.0, h.3.1, ahead seen h.0 h.3.2), h.4 ∙ first seen h.0 current h.3, h.5)
  holding-frame needs me cut (CutForRetry seen current count word) none h =
      (framed seen h.0, h.1, h.2, (h.3.0, h.3.1, ahead seen h.0 h.3.2), h.4 ∙ first seen h.0 current h.3)
  holding-frame needs me cut (Close seen count top) none h = (framed seen h.0, h.1, h.2, h.3, h.4, h.5)
  holding-frame needs me cut (Empty seen current count word) none h =
      (framed seen h.0, h.1, h.2, (h.3.0, h.3.1, ahead seen h.0 h.3.2), h.4 ∙ first seen h.0 current h.3, h.5, h.6, h.7)
  holding-frame needs me cut (Retry seen count top) none h = (framed seen h.0, h.1, h.2, h.3, h.4)
  holding-frame needs me cut (ShowLoad current value (Again seen)) none h = (framed seen h.0, h.1, h.2, h.3)
  holding-frame needs me cut (ShowStore current next value (Again seen)) none h = (framed seen h.0, h.1, h.2, h.3)
  holding-frame needs me cut (LookLoad seen current newer previous) none h = (
    framed seen h.0,
    h.1,
    (h.2.0, h.2.1, h.2.2, ahead seen h.0 h.2.3),
    (h.3.0, rw (in-append me h.0.joined more, h.3.1) none),
    λ some. h.4 some ∙ first seen h.0 newer (h.2.2, some, h.2.3),
  )
  holding-frame needs me cut (LookStore seen current newer word) none h = (
    framed seen h.0,
    h.1,
    (h.2.0, h.2.1, h.2.2, ahead seen h.0 h.2.3),
    (h.3.0, rw (in-append me h.0.joined more, h.3.1) none),
    h.4 ∙ last seen h.0 current newer h.2,
    h.5,
  )
  holding-frame needs me cut (Unlink seen newer word older) none h =
      (framed seen h.0, h.1, h.2, (h.3.0, h.3.1, ahead seen h.0 h.3.2), h.4 ∙ first seen h.0 newer h.3)
  holding-frame needs me cut (DropTail seen older) none h = (framed seen h.0, h.1, h.2, h.3)
  holding-frame needs me cut _ none h = h

-- What is so of each place, where one moved and the others remember what they did
pub stages-next : (needs : Needs) (words new : ℕ → LineWord) (standing : ℕ → Place) (held now : ℕ) (line after cut off : List (ℕ × ℕ))
    (holder next : ℕ) (unshown owing : ℕ → List (ℕ × ℕ)) (answer_value gives : ℕ → ℕ) (me : ℕ) (place : Place)
    → AreStages needs words standing held line cut holder unshown answer_value
    → IsRanged needs place.stage → IsLocallyTrue needs place.registration place.back place.stage
    → (gives_up place.back place.stage ≡ true → is_in me after ≡ false)
    → IsOwn (new me) place.stage → IsShowing (owing me) (gives me) place.stage
    → is_holder place.stage ≡ (next == me + 1)
    → (next ≡ me + 1 → IsHolding needs new me now after off place.stage)
    → ((other : ℕ) → (other ≡ me → ⊥) → is_in other line ≡ false → is_in other after ≡ false)
    → ((other : ℕ) → (other ≡ me → ⊥) → IsOwn (new other) (standing other).stage)
    → ((other : ℕ) → (other ≡ me → ⊥) → owing other ≡ unshown other)
    → ((other : ℕ) → (other ≡ me → ⊥) → gives other ≡ answer_value other)
    → ((other : ℕ) → (other ≡ me → ⊥) → (holder == other + 1) ≡ (next == other + 1))
    → ((other : ℕ) → (other ≡ me → ⊥) → holder ≡ other + 1 → IsHolding needs new other now after off (standing other).stage)
    → AreStages needs new (updated standing me place) now after off next owing gives
stages-next needs words new standing held now line after cut off holder next unshown owing answer_value gives me place was ranged alone apart own showing one holding
    out owns shows values ones holds = record {
      ranged = each-updated (λ (n : ℕ) (p : Place). IsRanged needs p.stage) standing me place ranged (λ other differs. was.ranged other);
      alone = each-updated (λ (n : ℕ) (p : Place). IsLocallyTrue needs p.registration p.back p.stage) standing me place alone (λ other differs. was.alone other);
      apart = each-updated (λ (n : ℕ) (p : Place). gives_up p.back p.stage ≡ true → is_in n after ≡ false) standing me place apart
          (λ other differs gives. out other differs (was.apart other gives));
      own = each-updated (λ (n : ℕ) (p : Place). IsOwn (new n) p.stage) standing me place own owns;
      showing = each-updated (λ (n : ℕ) (p : Place). IsShowing (owing n) (gives n) p.stage) standing me place showing
          (λ other differs. rw (values other differs, shows other differs) (was.showing other));
      one = each-updated (λ (n : ℕ) (p : Place). is_holder p.stage ≡ (next == n + 1)) standing me place one (λ other differs. was.one other ∙ ones other differs);
      holding = each-updated (λ (n : ℕ) (p : Place). next ≡ n + 1 → IsHolding needs new n now after off p.stage) standing me place holding
          (λ other differs is. holds other differs (grind (arith, nat_tests, ones other differs, is)));
    }

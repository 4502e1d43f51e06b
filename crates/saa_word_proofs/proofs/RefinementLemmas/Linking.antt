-- The holder of the flag writes the line word of a place that stands in the line: what this leaves as it was.
use Rattle.std.proofs.Common.{◌≤◌, ◌≡◌, ℕ, ◌+◌, ◌<◌, pred, true, false, List, [], ◌∷◌, ◌++◌, ◌==◌, is_some, refl, sym, ap, subst, ◌∙◌, arith}
use Rattle.std.proofs.lemmas.Bool.{cases_Bool}
use Rattle.std.proofs.lemmas.Bool.Decides.{nat_tests}
use Rattle.saa_core_spec.specs.Object.{times}
use Rattle.saa_core_spec.proofs.Counts.{number_same, same_number}
use Rattle.saa_core_words.specs.declared.word.Word.{Word}
use Rattle.saa_core_words.specs.declared.line_word.LineWord.{LineWord}
use Rattle.saa_core_words.specs.Words.{line_word_of}
use Rattle.saa_word_steps.specs.declared.place.Place.{Place}
use Rattle.saa_word_steps.specs.declared.place.Stage.{Stage}
use Rattle.saa_word_steps.specs.Needs.{Needs}
use Rattle.saa_word_steps.specs.AbstractState.{AbstractState, is_empty, is_in}
use Rattle.saa_word_steps.specs.Steps.{IsRanged}
use Rattle.saa_word_proofs.specs.Refinement.{joins_line, newest, oldest, IsAhead, is_holder, gives_up, IsLocallyTrue, IsOwn, IsShowing, Work, IsHolding, IsAt, IsMain, IsLine, AreSeats, Invariant}
use Rattle.saa_word_proofs.specs.Rows.{IsBehind, line_of, updated}
use Rattle.saa_word_proofs.specs.Registering.{is_slot}
use Rattle.saa_word_proofs.proofs.RefinementLemmas.Lists.{in-some, oldest-empty, behind-rest, newest-append, newest-any, newest-last, empty-nil}
use Rattle.saa_word_proofs.proofs.RefinementLemmas.Frames.{stages-next, newest-stands, oldest-stands, work-behind}
use Rattle.saa_word_proofs.proofs.RefinementLemmas.Rows.{line-other, row-other, own-any, seats-next, grants-kept, answers-kept}

-- a place that holds the flag is its holder, and knows what a holder does
pub flag-held : (needs : Needs) (places : ℕ) (row : ℕ → ℕ) (standing : ℕ → Place) (state : AbstractState) (me : ℕ) (s : Invariant needs places row standing state)
    → is_holder (standing me).stage ≡ true → s.holder ≡ me + 1
flag-held needs places row standing state me s holds = same_number s.holder (me + 1) (sym (s.stages.one me) ∙ holds)

-- A member of the line is a place that is registered in it, is in it once, and no answer is due to it
pub in-line : (places : ℕ) (standing : ℕ → Place) (state : AbstractState) (place : ℕ) → AreSeats places standing state → 0 < times place state.line
    → (place < places) × (is_slot (standing place).registration ≡ true) × (times place state.line ≡ 1) × (is_some (state.granted place) ≡ false)
in-line places standing state place seats there =
    let held = seats.held place in
    let slot : is_slot (standing place).registration ≡ true = grind (arith, there, held) in
    (seats.within place slot, slot, grind (arith, there, held), grind (arith, there, held))

-- so the link to the oldest or the newest of those in line is that of a place
pub oldest-room : (places : ℕ) (standing : ℕ → Place) (state : AbstractState) (seen : Word) (work : Work state.count state.line seen)
    → AreSeats places standing state → places < 65536 → oldest work.behind < 65536
oldest-room places standing state seen work seats room =
    let small : is_empty work.behind ≡ false → oldest work.behind < 65536 =
    λ some.
    let there = oldest-stands work.behind (oldest work.behind) some refl in
    omega (arith, there.1, room, (in-line places standing state (pred (oldest work.behind)) seats (work-behind state.count state.line seen work _ there.0)).0) in
    grind (arith, nat_tests, small, oldest-empty work.behind)

-- and the tail that the holder saw is that of a place too
pub tail-room : (places : ℕ) (standing : ℕ → Place) (state : AbstractState) (seen : Word) (work : Work state.count state.line seen)
    → AreSeats places standing state → places < 65536 → is_empty work.behind ≡ false → seen.tail < 65536
tail-room places standing state seen work seats room some =
    let tail = work.tail ∙ newest-append 0 work.front work.behind ∙ newest-any (newest 0 work.front) 0 work.behind some in
    let there = newest-stands work.behind seen.tail some tail in
    omega (arith, there.1, room, (in-line places standing state (pred seen.tail) seats (work-behind state.count state.line seen work _ there.0)).0)

-- Numbers of a line word are within their bits
pub line-room : (number : ℕ) → ((line_word_of number).request < 65536) × ((line_word_of number).older < 65536) × ((line_word_of number).newer < 65536)
line-room number = (omega arith, omega arith, omega arith)

-- The holder writes the line word of a place in line, and goes on as a holder that knows the line by the new words
pub relinked : (needs : Needs) (places : ℕ) (row : ℕ → ℕ) (standing : ℕ → Place) (state : AbstractState) (me : ℕ) (s : Invariant needs places row standing state)
    (next : Stage) (link at number : ℕ) (off rest : List (ℕ × ℕ)) → link ≡ at + 1
    → (places ≤ me → joins_line next ≡ false) → s.holder ≡ me + 1 → 0 < times at state.line
    → IsLine (line_of (updated row (at + 1) number)) state.line off rest
    → IsRanged needs next → IsLocallyTrue needs (standing me).registration (standing me).back next
    → (gives_up (standing me).back next ≡ true → is_in me state.line ≡ false)
    → IsOwn (line_of (updated row (at + 1) number) me) next → IsShowing (s.unshown me) (s.answer_value me) next
    → is_holder next ≡ true → IsHolding needs (line_of (updated row (at + 1) number)) me state.count state.line off next
    → Invariant needs places (updated row link number) (updated standing me (record (standing me) { stage = next })) state
relinked needs places row standing state me s next link at number off rest is free flag there line ranged alone apart own showing holder holding =
    let seat = in-line places standing state at s.seats there in
    subst (λ (word : ℕ). Invariant needs places (updated row word number) (updated standing me (record (standing me) { stage = next })) state) (sym is) (record {
      holder = s.holder;
      cut = off;
      uncut = rest;
      unshown = s.unshown;
      answer_value = s.answer_value;
      free = λ nobody. absurd (omega (arith, flag, same_number s.holder 0 nobody));
      main = subst (λ (n : ℕ). IsMain needs n state s.holder) (sym (row-other row (at + 1) number 0 (λ is. omega (arith, is)))) s.main;
      line = line;
      seats = seats-next places standing state state me (record (standing me) { stage = next }) s.seats free refl (λ other. refl);
      answers = answers-kept places row (at + 1) number state.answered (omega (arith, seat.0)) s.answers;
      grants = grants-kept (line_of row) (line_of (updated row (at + 1) number)) state.granted state.granter s.unshown s.answer_value s.grants
          (λ place other listed. line-other row at number other (λ is.
          let due = (s.grants.granted_to place other (in-some other (s.unshown place) listed)).1 in grind (arith, seat.3, is, due)));
      stages = stages-next needs (line_of row) (line_of (updated row (at + 1) number)) standing state.count state.count state.line state.line s.cut off
          s.holder s.holder s.unshown s.unshown s.answer_value s.answer_value me (record (standing me) { stage = next }) s.stages
          ranged alone apart own showing (holder ∙ sym (ap (λ (n : ℕ). n == me + 1) flag ∙ number_same (me + 1))) (λ is. holding)
          (λ other differs out. out)
          (λ other apart. grind (
            arith,
            nat_tests,
            seat.1,
            cases_Bool (other == at),
            s.stages.own other,
            line-other row at number other,
            own-any needs
                (standing other).registration (standing other).back (standing other).stage (line_of (updated row (at + 1) number) other) (s.stages.alone other),
          ))
          (λ other differs. refl) (λ other differs. refl) (λ other differs. refl) (λ other differs is. absurd (differs (omega (arith, is, flag))));
    })

-- The first waiter behind the front: what its line word says, and which place is behind it
pub record IsLooked (words : ℕ → LineWord) (held : ℕ) (line : List (ℕ × ℕ)) (seen : Word) (work : Work held line seen) (current : ℕ) : Type 0 where
  pub asker : ℕ × ℕ
  pub rest : List (ℕ × ℕ)
  pub behind : work.behind ≡ asker ∷ rest
  pub link : current ≡ asker.0 + 1
  pub request : (words (pred current)).request ≡ asker.1
  pub older : (words (pred current)).older ≡ newest 0 work.front
  pub newer : is_empty rest ≡ false → (words (pred current)).newer ≡ oldest rest
  pub ahead : IsAhead words rest
  pub last : is_empty rest ≡ true → seen.tail ≡ current

-- a holder that looks at the first of those behind the front finds it so
pub looked : (words : ℕ → LineWord) (held : ℕ) (line : List (ℕ × ℕ)) (seen : Word) (work : Work held line seen) (current : ℕ)
    → IsBehind words 0 line → IsAt words work.behind current → IsLooked words held line seen work current
looked words held line seen work current linked at = by work.behind refl
  where
    by : (behind : List (ℕ × ℕ)) → work.behind ≡ behind → IsLooked words held line seen work current
    by [] is = let wrong : true ≡ false = sym (ap is_empty is) ∙ at.1 in absurd (cc)
    by (asker ∷ rest) is =
        let parts = work.parts ∙ ap (λ (l : List (ℕ × ℕ)). work.front ++ (l ++ work.joined)) is in
        let link : current ≡ asker.0 + 1 = at.0 ∙ ap oldest is in
        let place : pred current ≡ asker.0 = omega (arith, link) in
        let there = behind-rest words 0 work.front ((asker ∷ rest) ++ work.joined) (subst (λ l. IsBehind words 0 l) parts linked) in
        let ahead : IsAhead words (asker ∷ rest) = subst (λ l. IsAhead words l) is at.2 in
        record {
          asker = asker;
          rest = rest;
          behind = is;
          link = link;
          request = ap (λ (n : ℕ). (words n).request) place ∙ there.0;
          older = ap (λ (n : ℕ). (words n).older) place ∙ there.1;
          newer = λ some. ap (λ (n : ℕ). (words n).newer) place ∙ grind (arith, ahead, some);
          ahead = grind (arith, ahead);
          last = λ none. grind (arith, work.tail, is, link, empty-nil rest none, newest-last 0 work.front asker);
        }

-- the line words that link a line from which nobody is cut off
pub linked-all : (words : ℕ → LineWord) (line cut uncut : List (ℕ × ℕ)) → IsLine words line cut uncut → cut ≡ [] → IsBehind words 0 line
linked-all words line cut uncut is none =
    let whole : line ≡ uncut = is.parts ∙ ap (λ (l : List (ℕ × ℕ)). l ++ uncut) none in
    subst (λ l. IsBehind words 0 l) (sym whole) is.stays

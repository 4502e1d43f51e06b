-- What stands in the words at every moment, and how all begins.
use Rattle.std.proofs.Common.{◌≡◌, ℕ, ◌+◌, ◌/◌, ◌%◌, ◌^◌, ◌<◌, ◌≤◌, true, false, List, [], ◌∷◌, ◌++◌, ◌==◌, refl, sym, subst, ◌∙◌, arith, append-nil, append_assoc}
use Rattle.std.proofs.lemmas.Bool.Decides.{nat_tests}
use Rattle.saa_core_spec.proofs.Counts.{one_if-le}
use Rattle.saa_core_words.specs.declared.line_word.LineWord.{LineWord}
use Rattle.saa_core_words.specs.Words.{count_bits}
use Rattle.saa_word_steps.specs.declared.place.Place.{Place}
use Rattle.saa_word_steps.specs.Needs.{Needs}
use Rattle.saa_word_steps.specs.AbstractState.{AbstractState, opening}
use Rattle.saa_word_proofs.specs.Refinement.{newest, Invariant}
use Rattle.saa_word_proofs.specs.Rows.{IsBehind, line_of, main_of}
use Rattle.saa_word_proofs.specs.Registering.{is_slot}
use Rattle.saa_word_proofs.specs.Promises.{idle_place, opening_row, AreAsking, IsChain, newest_first, WordsShow}
use Rattle.saa_word_proofs.proofs.RefinementLemmas.Flagging.{not-true}
use Rattle.saa_word_proofs.proofs.RefinementLemmas.Linking.{linked-all}
use Rattle.saa_word_proofs.proofs.RefinementLemmas.Poisoning.{poisoned-number}

-- along older neighbours a line is met from its newest on
pub line-met : (words : ℕ → LineWord) (older : ℕ) (line : List (ℕ × ℕ)) (before : List ℕ) → IsBehind words older line → IsChain words older before
    → IsChain words (newest older line) (newest_first line ++ before)
line-met words older [] before behind met = met
line-met words older (asker ∷ rest) before behind met =
    let further : IsChain words (asker.0 + 1) (asker.0 ∷ before) = (refl, subst (λ (n : ℕ). IsChain words n before) (sym behind.1) met) in
    rw append_assoc (line-met words (asker.0 + 1) rest (asker.0 ∷ before) behind.2 further)

-- waiters behind others ask what their line words say
asking : (words : ℕ → LineWord) (one other : ℕ) (front rest : List (ℕ × ℕ)) → IsBehind words one front → IsBehind words other rest
    → AreAsking words (front ++ rest)
asking words one other [] [] fronts rests = tt
asking words one other [] (asker ∷ rest) fronts rests = (rests.0, asking words one (asker.0 + 1) [] rest fronts rests.2)
asking words one other (asker ∷ front) rest fronts rests = (fronts.0, asking words (asker.0 + 1) other front rest fronts.2 rests)

-- What stands in the words
pub says-so : (needs : Needs) (places : ℕ) (row : ℕ → ℕ) (standing : ℕ → Place) (state : AbstractState) → Invariant needs places row standing state
    → WordsShow needs places row state
says-so needs places row standing state s =
    let free : (main_of row).is_flagged ≡ false → s.holder == 0 ≡ true = λ clear. not-true (s.holder == 0) (sym s.main.flag ∙ clear) in
    record {
      count = s.main.count;
      poisoned = s.main.poison;
      whole = s.main.whole;
      exact = λ poisoned. poisoned-number needs places row standing state s poisoned;
      requests = rw s.line.parts (asking (line_of row) 0 0 s.cut s.uncut s.line.granted s.line.stays);
      answered = s.answers.words;
      line = λ clear. rw s.main.tail (rw append-nil at
          (line-met (line_of row) 0 state.line [] (linked-all (line_of row) state.line s.cut s.uncut s.line (s.free (free clear))) refl));
      closed = λ clear. s.main.closed (free clear);
      settled = λ clear. s.main.settled (s.main.closed (free clear));
      bounded = s.main.bounded;
      once = λ place. omega (arith, s.seats.held place, one_if-le (is_slot (standing place).registration));
    }

-- How it begins
pub opens : (needs : Needs) → needs.top < 2 ^ count_bits → (places count : ℕ) → count ≤ needs.top → Invariant needs places (opening_row count) (λ place. idle_place) (opening count)
opens needs wide places count small = record {
  holder = 0;
  cut = [];
  uncut = [];
  unshown = λ place. [];
  answer_value = λ place. 0;
  free = λ nobody. refl;
  main = record {
    whole = omega (arith, small, wide);
    count = omega (arith, small, wide);
    tail = omega (arith, small, wide);
    flag = let none : count / 2 ^ count_bits % 2 ≡ 0 = omega (arith, small, wide) in rw none refl;
    poison = let none : count / 2 ^ count_bits / 2 % 2 ≡ 0 = omega (arith, small, wide) in rw none refl;
    barren = λ poisoned. absurd (cc);
    bounded = small;
    closed = λ nobody. refl;
    settled = λ closed. tt;
  };
  line = record { parts = refl; granted = tt; stays = tt; some = λ none. refl };
  seats = record { held = λ place. refl; within = λ place slot. absurd (cc); beyond = λ place out. refl };
  answers = record {
    words = λ place inside. let test : places + place + 1 == 0 ≡ false = grind (arith, nat_tests) in rw test refl;
    small = λ place value is. absurd (cc);
  };
  grants = record {
    granted_to = λ place other there. absurd (cc);
    unshown_by = λ other some. absurd (cc);
    once = λ place other. omega arith;
    links = λ place. tt;
    small = λ place. omega arith;
  };
  stages = record {
    ranged = λ place. tt;
    alone = λ place. tt;
    apart = λ place gives. absurd (cc);
    own = λ place. tt;
    showing = λ place. refl;
    one = λ place. let test : 0 == place + 1 ≡ false = grind (arith, nat_tests) in sym test;
    holding = λ place is. absurd (omega (arith, is));
  };
}

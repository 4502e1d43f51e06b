-- A sequential object for each moment, and for that at which nobody has made a call. While the flag is clear the words say all of an abstract
-- state that one represents.
use Rattle.std.proofs.Common.{◌≡◌, ℕ, zero, suc, ◌+◌, ◌<◌, false, List, [], ◌∷◌, length, Option, refl, sym, ap, ◌∙◌, arith, ◌++◌}
use Rattle.std.proofs.lemmas.List.{get_or-replicate, length-replicate}
use Rattle.saa_core_spec.specs.Object.{Object, Entry, Idle, entry_at, newly_made}
use Rattle.saa_word_steps.specs.declared.place.Place.{Place}
use Rattle.saa_word_steps.specs.declared.place.Registration.{Registration}
use Rattle.saa_word_steps.specs.declared.place.Registration.TheVariants.{Idle as IsIdle}
use Rattle.saa_word_steps.specs.Needs.{Needs}
use Rattle.saa_word_steps.specs.AbstractState.{AbstractState, opening}
use Rattle.saa_word_proofs.specs.Represents.{entry_of, held_at, waiters, Represents}
use Rattle.saa_word_proofs.specs.Alone.{PlacesRepresent}
use Rattle.saa_core_words.specs.declared.line_word.LineWord.{LineWord}
use Rattle.saa_word_proofs.specs.Rows.{line_of, main_of}
use Rattle.saa_word_proofs.specs.Promises.{AreAsking, IsChain, WordsShow, newest_first}

-- the entries of so many places, from a place on
abbrev book_from : Needs → (ℕ → Place) → (ℕ → Option ℕ) → ℕ → ℕ → List Entry
book_from needs standing answered from zero = []
book_from needs standing answered from (suc more) =
    entry_of needs (standing from).registration (answered from) false ∷ book_from needs standing answered (from + 1) more

book-length : (needs : Needs) (standing : ℕ → Place) (answered : ℕ → Option ℕ) (from count : ℕ) → length (book_from needs standing answered from count) ≡ count
book-length needs standing answered from zero = refl
book-length needs standing answered from (suc more) = ap suc (book-length needs standing answered (from + 1) more)

book-entry : (needs : Needs) (standing : ℕ → Place) (answered : ℕ → Option ℕ) (from count place : ℕ) → place < count
    → entry_at (book_from needs standing answered from count) place ≡ entry_of needs (standing (from + place)).registration (answered (from + place)) false
book-entry needs standing answered from zero place within = absurd (omega (arith, within))
book-entry needs standing answered from (suc more) zero within = grind arith
book-entry needs standing answered from (suc more) (suc place) within =
    grind (arith, book-entry needs standing answered (from + 1) more place (omega (arith, within)))

-- there is one for each moment
pub mirrored : (needs : Needs) (places : ℕ) (standing : ℕ → Place) (state : AbstractState) → (s : Object) × PlacesRepresent needs places standing state s
mirrored needs places standing state = (
  record {
    held = held_at needs state;
    line = waiters needs state.line;
    book = book_from needs standing state.answered 0 places;
    outside = 0;
    room = places;
  },
  record {
    held = refl;
    line = refl;
    names = book-length needs standing state.answered 0 places;
    entries = λ place within. (false, grind (arith, book-entry needs standing state.answered 0 places place within));
    room = refl;
    alone = refl;
  },
)

-- and a newly made one stands for the opening
pub opened : (needs : Needs) (withheld places : ℕ) (standing : ℕ → Place) → ((place : ℕ) → (standing place).registration ≡ IsIdle)
    → PlacesRepresent needs places standing (opening withheld) (newly_made (needs.held withheld) places places)
opened needs withheld places standing idle = record {
  held = refl;
  line = refl;
  names = length-replicate places Idle;
  entries = λ place within. (false, grind (arith, idle place, get_or-replicate places place Idle Idle within));
  room = refl;
  alone = refl;
}

-- two lists of places that are met from one link are one
pub same-met : (words : ℕ → LineWord) (link : ℕ) (one other : List ℕ) → IsChain words link one → IsChain words link other → one ≡ other
same-met words link [] [] met also = refl
same-met words link (place ∷ rest) (other ∷ others) met also =
    let is : place ≡ other = omega (arith, met.0, also.0) in
    grind (arith, is, same-met words (words place).older rest others met.1 (rw (← is) at also.1))
same-met words link _ _ met also = absurd (grind (arith, met, also))

never-none : (front : List ℕ) (place : ℕ) → front ++ place ∷ [] ≡ [] → ⊥
never-none [] place same = absurd (cc)
never-none (one ∷ rest) place same = absurd (cc)

-- two lists that are one, each with a place at its end, are one, and so are these places
same-ends : (front other : List ℕ) (place last : ℕ) → front ++ place ∷ [] ≡ other ++ last ∷ [] → (front ≡ other) × (place ≡ last)
same-ends [] [] place last same = (refl, cc)
same-ends [] (one ∷ rest) place last same = absurd (never-none rest last (cc))
same-ends (one ∷ rest) [] place last same = absurd (never-none rest place (cc))
same-ends (one ∷ rest) (two ∷ others) place last same =
    grind (arith, same, same-ends rest others place last (cc))

-- two lines of the same places, each asking what its line word says, are one
pub same-line : (words : ℕ → LineWord) (one other : List (ℕ × ℕ)) → newest_first one ≡ newest_first other → AreAsking words one → AreAsking words other → one ≡ other
same-line words [] [] same asks also = refl
same-line words [] (asker ∷ rest) same asks also = absurd (never-none (newest_first rest) asker.0 (sym same))
same-line words (asker ∷ rest) [] same asks also = absurd (never-none (newest_first rest) asker.0 same)
same-line words (asker ∷ rest) (other ∷ others) same asks also =
    let ends = same-ends (newest_first rest) (newest_first others) asker.0 other.0 same in
    grind (arith, asks.0, also.0, ends, same-line words rest others ends.0 asks.1 also.1)

-- An object that represents one abstract state represents another that the same words show, while the flag is clear
pub represents-same : (needs : Needs) (places : ℕ) (row : ℕ → ℕ) (registered : ℕ → Registration) (one other : AbstractState) (s : Object)
    → (main_of row).is_flagged ≡ false → WordsShow needs places row one → WordsShow needs places row other
    → Represents needs places registered one s → Represents needs places registered other s
represents-same needs places row registered one other s clear shows also was =
    let line : one.line ≡ other.line =
    same-line (line_of row) one.line other.line
    (same-met (line_of row) (main_of row).tail (newest_first one.line) (newest_first other.line) (shows.line clear) (also.line clear))
    shows.requests also.requests in
    record {
      held = grind (arith, was.held, shows.count, also.count, shows.poisoned, also.poisoned);
      line = was.line ∙ ap (waiters needs) line;
      names = was.names;
      entries = λ place here.
          let entry = was.entries place here in
          (entry.0, grind (arith, entry.1, shows.answered place here, also.answered place here));
      room = was.room;
      alone = was.alone;
    }

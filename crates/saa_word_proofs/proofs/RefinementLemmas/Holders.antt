-- Where nobody waits nobody holds the flag; and the main word as an exchange has written it.
use Rattle.std.proofs.Common.{◌≡◌, ℕ, ◌+◌, ◌<◌, ◌≤◌, pred, true, false, not, List, [], ◌∷◌, ◌++◌, ◌==◌, refl, sym, ap, ◌∙◌, arith}
use Rattle.std.proofs.lemmas.Bool.Decides.{nat_tests}
use Rattle.saa_core_words.specs.declared.word.Word.{Word}
use Rattle.saa_core_words.specs.declared.line_word.LineWord.{LineWord}
use Rattle.saa_core_words.specs.Words.{count_bits, word_number}
use Rattle.saa_core_words.proofs.Words.{word-read}
use Rattle.saa_word_steps.specs.declared.place.Place.{Place}
use Rattle.saa_word_steps.specs.declared.place.Stage.{Stage}
use Rattle.saa_word_steps.specs.Needs.{Needs, kept}
use Rattle.saa_word_steps.specs.AbstractState.{AbstractState, is_empty, IsSettledAt}
use Rattle.saa_word_steps.specs.Steps.{IsSmall}
use Rattle.saa_word_proofs.specs.Refinement.{newest, IsHolding, IsMain, Invariant}
use Rattle.saa_word_proofs.specs.Rows.{line_of}
use Rattle.saa_word_proofs.proofs.RefinementLemmas.Rows.{word-whole}

-- a line whose front or whose rest isn't empty isn't empty
pub some-append : (front behind : List (ℕ × ℕ)) → is_empty front ≡ false → is_empty (front ++ behind) ≡ false
some-append front behind some = grind (arith, some)

pub some-behind : (front behind : List (ℕ × ℕ)) → is_empty behind ≡ false → is_empty (front ++ behind) ≡ false
some-behind [] behind some = some
some-behind (asker ∷ rest) behind some = refl

-- somebody waits wherever the flag is held
pub holding-some : (needs : Needs) (words : ℕ → LineWord) (me held : ℕ) (line cut : List (ℕ × ℕ)) (stage : Stage)
    → IsHolding needs words me held line cut stage → is_empty line ≡ false
holding-some needs words me held line cut stage h = grind (arith, h, some-append, some-behind)

-- where nobody waits nobody holds the flag
pub nobody-holds : (needs : Needs) (places : ℕ) (row : ℕ → ℕ) (standing : ℕ → Place) (state : AbstractState) (s : Invariant needs places row standing state)
    → is_empty state.line ≡ true → s.holder == 0 ≡ true
nobody-holds needs places row standing state s none =
    let at : ℕ = pred s.holder in
    let some : s.holder ≡ at + 1 → is_empty state.line ≡ false =
    λ is. holding-some needs (line_of row) at state.count state.line s.cut (standing at).stage (s.stages.holding at is) in
    grind (arith, nat_tests, none, some)

-- the main word that an exchange has written
pub main-now : (needs : Needs) (state : AbstractState) (holder : ℕ) (word : Word) → IsSmall word → word.tail < 65536
    → word.count ≡ state.count → word.tail ≡ newest 0 state.line → word.is_flagged ≡ not (holder == 0) → word.is_poisoned ≡ state.poisoned
    → (state.poisoned ≡ true → (state.count ≡ kept needs state.count) × (state.line ≡ [])) → state.count ≤ needs.top → ((holder == 0) ≡ true → state.unclosed ≡ false)
    → (state.unclosed ≡ false → IsSettledAt needs state.count state.line) → IsMain needs (word_number count_bits word) state holder
main-now needs state holder word small tail_small count tail flag poison barren bounded closed settled =
    let read = word-read count_bits word small tail_small in record {
      whole = word-whole word small tail_small;
      count = ap (λ (w : Word). w.count) read ∙ count;
      tail = ap (λ (w : Word). w.tail) read ∙ tail;
      flag = ap (λ (w : Word). w.is_flagged) read ∙ flag;
      poison = ap (λ (w : Word). w.is_poisoned) read ∙ poison;
      barren = barren;
      bounded = bounded;
      closed = closed;
      settled = settled;
    }

-- where somebody holds the flag nothing is poisoned
pub calm-held : (needs : Needs) (places : ℕ) (row : ℕ → ℕ) (standing : ℕ → Place) (state : AbstractState) (me : ℕ) (s : Invariant needs places row standing state)
    → s.holder ≡ me + 1 → state.poisoned ≡ false
calm-held needs places row standing state me s held =
    grind (arith, s.main.barren, holding-some needs (line_of row) me state.count state.line s.cut (standing me).stage (s.stages.holding me held))

-- what isn't poisoned isn't barren
pub never-barren : (needs : Needs) (state : AbstractState) → state.poisoned ≡ false → state.poisoned ≡ true
    → (state.count ≡ kept needs state.count) × (state.line ≡ [])
never-barren needs state calm poisoned = let wrong : true ≡ false = sym poisoned ∙ calm in absurd (cc)

-- What is written into a word is read from it: for each width of the count, and for line words and answers.
use Rattle.std.proofs.Common.{◌≡◌, ℕ, ◌+◌, ◌-◌, ◌*◌, ◌/◌, ◌%◌, ◌^◌, ◌<◌, Bool, true, false, ◌==◌, Option, Some, None, refl, sym, ap, ◌∙◌, arith}
use Rattle.std.proofs.lemmas.Nat.{div-mul-add, mod-mul-add}
use Rattle.std.proofs.lemmas.Bool.Decides.{nat_tests}
use Rattle.saa_core_spec.specs.Object.{one_if}
use Rattle.saa_core_words.specs.declared.word.Word.{Word}
use Rattle.saa_core_words.specs.declared.line_word.LineWord.{LineWord}
use Rattle.saa_core_words.specs.Words.{word_number, word_of, line_number, line_word_of, answer_number, answer_of}

-- a mark is read from its bit
mark-read : (mark : Bool) → one_if mark == 1 ≡ mark
mark-read true = refl
mark-read false = refl

-- a mark is one bit
one_if-small : (mark : Bool) → one_if mark < 2
one_if-small true = omega arith
one_if-small false = omega arith

-- a main word is read from its number, for each width of its count
pub word-read : (bits : ℕ) (word : Word) → word.count < 2 ^ bits → word.tail < 65536 → word_of bits (word_number bits word) ≡ word
word-read bits word count tail =
    let flag = one_if-small word.is_flagged in
    let poison = one_if-small word.is_poisoned in
    let above : ℕ = one_if word.is_flagged + 2 * one_if word.is_poisoned + 4 * word.tail in
    let turned : word_number bits word ≡ above * 2 ^ bits + word.count = omega arith in
    let low : word_number bits word % 2 ^ bits ≡ word.count = ap (λ (n : ℕ). n % 2 ^ bits) turned ∙ mod-mul-add above (2 ^ bits) word.count count in
    let high : word_number bits word / 2 ^ bits ≡ above = ap (λ (n : ℕ). n / 2 ^ bits) turned ∙ div-mul-add above (2 ^ bits) word.count count in
    let is_flagged : above % 2 ≡ one_if word.is_flagged = omega (arith, flag, poison) in
    let is_poisoned : above / 2 % 2 ≡ one_if word.is_poisoned = omega (arith, flag, poison) in
    let newest : above / 4 % 65536 ≡ word.tail = omega (arith, flag, poison, tail) in
    rw (low, high, is_flagged, is_poisoned, newest, mark-read word.is_flagged, mark-read word.is_poisoned) refl

-- so two main words with one number are one
pub word-injective : (bits : ℕ) (one other : Word) → one.count < 2 ^ bits → one.tail < 65536 → other.count < 2 ^ bits → other.tail < 65536
    → word_number bits one ≡ word_number bits other → one ≡ other
word-injective bits one other count tail other_count other_tail same =
    sym (word-read bits one count tail) ∙ ap (word_of bits) same ∙ word-read bits other other_count other_tail

-- a line word is read from its number
pub line_word-read : (word : LineWord) → word.request < 65536 → word.older < 65536 → word.newer < 65536 → line_word_of (line_number word) ≡ word
line_word-read word request older newer =
    let e0 : line_number word % 65536 ≡ word.request = omega arith in
    let e1 : line_number word / 65536 % 65536 ≡ word.older = omega arith in
    let e2 : line_number word / 4294967296 % 65536 ≡ word.newer = omega arith in
    rw (e0, e1, e2) refl

-- so two line words with one number are one
pub line_word-injective : (one other : LineWord) → one.request < 65536 → one.older < 65536 → one.newer < 65536
    → other.request < 65536 → other.older < 65536 → other.newer < 65536 → line_number one ≡ line_number other → one ≡ other
line_word-injective one other a b c d e f same = sym (line_word-read one a b c) ∙ ap line_word_of same ∙ line_word-read other d e f

-- an answer is read from its number
pub answer-read : (answer : Option ℕ) → ((value : ℕ) → answer ≡ Some value → value < 256) → answer_of (answer_number answer) ≡ answer
answer-read None small = refl
answer-read (Some value) small =
    let there : value + 1 == 0 ≡ false = grind (arith, nat_tests) in
    let kept : (value + 1 - 1) % 256 ≡ value = omega (arith, small value refl) in
    rw (there, kept) refl

-- What each call keeps of a line that is held by links, in the numbers of its line words.
use Rattle.std.proofs.Common.{◌≡◌, ◌↔◌, ℕ, ◌+◌, ◌-◌, ◌<◌, ◌≤◌, true, false, List, [], ◌∷◌, ◌++◌, length, ◌==◌, if◌then◌else◌, refl, sym, ap, subst, ◌∙◌, arith, inl, inr}
use Rattle.std.proofs.lemmas.Bool.{cases_Bool}
use Rattle.std.proofs.lemmas.Bool.Decides.{nat_tests}
use Rattle.std.proofs.lemmas.List.{length_push}
use Rattle.saa_core_spec.specs.declared.request.Request.{Request}
use Rattle.saa_core_spec.specs.Object.{Waiter, one_if, times, without}
use Rattle.saa_core_spec.proofs.Counts.{one_if-same, same_number, length-without, times-push, times-without_same, times-without_other}
use Rattle.saa_core_words.specs.declared.line_word.LineWord.{LineWord}
use Rattle.saa_core_spec.specs.Held.{request_number}
use Rattle.saa_core_words.specs.Links.{first_link, last_link, followed, words_in, IsLinked}
use Rattle.saa_core_words.proofs.Chains.{chain-followed, chain-once, chain-joined, chain-left, chain-older, chain-newer, last_link-push, first_link-left, last_link-left, AreRead-push, AreRead-without, IsUnlinked}

-- what is met along the links is the line
pub IsLinked-followed : (read : ℕ → Request) (numbers : List ℕ) (oldest newest waiting : ℕ) (line : List Waiter)
    → IsLinked read numbers oldest newest waiting line → followed (words_in numbers) read waiting oldest ≡ line
IsLinked-followed read numbers oldest newest waiting line h = rw (h.size, h.first) (chain-followed (words_in numbers) read 0 line 0 h.asked h.chain)

-- nobody waits in a new line
pub IsLinked-made : (read : ℕ → Request) (numbers : List ℕ) → length numbers < 65536 → IsLinked read numbers 0 0 0 []
IsLinked-made read numbers small = record {
  chain = tt;
  first = refl;
  last = refl;
  size = refl;
  asked = tt;
  within = λ place stands. absurd (omega (arith, stands));
  small = small;
}

-- the oldest of a line that one more joined
oldest-joined : (line : List Waiter) (oldest : ℕ) (last : Waiter) → oldest ≡ first_link line 0
    → (if oldest == 0 then last.0 + 1 else oldest) ≡ first_link (line ++ last ∷ []) 0
oldest-joined [] oldest last is = rw is refl
oldest-joined (waiter ∷ rest) oldest last is =
    let test : oldest == 0 ≡ false = grind (arith, nat_tests) in
    rw test is

-- one more joins the line
pub IsLinked-joined : (read : ℕ → Request) (old new : List ℕ) (oldest newest waiting : ℕ) (line : List Waiter) (place : ℕ) (request : Request)
    → IsLinked read old oldest newest waiting line
    → times place line ≡ 0 → place < length old → length new ≡ length old → read (request_number request) ≡ request
    → ((other : ℕ) → (other ≡ place → ⊥) → (other + 1 ≡ newest → ⊥) → words_in new other ≡ words_in old other)
    → ((other : ℕ) → (other ≡ place → ⊥) → other + 1 ≡ newest → words_in new other ≡ record (words_in old other) { newer = place + 1 })
    → words_in new place ≡ record { request = request_number request; older = newest; newer = 0 }
    → IsLinked read new (if oldest == 0 then place + 1 else oldest) (place + 1) (waiting + 1) (line ++ (place, request) ∷ [])
IsLinked-joined read old new oldest newest waiting line place request h absent inside size asked same linked written =
    let apart : (other : ℕ) → 0 < times other line → other ≡ place → ⊥ =
    λ other there is. let one : times other line ≡ times place line = ap (λ (n : ℕ). times n line) is in absurd (omega (arith, one, there, absent)) in
    let fields : words_in new place ≡ record { request = request_number request; older = last_link 0 line; newer = 0 } =
    written ∙ ap (λ (n : ℕ). let w : LineWord = record { request = request_number request; older = n; newer = 0 } in w) h.last in
    record {
      chain = chain-joined (words_in old) (words_in new) 0 line place request absent
          (λ other there is. same other (apart other there) (λ it. is (it ∙ h.last)))
          (λ other there is. linked other (apart other there) (is ∙ sym h.last))
          fields h.chain;
      first = oldest-joined line oldest (place, request) h.first;
      last = sym (last_link-push 0 line (place, request));
      size = omega (arith, h.size, length_push line (place, request));
      asked = AreRead-push read line (place, request) h.asked asked;
      within = λ other there.
          elim (cases_Bool (place == other)) [
            | inl is ↦ omega (arith, size, inside, same_number place other is)
            | inr differs ↦
                let none : one_if (place == other) ≡ 0 = ap one_if differs in
                omega (arith, size, h.within other (omega (arith, there, none, times-push other line (place, request))))
          ];
      small = omega (arith, size, h.small);
    }

-- a place leaves the line, by its word there
IsLinked-left_at : (read : ℕ → Request) (old new : List ℕ) (oldest newest waiting : ℕ) (line : List Waiter) (place : ℕ)
    → IsLinked read old oldest newest waiting line
    → times place line ≡ 1 → length new ≡ length old
    → IsUnlinked (words_in old) (words_in new) line (words_in old place).older (words_in old place).newer
    → IsLinked read new
    (if (words_in old place).older == 0 then (words_in old place).newer else oldest)
    (if (words_in old place).newer == 0 then (words_in old place).older else newest)
    (waiting - 1) (without place line)
IsLinked-left_at read old new oldest newest waiting line place h once size unlinked =
    let stands : 0 < times place line = omega (arith, once) in
    record {
      chain = chain-left (words_in old) (words_in new) 0 line 0 place h.chain stands
          (λ other is. absurd (omega (arith, is))) (λ other is. absurd (omega (arith, is))) unlinked;
      first = ap (λ (n : ℕ). if (words_in old place).older == 0 then (words_in old place).newer else n) h.first ∙ sym (first_link-left (words_in old) line place h.chain stands);
      last = ap (λ (n : ℕ). if (words_in old place).newer == 0 then (words_in old place).older else n) h.last ∙ sym (last_link-left (words_in old) 0 line place h.chain stands);
      size = omega (arith, h.size, once, length-without place line);
      asked = AreRead-without read place line h.asked;
      within = λ other there.
          elim (cases_Bool (place == other)) [
            | inl is ↦
                let gone : times other (without place line) ≡ 0 = ap (λ (n : ℕ). times n (without place line)) (sym (same_number place other is)) ∙ times-without_same place line in
                absurd (omega (arith, gone, there))
            | inr differs ↦
                let kept = times-without_other place other line (λ is. let test : place == other ≡ true = grind (arith, nat_tests) in absurd (cc)) in
                omega (arith, size, h.within other (omega (arith, kept, there)))
          ];
      small = omega (arith, size, h.small);
    }

-- a place leaves the line, by its word that was read
pub IsLinked-left : (read : ℕ → Request) (old new : List ℕ) (oldest newest waiting : ℕ) (line : List Waiter) (place : ℕ) (word : LineWord)
    → IsLinked read old oldest newest waiting line
    → word ≡ words_in old place
    → times place line ≡ 1 → length new ≡ length old
    → IsUnlinked (words_in old) (words_in new) line word.older word.newer
    → IsLinked read new
    (if word.older == 0 then word.newer else oldest)
    (if word.newer == 0 then word.older else newest)
    (waiting - 1) (without place line)
IsLinked-left read old new oldest newest waiting line place word h is once size unlinked =
    subst (λ (w : LineWord). IsUnlinked (words_in old) (words_in new) line w.older w.newer
    → IsLinked read new (if w.older == 0 then w.newer else oldest) (if w.newer == 0 then w.older else newest) (waiting - 1) (without place line))
    (sym is) (IsLinked-left_at read old new oldest newest waiting line place h once size) unlinked

-- the neighbours of a place are within the words
pub IsLinked-older : (read : ℕ → Request) (numbers : List ℕ) (oldest newest waiting : ℕ) (line : List Waiter) (place : ℕ)
    → IsLinked read numbers oldest newest waiting line → 0 < times place line → (words_in numbers place).older ≤ length numbers
IsLinked-older read numbers oldest newest waiting line place h stands =
    elim (chain-older (words_in numbers) 0 line 0 place h.chain stands) [
      | inl none ↦ omega (arith, none)
      | inr found ↦ omega (arith, found.1, h.within found.0 found.2)
    ]

pub IsLinked-newer : (read : ℕ → Request) (numbers : List ℕ) (oldest newest waiting : ℕ) (line : List Waiter) (place : ℕ)
    → IsLinked read numbers oldest newest waiting line → 0 < times place line → (words_in numbers place).newer ≤ length numbers
IsLinked-newer read numbers oldest newest waiting line place h stands =
    elim (chain-newer (words_in numbers) 0 line 0 place h.chain stands) [
      | inl none ↦ omega (arith, none)
      | inr found ↦ omega (arith, found.1, h.within found.0 found.2)
    ]

-- the newest is within the words
last_link-bound : (older : ℕ) (line : List Waiter) (bound : ℕ) → older ≤ bound → ((place : ℕ) → 0 < times place line → place < bound) → last_link older line ≤ bound
last_link-bound older [] bound small within = small
last_link-bound older (waiter ∷ rest) bound small within =
    last_link-bound (waiter.0 + 1) rest bound (omega (arith, within waiter.0 (omega (arith, one_if-same waiter.0)))) (λ place there. within place (omega (arith, there)))

pub IsLinked-newest : (read : ℕ → Request) (numbers : List ℕ) (oldest newest waiting : ℕ) (line : List Waiter)
    → IsLinked read numbers oldest newest waiting line → newest ≤ length numbers
IsLinked-newest read numbers oldest newest waiting line h = omega (arith, h.last, last_link-bound 0 line (length numbers) (omega arith) h.within)

-- where somebody waits, the oldest is a place
pub IsLinked-oldest : (read : ℕ → Request) (numbers : List ℕ) (oldest newest waiting : ℕ) (line : List Waiter)
    → IsLinked read numbers oldest newest waiting line → 0 < waiting → (0 < oldest) × (oldest ≤ length numbers)
IsLinked-oldest read numbers oldest newest waiting [] h some = absurd (omega (arith, h.size, some))
IsLinked-oldest read numbers oldest newest waiting (waiter ∷ rest) h some =
    (omega (arith, h.first), omega (arith, h.first, h.within waiter.0 (omega (arith, one_if-same waiter.0))))

-- and stands in the line once
pub IsLinked-once : (read : ℕ → Request) (numbers : List ℕ) (oldest newest waiting : ℕ) (line : List Waiter)
    → IsLinked read numbers oldest newest waiting line → 0 < waiting → times (oldest - 1) line ≡ 1
IsLinked-once read numbers oldest newest waiting [] h some = absurd (omega (arith, h.size, some))
IsLinked-once read numbers oldest newest waiting (waiter ∷ rest) h some =
    let place : oldest - 1 ≡ waiter.0 = omega (arith, h.first) in
    ap (λ (n : ℕ). times n (waiter ∷ rest)) place ∙ chain-once (words_in numbers) 0 waiter rest 0 h.chain

-- the newest is nobody exactly where nobody waits
pub last_link-nobody : (older : ℕ) (waiter : Waiter) (rest : List Waiter) → 0 < last_link older (waiter ∷ rest)
last_link-nobody older waiter [] = omega arith
last_link-nobody older waiter (next ∷ rest) = last_link-nobody (waiter.0 + 1) next rest

pub IsLinked-nobody : (read : ℕ → Request) (numbers : List ℕ) (oldest newest waiting : ℕ) (line : List Waiter)
    → IsLinked read numbers oldest newest waiting line → (newest ≡ 0) ↔ (line ≡ [])
IsLinked-nobody read numbers oldest newest waiting [] h = (λ zero. refl, λ none. h.last)
IsLinked-nobody read numbers oldest newest waiting (waiter ∷ rest) h =
    (λ zero. absurd (omega (arith, zero, h.last, last_link-nobody 0 waiter rest)), λ none. absurd (cc))

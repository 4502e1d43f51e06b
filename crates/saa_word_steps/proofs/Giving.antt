-- What is left once something is given back.
use Rattle.std.proofs.Common.{◌≡◌, ℕ, ◌≤◌, Bool, true, false, ◌&&◌, ◌==◌, Some, None, refl, sym, ◌∙◌, arith, inl, inr}
use Rattle.std.proofs.lemmas.Bool.{cases_Bool}
use Rattle.saa_core_spec.specs.Held.{Exclusive}
use Rattle.saa_core_spec.proofs.Counts.{same_number}
use Rattle.saa_core_words.specs.Words.{lock_count}
use Rattle.saa_word_steps.specs.declared.place.ReleaseAmount.{ReleaseAmount}
use Rattle.saa_word_steps.specs.declared.place.ReleaseAmount.TheVariants.{Requested, AllButAShare}
use Rattle.saa_word_steps.specs.Needs.{Needs, AreNeeds, forgets, kept}
use Rattle.saa_word_steps.specs.Steps.{left_from}

-- a lock at the count of one owner is owned
owned-count : (is_lock : Bool) (count : ℕ) → (is_lock && (count == lock_count Exclusive)) ≡ true → (is_lock ≡ true) × (count ≡ lock_count Exclusive)
owned-count true count is = (refl, same_number count 63 is)
owned-count false count is = absurd (cc)

-- what is left of an owner is a share
pub left-share : (needs : Needs) (count left : ℕ) → left_from needs count AllButAShare ≡ Some left
    → (left ≡ 1) × ((count ≡ lock_count Exclusive) × (needs.is_lock ≡ true))
left-share needs count left is =
    elim (cases_Bool (needs.is_lock && (count == lock_count Exclusive))) [
      | inl owned ↦
          let now : left_from needs count AllButAShare ≡ Some 1 = rw owned refl in
          let both : Some 1 ≡ Some left = sym now ∙ is in
          let known = owned-count needs.is_lock count owned in
          (cc, (known.1, known.0))
      | inr other ↦
          let none : left_from needs count AllButAShare ≡ None = rw other refl in
          absurd (cc)
    ]

-- what is kept where every request is refused from then on is no more than what was held, and is kept again
pub kept-small : (needs : Needs) (count : ℕ) → kept needs count ≤ count
kept-small needs count =
    elim (cases_Bool needs.is_lock) [
      | inl lock ↦ rw lock (omega arith)
      | inr semaphore ↦ rw semaphore (omega arith)
    ]

pub kept-twice : (needs : Needs) (count : ℕ) → kept needs count ≡ kept needs (kept needs count)
kept-twice needs count =
    elim (cases_Bool needs.is_lock) [
      | inl lock ↦ rw lock refl
      | inr semaphore ↦ rw semaphore refl
    ]

-- a shut semaphore keeps whatever is held
pub kept-shut : (needs : Needs) (count : ℕ) (poisoned : Bool) → forgets needs poisoned ≡ false → poisoned ≡ true → count ≡ kept needs count
kept-shut needs count true loose poisoned =
    elim (cases_Bool needs.is_lock) [
      | inl lock ↦ let wrong : true ≡ false = rw lock at loose in absurd (cc)
      | inr semaphore ↦ rw semaphore refl
    ]
kept-shut needs count false loose poisoned = absurd (cc)

-- what isn't poisoned forgets nothing
pub calm-loose : (needs : Needs) (poisoned : Bool) → poisoned ≡ false → forgets needs poisoned ≡ false
calm-loose needs true calm = absurd (cc)
calm-loose needs false calm =
    elim (cases_Bool needs.is_lock) [
      | inl lock ↦ rw lock refl
      | inr semaphore ↦ rw semaphore refl
    ]

-- what is left is no more than what was held
pub left-shrinks : (needs : Needs) → AreNeeds needs → (count : ℕ) (what : ReleaseAmount) (left : ℕ) → left_from needs count what ≡ Some left → left ≤ count
left-shrinks needs lawful count (Requested request) left is = lawful.shrinks count request left is
left-shrinks needs lawful count AllButAShare left is =
    let share = left-share needs count left is in omega (arith, share.0, share.1.0)

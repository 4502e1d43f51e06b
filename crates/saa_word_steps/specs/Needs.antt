-- What a form that is kept in words needs: what is held at a count, what a number asks, and what a request takes. Which request
-- fits, and what giving back leaves, are then read off the table of needs of the sequential object. A reader of the clauses has to believe this.
use Rattle.std.specs.Prelude.{◌≡◌, ℕ, ◌+◌, ◌≤◌, Bool, true, false, ◌&&◌, ◌==◌, if◌then◌else◌, Option, Some, None}
use Rattle.saa_core_spec.specs.declared.request.Request.{Request}
use Rattle.saa_core_spec.specs.declared.request.Request.TheVariants.{Exclusive as AskExclusive, Shared as AskShared}
use Rattle.saa_core_spec.specs.Held.{Held, OfSemaphore, OfLock, LockState, Free, Exclusive, Shared, fits, plus, less}
use Rattle.saa_word_steps.specs.declared.rules.Rules.{Rules}
use Rattle.saa_word_steps.specs.declared.rules.Rules.TheVariants.{Permits, Modes}
use Rattle.saa_core_words.specs.Words.{held_count, lock_count, permits_of, mode_of}

-- what is held at a count, what a number asks, how much a request adds to the count, the greatest count, and whether it is a lock:
-- that is poisoned where a semaphore is shut, and its tries say why they are refused
pub record Needs : Type 0 where
  pub held : ℕ → Held
  pub read : ℕ → Request
  pub takes : ℕ → ℕ
  pub top : ℕ
  pub is_lock : Bool

-- whether a request fits a count
abbrev pub fits_count : Needs → ℕ → ℕ → Bool
fits_count needs count request = fits (needs.held count) (needs.read request)

-- the count of what is held, where it exists
abbrev pub counted : Option Held → Option ℕ
counted None = None
counted (Some held) = Some (held_count held)

-- the count that is left once a request is given back, where it is held
abbrev pub left_count : Needs → ℕ → ℕ → Option ℕ
left_count needs count request = counted (less (needs.held count) (needs.read request))

-- whether every request may be refused from a count on: a lock is poisoned by its one owner, and a semaphore can always be shut
abbrev pub may_refuse : Needs → ℕ → Bool
may_refuse needs count = if needs.is_lock then count == lock_count Exclusive else true

-- the count that is kept then: a poisoned lock forgets what is held, and a shut semaphore doesn't
abbrev pub kept : Needs → ℕ → ℕ
kept needs count = if needs.is_lock then 0 else count

-- whether nothing can be given back: a poisoned lock has forgotten it
abbrev pub forgets : Needs → Bool → Bool
forgets needs poisoned = needs.is_lock && poisoned

-- what all proofs need of them: a grant adds what it takes and stays within the greatest count, what fits a count fits every lower
-- one, and giving back never raises it
pub record AreNeeds (needs : Needs) : Type 0 where
  pub adds : (count request : ℕ) → fits_count needs count request ≡ true → held_count (plus (needs.held count) (needs.read request)) ≡ count + needs.takes request
  pub bounded : (count request : ℕ) → fits_count needs count request ≡ true → count + needs.takes request ≤ needs.top
  pub lower : (lower count request : ℕ) → lower ≤ count → fits_count needs count request ≡ true → fits_count needs lower request ≡ true
  pub shrinks : (count request left : ℕ) → left_count needs count request ≡ Some left → left ≤ count

-- those of a semaphore of so many permits: its count is what is out, and a number asks for so many
abbrev pub permit_needs : ℕ → Needs
permit_needs bound = record {
  held = λ count. OfSemaphore bound count;
  read = permits_of;
  takes = λ request. request;
  top = bound;
  is_lock = false;
}

-- what a lock is at a count, where it isn't poisoned
abbrev pub lock_at : ℕ → LockState
lock_at count = if count == 0 then Free else (if count == lock_count Exclusive then Exclusive else Shared count)

-- how much a request of a lock adds to its count; the wait modes add nothing
abbrev pub mode_takes : Request → ℕ
mode_takes AskExclusive = lock_count Exclusive
mode_takes AskShared = 1
mode_takes _ = 0

-- those of a lock: its count names its owner or counts its sharers, and a number asks for it in a mode
abbrev pub lock_needs : Needs
lock_needs = record {
  held = λ count. OfLock (lock_at count);
  read = mode_of;
  takes = λ request. mode_takes (mode_of request);
  top = lock_count Exclusive;
  is_lock = true;
}

-- the needs of these rules
abbrev pub needs_of : Rules → Needs
needs_of (Permits bound) = permit_needs bound
needs_of Modes = lock_needs

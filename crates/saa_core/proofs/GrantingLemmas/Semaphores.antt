-- A semaphore that is shut or not, as what is held: what fits it, what it takes and gives back, and what it answers all.
use Rattle.std.proofs.Common.{◌≡◌, ◌↔◌, ℕ, ◌+◌, ◌-◌, ◌<◌, ◌≤◌, Bool, true, false, ◌&&◌, cond, leb, ltb, [], Some, None, IsTrue, refl, sym, ap, ◌∙◌, inl, inr, arith}
use Rattle.std.specs.Option.{option_map}
use Rattle.std.proofs.lemmas.Bool.{cases_Bool, leb-true, le-leb, and_parts}
use Rattle.saa_core_spec.specs.declared.request.Request.{Request}
use Rattle.saa_core_spec.specs.declared.request.Request.TheVariants.{Exclusive as AskExclusive, Shared as AskShared, WaitExclusive, WaitShared, Permits, Enter, Arrive}
use Rattle.saa_core_spec.specs.Held.{Held, OfSemaphore, OfShutSemaphore, OfLock, OfGate, OfBarrier, fits, plus, less, asks_too_much, refuses_all}
use Rattle.saa_core_spec.specs.Object.{Object, is_nobody}
use Rattle.saa_core_spec.specs.Values.{closed_value}
use Rattle.saa_core_spec.specs.Semaphore.{bound_of, out_of, available, is_shut, shut_of}
use Rattle.saa_core_words.specs.Words.{held_count}
use Rattle.saa_core.specs.Tickets.{Core, Calls, object_of}
use Rattle.saa_core.specs.CoreParts.{takes_now, answer_to_all}
use Rattle.saa_core.specs.SemaphoreInvariant.{semaphore_held, permits_left}
use Rattle.saa_core.proofs.GrantingLemmas.SettlingSteps.{nobody-empty}

-- what is read of it
pub bound-held : (b : Bool) (most out : ℕ) → bound_of (semaphore_held b most out) ≡ most
bound-held true most out = refl
bound-held false most out = refl

pub out-held : (b : Bool) (most out : ℕ) → out_of (semaphore_held b most out) ≡ out
out-held true most out = refl
out-held false most out = refl

pub shut-held : (b : Bool) (most out : ℕ) → is_shut (semaphore_held b most out) ≡ b
shut-held true most out = refl
shut-held false most out = refl

pub count-held : (b : Bool) (most out : ℕ) → held_count (semaphore_held b most out) ≡ out
count-held true most out = refl
count-held false most out = refl

pub refuses-held : (b : Bool) (most out : ℕ) → refuses_all (semaphore_held b most out) ≡ b
refuses-held true most out = refl
refuses-held false most out = refl

pub asks-held : (b : Bool) (most out n : ℕ) → asks_too_much (semaphore_held b most out) (Permits n) ≡ ltb most n
asks-held true most out n = refl
asks-held false most out n = refl

pub answer-held : (b : Bool) (most out : ℕ) → answer_to_all (semaphore_held b most out) ≡ cond b (Some closed_value) None
answer-held true most out = refl
answer-held false most out = refl

-- what is held, by what is read of it
pub held-by : (held : Held) (b : Bool) (most out : ℕ) → held ≡ semaphore_held b most out → held ≡ semaphore_held (is_shut held) most out
held-by held b most out is = is ∙ ap (λ x. semaphore_held x most out) (sym (ap is_shut is ∙ shut-held b most out))

pub shut-is : (held : Held) (most out : ℕ) → held ≡ semaphore_held (is_shut held) most out → is_shut held ≡ false → held ≡ OfSemaphore most out
shut-is held most out is not_shut = is ∙ ap (λ b. semaphore_held b most out) not_shut

-- a grant of what fits
pub plus-held : (b : Bool) (most out n : ℕ) → fits (semaphore_held b most out) (Permits n) ≡ true
    → semaphore_held b most (out + n) ≡ plus (semaphore_held b most out) (Permits n)
plus-held false most out n fit = refl
plus-held true most out n fit = cc

-- what is left of it once something is given back
pub less-held : (b : Bool) (most out : ℕ) (r : Request) → less (semaphore_held b most out) r ≡ option_map (semaphore_held b most) (permits_left out r)
less-held false most out (Permits n) = elim (cases_Bool (leb n out)) [ inl e ↦ rw e refl | inr e ↦ rw e refl ]
less-held true most out (Permits n) = elim (cases_Bool (leb n out)) [ inl e ↦ rw e refl | inr e ↦ rw e refl ]
less-held false most out AskExclusive = refl
less-held false most out AskShared = refl
less-held false most out WaitExclusive = refl
less-held false most out WaitShared = refl
less-held false most out Enter = refl
less-held false most out Arrive = refl
less-held true most out AskExclusive = refl
less-held true most out AskShared = refl
less-held true most out WaitExclusive = refl
less-held true most out WaitShared = refl
less-held true most out Enter = refl
less-held true most out Arrive = refl

-- a try at a semaphore that isn't shut
pub takes-available : (core : Core) (most out n : ℕ) → core.held ≡ semaphore_held (is_shut core.held) most out → out ≤ most → is_shut core.held ≡ false
    → IsTrue (takes_now core (Permits n)) ↔ ((core.slots.line ≡ []) × (n ≤ available core.held))
takes-available core most out n is within not_shut =
    let held : core.held ≡ OfSemaphore most out = shut-is core.held most out is not_shut in
    let there : available core.held ≡ most - out = ap available held in
    let fit : fits core.held (Permits n) ≡ leb (out + n) most = ap (λ (h : Held). fits h (Permits n)) held in (
      (λ takes.
          let parts = and_parts (is_nobody core.slots.line) (fits core.held (Permits n)) takes in
          (nobody-empty core.slots.line parts.0, omega (arith, there, leb-true (out + n) most (sym fit ∙ parts.1)))),
      (λ both.
          let nobody : is_nobody core.slots.line ≡ true = ap is_nobody both.0 in
          let enough : fits core.held (Permits n) ≡ true = fit ∙ le-leb (out + n) most (omega (arith, there, both.1)) in
          rw (nobody, enough) refl),
    )

-- and at one that is
and-none : (b : Bool) → (b && false) ≡ false
and-none true = refl
and-none false = refl

pub takes-shut : (core : Core) (most out n : ℕ) → core.held ≡ semaphore_held (is_shut core.held) most out → is_shut core.held ≡ true
    → takes_now core (Permits n) ≡ false
takes-shut core most out n is shut =
    let held : core.held ≡ OfShutSemaphore most out = is ∙ ap (λ b. semaphore_held b most out) shut in
    let none : fits core.held (Permits n) ≡ false = ap (λ (h : Held). fits h (Permits n)) held in
    ap (λ b. is_nobody core.slots.line && b) none ∙ and-none (is_nobody core.slots.line)

-- more than there ever are aren't available
pub never-available : (held : Held) (most n : ℕ) → bound_of held ≡ most → most < n → n ≤ available held → ⊥
never-available held most n bound above within = omega (arith, bound, above, within)

-- a shut of what is shut
shut_of-again : (s : Object) (held : Held) → is_shut held ≡ true → shut_of s held ≡ record { state = s; reply = false }
shut_of-again s (OfShutSemaphore bound out) shut = refl
shut_of-again s (OfSemaphore bound out) shut = cc
shut_of-again s (OfLock lock) shut = cc
shut_of-again s (OfGate gate) shut = cc
shut_of-again s (OfBarrier size arrived round) shut = cc

pub shut_again : (core : Core) → is_shut core.held ≡ true → Calls core core (λ s. shut_of s s.held) false
shut_again core shut = record { calls = λ ts b. (shut_of-again (object_of core ts) core.held shut, b) }

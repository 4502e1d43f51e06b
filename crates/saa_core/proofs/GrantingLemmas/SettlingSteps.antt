-- Settling of a core, one grant at a time, and what is settled afterwards.
use Rattle.std.proofs.Common.{◌≡◌, ℕ, zero, suc, ◌<◌, true, false, ◌&&◌, cond, List, [], ◌∷◌, ◌++◌, length, drop, Option, Some, None, slice_set, refl, sym, ap, ◌∙◌, arith, inl, inr}
use Rattle.saa_core_spec.specs.declared.request.Request.{Request}
use Rattle.saa_core_spec.specs.Held.{Held, OfSemaphore, OfShutSemaphore, OfLock, OfGate, OfBarrier, Free, Exclusive, Shared, Poisoned, fits, plus, less, refuses_all}
use Rattle.saa_core_spec.specs.Object.{Waiter, is_nobody}
use Rattle.saa_core_spec.specs.Settling.{fitting_front}
use Rattle.saa_core.specs.Slots.{Slots, pending_with, slots_answered}
use Rattle.saa_core.specs.Tickets.{IsCoreSettled, Core}
use Rattle.saa_core.specs.CoreParts.{core_granted, core_settled, oldest_fitting, answer_to_all}
use Rattle.saa_core_spec.proofs.Counts.{bool_cases}
use Rattle.saa_core_spec.proofs.FittingFronts.{fitting_front-fits, fitting_front-blocked, fitting_front-settled}
use Rattle.saa_core_spec.proofs.Refusing.{plus_all-refusing, less-refusing}

-- a core whose oldest waiter doesn't fit is settled
pub settled-none : (c : Core) → IsCoreSettled c → core_settled c ≡ c
unfolding core_settled
settled-none c none = ap (λ k. core_granted k c) none

-- granting the oldest waiter is the first grant of settling
pub settled-first : (h : Held) (w : Waiter) (ws : List Waiter) (answers : List (Option ℕ)) (pending_wakes : List ℕ) → fits h w.1 ≡ true
    → core_settled (record { held = plus h w.1; slots = record { line = ws; answers = slice_set answers w.0 (Some 0); pending_wakes = pending_with w.0 pending_wakes } })
    ≡ core_settled (record { held = h; slots = record { line = w ∷ ws; answers = answers; pending_wakes = pending_wakes } })
unfolding core_settled
settled-first h w ws answers pending_wakes e =
    sym (ap (λ k. core_granted k (record { held = h; slots = record { line = w ∷ ws; answers = answers; pending_wakes = pending_wakes } }))
    (fitting_front-fits h w ws e))

-- a core that settled is settled
pub settled-settled : (c : Core) → IsCoreSettled (core_settled c)
unfolding core_settled
settled-settled c = fitting_front-settled c.held c.slots.line

-- what the oldest asks fits, and somebody waits
pub settle-fits : (h : Held) (line : List Waiter) (r : Request) → oldest_fitting h line ≡ Some r → (fits h r ≡ true) × (0 < length line)
settle-fits h [] r found = cc
settle-fits h (w ∷ ws) r found =
    elim (bool_cases (fits h w.1)) [
      | inl e ↦
          let same : ◌≡◌ {A = Option Request} (Some w.1) (Some r) = sym (ap (λ b. cond b (Some w.1) None) e) ∙ found in
          let request : w.1 ≡ r = cc in
          (ap (fits h) (sym request) ∙ e, omega arith)
      | inr e ↦
          let none : ◌≡◌ {A = Option Request} None (Some r) = sym (ap (λ b. cond b (Some w.1) None) e) ∙ found in
          absurd (cc)
    ]

-- where the oldest doesn't fit, the core is settled
pub settle-stop : (h : Held) (line : List Waiter) → oldest_fitting h line ≡ None → fitting_front h line ≡ 0
settle-stop h [] none = refl
settle-stop h (w ∷ ws) none =
    elim (bool_cases (fits h w.1)) [
      | inl e ↦
          let some : ◌≡◌ {A = Option Request} (Some w.1) None = sym (ap (λ b. cond b (Some w.1) None) e) ∙ none in
          absurd (cc)
      | inr e ↦ fitting_front-blocked h w ws e
    ]

-- one grant, by the line
settle-grant_by : (h : Held) (line : List Waiter) (answers : List (Option ℕ)) (pending_wakes : List ℕ) (r : Request) → oldest_fitting h line ≡ Some r
    → core_settled (record { held = plus h r; slots = slots_answered 0 1 (record { line = line; answers = answers; pending_wakes = pending_wakes }) })
    ≡ core_settled (record { held = h; slots = record { line = line; answers = answers; pending_wakes = pending_wakes } })
settle-grant_by h [] answers pending_wakes r found = cc
settle-grant_by h (w ∷ ws) answers pending_wakes r found =
    elim (bool_cases (fits h w.1)) [
      | inl e ↦
          let same : ◌≡◌ {A = Option Request} (Some w.1) (Some r) = sym (ap (λ b. cond b (Some w.1) None) e) ∙ found in
          let request : r ≡ w.1 = cc in
          ap (λ q. core_settled (record { held = plus h q; slots = record { line = ws; answers = slice_set answers w.0 (Some 0); pending_wakes = pending_with w.0 pending_wakes } })) request
          ∙ settled-first h w ws answers pending_wakes e
      | inr e ↦
          let none : ◌≡◌ {A = Option Request} None (Some r) = sym (ap (λ b. cond b (Some w.1) None) e) ∙ found in
          absurd (cc)
    ]

-- one grant
pub settle-grant : (h : Held) (slots : Slots) (r : Request) → oldest_fitting h slots.line ≡ Some r
    → core_settled (record { held = plus h r; slots = slots_answered 0 1 slots }) ≡ core_settled (record { held = h; slots = slots })
settle-grant h slots r found = settle-grant_by h slots.line slots.answers slots.pending_wakes r found

-- one grant less is left to do
pub settle-less : (line : List Waiter) → 0 < length line → length (drop 1 line) < length line
settle-less [] some = absurd (omega arith)
settle-less (w ∷ ws) some = omega arith

-- a settled queue stays settled with one more waiter that isn't granted at once
pub settled-joined : (held : Held) (line : List Waiter) (w : Waiter) → fitting_front held line ≡ 0
    → (is_nobody line && fits held w.1) ≡ false → fitting_front held (line ++ w ∷ []) ≡ 0
settled-joined held [] w front blocked = fitting_front-blocked held w [] blocked
settled-joined held (first ∷ line) w front blocked = elim (bool_cases (fits held first.1)) [
  | inl fit ↦ absurd (omega (arith, fitting_front-fits held first line fit))
  | inr e ↦ fitting_front-blocked held first (line ++ w ∷ []) e
]

-- nobody is in a line that has nobody
pub nobody-empty : (line : List Waiter) → is_nobody line ≡ true → line ≡ []
nobody-empty [] e = refl
nobody-empty (w ∷ line) e = cc

-- Nobody waits where every request is refused

-- nobody is left of nobody
drop-nobody : (k : ℕ) → drop {A = Waiter} k [] ≡ []
drop-nobody zero = refl
drop-nobody (suc k) = refl

-- settling keeps it so
pub refused-settled : (c : Core) → (refuses_all c.held ≡ true → c.slots.line ≡ []) → refuses_all (core_settled c).held ≡ true → (core_settled c).slots.line ≡ []
unfolding core_settled
refused-settled c before refuses =
    let nobody : c.slots.line ≡ [] = before (sym (plus_all-refusing c.held c.slots.line) ∙ refuses) in
    ap (drop (fitting_front c.held c.slots.line)) nobody ∙ drop-nobody (fitting_front c.held c.slots.line)

-- and so does settling what was given back
pub refused-given : (h rest : Held) (slots : Slots) (r : Request) → less h r ≡ Some rest → (refuses_all h ≡ true → slots.line ≡ [])
    → refuses_all (core_settled (record { held = rest; slots = slots })).held ≡ true → (core_settled (record { held = rest; slots = slots })).slots.line ≡ []
refused-given h rest slots r given before refuses =
    refused-settled (record { held = rest; slots = slots }) (λ e. before (sym (less-refusing h rest r given) ∙ e)) refuses

-- what has no answer for every request doesn't refuse every one
pub refuses-unanswered : (h : Held) → answer_to_all h ≡ None → refuses_all h ≡ false
refuses-unanswered (OfLock Poisoned) none = cc
refuses-unanswered (OfLock Free) none = refl
refuses-unanswered (OfLock Exclusive) none = refl
refuses-unanswered (OfLock (Shared n)) none = refl
refuses-unanswered (OfShutSemaphore bound out) none = cc
refuses-unanswered (OfSemaphore bound out) none = refl
refuses-unanswered (OfGate gate) none = refl
refuses-unanswered (OfBarrier size arrived round) none = refl

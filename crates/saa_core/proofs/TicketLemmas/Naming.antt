-- A core and its tickets seen as the object, part by part: the book, the line with names, and the counts.
use Rattle.std.proofs.Common.{◌≡◌, ◌≢◌, ℕ, suc, zero, ◌+◌, ◌<◌, ◌≤◌, Bool, true, false, cond, ◌==◌, List, [], ◌∷◌, ◌++◌, length, take, drop, get_or, Option, Some, None, slice_get, slice_set, refl, sym, ap, ◌∙◌, arith, inl, inr}
use Rattle.std.proofs.lemmas.Bool.Decides.{nat_tests}
use Rattle.std.proofs.lemmas.List.{get_or-set_same, get_or-set_other}
use Rattle.saa_core_spec.specs.declared.request.Request.{Request}
use Rattle.saa_core_spec.specs.Held.{Held, fits, plus}
use Rattle.saa_core_spec.specs.Object.{Idle, Answered, Waiter, entry_at, one_if, times}
use Rattle.saa_core.specs.Slots.{answer_in}
use Rattle.saa_core_spec.specs.Settling.{fitting_front, plus_all, answered_entry}
use Rattle.saa_core.specs.declared.ticket.Registration.{Registration}
use Rattle.saa_core.specs.declared.ticket.Registration.TheVariants.{Unregistered, AtOnce, InSlot}
use Rattle.saa_core.specs.Tickets.{has_slot, is_slotted, owners, slotted_count, name_of, named, entry_of, slot_entry, entries}
use Rattle.saa_core_spec.proofs.Counts.{bool_cases, same_number, other_number}

-- The book

-- the entry at a ticket's place is that of the ticket
pub entry-at : (answers : List (Option ℕ)) (ts : List Registration) (name : ℕ) (t : Registration) → slice_get ts name ≡ Some t → entry_at (entries answers ts) name ≡ entry_of answers t
entry-at answers [] name t h = cc
entry-at answers (x ∷ ts) zero t h = let same : x ≡ t = cc in ap (entry_of answers) same
entry-at answers (x ∷ ts) (suc name) t h = entry-at answers ts name t h

-- another ticket at a place is another entry there
pub entries-set : (answers : List (Option ℕ)) (ts : List Registration) (name : ℕ) (t : Registration) → entries answers (slice_set ts name t) ≡ slice_set (entries answers ts) name (entry_of answers t)
entries-set answers [] name t = refl
entries-set answers (x ∷ ts) zero t = refl
entries-set answers (x ∷ ts) (suc name) t = ap (λ es. entry_of answers x ∷ es) (entries-set answers ts name t)

-- the answer of a slot that a ticket doesn't have is nothing to it
pub entry_of-other : (answers : List (Option ℕ)) (t : Registration) (slot : ℕ) (a : Option ℕ) → has_slot t slot ≡ false → entry_of (slice_set answers slot a) t ≡ entry_of answers t
entry_of-other answers Unregistered slot a h = refl
entry_of-other answers (AtOnce v r m) slot a h = refl
entry_of-other answers (InSlot own r m) slot a h =
    let apart : own ≢ slot = other_number own slot h in
    ap (λ x. slot_entry x r m) (get_or-set_other answers slot own a None apart)

-- the answer of a slot that no ticket has changes no entry
pub entries-other : (answers : List (Option ℕ)) (ts : List Registration) (slot : ℕ) (a : Option ℕ) → owners ts slot ≡ 0 → entries (slice_set answers slot a) ts ≡ entries answers ts
entries-other answers [] slot a h = refl
entries-other answers (t ∷ ts) slot a h =
    elim (bool_cases (has_slot t slot)) [
      | inl e ↦ absurd (omega (arith, ap one_if e))
      | inr e ↦
          let head : entry_of (slice_set answers slot a) t ≡ entry_of answers t = entry_of-other answers t slot a e in
          let rest : entries (slice_set answers slot a) ts ≡ entries answers ts = entries-other answers ts slot a (omega (arith, ap one_if e)) in
          cc
    ]

-- the ticket of a slot that is answered
pub entry_of-answer : (v : ℕ) (answers : List (Option ℕ)) (own slot : ℕ) (r : Request) (m : Bool) → own ≡ slot → slot < length answers → answer_in answers slot ≡ None → entry_of (slice_set answers slot (Some v)) (InSlot own r m) ≡ answered_entry v (entry_of answers (InSlot own r m))
entry_of-answer v answers own slot r m same within none =
    let after : get_or (slice_set answers slot (Some v)) own None ≡ Some v = ap (λ k. get_or (slice_set answers slot (Some v)) k None) same ∙ get_or-set_same answers slot (Some v) None within in
    let before : get_or answers own None ≡ None = ap (λ k. get_or answers k None) same ∙ none in
    ap (λ x. slot_entry x r m) after ∙ sym (ap (λ x. answered_entry v (slot_entry x r m)) before)

-- the answer of a slot is the entry of its ticket
pub entries-answer : (v : ℕ) (answers : List (Option ℕ)) (ts : List Registration) (slot : ℕ) → owners ts slot ≤ 1 → slot < length answers → answer_in answers slot ≡ None → entries (slice_set answers slot (Some v)) ts ≡ slice_set (entries answers ts) (name_of ts slot) (answered_entry v (entry_at (entries answers ts) (name_of ts slot)))
entries-answer v answers [] slot few within none = refl
entries-answer v answers (Unregistered ∷ ts) slot few within none =
    ap (λ es. Idle ∷ es) (entries-answer v answers ts slot (omega arith) within none)
entries-answer v answers (AtOnce w r m ∷ ts) slot few within none =
    ap (λ es. Answered w r m false ∷ es) (entries-answer v answers ts slot (omega arith) within none)
entries-answer v answers (InSlot own r m ∷ ts) slot few within none =
    elim (bool_cases (own == slot)) [
      | inl e ↦
          let head : entry_of (slice_set answers slot (Some v)) (InSlot own r m) ≡ answered_entry v (entry_of answers (InSlot own r m)) = entry_of-answer v answers own slot r m (same_number own slot e) within none in
          let rest : entries (slice_set answers slot (Some v)) ts ≡ entries answers ts = entries-other answers ts slot (Some v) (omega (arith, ap one_if e)) in
          rw e (ap (λ x. x ∷ entries (slice_set answers slot (Some v)) ts) head ∙ ap (λ es. answered_entry v (entry_of answers (InSlot own r m)) ∷ es) rest)
      | inr e ↦
          let head : entry_of (slice_set answers slot (Some v)) (InSlot own r m) ≡ entry_of answers (InSlot own r m) = entry_of-other answers (InSlot own r m) slot (Some v) e in
          let rest = entries-answer v answers ts slot (omega (arith, ap one_if e)) within none in
          rw e (ap (λ x. x ∷ entries (slice_set answers slot (Some v)) ts) head ∙ ap (λ es. entry_of answers (InSlot own r m) ∷ es) rest)
    ]

-- The line

-- the names of a front are the front of the names
pub named-take : (ts : List Registration) (k : ℕ) (line : List Waiter) → named ts (take k line) ≡ take k (named ts line)
named-take ts zero line = refl
named-take ts (suc k) [] = refl
named-take ts (suc k) (w ∷ line) = ap (λ ws. (name_of ts w.0, w.1) ∷ ws) (named-take ts k line)

-- the names of the rest are the rest of the names
pub named-drop : (ts : List Registration) (k : ℕ) (line : List Waiter) → named ts (drop k line) ≡ drop k (named ts line)
named-drop ts zero line = refl
named-drop ts (suc k) [] = refl
named-drop ts (suc k) (w ∷ line) = named-drop ts k line

-- the names of two parts are the parts' names
pub named-append : (ts : List Registration) (front back : List Waiter) → named ts (front ++ back) ≡ named ts front ++ named ts back
named-append ts [] back = refl
named-append ts (w ∷ front) back = ap (λ ws. (name_of ts w.0, w.1) ∷ ws) (named-append ts front back)

-- there are as many names as slots in the line
pub length-named : (ts : List Registration) (line : List Waiter) → length (named ts line) ≡ length line
length-named ts [] = refl
length-named ts (w ∷ line) = ap suc (length-named ts line)

-- who fits doesn't depend on names
pub fitting_front-named : (ts : List Registration) (h : Held) (line : List Waiter) → fitting_front h (named ts line) ≡ fitting_front h line
fitting_front-named ts h [] = refl
fitting_front-named ts h (w ∷ line) = ap (λ n. cond (fits h w.1) (suc n) 0) (fitting_front-named ts (plus h w.1) line)

-- what is taken doesn't depend on names
pub plus_all-named : (ts : List Registration) (h : Held) (line : List Waiter) → plus_all h (named ts line) ≡ plus_all h line
plus_all-named ts h [] = refl
plus_all-named ts h (w ∷ line) = plus_all-named ts (plus h w.1) line

-- a ticket that is as good as the one before for a slot leaves the slot's name
pub name_of-set : (ts : List Registration) (name : ℕ) (old new : Registration) (slot : ℕ) → slice_get ts name ≡ Some old → has_slot old slot ≡ has_slot new slot → name_of (slice_set ts name new) slot ≡ name_of ts slot
name_of-set [] name old new slot here same = refl
name_of-set (x ∷ ts) zero old new slot here same =
    let is_old : x ≡ old = cc in
    ap (λ b. cond b 0 (suc (name_of ts slot))) (sym same ∙ ap (λ t. has_slot t slot) (sym is_old))
name_of-set (x ∷ ts) (suc name) old new slot here same =
    ap (λ n. cond (has_slot x slot) 0 (suc n)) (name_of-set ts name old new slot here same)

-- and so the line, where that is so for each slot that waits
pub named-set : (ts : List Registration) (name : ℕ) (old new : Registration) (line : List Waiter) → slice_get ts name ≡ Some old → ((slot : ℕ) → 0 < times slot line → has_slot old slot ≡ has_slot new slot) → named (slice_set ts name new) line ≡ named ts line
named-set ts name old new [] here same = refl
named-set ts name old new (w ∷ line) here same =
    let first : w.0 == w.0 ≡ true = grind (arith, nat_tests) in
    let head : name_of (slice_set ts name new) w.0 ≡ name_of ts w.0 = name_of-set ts name old new w.0 here (same w.0 (omega (arith, ap one_if first))) in
    let rest : named (slice_set ts name new) line ≡ named ts line = named-set ts name old new line here (λ slot h. same slot (omega arith)) in
    cc

-- how many tickets have a slot, once another ticket stands at a place
pub owners-set : (ts : List Registration) (name : ℕ) (old new : Registration) (slot : ℕ) → slice_get ts name ≡ Some old → owners (slice_set ts name new) slot + one_if (has_slot old slot) ≡ owners ts slot + one_if (has_slot new slot)
owners-set [] name old new slot here = cc
owners-set (x ∷ ts) zero old new slot here =
    let is_old : x ≡ old = cc in
    omega (arith, ap (λ t. one_if (has_slot t slot)) is_old)
owners-set (x ∷ ts) (suc name) old new slot here = omega (arith, owners-set ts name old new slot here)

-- how many tickets have slots, once another ticket stands at a place
pub slotted_count-set : (ts : List Registration) (name : ℕ) (old new : Registration) → slice_get ts name ≡ Some old → slotted_count (slice_set ts name new) + one_if (is_slotted old) ≡ slotted_count ts + one_if (is_slotted new)
slotted_count-set [] name old new here = cc
slotted_count-set (x ∷ ts) zero old new here =
    let is_old : x ≡ old = cc in
    omega (arith, ap (λ t. one_if (is_slotted t)) is_old)
slotted_count-set (x ∷ ts) (suc name) old new here = omega (arith, slotted_count-set ts name old new here)

-- a ticket that has a slot is one of its owners
pub owner-here : (ts : List Registration) (name : ℕ) (t : Registration) (slot : ℕ) → slice_get ts name ≡ Some t → has_slot t slot ≡ true → 0 < owners ts slot
owner-here [] name t slot here has = cc
owner-here (x ∷ ts) zero t slot here has =
    let is_old : x ≡ t = cc in
    omega (arith, ap one_if (ap (λ t. has_slot t slot) is_old ∙ has))
owner-here (x ∷ ts) (suc name) t slot here has = omega (arith, owner-here ts name t slot here has)

-- the name of a slot that only the ticket at a place has
pub name_of-own : (ts : List Registration) (name : ℕ) (t : Registration) (slot : ℕ) → slice_get ts name ≡ Some t → has_slot t slot ≡ true → owners ts slot ≤ 1 → name_of ts slot ≡ name
name_of-own [] name t slot here has few = cc
name_of-own (x ∷ ts) zero t slot here has few =
    let is_old : x ≡ t = cc in
    ap (λ b. cond b 0 (suc (name_of ts slot))) (ap (λ t. has_slot t slot) is_old ∙ has)
name_of-own (x ∷ ts) (suc name) t slot here has few =
    elim (bool_cases (has_slot x slot)) [
      | inl e ↦ absurd (omega (arith, ap one_if e, owner-here ts name t slot here has))
      | inr e ↦ ap (λ b. cond b 0 (suc (name_of ts slot))) e ∙ ap suc (name_of-own ts name t slot here has (omega (arith, ap one_if e)))
    ]

-- a slot whose name is a ticket's place is that ticket's
pub name_of-found : (ts : List Registration) (name : ℕ) (t : Registration) (slot : ℕ) → slice_get ts name ≡ Some t → name_of ts slot ≡ name → has_slot t slot ≡ true
name_of-found [] name t slot here is = cc
name_of-found (x ∷ ts) zero t slot here is =
    let is_old : x ≡ t = cc in
    elim (bool_cases (has_slot x slot)) [
      | inl e ↦ sym (ap (λ t. has_slot t slot) is_old) ∙ e
      | inr e ↦ let no_place : suc (name_of ts slot) ≡ 0 = sym (ap (λ b. cond b 0 (suc (name_of ts slot))) e) ∙ is in absurd (omega arith)
    ]
name_of-found (x ∷ ts) (suc name) t slot here is =
    elim (bool_cases (has_slot x slot)) [
      | inl e ↦ let no_place : 0 ≡ suc name = sym (ap (λ b. cond b 0 (suc (name_of ts slot))) e) ∙ is in absurd (omega arith)
      | inr e ↦
          let place : suc (name_of ts slot) ≡ suc name = sym (ap (λ b. cond b 0 (suc (name_of ts slot))) e) ∙ is in
          name_of-found ts name t slot here (omega arith)
    ]

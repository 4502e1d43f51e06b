-- Lemmas on the list of wakes that a line owes, and on marks and counts of slots.
use Rattle.std.proofs.Common.{◌≡◌, ℕ, suc, zero, ◌+◌, ◌≤◌, ◌<◌, ◌≢◌, Bool, true, false, List, [], ◌∷◌, ◌++◌, length, drop, nat_lt, replicate, get_or, set, ◌==◌, refl, sym, ap, ◌∙◌, add-one, arith, inl, inr, ◌⊎◌}
use Rattle.std.proofs.lemmas.Bool.{cases_Bool}
use Rattle.std.proofs.lemmas.Bool.Decides.{nat_tests}
use Rattle.std.proofs.lemmas.List.{get_or-set_same, get_or-set_other, length_push}
use Rattle.saa_core_spec.specs.Object.{Waiter, one_if, times}
use Rattle.saa_core.specs.Slots.{count_of, pending_with, pending_after}
use Rattle.saa_core.specs.LineParts.{mark_of, mark_count, IsListed, ArePending}
use Rattle.saa_core_spec.proofs.Counts.{one_if-le}

-- the end of a list counts as its start does
pub count_of-push : (slot : ℕ) (slots : List ℕ) (last : ℕ) → count_of slot (slots ++ last ∷ []) ≡ count_of slot slots + one_if (last == slot)
count_of-push slot [] last = omega arith
count_of-push slot (first ∷ rest) last = omega (arith, count_of-push slot rest last)

-- no mark is set among unset ones
pub mark_of-replicate : (room slot : ℕ) → mark_of (replicate room false) slot ≡ false
mark_of-replicate zero slot = refl
mark_of-replicate (suc room) zero = refl
mark_of-replicate (suc room) (suc slot) = mark_of-replicate room slot

-- none is marked among unset ones
pub mark_count-replicate : (room : ℕ) → mark_count (replicate room false) ≡ 0
mark_count-replicate zero = refl
mark_count-replicate (suc room) = omega (arith, mark_count-replicate room)

-- writing a mark changes how many are set by that one
pub mark_count-set : (marks : List Bool) (slot : ℕ) (mark : Bool) → slot < length marks → mark_count (set marks slot mark) + one_if (mark_of marks slot) ≡ mark_count marks + one_if mark
mark_count-set [] slot mark within = absurd (omega arith)
mark_count-set (first ∷ rest) zero mark within = omega arith
mark_count-set (first ∷ rest) (suc slot) mark within = omega (arith, mark_count-set rest slot mark (omega arith))

-- no more are set than there are marks
pub mark_count-bounded : (marks : List Bool) → mark_count marks ≤ length marks
mark_count-bounded [] = omega arith
mark_count-bounded (true ∷ rest) = omega (arith, mark_count-bounded rest)
mark_count-bounded (false ∷ rest) = omega (arith, mark_count-bounded rest)

-- where one isn't set, fewer are set than there are marks
pub mark_count-below : (marks : List Bool) (slot : ℕ) → slot < length marks → mark_of marks slot ≡ false → mark_count marks < length marks
mark_count-below [] slot within unset = absurd (omega arith)
mark_count-below (true ∷ rest) zero within unset = absurd (cc)
mark_count-below (false ∷ rest) zero within unset = omega (arith, mark_count-bounded rest)
mark_count-below (true ∷ rest) (suc slot) within unset = omega (arith, mark_count-below rest slot (omega arith) unset)
mark_count-below (false ∷ rest) (suc slot) within unset = omega (arith, mark_count-below rest slot (omega arith) unset)

-- a mark that is set is within the marks
pub mark_of-within : (marks : List Bool) (slot : ℕ) → mark_of marks slot ≡ true → slot < length marks
mark_of-within [] slot marked = absurd (cc)
mark_of-within (first ∷ rest) zero marked = omega arith
mark_of-within (first ∷ rest) (suc slot) marked = omega (arith, mark_of-within rest slot marked)

-- what is read after a write: the written element at its place, and the old one elsewhere
pub get_or-set_cases : {X : Type 0} (xs : List X) (place : ℕ) (x d : X) (other : ℕ) → place < length xs
    → ((place == other ≡ true) × (place ≡ other) × (get_or (set xs place x) other d ≡ x)) ⊎ ((place == other ≡ false) × (place ≢ other) × (get_or (set xs place x) other d ≡ get_or xs other d))
get_or-set_cases {X = X} xs place x d other within =
    elim (cases_Bool (place == other)) [
      | inl same ↦
          let e : place ≡ other = grind (arith, nat_tests) in
          let moved = λ (q : ℕ). get_or (set xs place x) q d in
          inl (same, e, ap moved (sym e) ∙ get_or-set_same xs place x d within)
      | inr apart ↦
          let differ : place ≢ other = grind (arith, nat_tests) in
          inr (apart, differ, get_or-set_other xs place other x d (λ e. differ (sym e)))
    ]

-- a slot is listed with its mark
pub IsListed-push : (slots : List ℕ) (listed : List Bool) (slot : ℕ) → slot < length listed → mark_of listed slot ≡ false
    → IsListed slots listed → IsListed (slots ++ slot ∷ []) (set listed slot true)
IsListed-push slots listed slot within unset h = record {
  each = λ other.
      elim (get_or-set_cases listed slot true false other within) [
        | inl same ↦
            let was : one_if (mark_of listed slot) ≡ 0 = ap one_if unset in
            let now : one_if (mark_of (set listed slot true) other) ≡ 1 = ap one_if same.2 in
            let at_other : count_of other slots ≡ count_of slot slots = ap (λ (q : ℕ). count_of q slots) (sym same.1) in
            let test : one_if (slot == other) ≡ 1 = ap one_if same.0 in
            omega (arith, was, now, at_other, test, h.each slot, count_of-push other slots slot)
        | inr apart ↦
            let now : one_if (mark_of (set listed slot true) other) ≡ one_if (mark_of listed other) = ap one_if apart.2 in
            let test : one_if (slot == other) ≡ 0 = ap one_if apart.0 in
            omega (arith, now, test, h.each other, count_of-push other slots slot)
      ];
  total =
      let was : one_if (mark_of listed slot) ≡ 0 = ap one_if unset in
      omega (arith, was, h.total, mark_count-set listed slot true within, length_push slots slot);
}

-- the first of the list is within the marks
pub IsListed-within : (slots rest : List ℕ) (listed : List Bool) (slot : ℕ) → slots ≡ slot ∷ rest → IsListed slots listed → slot < length listed
IsListed-within slots rest listed slot is h =
    elim (cases_Bool (mark_of listed slot)) [
      | inl marked ↦ mark_of-within listed slot marked
      | inr unset ↦
          let at_slot : count_of slot slots ≡ count_of slot (slot ∷ rest) = ap (count_of slot) is in
          let same : slot == slot ≡ true = grind (arith, nat_tests) in
          let test : one_if (slot == slot) ≡ 1 = ap one_if same in
          let none : one_if (mark_of listed slot) ≡ 0 = ap one_if unset in
          absurd (omega (arith, at_slot, test, none, h.each slot))
    ]

-- the first of the list is taken out with its mark
pub IsListed-pop : (slots rest : List ℕ) (listed : List Bool) (slot : ℕ) → slots ≡ slot ∷ rest → IsListed slots listed → IsListed rest (set listed slot false)
IsListed-pop slots rest listed slot is h =
    let within : slot < length listed = IsListed-within slots rest listed slot is h in
    let counts = λ (q : ℕ). let e : count_of q slots ≡ count_of q (slot ∷ rest) = ap (count_of q) is in e in
    record {
      each = λ other.
          elim (get_or-set_cases listed slot false false other within) [
            | inl same ↦
                let now : one_if (mark_of (set listed slot false) other) ≡ 0 = ap one_if same.2 in
                let test : one_if (slot == other) ≡ 1 = ap one_if same.0 in
                let bound : one_if (mark_of listed other) ≤ 1 = one_if-le (mark_of listed other) in
                omega (arith, now, test, bound, counts other, h.each other)
            | inr apart ↦
                let now : one_if (mark_of (set listed slot false) other) ≡ one_if (mark_of listed other) = ap one_if apart.2 in
                let test : one_if (slot == other) ≡ 0 = ap one_if apart.0 in
                omega (arith, now, test, counts other, h.each other)
          ];
      total =
          let same : slot == slot ≡ true = grind (arith, nat_tests) in
          let test : one_if (slot == slot) ≡ 1 = ap one_if same in
          let bound : one_if (mark_of listed slot) ≤ 1 = one_if-le (mark_of listed slot) in
          let len : length slots ≡ length (slot ∷ rest) = ap length is in
          omega (arith, test, bound, len, counts slot, h.each slot, h.total, mark_count-set listed slot false within);
    }

-- an empty list is that of unset marks
pub IsListed-none : (listed : List Bool) (room : ℕ) → listed ≡ replicate room false → IsListed [] listed
IsListed-none listed room is = record {
  each = λ slot.
      let unset : one_if (mark_of listed slot) ≡ 0 = ap (λ (marks : List Bool). one_if (mark_of marks slot)) is ∙ ap one_if (mark_of-replicate room slot) in
      sym unset;
  total = sym (ap mark_count is ∙ mark_count-replicate room);
}

-- one more at the end of equal ones
pub replicate-push : {X : Type 0} (room : ℕ) (x : X) → replicate room x ++ x ∷ [] ≡ replicate (suc room) x
replicate-push zero x = refl
replicate-push {X = X} (suc room) x = ap (λ (xs : List X). x ∷ xs) (replicate-push room x)

-- a list of equal ones gets one more
pub replicate-pushed : {X : Type 0} (xs ys : List X) (room : ℕ) (x : X) → xs ≡ replicate room x → ys ≡ xs ++ x ∷ [] → ys ≡ replicate (room + 1) x
replicate-pushed {X = X} xs ys room x was now =
    now ∙ ap (λ (zs : List X). zs ++ x ∷ []) was ∙ replicate-push room x ∙ ap (λ (n : ℕ). replicate n x) (sym (add-one room))

-- The wakes that are owed

-- none are owed
pub ArePending-none : (room : ℕ) → ArePending [] room
ArePending-none room = record { each = λ slot. omega arith }

-- one more is owed
pub ArePending-owing : (slot : ℕ) (pending_wakes : List ℕ) (room : ℕ) → slot < room → ArePending pending_wakes room → ArePending (pending_with slot pending_wakes) room
ArePending-owing slot pending_wakes room within h =
    elim (cases_Bool (nat_lt 0 (count_of slot pending_wakes))) [
      | inl listed ↦ rw listed h
      | inr absent ↦
          rw absent
          (record {
            each = λ other.
                let push = count_of-push other pending_wakes slot in
                elim (cases_Bool (slot == other)) [
                  | inl same ↦
                      let e : slot ≡ other = grind (arith, nat_tests) in
                      let none : count_of slot pending_wakes ≡ 0 = grind (arith, nat_tests) in
                      let at_other : count_of other pending_wakes ≡ count_of slot pending_wakes = ap (λ (q : ℕ). count_of q pending_wakes) (sym e) in
                      let below : nat_lt other room ≡ true = grind (arith, nat_tests) in
                      omega (arith, push, at_other, none, ap one_if same, ap one_if below)
                  | inr apart ↦ omega (arith, push, ap one_if apart, h.each other)
                ];
          })
    ]

-- the oldest was told
pub ArePending-taken : (pending_wakes : List ℕ) (room : ℕ) → ArePending pending_wakes room → ArePending (drop 1 pending_wakes) room
ArePending-taken [] room h = h
ArePending-taken (first ∷ rest) room h = record { each = λ slot. omega (arith, h.each slot) }

-- what is owed once is below the room
pub ArePending-below : (pending_wakes : List ℕ) (room slot : ℕ) → ArePending pending_wakes room → 0 < count_of slot pending_wakes → slot < room
ArePending-below pending_wakes room slot h some =
    elim (cases_Bool (nat_lt slot room)) [
      | inl below ↦ grind (arith, nat_tests)
      | inr above ↦ absurd (omega (arith, h.each slot, ap one_if above))
    ]

-- What was answered is told

-- a wake that is owed stays owed as another is
pub pending_with-kept : (slot other : ℕ) (pending_wakes : List ℕ) → count_of other pending_wakes ≤ count_of other (pending_with slot pending_wakes)
pending_with-kept slot other pending_wakes =
    elim (cases_Bool (nat_lt 0 (count_of slot pending_wakes))) [
      | inl listed ↦ rw listed (omega arith)
      | inr absent ↦ rw absent (omega (arith, count_of-push other pending_wakes slot))
    ]

-- the wake of the slot is owed then
pub pending_with-there : (slot : ℕ) (pending_wakes : List ℕ) → 0 < count_of slot (pending_with slot pending_wakes)
pending_with-there slot pending_wakes =
    elim (cases_Bool (nat_lt 0 (count_of slot pending_wakes))) [
      | inl listed ↦ rw listed (grind (arith, nat_tests))
      | inr absent ↦
          let same : slot == slot ≡ true = grind (arith, nat_tests) in
          rw absent (omega (arith, count_of-push slot pending_wakes slot, ap one_if same))
    ]

-- none that was owed is lost as others are answered
pub pending_after-kept : (waiters : List Waiter) (slot : ℕ) (pending_wakes : List ℕ) → count_of slot pending_wakes ≤ count_of slot (pending_after waiters pending_wakes)
pending_after-kept [] slot pending_wakes = omega arith
pending_after-kept (waiter ∷ waiters) slot pending_wakes =
    omega (arith, pending_with-kept waiter.0 slot pending_wakes, pending_after-kept waiters slot (pending_with waiter.0 pending_wakes))

-- and each that was answered is owed one
pub pending_after-there : (waiters : List Waiter) (slot : ℕ) (pending_wakes : List ℕ) → 0 < times slot waiters → 0 < count_of slot (pending_after waiters pending_wakes)
pending_after-there [] slot pending_wakes some = absurd (omega arith)
pending_after-there (waiter ∷ waiters) slot pending_wakes some =
    elim (cases_Bool (waiter.0 == slot)) [
      | inl same ↦
          let e : waiter.0 ≡ slot = grind (arith, nat_tests) in
          let here : 0 < count_of slot (pending_with waiter.0 pending_wakes) = rw e (pending_with-there slot pending_wakes) in
          omega (arith, here, pending_after-kept waiters slot (pending_with waiter.0 pending_wakes))
      | inr apart ↦ pending_after-there waiters slot (pending_with waiter.0 pending_wakes) (omega (arith, ap one_if apart))
    ]

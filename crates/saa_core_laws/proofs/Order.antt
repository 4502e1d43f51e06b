-- The line and the book keep step: what a write to one entry, an answer to the oldest, a leave and a join do to both.
use Rattle.std.proofs.Common.{◌≡◌, ℕ, zero, suc, ◌+◌, ◌<◌, ◌≤◌, Bool, true, false, eqb, ◌⊎◌, inl, inr, List, [], ◌∷◌, ◌++◌, length, set, take, drop, refl, sym, ap, ◌∙◌, arith, get_or-set_same, get_or-set_other, length-set}
use Rattle.std.specs.List.{Contains}
use Rattle.std.proofs.lemmas.Bool.{cases_Bool, cases_eq, cases_lt}
use Rattle.std.proofs.lemmas.Bool.Decides.{nat_tests}
use Rattle.saa_core_spec.specs.declared.request.Request.{Request}
use Rattle.saa_core_spec.specs.Object.{Entry, Idle, Waiting, Answered, Waiter, entry_at, holds_slot, one_if, slots_in, times, without}
use Rattle.saa_core_spec.specs.Settling.{answered_entry, answered_in}
use Rattle.saa_core_laws.specs.Laws.{is_waiting}
use Rattle.saa_core_spec.proofs.Counts.{one_if-same, times-without_same, times-without_other}

-- a line and a book that keep step: the line holds exactly the names that wait, and beside each what its entry waits for
pub record IsInStep (line : List Waiter) (book : List Entry) : Type 0 where
  pub once : (name : ℕ) → times name line ≡ one_if (is_waiting (entry_at book name))
  pub same_request : (name : ℕ) (request : Request) → Contains line (name, request)
      → (is_sync : Bool) × (entry_at book name ≡ Waiting request is_sync)

-- a number that says whether it is so is 0 only where it isn't
pub one_if-zero : (b : Bool) → one_if b ≡ 0 → b ≡ false
one_if-zero true e = absurd (omega arith)
one_if-zero false e = refl

-- it is at most 1
pub one_if-small : (b : Bool) → one_if b ≤ 1
one_if-small true = omega arith
one_if-small false = omega arith

-- at least 1 only where it is so
pub one_if-one : (b : Bool) → 0 < one_if b → b ≡ true
one_if-one true e = refl
one_if-one false e = absurd (omega arith)

-- a name doesn't stand in another's place
pub one_if-other : (n m : ℕ) → (n ≡ m → ⊥) → one_if (eqb n m) ≡ 0
one_if-other n m ne = grind (arith, nat_tests)

-- an element of a list is the first or one of the others
pub Contains-split : {X : Type 0} (x y : X) (xs : List X) → Contains (x ∷ xs) y → (x ≡ y) ⊎ Contains xs y
Contains-split x y xs (zero, within, is) = inl is
Contains-split x y xs (suc k, within, is) = inr (k, omega arith, is)

-- the first of a list is in it
pub Contains-first : {X : Type 0} (x : X) (xs : List X) → Contains (x ∷ xs) x
Contains-first x xs = (0, omega arith, refl)

-- what is among the others is in the list
pub Contains-more : {X : Type 0} (x y : X) (xs : List X) → Contains xs y → Contains (x ∷ xs) y
Contains-more x y xs (k, within, is) = (suc k, omega arith, is)

-- a name in the line stands there
pub times-Contains : (line : List Waiter) (name : ℕ) (request : Request) → Contains line (name, request) → 0 < times name line
times-Contains [] name request (k, within, is) = absurd (omega arith)
times-Contains (waiter ∷ line) name request (zero, within, is) =
    let same : waiter.0 ≡ name = ap (λ (w : Waiter). w.0) is in
    rw same (omega (arith, one_if-same name))
times-Contains (waiter ∷ line) name request (suc k, within, is) =
    omega (arith, times-Contains line name request (k, omega arith, is))

-- the entry of a name after a write to its own
pub entry_at-same : (book : List Entry) (name : ℕ) (entry : Entry) → name < length book → entry_at (set book name entry) name ≡ entry
entry_at-same book name entry within = get_or-set_same book name entry Idle within

-- the entry of a name after a write to another's
pub entry_at-other : (book : List Entry) (name other : ℕ) (entry : Entry) → (other ≡ name → ⊥)
    → entry_at (set book name entry) other ≡ entry_at book other
entry_at-other book name other entry ne = get_or-set_other book name other entry Idle ne

-- a write past the book is none
pub set_past : {X : Type 0} (xs : List X) (i : ℕ) (x : X) → length xs ≤ i → set xs i x ≡ xs
set_past [] i x past = refl
set_past (y ∷ xs) zero x past = absurd (omega arith)
set_past (y ∷ xs) (suc i) x past = ap (λ zs. y ∷ zs) (set_past xs i x (omega arith))

-- a name past the book is idle
pub entry_at_past : (book : List Entry) (name : ℕ) → length book ≤ name → entry_at book name ≡ Idle
entry_at_past [] name past = refl
entry_at_past (entry ∷ book) zero past = absurd (omega arith)
entry_at_past (entry ∷ book) (suc name) past = entry_at_past book name (omega arith)

-- a name that waits is in the book
pub within-waiting : (book : List Entry) (name : ℕ) → is_waiting (entry_at book name) ≡ true → name < length book
within-waiting book name waits = elim (cases_lt name (length book)) [
  | inl within ↦ within
  | inr past ↦ let idle : entry_at book name ≡ Idle = entry_at_past book name past in
      let none : is_waiting (entry_at book name) ≡ false = ap is_waiting idle in cc
]

-- after a write that doesn't wait the name doesn't wait, whether or not it is in the book
pub is_waiting-written : (book : List Entry) (name : ℕ) (entry : Entry) → is_waiting entry ≡ false
    → is_waiting (entry_at (set book name entry) name) ≡ false
is_waiting-written book name entry still = elim (cases_lt name (length book)) [
  | inl within ↦ ap is_waiting (entry_at-same book name entry within) ∙ still
  | inr past ↦ ap (λ b. is_waiting (entry_at b name)) (set_past book name entry past) ∙ ap is_waiting (entry_at_past book name past)
]

-- the slots that the book holds after a write: one less for the entry before, one more for the entry after
pub slots_in-set : (book : List Entry) (name : ℕ) (entry : Entry)
    → slots_in (set book name entry) + one_if (holds_slot (entry_at book name)) ≤ slots_in book + one_if (holds_slot entry)
slots_in-set [] name entry = omega arith
slots_in-set (first ∷ book) zero entry = omega arith
slots_in-set (first ∷ book) (suc name) entry = omega (arith, slots_in-set book name entry)

-- an answer out of the line keeps the slot
pub holds_slot-answered : (value : ℕ) (entry : Entry) → holds_slot (answered_entry value entry) ≡ holds_slot entry
holds_slot-answered value Idle = refl
holds_slot-answered value (Waiting request is_sync) = refl
holds_slot-answered value (Answered was request is_sync slotted) = refl

-- an answered entry doesn't wait
pub is_waiting-answered : (value : ℕ) (entry : Entry) → is_waiting (answered_entry value entry) ≡ false
is_waiting-answered value Idle = refl
is_waiting-answered value (Waiting request is_sync) = refl
is_waiting-answered value (Answered was request is_sync slotted) = refl

-- answers out of the line keep the length of the book
pub length-answered_in : (value : ℕ) (line : List Waiter) (book : List Entry) → length (answered_in value line book) ≡ length book
length-answered_in value [] book = refl
length-answered_in value (waiter ∷ line) book =
    length-answered_in value line (set book waiter.0 (answered_entry value (entry_at book waiter.0)))
    ∙ length-set book waiter.0 (answered_entry value (entry_at book waiter.0))

-- answers out of the line hold no more slots
pub slots_in-answered_in : (value : ℕ) (line : List Waiter) (book : List Entry) → slots_in (answered_in value line book) ≤ slots_in book
slots_in-answered_in value [] book = omega arith
slots_in-answered_in value (waiter ∷ line) book =
    omega (
      arith,
      slots_in-answered_in value line (set book waiter.0 (answered_entry value (entry_at book waiter.0))),
      slots_in-set book waiter.0 (answered_entry value (entry_at book waiter.0)),
      ap one_if (holds_slot-answered value (entry_at book waiter.0)),
    )

-- a name that stands in the line waits
pub waits-first : (waiter : Waiter) (line : List Waiter) (book : List Entry) → IsInStep (waiter ∷ line) book
    → is_waiting (entry_at book waiter.0) ≡ true
waits-first waiter line book step = one_if-one _ (omega (arith, step.once waiter.0, one_if-same waiter.0))

-- and stands nowhere else in it
pub times-first : (waiter : Waiter) (line : List Waiter) (book : List Entry) → IsInStep (waiter ∷ line) book → times waiter.0 line ≡ 0
times-first waiter line book step = omega (arith, step.once waiter.0, one_if-same waiter.0, one_if-small (is_waiting (entry_at book waiter.0)))

-- the oldest is answered: the line without it and the book keep step
pub IsInStep-answered : (value : ℕ) (waiter : Waiter) (line : List Waiter) (book : List Entry) → IsInStep (waiter ∷ line) book
    → IsInStep line (set book waiter.0 (answered_entry value (entry_at book waiter.0)))
IsInStep-answered value waiter line book step = record { once = once; same_request = same_request }
  where
    once : (name : ℕ) → times name line ≡ one_if (is_waiting (entry_at (set book waiter.0 (answered_entry value (entry_at book waiter.0))) name))
    once name = elim (cases_eq name waiter.0) [
      | inl same ↦ rw same (times-first waiter line book step
          ∙ sym (ap one_if (is_waiting-written book waiter.0 _ (is_waiting-answered value (entry_at book waiter.0)))))
      | inr other ↦ omega (
        arith,
        step.once name,
        one_if-other waiter.0 name (λ e. other (sym e)),
        ap (λ e. one_if (is_waiting e)) (entry_at-other book waiter.0 name (answered_entry value (entry_at book waiter.0)) other),
      )
    ]

    same_request : (name : ℕ) (request : Request) → Contains line (name, request)
        → (is_sync : Bool) × (entry_at (set book waiter.0 (answered_entry value (entry_at book waiter.0))) name ≡ Waiting request is_sync)
    same_request name request in_line = elim (cases_eq name waiter.0) [
      | inl same ↦ absurd (omega (arith, times-Contains line name request in_line, ap (λ n. times n line) same, times-first waiter line book step))
      | inr other ↦
          let was = step.same_request name request (Contains-more waiter (name, request) line in_line) in
          (was.0, entry_at-other book waiter.0 name _ other ∙ was.1)
    ]

-- the k oldest are answered, one after another
pub IsInStep-granted : (value k : ℕ) (line : List Waiter) (book : List Entry) → IsInStep line book
    → IsInStep (drop k line) (answered_in value (take k line) book)
IsInStep-granted value zero line book step = step
IsInStep-granted value (suc k) [] book step = step
IsInStep-granted value (suc k) (waiter ∷ line) book step =
    IsInStep-granted value k line _ (IsInStep-answered value waiter line book step)

-- all waiters are answered
pub IsInStep-all_answered : (value : ℕ) (line : List Waiter) (book : List Entry) → IsInStep line book → IsInStep [] (answered_in value line book)
IsInStep-all_answered value [] book step = step
IsInStep-all_answered value (waiter ∷ line) book step =
    IsInStep-all_answered value line _ (IsInStep-answered value waiter line book step)

-- a write to the entry of a name that doesn't wait, before or after
pub IsInStep-written : (line : List Waiter) (book : List Entry) (name : ℕ) (entry : Entry)
    → is_waiting (entry_at book name) ≡ false → is_waiting entry ≡ false → IsInStep line book → IsInStep line (set book name entry)
IsInStep-written line book name entry before after step = record { once = once; same_request = same_request }
  where
    once : (other : ℕ) → times other line ≡ one_if (is_waiting (entry_at (set book name entry) other))
    once other = elim (cases_eq other name) [
      | inl same ↦ rw same (step.once name ∙ ap one_if before ∙ sym (ap one_if (is_waiting-written book name entry after)))
      | inr ne ↦ step.once other ∙ sym (ap (λ e. one_if (is_waiting e)) (entry_at-other book name other entry ne))
    ]

    same_request : (other : ℕ) (request : Request) → Contains line (other, request)
        → (is_sync : Bool) × (entry_at (set book name entry) other ≡ Waiting request is_sync)
    same_request other request in_line =
        let was = step.same_request other request in_line in
        elim (cases_eq other name) [
          | inl same ↦
              let waits : is_waiting (entry_at book other) ≡ true = ap is_waiting was.1 in
              let still : is_waiting (entry_at book other) ≡ false = ap (λ n. is_waiting (entry_at book n)) same ∙ before in
              cc
          | inr ne ↦ (was.0, entry_at-other book name other entry ne ∙ was.1)
        ]

-- what is left in the line was there
pub Contains-without : (line : List Waiter) (name : ℕ) (waiter : Waiter) → Contains (without name line) waiter → Contains line waiter
Contains-without [] name waiter in_line = in_line
Contains-without (first ∷ line) name waiter in_line = elim (cases_Bool (eqb first.0 name)) [
  | inl e ↦ Contains-more first waiter line (Contains-without line name waiter (rw e at in_line))
  | inr e ↦ elim (Contains-split first waiter (without name line) (rw e at in_line)) [
    | inl same ↦ rw same (Contains-first waiter line)
    | inr more ↦ Contains-more first waiter line (Contains-without line name waiter more)
  ]
]

-- a name leaves the line, and is written as one that doesn't wait
pub IsInStep-without : (line : List Waiter) (book : List Entry) (name : ℕ) (entry : Entry)
    → is_waiting entry ≡ false → IsInStep line book → IsInStep (without name line) (set book name entry)
IsInStep-without line book name entry after step = record { once = once; same_request = same_request }
  where
    once : (other : ℕ) → times other (without name line) ≡ one_if (is_waiting (entry_at (set book name entry) other))
    once other = elim (cases_eq other name) [
      | inl same ↦ rw same (times-without_same name line ∙ sym (ap one_if (is_waiting-written book name entry after)))
      | inr ne ↦ times-without_other name other line (λ same. ne (sym same)) ∙ step.once other
          ∙ sym (ap (λ e. one_if (is_waiting e)) (entry_at-other book name other entry ne))
    ]

    same_request : (other : ℕ) (request : Request) → Contains (without name line) (other, request)
        → (is_sync : Bool) × (entry_at (set book name entry) other ≡ Waiting request is_sync)
    same_request other request in_line = elim (cases_eq other name) [
      | inl same ↦ absurd (omega (
        arith,
        times-Contains (without name line) other request in_line,
        ap (λ n. times n (without name line)) same,
        times-without_same name line,
      ))
      | inr ne ↦
          let was = step.same_request other request (Contains-without line name (other, request) in_line) in
          (was.0, entry_at-other book name other entry ne ∙ was.1)
    ]

-- how often a name stands in a line that one more has joined
pub times-joined : (line : List Waiter) (name other : ℕ) (request : Request)
    → times other (line ++ (name, request) ∷ []) ≡ times other line + one_if (eqb name other)
times-joined [] name other request = omega arith
times-joined (waiter ∷ line) name other request = omega (arith, times-joined line name other request)

-- a waiter of a line that one more has joined
pub Contains-joined : (line : List Waiter) (last waiter : Waiter) → Contains (line ++ last ∷ []) waiter → Contains line waiter ⊎ (last ≡ waiter)
Contains-joined [] last waiter in_line = elim (Contains-split last waiter [] in_line) [ inl same ↦ inr same | inr more ↦ inl more ]
Contains-joined (first ∷ line) last waiter in_line = elim (Contains-split first waiter (line ++ last ∷ []) in_line) [
  | inl same ↦ inl (rw same (Contains-first waiter line))
  | inr more ↦ elim (Contains-joined line last waiter more) [
    | inl before ↦ inl (Contains-more first waiter line before)
    | inr same ↦ inr same
  ]
]

-- a name of the book that doesn't wait joins the line
pub IsInStep-joined : (line : List Waiter) (book : List Entry) (name : ℕ) (request : Request) (is_sync : Bool)
    → name < length book → is_waiting (entry_at book name) ≡ false → IsInStep line book
    → IsInStep (line ++ (name, request) ∷ []) (set book name (Waiting request is_sync))
IsInStep-joined line book name request is_sync within before step = record { once = once; same_request = same_request }
  where
    once : (other : ℕ) → times other (line ++ (name, request) ∷ []) ≡ one_if (is_waiting (entry_at (set book name (Waiting request is_sync)) other))
    once other = elim (cases_eq other name) [
      | inl same ↦ rw same (omega (
        arith,
        times-joined line name name request,
        one_if-same name,
        step.once name,
        ap one_if before,
        ap (λ e. one_if (is_waiting e)) (entry_at-same book name (Waiting request is_sync) within),
      ))
      | inr ne ↦ omega (
        arith,
        times-joined line name other request,
        one_if-other name other (λ e. ne (sym e)),
        step.once other,
        ap (λ e. one_if (is_waiting e)) (entry_at-other book name other (Waiting request is_sync) ne),
      )
    ]

    same_request : (other : ℕ) (asked : Request) → Contains (line ++ (name, request) ∷ []) (other, asked)
        → (was_sync : Bool) × (entry_at (set book name (Waiting request is_sync)) other ≡ Waiting asked was_sync)
    same_request other asked in_line = elim (Contains-joined line (name, request) (other, asked) in_line) [
      | inl before_it ↦
          let was = step.same_request other asked before_it in
          elim (cases_eq other name) [
            | inl same ↦
                let waits : is_waiting (entry_at book other) ≡ true = ap is_waiting was.1 in
                let still : is_waiting (entry_at book other) ≡ false = ap (λ n. is_waiting (entry_at book n)) same ∙ before in
                cc
            | inr ne ↦ (was.0, entry_at-other book name other _ ne ∙ was.1)
          ]
      | inr last ↦
          let same_name : name ≡ other = ap (λ (w : Waiter). w.0) last in
          let same_asked : request ≡ asked = ap (λ (w : Waiter). w.1) last in
          rw (← same_name, ← same_asked) (is_sync, entry_at-same book name (Waiting request is_sync) within)
    ]

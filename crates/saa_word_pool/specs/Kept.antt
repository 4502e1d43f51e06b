-- What is always so of a pool, and what each step of a call tells.
-- The words of the table are one for each slot, 1 where its value rests in it, and behind them the count of the values that a call may still take.
use Rattle.std.specs.Prelude.{◌≡◌, ◌≢◌, ℕ, zero, suc, ◌+◌, ◌<◌, ◌≤◌, ◌==◌, if◌then◌else◌, List, [], ◌∷◌, length, slice_index, Option, Some}
use mathlib.Core.Option as maybe
use mathlib.Core.Option.{some, none}
use lib.ListN.{get_elem?}
use Rattle.atomic_table.specs.Table.{State, Me}
use Rattle.saa_word_pool.specs.History.{Event, IsHistory, gave, out_after, part_of, refused, took}
use Rattle.saa_word_pool.specs.declared.table.Part.{Part}
use Rattle.saa_word_pool.specs.declared.table.Part.TheVariants.{Coming, Refused, Reserved, Holding, Returning, Returned}
use Rattle.saa_word_pool.specs.declared.table.View.{View}

-- the sum of what the items of a list count
abbrev pub total : {A : Type 0} → (A → ℕ) → List A → ℕ
total count [] = 0
total count (item ∷ items) = count item + total count items

-- a slot is at home with its value, or out with a call
abbrev pub is_in : {A : Type 0} → maybe.Option A → ℕ
is_in (some value) = 1
is_in none = 0

-- a call has taken one from the count and has not given it back: it counts as out
abbrev pub is_out_by : Part → ℕ
is_out_by Coming = 0
is_out_by Refused = 0
is_out_by Reserved = 1
is_out_by (Holding index) = 1
is_out_by Returning = 1
is_out_by Returned = 0

-- a value that is in its slot and not in the count: one that a call has reserved, or that it has put back and not counted yet
abbrev pub is_due_by : Part → ℕ
is_due_by Coming = 0
is_due_by Refused = 0
is_due_by Reserved = 1
is_due_by (Holding index) = 0
is_due_by Returning = 1
is_due_by Returned = 0

abbrev pub is_out : {K : Type 0} → View K → ℕ
is_out v = is_out_by v.part

abbrev pub is_due : {K : Type 0} → View K → ℕ
is_due v = is_due_by v.part

abbrev pub at_part : {K : Type 0} → K → Part → View K
at_part key part = record { key = key; part = part }

abbrev pub coming : {K : Type 0} → K → View K
coming key = at_part key Coming

-- A pool is kept. The count and the values that are out make up all slots; the count and the values that are due make up those that are in. A value is
-- in its slot exactly where the slot's word is 1, and belongs there. A slot that a call holds is out, and no other call holds it
pub record Kept {T K : Type 0} (belongs : T → Type 0) (s : State (Option T) (View K)) : Type 0 where
  pub wide : length s.words ≡ length s.homes + 1
  pub all : slice_index s.words (length s.homes) + total is_out s.views ≡ length s.homes
  pub within : slice_index s.words (length s.homes) + total is_due s.views ≡ total is_in s.homes
  pub rests : (index : ℕ) → index < length s.homes → get_elem? s.words index ≡ some 1
      → (value : T) × (get_elem? s.homes index ≡ some (some (Some value))) × belongs value
  pub shown : (index : ℕ) (inside : Option T) → get_elem? s.homes index ≡ some (some inside) → get_elem? s.words index ≡ some 1
  pub gone : (seat index : ℕ) (v : View K) → get_elem? s.views seat ≡ some v → v.part ≡ Holding index → get_elem? s.homes index ≡ some none
  pub apart : (one other index : ℕ) (v w : View K) → get_elem? s.views one ≡ some v → get_elem? s.views other ≡ some w → v.part ≡ Holding index
      → w.part ≡ Holding index → one ≡ other

-- what a call that has come so far did
abbrev pub part_by : Part → List Event
part_by Coming = []
part_by Refused = refused ∷ []
part_by Reserved = took ∷ []
part_by (Holding index) = took ∷ []
part_by Returning = took ∷ []
part_by Returned = gave ∷ took ∷ []

-- One history leads to the count, and each call knows its part of it
pub record Recorded {T K : Type 0} (s : State (Option T) (View K)) : Type 0 where
  pub history : List (ℕ × Event)
  pub legal : IsHistory (length s.homes) history
  pub sums : slice_index s.words (length s.homes) + out_after history ≡ length s.homes
  pub parts : (seat : ℕ) (v : View K) → get_elem? s.views seat ≡ some v → part_of seat history ≡ part_by v.part
  pub fresh : (seat : ℕ) → length s.views ≤ seat → part_of seat history ≡ []

-- The rule of a pool
abbrev pub IsPool : {T K : Type 0} → (T → Type 0) → State (Option T) (View K) → Type 0
IsPool belongs s = Kept belongs s × Recorded s

-- where a call that looks at the count comes to: it is refused where the count is 0
abbrev pub looked : ℕ → Part
looked zero = Refused
looked (suc found) = Coming

-- where a call comes to that takes one from the count, if that is what it has seen
abbrev pub counted : ℕ → ℕ → Part
counted seen found = if found == seen then Reserved else looked found

module _ {T K : Type 0} where
  abbrev pub HasLooked : K → ℕ → Me (Option T) (View K) → Type 0
  HasLooked key found after = (after.0 ≡ at_part key (looked found)) × (after.1 ≡ [])

  abbrev pub HasCounted : K → ℕ → ℕ → Me (Option T) (View K) → Type 0
  HasCounted key seen found after = (after.0 ≡ at_part key (counted seen found)) × (after.1 ≡ [])

  -- a call has the value of a slot, which belongs to the pool
  abbrev pub HasValue : (T → Type 0) → K → ℕ → Me (Option T) (View K) → Type 0
  HasValue belongs key index me = (me.0 ≡ at_part key (Holding index)) × ((value : T) × (me.1 ≡ (index, Some value) ∷ []) × belongs value)

  abbrev pub HasTaken : (K → T → Type 0) → Me (Option T) (View K) → ℕ → ℕ → Me (Option T) (View K) → Type 0
  HasTaken belongs before index found after = (found ≡ 1 → HasValue (belongs before.0.key) before.0.key index after) × (found ≢ 1 → after ≡ before)

  abbrev pub HasPutBack : K → Me (Option T) (View K) → Type 0
  HasPutBack key after = (after.0 ≡ at_part key Returning) × (after.1 ≡ [])

  abbrev pub HasCountedBack : K → Me (Option T) (View K) → Type 0
  HasCountedBack key after = (after.0 ≡ at_part key Returned) × (after.1 ≡ [])

-- a slot that rests has a value that belongs to the pool
abbrev pub IsRest : {T : Type 0} → (T → Type 0) → Option T → Type 0
IsRest {T} belongs inside = (value : T) × (inside ≡ Some value) × belongs value

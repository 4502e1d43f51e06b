-- What every command keeps, once and for all primitives, from what each primitive's own steps keep.
use Rattle.std.proofs.Common.{◌≡◌, ℕ, ◌<◌, Bool, true, false, not, ◌||◌, eqb, cond, List, [], ◌∷◌, ◌++◌, Option, Some, None, refl, ap, inl, inr, All}
use Rattle.std.specs.List.{AllByRecursion}
use Rattle.std.proofs.lemmas.Bool.{cases_Bool}
use Rattle.std.proofs.lemmas.List.Elements.{recursion_from_All}
use Rattle.saa_core_spec.specs.declared.request.Request.{Request}
use Rattle.saa_core_spec.specs.declared.polling.How.{How}
use Rattle.saa_core_spec.specs.declared.polling.How.TheVariants.{Try, Sync, Async}
use Rattle.saa_core_spec.specs.declared.polling.Error.{Error}
use Rattle.saa_core_spec.specs.declared.run.CommandOf.{CommandOf}
use Rattle.saa_core_spec.specs.declared.run.CommandOf.TheVariants.{Call, Register, TryPoll, PollSync, PollAsync, Drop, Leave}
use Rattle.std.specs.Prelude.{Result}
use Rattle.saa_core_spec.specs.Held.{Held, asks_too_much}
use Rattle.saa_core_spec.specs.Object.{Object, After, Entry, Idle, Waiting, Answered, Waiter, entry_at, with_entry, holds_slot, used, without}
use Rattle.saa_core_spec.specs.Asking.{answer_at_once, registered, registered_of}
use Rattle.saa_core_spec.specs.Polling.{is_right_mode, polled_in, polled_of, polled, left_of, quietly_left_of, undone_of, dropped_of, dropped, withdrawn_of, withdrawn}
use Rattle.saa_core_spec.specs.Values.{granted_value}
use Rattle.saa_core_spec.specs.Run.{IsWithin, done, state_after}
use Rattle.saa_core_laws.specs.Laws.{is_waiting}
use Rattle.saa_core_laws.proofs.Kept.{IsKept, IsKept-written, IsKept-left, IsKept-joined, is_waiting-idle}

-- an object in order, of whose held value and line a primitive's own fact holds
pub record IsRight (Kind : Held → List Waiter → Type 0) (names : ℕ) (s : Object) : Type 0 where
  pub kept : IsKept names s
  pub kind : Kind s.held s.line

-- What a registration that is answered at once leaves: all is right, and a name that didn't wait doesn't wait
pub record IsRightAnswer (Kind : Held → List Waiter → Type 0) (names : ℕ) (s : Object) (answer : After ℕ) : Type 0 where
  pub right : IsRight Kind names answer.state
  pub still : (name : ℕ) → is_waiting (entry_at s.book name) ≡ false → is_waiting (entry_at answer.state.book name) ≡ false

-- What a primitive has to show of its own steps: of its calls, of an answer at once, of a name that joins the line
-- or leaves it, or leaves it quietly, and of what is given back with a dropped answer
pub record KeepsRight (C A Ask : Type 0) (Kind : Held → List Waiter → Type 0) (names : ℕ) (request : Ask → Request) (step : C → Object → After A) : Type 0 where
  pub calls : (call : C) (s : Object) → IsRight Kind names s → IsRight Kind names (step call s).state
  pub answers : (s : Object) (ask : Ask) (answer : After ℕ) → IsRight Kind names s → answer_at_once s (request ask) ≡ Some answer
      → IsRightAnswer Kind names s answer
  pub joins : (s : Object) (name : ℕ) (ask : Ask) → IsRight Kind names s → answer_at_once s (request ask) ≡ None
      → asks_too_much s.held (request ask) ≡ false → Kind s.held (s.line ++ (name, request ask) ∷ [])
  pub leaves : (s : Object) (name : ℕ) → IsRight Kind names s → IsKept names (record (with_entry s name Idle) { line = without name s.line })
      → IsRight Kind names (left_of (record (with_entry s name Idle) { line = without name s.line }) s.held)
  pub quiet : (s : Object) (name : ℕ) → IsRight Kind names s → IsKept names (record (with_entry s name Idle) { line = without name s.line })
      → IsRight Kind names (quietly_left_of (record (with_entry s name Idle) { line = without name s.line }) s.held)
  pub undoes : (s : Object) (asked : Request) → IsRight Kind names s → IsRight Kind names (undone_of s s.held asked)

-- an entry without a slot for a name that doesn't wait
pub IsRight-written : (Kind : Held → List Waiter → Type 0) (names : ℕ) (s : Object) (name : ℕ) (entry : Entry)
    → is_waiting (entry_at s.book name) ≡ false → is_waiting entry ≡ false → holds_slot entry ≡ false
    → IsRight Kind names s → IsRight Kind names (with_entry s name entry)
IsRight-written Kind names s name entry before after no_slot right = record {
  kept = IsKept-written names s name entry before after no_slot right.kept;
  kind = right.kind;
}

-- a poll of a name with this entry, in the right mode or not
pub IsRight-polled_in : (Kind : Held → List Waiter → Type 0) (names : ℕ) (s : Object) (name : ℕ) (entry : Entry) (is_right : Bool)
    → entry_at s.book name ≡ entry → IsRight Kind names s → IsRight Kind names (polled_in s name entry is_right).state
IsRight-polled_in Kind names s name entry false at right = right
IsRight-polled_in Kind names s name Idle true at right = right
IsRight-polled_in Kind names s name (Waiting request is_sync) true at right = right
IsRight-polled_in Kind names s name (Answered value request is_sync slotted) true at right =
    IsRight-written Kind names s name Idle (ap is_waiting at) refl refl right

-- a poll of a name with this entry
pub IsRight-polled_of : (Kind : Held → List Waiter → Type 0) (names : ℕ) (s : Object) (name : ℕ) (how : How) (entry : Entry)
    → entry_at s.book name ≡ entry → IsRight Kind names s → IsRight Kind names (polled_of s name how entry).state
IsRight-polled_of Kind names s name how Idle at right = right
IsRight-polled_of Kind names s name how (Waiting request is_sync) at right =
    IsRight-polled_in Kind names s name (Waiting request is_sync) (is_right_mode how is_sync) at right
IsRight-polled_of Kind names s name how (Answered value request is_sync slotted) at right =
    IsRight-polled_in Kind names s name (Answered value request is_sync slotted) (is_right_mode how is_sync) at right

-- every poll
pub IsRight-polled : (Kind : Held → List Waiter → Type 0) (names : ℕ) (s : Object) (name : ℕ) (how : How)
    → IsRight Kind names s → IsRight Kind names (polled s name how).state
IsRight-polled Kind names s name how right = IsRight-polled_of Kind names s name how (entry_at s.book name) refl right

-- a registration, by its four cases
pub IsRight-registered_of : (Kind : Held → List Waiter → Type 0) (names : ℕ) (s : Object) (name : ℕ) (request : Request) (is_sync : Bool)
    (is_refused : Bool) (answer : Option (After ℕ)) (is_full : Bool) → name < names
    → (is_refused ≡ false → is_waiting (entry_at s.book name) ≡ false)
    → ((given : After ℕ) → answer ≡ Some given → IsRightAnswer Kind names s given)
    → (answer ≡ None → is_refused ≡ false → Kind s.held (s.line ++ (name, request) ∷ []))
    → (is_full ≡ false → eqb (used s) s.room ≡ false)
    → IsRight Kind names s → IsRight Kind names (registered_of s name request is_sync is_refused answer is_full).state
IsRight-registered_of Kind names s name request is_sync true answer is_full within idle answers joins room right = right
IsRight-registered_of Kind names s name request is_sync false (Some given) is_full within idle answers joins room right =
    IsRight-written Kind names given.state name (Answered given.reply request is_sync false)
    ((answers given refl).still name (idle refl)) refl refl (answers given refl).right
IsRight-registered_of Kind names s name request is_sync false None true within idle answers joins room right = right
IsRight-registered_of Kind names s name request is_sync false None false within idle answers joins room right = record {
  kept = IsKept-joined names s name request is_sync within (idle refl) (room refl) right.kept;
  kind = joins refl refl;
}

-- where there is no value, the test failed
pub cond_none : {A : Type 0} (b : Bool) (x : A) → cond b (Some x) None ≡ None → b ≡ false
cond_none true x e = cc
cond_none false x e = refl

-- what isn't refused passed the first test
pub or_false-left : (a b : Bool) → (not a || b) ≡ false → a ≡ true
or_false-left true b e = refl
or_false-left false b e = cc

-- and the second
pub or_false-right : (a b : Bool) → (not a || b) ≡ false → b ≡ false
or_false-right true b e = e
or_false-right false b e = cc

-- dropping what a name with this entry is registered for
pub IsRight-dropped_of : (Kind : Held → List Waiter → Type 0) (names : ℕ) (s : Object) (name : ℕ) (entry : Entry)
    → entry_at s.book name ≡ entry
    → IsRight Kind names (left_of (record (with_entry s name Idle) { line = without name s.line }) s.held)
    → ((idle : Object) (asked : Request) → IsRight Kind names idle → IsRight Kind names (undone_of idle idle.held asked))
    → IsRight Kind names s → IsRight Kind names (dropped_of s name entry)
IsRight-dropped_of Kind names s name Idle at left undoes right = right
IsRight-dropped_of Kind names s name (Waiting request is_sync) at left undoes right = left
IsRight-dropped_of Kind names s name (Answered value request is_sync slotted) at left undoes right =
    let idle : IsRight Kind names (with_entry s name Idle) = IsRight-written Kind names s name Idle (ap is_waiting at) refl refl right in
    elim (cases_Bool (eqb value granted_value)) [
      | inl e ↦ rw e (undoes (with_entry s name Idle) request idle)
      | inr e ↦ rw e idle
    ]

module _ {C A V Ask : Type 0} (Kind : Held → List Waiter → Type 0) (names : ℕ) (request : Ask → Request) (step : C → Object → After A)
    (value : Result ℕ Error → V) (keeps : KeepsRight C A Ask Kind names request step) where
  -- every registration of a name that there is
  pub IsRight-registered : (s : Object) (name : ℕ) (ask : Ask) (is_sync : Bool) → name < names
      → IsRight Kind names s → IsRight Kind names (registered s name (request ask) is_sync).state
  IsRight-registered s name ask is_sync within right =
      IsRight-registered_of Kind names s name (request ask) is_sync _ (answer_at_once s (request ask)) _ within
      (λ e. is_waiting-idle (entry_at s.book name) (or_false-left _ _ e))
      (λ given e. keeps.answers s ask given right e)
      (λ none e. keeps.joins s name ask right none (or_false-right _ _ e))
      (λ e. e)
      right

  -- every drop
  pub IsRight-dropped : (s : Object) (name : ℕ) → IsRight Kind names s → IsRight Kind names (dropped s name)
  IsRight-dropped s name right =
      IsRight-dropped_of Kind names s name (entry_at s.book name) refl
      (keeps.leaves s name right (IsKept-left names s name right.kept)) keeps.undoes right

  -- withdrawing a name with this entry
  pub IsRight-withdrawn_of : (s : Object) (name : ℕ) (entry : Entry) → entry_at s.book name ≡ entry → IsRight Kind names s
      → IsRight Kind names (withdrawn_of s name entry)
  IsRight-withdrawn_of s name Idle at right = right
  IsRight-withdrawn_of s name (Waiting request is_sync) at right = keeps.quiet s name right (IsKept-left names s name right.kept)
  IsRight-withdrawn_of s name (Answered value request is_sync slotted) at right =
      IsRight-dropped_of Kind names s name (Answered value request is_sync slotted) at
      (keeps.leaves s name right (IsKept-left names s name right.kept)) keeps.undoes right

  -- every withdrawal
  pub IsRight-withdrawn : (s : Object) (name : ℕ) → IsRight Kind names s → IsRight Kind names (withdrawn s name)
  IsRight-withdrawn s name right = IsRight-withdrawn_of s name (entry_at s.book name) refl right

  -- every command that speaks of names that there are
  pub IsRight-done : (command : CommandOf C Ask) (s : Object) → IsWithin names command
      → IsRight Kind names s → IsRight Kind names (done request step value command s).state
  IsRight-done (Call call) s within right = keeps.calls call s right
  IsRight-done (Register name ask is_sync) s within right = IsRight-registered s name ask is_sync within right
  IsRight-done (TryPoll name) s within right = IsRight-polled Kind names s name Try right
  IsRight-done (PollSync name) s within right = IsRight-polled Kind names s name Sync right
  IsRight-done (PollAsync name) s within right = IsRight-polled Kind names s name Async right
  IsRight-done (Drop name) s within right = IsRight-dropped s name right
  IsRight-done (Leave name) s within right = IsRight-withdrawn s name right

  -- every list of such commands
  pub IsRight-run : (commands : List (CommandOf C Ask)) (s : Object) → AllByRecursion (IsWithin names) commands
      → IsRight Kind names s → IsRight Kind names (state_after request step value commands s)
  IsRight-run [] s within right = right
  IsRight-run (command ∷ commands) s within right =
      IsRight-run commands (done request step value command s).state within.1 (IsRight-done command s within.0 right)

  -- the same of commands that are each within the names
  pub IsRight-state_after : (commands : List (CommandOf C Ask)) (s : Object) → All (IsWithin names) commands
      → IsRight Kind names s → IsRight Kind names (state_after request step value commands s)
  IsRight-state_after commands s within right = IsRight-run commands s (recursion_from_All (IsWithin names) commands within) right

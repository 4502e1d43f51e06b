-- A semaphore or a lock that stands settled stays so under every command, whatever its line and book are.
use Rattle.std.proofs.Common.{◌≡◌, ℕ, Bool, true, false, eqb, List, [], ◌∷◌, ◌++◌, Option, Some, None, refl, sym, ap, ◌∙◌, inl, inr, subst}
use Rattle.std.proofs.lemmas.Bool.{cases_Bool, and_parts}
use Rattle.std.proofs.lemmas.Option.{cond_some}
use Rattle.std.specs.Prelude.{Result}
use Rattle.saa_core_spec.specs.declared.request.Request.{Request}
use Rattle.saa_core_spec.specs.declared.polling.How.{How}
use Rattle.saa_core_spec.specs.declared.polling.How.TheVariants.{Try, Sync, Async}
use Rattle.saa_core_spec.specs.declared.polling.Error.{Error}
use Rattle.saa_core_spec.specs.declared.run.CommandOf.{CommandOf}
use Rattle.saa_core_spec.specs.declared.run.CommandOf.TheVariants.{Call, Register, TryPoll, PollSync, PollAsync, Drop, Leave}
use Rattle.saa_core_spec.specs.Held.{Held, OfSemaphore, OfShutSemaphore, OfLock, OfGate, OfBarrier, Free, Exclusive, Shared, Poisoned, fits, plus, less, refuses_all}
use Rattle.saa_core_spec.specs.Object.{Object, After, Entry, Idle, Waiting, Answered, Waiter, with_entry, entry_at, without}
use Rattle.saa_core_spec.specs.Settling.{fitting_front, settled}
use Rattle.saa_core_spec.specs.Asking.{is_granted_at_once, tried, granted_at_once, answer_in, answer_at_once, registered_of}
use Rattle.saa_core_spec.specs.Polling.{is_for_nothing, given_back_of, given_back, left_of, undone_of, dropped_of, polled_in, polled_of, is_right_mode}
use Rattle.saa_core_spec.specs.Values.{granted_value, closed_value, poisoned_value}
use Rattle.saa_core_spec.specs.Run.{done, state_after}
use Rattle.saa_core_spec.proofs.FittingFronts.{fitting_front-settled}
use Rattle.saa_core_spec.proofs.Refusing.{less-refusing, plus_all-refusing}
use Rattle.saa_core_spec.proofs.Leaving.{withdrawn-dropped}
use Rattle.saa_core_laws.proofs.Commands.{cond_none}
use Rattle.saa_core_laws.proofs.Grants.{KeepsFine, fitting_front-joined, is_nobody-empty, fine-settled}

-- a value that is fine in its own way, whose line stands settled, and at which nobody waits if every request is refused
pub record Stands (IsFine : Held → Type 0) (held : Held) (line : List Waiter) : Type 0 where
  pub fine : IsFine held
  pub front : fitting_front held line ≡ 0
  pub refused : refuses_all held ≡ true → line ≡ []

-- a poll in a right mode or a wrong one writes the book alone
pub Stands-polled_in : (IsFine : Held → Type 0) (s : Object) (name : ℕ) (entry : Entry) (is_right : Bool)
    → Stands IsFine s.held s.line → Stands IsFine (polled_in s name entry is_right).state.held (polled_in s name entry is_right).state.line
Stands-polled_in IsFine s name entry false stands = stands
Stands-polled_in IsFine s name Idle true stands = stands
Stands-polled_in IsFine s name (Waiting request is_sync) true stands = stands
Stands-polled_in IsFine s name (Answered value request is_sync slotted) true stands = stands

-- and so does every poll
pub Stands-polled_of : (IsFine : Held → Type 0) (s : Object) (name : ℕ) (how : How) (entry : Entry)
    → Stands IsFine s.held s.line → Stands IsFine (polled_of s name how entry).state.held (polled_of s name how entry).state.line
Stands-polled_of IsFine s name how Idle stands = stands
Stands-polled_of IsFine s name how (Waiting request is_sync) stands =
    Stands-polled_in IsFine s name (Waiting request is_sync) (is_right_mode how is_sync) stands
Stands-polled_of IsFine s name how (Answered value request is_sync slotted) stands =
    Stands-polled_in IsFine s name (Answered value request is_sync slotted) (is_right_mode how is_sync) stands

module _ (IsFine : Held → Type 0) (keeps : KeepsFine IsFine) where
  -- what is settled stands settled
  pub Stands-settled : (s : Object) → IsFine s.held → (refuses_all s.held ≡ true → s.line ≡ [])
      → Stands IsFine (settled s).held (settled s).line
  unfolding settled
  Stands-settled s fine refused = record {
    fine = fine-settled IsFine (OfLock Free) 0 keeps s.held s.line fine;
    front = fitting_front-settled s.held s.line;
    refused = λ e. let nobody : s.line ≡ [] = refused (sym (plus_all-refusing s.held s.line) ∙ e) in rw nobody refl;
  }

  -- giving back, where it is nothing, where it is held, and where it isn't
  pub Stands-given_back_of : (s : Object) (request : Request) (is_nothing : Bool) (rest : Option Held) → less s.held request ≡ rest
      → Stands IsFine s.held s.line → Stands IsFine (given_back_of s is_nothing rest).state.held (given_back_of s is_nothing rest).state.line
  Stands-given_back_of s request true rest e stands = stands
  Stands-given_back_of s request false None e stands = stands
  Stands-given_back_of s request false (Some rest) e stands =
      Stands-settled (record s { held = rest }) (keeps.takes s.held rest request stands.fine e)
      (λ refuses. stands.refused (sym (less-refusing s.held rest request e) ∙ refuses))

  -- giving back any request
  pub Stands-given_back : (s : Object) (request : Request)
      → Stands IsFine s.held s.line → Stands IsFine (given_back s request).state.held (given_back s request).state.line
  Stands-given_back s request stands = Stands-given_back_of s request (is_for_nothing request) (less s.held request) refl stands

  -- what is granted at once finds nobody waiting
  pub Stands-added : (s : Object) (request : Request) → is_granted_at_once s request ≡ true
      → Stands IsFine s.held s.line → Stands IsFine (plus s.held request) s.line
  Stands-added s request e stands =
      let parts = and_parts _ (fits s.held request) e in
      let nobody : s.line ≡ [] = is_nobody-empty s.line parts.0 in
      record {
        fine = keeps.adds s.held request stands.fine parts.1;
        front = ap (fitting_front (plus s.held request)) nobody;
        refused = λ _. nobody;
      }

  -- a try
  pub Stands-tried : (s : Object) (request : Request)
      → Stands IsFine s.held s.line → Stands IsFine (tried s request).state.held (tried s request).state.line
  Stands-tried s request stands = elim (cases_Bool (is_granted_at_once s request)) [
    | inl e ↦ rw e (Stands-added s request e stands)
    | inr e ↦ rw e stands
  ]

  -- a registration that is granted at once
  pub Stands-granted : (s : Object) (request : Request) (answer : After ℕ) → granted_at_once s request ≡ Some answer
      → Stands IsFine s.held s.line → Stands IsFine answer.state.held answer.state.line
  Stands-granted s request answer e stands =
      let parts = cond_some (is_granted_at_once s request) (record { state = record s { held = plus s.held request }; reply = granted_value }) answer e in
      rw (← parts.1) (Stands-added s request parts.0 stands)

  -- a registration that is answered at once
  pub Stands-answered : (s : Object) (held : Held) (request : Request) (answer : After ℕ) → IsFine held → answer_in s held request ≡ Some answer
      → Stands IsFine s.held s.line → Stands IsFine answer.state.held answer.state.line
  Stands-answered s (OfSemaphore bound out) request answer fine e stands = Stands-granted s request answer e stands
  Stands-answered s (OfShutSemaphore bound out) request answer fine e stands =
      let same : ◌≡◌ {A = After ℕ} (record { state = s; reply = closed_value }) answer = cc in
      rw (← same) stands
  Stands-answered s (OfLock Free) request answer fine e stands = Stands-granted s request answer e stands
  Stands-answered s (OfLock Exclusive) request answer fine e stands = Stands-granted s request answer e stands
  Stands-answered s (OfLock (Shared n)) request answer fine e stands = Stands-granted s request answer e stands
  Stands-answered s (OfLock Poisoned) request answer fine e stands =
      let same : ◌≡◌ {A = After ℕ} (record { state = s; reply = poisoned_value }) answer = cc in
      rw (← same) stands
  Stands-answered s (OfGate gate) request answer fine e stands = absurd (keeps.no_gate gate fine)
  Stands-answered s (OfBarrier size arrived round) request answer fine e stands = absurd (keeps.no_barrier size arrived round fine)

  -- one more who isn't granted at once and isn't refused
  pub Stands-joined : (s : Object) (waiter : Waiter) → granted_at_once s waiter.1 ≡ None → refuses_all s.held ≡ false
      → Stands IsFine s.held s.line → Stands IsFine s.held (s.line ++ waiter ∷ [])
  Stands-joined s waiter e grants_some stands = record {
    fine = stands.fine;
    front = fitting_front-joined s.held s.line waiter stands.front (cond_none (is_granted_at_once s waiter.1) _ e);
    refused = λ refuses. let both : ◌≡◌ {A = Bool} false true = sym grants_some ∙ refuses in cc;
  }

  -- one more, as nothing was answered at once
  pub Stands-waits : (s : Object) (held : Held) (waiter : Waiter) → s.held ≡ held → IsFine held → answer_in s held waiter.1 ≡ None
      → Stands IsFine s.held s.line → Stands IsFine s.held (s.line ++ waiter ∷ [])
  Stands-waits s (OfSemaphore bound out) waiter is fine e stands = Stands-joined s waiter e (ap refuses_all is) stands
  Stands-waits s (OfLock Free) waiter is fine e stands = Stands-joined s waiter e (ap refuses_all is) stands
  Stands-waits s (OfLock Exclusive) waiter is fine e stands = Stands-joined s waiter e (ap refuses_all is) stands
  Stands-waits s (OfLock (Shared n)) waiter is fine e stands = Stands-joined s waiter e (ap refuses_all is) stands
  Stands-waits s (OfShutSemaphore bound out) waiter is fine e stands = cc
  Stands-waits s (OfLock Poisoned) waiter is fine e stands = cc
  Stands-waits s (OfGate gate) waiter is fine e stands = absurd (keeps.no_gate gate fine)
  Stands-waits s (OfBarrier size arrived round) waiter is fine e stands = absurd (keeps.no_barrier size arrived round fine)

  -- a registration, by its four cases
  pub Stands-registered_of : (s : Object) (name : ℕ) (request : Request) (is_sync is_refused : Bool) (answer : Option (After ℕ)) (is_full : Bool)
      → answer_at_once s request ≡ answer
      → Stands IsFine s.held s.line
      → Stands IsFine (registered_of s name request is_sync is_refused answer is_full).state.held (registered_of s name request is_sync is_refused answer is_full).state.line
  Stands-registered_of s name request is_sync true answer is_full e stands = stands
  Stands-registered_of s name request is_sync false (Some answer) is_full e stands = Stands-answered s s.held request answer stands.fine e stands
  Stands-registered_of s name request is_sync false None true e stands = stands
  Stands-registered_of s name request is_sync false None false e stands = Stands-waits s s.held (name, request) refl stands.fine e stands

  -- a name that waited has left
  pub Stands-left_of : (s : Object) (held : Held) (name : ℕ) → IsFine held → Stands IsFine s.held s.line
      → Stands IsFine (left_of (record (with_entry s name Idle) { line = without name s.line }) held).held
      (left_of (record (with_entry s name Idle) { line = without name s.line }) held).line
  Stands-left_of s (OfSemaphore bound out) name fine stands =
      Stands-settled (record (with_entry s name Idle) { line = without name s.line }) stands.fine (λ refuses. ap (without name) (stands.refused refuses))
  Stands-left_of s (OfShutSemaphore bound out) name fine stands =
      Stands-settled (record (with_entry s name Idle) { line = without name s.line }) stands.fine (λ refuses. ap (without name) (stands.refused refuses))
  Stands-left_of s (OfLock lock) name fine stands =
      Stands-settled (record (with_entry s name Idle) { line = without name s.line }) stands.fine (λ refuses. ap (without name) (stands.refused refuses))
  Stands-left_of s (OfGate gate) name fine stands = absurd (keeps.no_gate gate fine)
  Stands-left_of s (OfBarrier size arrived round) name fine stands = absurd (keeps.no_barrier size arrived round fine)

  -- what was granted is given back with a dropped answer
  pub Stands-undone_of : (s : Object) (held : Held) (request : Request) → Stands IsFine s.held s.line
      → Stands IsFine (undone_of s held request).held (undone_of s held request).line
  Stands-undone_of s (OfSemaphore bound out) request stands = Stands-given_back s request stands
  Stands-undone_of s (OfShutSemaphore bound out) request stands = Stands-given_back s request stands
  Stands-undone_of s (OfLock lock) request stands = Stands-given_back s request stands
  Stands-undone_of s (OfGate gate) request stands = stands
  Stands-undone_of s (OfBarrier size arrived round) request stands = stands

  -- every drop
  pub Stands-dropped_of : (s : Object) (name : ℕ) (entry : Entry) → Stands IsFine s.held s.line
      → Stands IsFine (dropped_of s name entry).held (dropped_of s name entry).line
  Stands-dropped_of s name Idle stands = stands
  Stands-dropped_of s name (Waiting request is_sync) stands = Stands-left_of s s.held name stands.fine stands
  Stands-dropped_of s name (Answered value request is_sync slotted) stands = elim (cases_Bool (eqb value granted_value)) [
    | inl e ↦ rw e (Stands-undone_of (with_entry s name Idle) s.held request stands)
    | inr e ↦ rw e stands
  ]

  module _ {C A V Ask : Type 0} (request : Ask → Request) (step : C → Object → After A) (value : Result ℕ Error → V)
      (calls : (call : C) (s : Object) → Stands IsFine s.held s.line → Stands IsFine (step call s).state.held (step call s).state.line) where
    -- every command
    pub Stands-done : (command : CommandOf C Ask) (s : Object) → Stands IsFine s.held s.line
        → Stands IsFine (done request step value command s).state.held (done request step value command s).state.line
    Stands-done (Call call) s stands = calls call s stands
    Stands-done (Register name ask is_sync) s stands =
        Stands-registered_of s name (request ask) is_sync _ (answer_at_once s (request ask)) _ refl stands
    Stands-done (TryPoll name) s stands = Stands-polled_of IsFine s name Try (entry_at s.book name) stands
    Stands-done (PollSync name) s stands = Stands-polled_of IsFine s name Sync (entry_at s.book name) stands
    Stands-done (PollAsync name) s stands = Stands-polled_of IsFine s name Async (entry_at s.book name) stands
    Stands-done (Drop name) s stands = Stands-dropped_of s name (entry_at s.book name) stands
    Stands-done (Leave name) s stands =
        rw (withdrawn-dropped s name (entry_at s.book name) (λ gate is. keeps.no_gate gate (subst IsFine is stands.fine)))
        (Stands-dropped_of s name (entry_at s.book name) stands)

    -- every list of commands
    pub Stands-run : (commands : List (CommandOf C Ask)) (s : Object) → Stands IsFine s.held s.line
        → Stands IsFine (state_after request step value commands s).held (state_after request step value commands s).line
    Stands-run [] s stands = stands
    Stands-run (command ∷ commands) s stands = Stands-run commands (done request step value command s).state (Stands-done command s stands)

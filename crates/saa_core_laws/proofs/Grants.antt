-- What a semaphore and a lock keep, both of which grant what fits: they stand settled, and each waiter would fit
-- if nothing were out.
use Rattle.std.proofs.Common.{◌≡◌, ℕ, zero, suc, Bool, true, false, ◌&&◌, eqb, List, [], ◌∷◌, ◌++◌, take, drop, Option, Some, None, refl, sym, ap, ◌∙◌, inl, inr, arith, subst}
use Rattle.std.specs.List.{AllByRecursion}
use Rattle.std.proofs.lemmas.Bool.{cases_Bool, and_parts}
use Rattle.std.proofs.lemmas.Option.{cond_some}
use Rattle.saa_core_spec.specs.declared.gate.State.{State}
use Rattle.saa_core_spec.specs.declared.request.Request.{Request}
use Rattle.saa_core_spec.specs.Held.{Held, OfSemaphore, OfShutSemaphore, OfLock, OfGate, OfBarrier, Free, Exclusive, Shared, Poisoned, fits, plus, less, refuses_all}
use Rattle.saa_core_spec.specs.Object.{Object, After, Idle, Waiter, with_entry, is_nobody, without}
use Rattle.saa_core_spec.specs.Settling.{fitting_front, plus_all, settled}
use Rattle.saa_core_spec.specs.Asking.{is_granted_at_once, tried, granted_at_once, answer_in}
use Rattle.saa_core_spec.specs.Polling.{is_for_nothing, given_back_of, given_back, left_of, quietly_left_of, undone_of}
use Rattle.saa_core_spec.specs.Values.{granted_value, closed_value, poisoned_value}
use Rattle.saa_core_laws.proofs.Kept.{IsKept, IsKept-held, IsKept-settled}
use Rattle.saa_core_laws.proofs.Commands.{IsRight, IsRightAnswer, cond_none}
use Rattle.saa_core_spec.proofs.FittingFronts.{fitting_front-fits, fitting_front-blocked, fitting_front-settled}
use Rattle.saa_core_spec.proofs.Refusing.{less-refusing, plus_all-refusing}
use Rattle.saa_core_spec.proofs.Leaving.{quiet-left}

-- each waiter would fit with this held
abbrev pub AllFit : Held → List Waiter → Type 0
AllFit empty line = AllByRecursion (λ waiter. fits empty waiter.1 ≡ true) line

-- What a value that grants what fits keeps with its line: it is fine in its own way, the line stands settled,
-- each waiter would fit with nothing out, and nobody waits where every request is refused
pub record Grants (IsFine : Held → Type 0) (empty held : Held) (line : List Waiter) : Type 0 where
  pub fine : IsFine held
  pub front : fitting_front held line ≡ 0
  pub asks : AllFit empty line
  pub refused : refuses_all held ≡ true → line ≡ []

-- What makes such a primitive: its values are fine with what fits granted and with what they have given back,
-- and none is a gate's or a barrier's
pub record KeepsFine (IsFine : Held → Type 0) : Type 0 where
  pub adds : (held : Held) (request : Request) → IsFine held → fits held request ≡ true → IsFine (plus held request)
  pub takes : (held rest : Held) (request : Request) → IsFine held → less held request ≡ Some rest → IsFine rest
  pub no_gate : (gate : State) → IsFine (OfGate gate) → ⊥
  pub no_barrier : (size arrived round : ℕ) → IsFine (OfBarrier size arrived round) → ⊥

-- the waiters after the first k
pub AllFit-drop : (empty : Held) (k : ℕ) (line : List Waiter) → AllFit empty line → AllFit empty (drop k line)
AllFit-drop empty zero line all = all
AllFit-drop empty (suc k) [] all = all
AllFit-drop empty (suc k) (waiter ∷ line) all = AllFit-drop empty k line all.1

-- the waiters without a name
pub AllFit-without : (empty : Held) (name : ℕ) (line : List Waiter) → AllFit empty line → AllFit empty (without name line)
AllFit-without empty name [] all = all
AllFit-without empty name (waiter ∷ line) all = elim (cases_Bool (eqb waiter.0 name)) [
  | inl e ↦ rw e (AllFit-without empty name line all.1)
  | inr e ↦ rw e (all.0, AllFit-without empty name line all.1)
]

-- one more
pub AllFit-joined : (empty : Held) (line : List Waiter) (waiter : Waiter) → fits empty waiter.1 ≡ true → AllFit empty line
    → AllFit empty (line ++ waiter ∷ [])
AllFit-joined empty [] waiter fit all = (fit, tt)
AllFit-joined empty (first ∷ line) waiter fit all = (all.0, AllFit-joined empty line waiter fit all.1)

-- where each would fit, and nobody in front does, nobody waits
pub nobody-fits : (held : Held) (line : List Waiter) → AllFit held line → fitting_front held line ≡ 0 → line ≡ []
nobody-fits held [] all none = refl
nobody-fits held (waiter ∷ line) all none = absurd (omega (arith, fitting_front-fits held waiter line all.0))

-- what stands settled stands so with one more, where it isn't granted at once
pub fitting_front-joined : (held : Held) (line : List Waiter) (waiter : Waiter) → fitting_front held line ≡ 0
    → (is_nobody line && fits held waiter.1) ≡ false → fitting_front held (line ++ waiter ∷ []) ≡ 0
fitting_front-joined held [] waiter front blocked = fitting_front-blocked held waiter [] blocked
fitting_front-joined held (first ∷ line) waiter front blocked = elim (cases_Bool (fits held first.1)) [
  | inl fit ↦ absurd (omega (arith, fitting_front-fits held first line fit))
  | inr e ↦ fitting_front-blocked held first (line ++ waiter ∷ []) e
]

-- nobody is in a line that has nobody
pub is_nobody-empty : (line : List Waiter) → is_nobody line ≡ true → line ≡ []
is_nobody-empty [] e = refl
is_nobody-empty (waiter ∷ line) e = cc

module _ (IsFine : Held → Type 0) (empty : Held) (names : ℕ) (keeps : KeepsFine IsFine) where
  -- settling keeps a value fine
  pub fine-settled : (held : Held) (line : List Waiter) → IsFine held → IsFine (plus_all held (take (fitting_front held line) line))
  fine-settled held [] fine = fine
  fine-settled held (waiter ∷ line) fine = elim (cases_Bool (fits held waiter.1)) [
    | inl fit ↦ rw (fitting_front-fits held waiter line fit) (fine-settled (plus held waiter.1) line (keeps.adds held waiter.1 fine fit))
    | inr blocked ↦ rw (fitting_front-blocked held waiter line blocked) fine
  ]

  -- after settling the value stands settled, and is right in all else
  pub Grants-settled : (s : Object) → IsFine s.held → AllFit empty s.line → (refuses_all s.held ≡ true → s.line ≡ [])
      → Grants IsFine empty (settled s).held (settled s).line
  unfolding settled
  Grants-settled s fine asks refused = record {
    fine = fine-settled s.held s.line fine;
    front = fitting_front-settled s.held s.line;
    asks = AllFit-drop empty (fitting_front s.held s.line) s.line asks;
    refused = λ e. let nobody : s.line ≡ [] = refused (sym (plus_all-refusing s.held s.line) ∙ e) in rw nobody refl;
  }

  -- giving back
  pub IsRight-given_back_of : (s : Object) (request : Request) (is_nothing : Bool) (rest : Option Held) → less s.held request ≡ rest
      → IsRight (Grants IsFine empty) names s → IsRight (Grants IsFine empty) names (given_back_of s is_nothing rest).state
  IsRight-given_back_of s request true rest e right = right
  IsRight-given_back_of s request false None e right = right
  IsRight-given_back_of s request false (Some rest) e right = record {
    kept = IsKept-settled names (record s { held = rest }) (IsKept-held names s rest right.kept);
    kind = Grants-settled (record s { held = rest }) (keeps.takes s.held rest request right.kind.fine e) right.kind.asks
        (λ refuses. right.kind.refused (sym (less-refusing s.held rest request e) ∙ refuses));
  }

  -- the same of every request
  pub IsRight-given_back : (s : Object) (request : Request)
      → IsRight (Grants IsFine empty) names s → IsRight (Grants IsFine empty) names (given_back s request).state
  IsRight-given_back s request right = IsRight-given_back_of s request (is_for_nothing request) (less s.held request) refl right

  -- what is granted at once
  pub IsRight-added : (s : Object) (request : Request) → is_granted_at_once s request ≡ true
      → IsRight (Grants IsFine empty) names s → IsRight (Grants IsFine empty) names (record s { held = plus s.held request })
  IsRight-added s request e right =
      let parts = and_parts (is_nobody s.line) (fits s.held request) e in
      let nobody : s.line ≡ [] = is_nobody-empty s.line parts.0 in
      record {
        kept = IsKept-held names s (plus s.held request) right.kept;
        kind = record {
          fine = keeps.adds s.held request right.kind.fine parts.1;
          front = ap (fitting_front (plus s.held request)) nobody;
          asks = right.kind.asks;
          refused = λ _. nobody;
        };
      }

  -- a try
  pub IsRight-tried : (s : Object) (request : Request)
      → IsRight (Grants IsFine empty) names s → IsRight (Grants IsFine empty) names (tried s request).state
  IsRight-tried s request right = elim (cases_Bool (is_granted_at_once s request)) [
    | inl e ↦ rw e (IsRight-added s request e right)
    | inr e ↦ rw e right
  ]

  -- a registration that is granted at once
  pub IsRightAnswer-granted : (s : Object) (request : Request) (answer : After ℕ) → granted_at_once s request ≡ Some answer
      → IsRight (Grants IsFine empty) names s → IsRightAnswer (Grants IsFine empty) names s answer
  IsRightAnswer-granted s request answer e right =
      let parts = cond_some (is_granted_at_once s request) (record { state = record s { held = plus s.held request }; reply = granted_value }) answer e in
      rw (← parts.1) (record { right = IsRight-added s request parts.0 right; still = λ name before. before })

  -- a registration that is answered at once
  pub IsRightAnswer-answered : (s : Object) (held : Held) (request : Request) (answer : After ℕ) → IsFine held
      → answer_in s held request ≡ Some answer
      → IsRight (Grants IsFine empty) names s → IsRightAnswer (Grants IsFine empty) names s answer
  IsRightAnswer-answered s (OfSemaphore bound out) request answer fine e right = IsRightAnswer-granted s request answer e right
  IsRightAnswer-answered s (OfShutSemaphore bound out) request answer fine e right =
      let same : ◌≡◌ {A = After ℕ} (record { state = s; reply = closed_value }) answer = cc in
      rw (← same) (record { right = right; still = λ name before. before })
  IsRightAnswer-answered s (OfLock Free) request answer fine e right = IsRightAnswer-granted s request answer e right
  IsRightAnswer-answered s (OfLock Exclusive) request answer fine e right = IsRightAnswer-granted s request answer e right
  IsRightAnswer-answered s (OfLock (Shared n)) request answer fine e right = IsRightAnswer-granted s request answer e right
  IsRightAnswer-answered s (OfLock Poisoned) request answer fine e right =
      let same : ◌≡◌ {A = After ℕ} (record { state = s; reply = poisoned_value }) answer = cc in
      rw (← same) (record { right = right; still = λ name before. before })
  IsRightAnswer-answered s (OfGate gate) request answer fine e right = absurd (keeps.no_gate gate fine)
  IsRightAnswer-answered s (OfBarrier size arrived round) request answer fine e right = absurd (keeps.no_barrier size arrived round fine)

  -- a name that joins the line, which isn't granted at once and isn't refused
  pub Grants-joined : (s : Object) (name : ℕ) (request : Request) → granted_at_once s request ≡ None → refuses_all s.held ≡ false
      → fits empty request ≡ true → Grants IsFine empty s.held s.line → Grants IsFine empty s.held (s.line ++ (name, request) ∷ [])
  Grants-joined s name request e grants_some fit grants = record {
    fine = grants.fine;
    front = fitting_front-joined s.held s.line (name, request) grants.front (cond_none (is_granted_at_once s request) _ e);
    asks = AllFit-joined empty s.line (name, request) fit grants.asks;
    refused = λ refuses. let both : ◌≡◌ {A = Bool} false true = sym grants_some ∙ refuses in cc;
  }

  -- a name that joins the line, as nothing was answered at once
  pub Grants-waits : (s : Object) (held : Held) (name : ℕ) (request : Request) → s.held ≡ held → IsFine held
      → answer_in s held request ≡ None → fits empty request ≡ true
      → Grants IsFine empty s.held s.line → Grants IsFine empty s.held (s.line ++ (name, request) ∷ [])
  Grants-waits s (OfSemaphore bound out) name request is fine e fit grants = Grants-joined s name request e (ap refuses_all is) fit grants
  Grants-waits s (OfLock Free) name request is fine e fit grants = Grants-joined s name request e (ap refuses_all is) fit grants
  Grants-waits s (OfLock Exclusive) name request is fine e fit grants = Grants-joined s name request e (ap refuses_all is) fit grants
  Grants-waits s (OfLock (Shared n)) name request is fine e fit grants = Grants-joined s name request e (ap refuses_all is) fit grants
  Grants-waits s (OfShutSemaphore bound out) name request is fine e fit grants = cc
  Grants-waits s (OfLock Poisoned) name request is fine e fit grants = cc
  Grants-waits s (OfGate gate) name request is fine e fit grants = absurd (keeps.no_gate gate fine)
  Grants-waits s (OfBarrier size arrived round) name request is fine e fit grants = absurd (keeps.no_barrier size arrived round fine)

  -- settling once a name has left
  pub IsRight-leaves : (s : Object) (name : ℕ) → IsRight (Grants IsFine empty) names s
      → IsKept names (record (with_entry s name Idle) { line = without name s.line })
      → IsRight (Grants IsFine empty) names (settled (record (with_entry s name Idle) { line = without name s.line }))
  IsRight-leaves s name right kept = record {
    kept = IsKept-settled names (record (with_entry s name Idle) { line = without name s.line }) kept;
    kind = Grants-settled (record (with_entry s name Idle) { line = without name s.line }) right.kind.fine
        (AllFit-without empty name s.line right.kind.asks)
        (λ refuses. ap (without name) (right.kind.refused refuses));
  }

  -- a name that waited has left
  pub IsRight-left_of : (s : Object) (held : Held) (name : ℕ) → IsFine held → IsRight (Grants IsFine empty) names s
      → IsKept names (record (with_entry s name Idle) { line = without name s.line })
      → IsRight (Grants IsFine empty) names (left_of (record (with_entry s name Idle) { line = without name s.line }) held)
  IsRight-left_of s (OfSemaphore bound out) name fine right kept = IsRight-leaves s name right kept
  IsRight-left_of s (OfShutSemaphore bound out) name fine right kept = IsRight-leaves s name right kept
  IsRight-left_of s (OfLock lock) name fine right kept = IsRight-leaves s name right kept
  IsRight-left_of s (OfGate gate) name fine right kept = absurd (keeps.no_gate gate fine)
  IsRight-left_of s (OfBarrier size arrived round) name fine right kept = absurd (keeps.no_barrier size arrived round fine)

  -- and one that has left quietly
  pub IsRight-quietly_left_of : (s : Object) (held : Held) (name : ℕ) → IsFine held → IsRight (Grants IsFine empty) names s
      → IsKept names (record (with_entry s name Idle) { line = without name s.line })
      → IsRight (Grants IsFine empty) names (quietly_left_of (record (with_entry s name Idle) { line = without name s.line }) held)
  IsRight-quietly_left_of s held name fine right kept =
      rw (quiet-left (record (with_entry s name Idle) { line = without name s.line }) held (λ gate is. keeps.no_gate gate (subst IsFine is fine)))
      (IsRight-left_of s held name fine right kept)

  -- what was granted is given back with a dropped answer
  pub IsRight-undone_of : (s : Object) (held : Held) (request : Request) → IsRight (Grants IsFine empty) names s
      → IsRight (Grants IsFine empty) names (undone_of s held request)
  IsRight-undone_of s (OfSemaphore bound out) request right = IsRight-given_back s request right
  IsRight-undone_of s (OfShutSemaphore bound out) request right = IsRight-given_back s request right
  IsRight-undone_of s (OfLock lock) request right = IsRight-given_back s request right
  IsRight-undone_of s (OfGate gate) request right = right
  IsRight-undone_of s (OfBarrier size arrived round) request right = right

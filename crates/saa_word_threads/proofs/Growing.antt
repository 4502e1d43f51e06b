-- Histories that grow by the events of one place, and what each place has seen of them.
use Rattle.std.proofs.Common.{◌≡◌, ℕ, Bool, true, false, not, ◌&&◌, ◌||◌, ◌==◌, if◌then◌else◌, List, [], ◌∷◌, ◌++◌, Option, Some, None, refl, sym, ap, subst, ◌∙◌, inl, inr, append-nil, append_assoc}
use Rattle.std.proofs.lemmas.Bool.{cases_Bool}
use Rattle.saa_core_spec.proofs.Counts.{number_same}
use Rattle.saa_word_steps.specs.declared.event.Event.{Event}
use Rattle.saa_word_steps.specs.declared.event.Event.TheVariants.{AskedPoisoned, Cleared, Closed, Acquired, Granted, NotCleared, NotPoisoned, Poisoned, Refused, Showed}
use Rattle.saa_word_steps.specs.declared.place.ReleaseAmount.{ReleaseAmount}
use Rattle.saa_word_steps.specs.declared.place.ReleaseAmount.TheVariants.{AllButAShare, Requested}
use Rattle.saa_word_steps.specs.declared.place.Stage.{Stage}
use Rattle.saa_word_steps.specs.declared.place.Stage.TheVariants.{AcquireExchange, AcquireLoad, Clear, DropTail, Join, PoisonExchange, PoisonLoad, ReadLoad, ReleaseExchange, ReleaseLoad, Take, Unlink}
use Rattle.saa_word_steps.specs.Needs.{Needs, forgets, may_refuse}
use Rattle.saa_word_steps.specs.AbstractState.{AbstractState, IsRun, after_event}
use Rattle.saa_word_proofs.specs.History.{has_part, is_named, is_waiters, named, never_waits, of_place, part_of, seen_by}
use Rattle.saa_core_words.specs.declared.word.Word.{Word}
use Rattle.saa_core_words.specs.Words.{count_bits, word_number, word_of}
use Rattle.saa_word_steps.specs.Readings.{poisoned_word}
use Rattle.saa_word_proofs.specs.Refinement.{IsVisiting, waits_behind}
use Rattle.saa_word_proofs.specs.StepRefinement.{decided_events, gave, gave_not, given_events, left_events, named_at, poisoning_events}
use Rattle.saa_word_threads.specs.declared.table.View.{View}
use Rattle.saa_word_threads.specs.Moves.{Extends}

-- A history behind another one

pub part-append : (place : ℕ) (front rest : List (ℕ × Event)) → part_of place (front ++ rest) ≡ part_of place front ++ part_of place rest
part-append place [] rest = refl
part-append place (entry ∷ front) rest =
    elim (cases_Bool (entry.0 == place)) [
      | inl mine ↦ rw mine (ap (λ (l : List Event). entry.1 ∷ l) (part-append place front rest))
      | inr another ↦ rw another (part-append place front rest)
    ]

or-false : (test : Bool) → test || false ≡ test
or-false true = refl
or-false false = refl

or-true : (test : Bool) → test || true ≡ true
or-true true = refl
or-true false = refl

or-swapped : (one other more : Bool) → one || (other || more) ≡ (one || other) || more
or-swapped true other more = refl
or-swapped false other more = refl

pub has-append : (place : ℕ) (front rest : List (ℕ × Event)) → has_part place (front ++ rest) ≡ has_part place front || has_part place rest
has-append place [] rest = refl
has-append place (entry ∷ front) rest =
    ap (λ (b : Bool). (entry.0 == place) || b) (has-append place front rest)
    ∙ or-swapped (entry.0 == place) (has_part place front) (has_part place rest)

pub none-seen : (place : ℕ) (history : List (ℕ × Event)) → has_part place history ≡ false → seen_by place history ≡ []
none-seen place [] none = refl
none-seen place (entry ∷ rest) none = rw none refl

pub neither : (one other : Bool) → one || other ≡ false → (one ≡ false) × (other ≡ false)
neither true other is = absurd (cc)
neither false other is = (refl, is)

pub part-none : (place : ℕ) (history : List (ℕ × Event)) → has_part place history ≡ false → part_of place history ≡ []
part-none place [] none = refl
part-none place (entry ∷ rest) none =
    let both = neither (entry.0 == place) (has_part place rest) none in rw both.0 (part-none place rest both.1)

-- what a place has seen goes to its last event, whatever stands before that
pub seen-append : (place : ℕ) (front rest : List (ℕ × Event)) → has_part place rest ≡ true → seen_by place (front ++ rest) ≡ front ++ seen_by place rest
seen-append place [] rest some = refl
seen-append place (entry ∷ front) rest some =
    let behind : has_part place (front ++ rest) ≡ true =
    has-append place front rest ∙ ap (λ (b : Bool). has_part place front || b) some ∙ or-true (has_part place front) in
    let test : has_part place (entry ∷ (front ++ rest)) ≡ true = ap (λ (b : Bool). (entry.0 == place) || b) behind ∙ or-true (entry.0 == place) in
    rw test (ap (λ (l : List (ℕ × Event)). entry ∷ l) (seen-append place front rest some))

-- events of others behind it are none that it has seen
pub seen-apart : (place : ℕ) (front rest : List (ℕ × Event)) → has_part place rest ≡ false → seen_by place (front ++ rest) ≡ seen_by place front
seen-apart place [] rest none = none-seen place rest none
seen-apart place (entry ∷ front) rest none =
    let behind : has_part place (front ++ rest) ≡ has_part place front =
    has-append place front rest ∙ ap (λ (b : Bool). has_part place front || b) none ∙ or-false (has_part place front) in
    let test : has_part place (entry ∷ (front ++ rest)) ≡ has_part place (entry ∷ front) = ap (λ (b : Bool). (entry.0 == place) || b) behind in
    elim (cases_Bool (has_part place (entry ∷ front))) [
      | inl some ↦
          let also : has_part place (entry ∷ (front ++ rest)) ≡ true = test ∙ some in
          rw (also, some) (ap (λ (l : List (ℕ × Event)). entry ∷ l) (seen-apart place front rest none))
      | inr not ↦ let also : has_part place (entry ∷ (front ++ rest)) ≡ false = test ∙ not in rw (also, not) refl
    ]

-- The events of one place

pub part-own : (place : ℕ) (events : List Event) → part_of place (of_place place events) ≡ events
part-own place [] = refl
part-own place (event ∷ rest) = rw (number_same place) (ap (λ (l : List Event). event ∷ l) (part-own place rest))

pub has-other : (place other : ℕ) (events : List Event) → other == place ≡ false → has_part place (of_place other events) ≡ false
has-other place other [] apart = refl
has-other place other (event ∷ rest) apart = rw apart (has-other place other rest apart)

pub seen-own : (place : ℕ) (events : List Event) → seen_by place (of_place place events) ≡ of_place place events
seen-own place [] = refl
seen-own place (event ∷ rest) = rw (number_same place) (ap (λ (l : List (ℕ × Event)). (place, event) ∷ l) (seen-own place rest))

-- a history goes on behind what a place has seen of it, with events of others
pub seen-rest : (place : ℕ) (history : List (ℕ × Event))
    → (rest : List (ℕ × Event)) × (history ≡ seen_by place history ++ rest) × (has_part place rest ≡ false)
seen-rest place [] = ([], refl, refl)
seen-rest place (entry ∷ history) =
    elim (cases_Bool (has_part place (entry ∷ history))) [
      | inl some ↦
          rw some (let more = seen-rest place history in (more.0, ap (λ (l : List (ℕ × Event)). entry ∷ l) more.1, more.2))
      | inr none ↦ rw none (entry ∷ history, refl, none)
    ]

-- What a place has seen once it has these events more: what it had seen, events of others, and these
pub record IsSeenOn (place : ℕ) (history : List (ℕ × Event)) (events : List Event) : Type 0 where
  pub more : List (ℕ × Event)
  pub seen : seen_by place (history ++ of_place place events) ≡ seen_by place history ++ more
  pub own : part_of place more ≡ events
  pub latest : seen_by place more ≡ more

pub seen-on : (place : ℕ) (history : List (ℕ × Event)) (events : List Event) → IsSeenOn place history events
seen-on place history [] = record {
  more = [];
  seen = seen-apart place history [] refl ∙ sym (append-nil (seen_by place history));
  own = refl;
  latest = refl;
}
seen-on place history (event ∷ events) =
    let tail = seen-rest place history in
    let own : List (ℕ × Event) = of_place place (event ∷ events) in
    let some : has_part place own ≡ true = rw (number_same place) refl in
    record {
      more = tail.0 ++ own;
      seen =
          seen-append place history own some ∙ ap (λ (l : List (ℕ × Event)). history ++ l) (seen-own place (event ∷ events))
          ∙ ap (λ (l : List (ℕ × Event)). l ++ own) tail.1 ∙ append_assoc (seen_by place history) tail.0 own;
      own =
          part-append place tail.0 own ∙ ap (λ (l : List Event). l ++ part_of place own) (part-none place tail.0 tail.2)
          ∙ part-own place (event ∷ events);
      latest = seen-append place tail.0 own some ∙ ap (λ (l : List (ℕ × Event)). tail.0 ++ l) (seen-own place (event ∷ events));
    }

-- Runs

pub run-append : (needs : Needs) (state middle last : AbstractState) (front rest : List (ℕ × Event)) → IsRun needs state front middle
    → IsRun needs middle rest last → IsRun needs state (front ++ rest) last
run-append needs state middle last [] rest one other = subst (λ (z : AbstractState). IsRun needs z rest last) (sym one) other
run-append needs state middle last (event ∷ front) rest one other =
    (one.0, run-append needs (after_event needs state event.0 event.1) middle last front rest one.1 other)

-- what a place has seen has all events of its part
pub seen-part : (place : ℕ) (history : List (ℕ × Event)) → part_of place (seen_by place history) ≡ part_of place history
seen-part place history =
    let tail = seen-rest place history in
    sym (ap (part_of place) tail.1 ∙ part-append place (seen_by place history) tail.0
    ∙ ap (λ (l : List Event). part_of place (seen_by place history) ++ l) (part-none place tail.0 tail.2)
    ∙ append-nil (part_of place (seen_by place history)))

-- Views that grow

pub named-append : (front rest : List Event) → named (front ++ rest) ≡ named front ++ named rest
named-append [] rest = refl
named-append (event ∷ front) rest =
    elim (cases_Bool (is_named event)) [
      | inl is ↦ rw is (ap (λ (l : List Event). event ∷ l) (named-append front rest))
      | inr not ↦ rw not (named-append front rest)
    ]

-- a view is its own beginning
pub extends-none : (v : View) → Extends v [] v
extends-none v = record {
  role = refl;
  number = refl;
  part = sym (append-nil v.part);
  more = [];
  seen = sym (append-nil v.seen);
  own = refl;
  latest = refl;
}

latest-append : (place : ℕ) (front rest : List (ℕ × Event)) → seen_by place front ≡ front → seen_by place rest ≡ rest
    → seen_by place (front ++ rest) ≡ front ++ rest
latest-append place front rest one other =
    elim (cases_Bool (has_part place rest)) [
      | inl some ↦ seen-append place front rest some ∙ ap (λ (l : List (ℕ × Event)). front ++ l) other
      | inr none ↦
          let nothing : rest ≡ [] = sym other ∙ none-seen place rest none in
          seen-apart place front rest none ∙ one ∙ sym (append-nil front) ∙ ap (λ (l : List (ℕ × Event)). front ++ l) (sym nothing)
    ]

-- two growths are one
pub extends-append : (u v w : View) (front rest : List Event) → Extends u front v → Extends v rest w → Extends u (front ++ rest) w
extends-append u v w front rest one other = record {
  role = other.role ∙ one.role;
  number = other.number ∙ one.number;
  part = other.part ∙ ap (λ (l : List Event). l ++ rest) one.part ∙ append_assoc u.part front rest;
  more = one.more ++ other.more;
  seen = other.seen ∙ ap (λ (l : List (ℕ × Event)). l ++ other.more) one.seen ∙ append_assoc u.seen one.more other.more;
  own =
      part-append u.number one.more other.more ∙ ap (λ (l : List Event). l ++ part_of u.number other.more) one.own
      ∙ ap (λ (l : List Event). front ++ l) (subst (λ n. part_of n other.more ≡ rest) one.number other.own);
  latest = latest-append u.number one.more other.more one.latest (subst (λ n. seen_by n other.more ≡ other.more) one.number other.latest);
}

-- Waiters' events

and-assoc : (one other more : Bool) → one && (other && more) ≡ (one && other) && more
and-assoc true other more = refl
and-assoc false other more = refl

pub never-append : (front rest : List Event) → never_waits (front ++ rest) ≡ never_waits front && never_waits rest
never-append [] rest = refl
never-append (event ∷ front) rest =
    ap (λ (b : Bool). not (is_waiters event) && b) (never-append front rest)
    ∙ and-assoc (not (is_waiters event)) (never_waits front) (never_waits rest)

-- an event that no answer names is no waiter's
unnamed-never : (event : Event) → is_named event ≡ false → is_waiters event ≡ false
unnamed-never (Granted askers) none = refl
unnamed-never Closed none = refl
unnamed-never (Showed place) none = refl
unnamed-never event none = absurd (cc)

never-named : (events : List Event) → never_waits (named events) ≡ never_waits events
never-named [] = refl
never-named (event ∷ rest) =
    elim (cases_Bool (is_named event)) [
      | inl is ↦ rw is (ap (λ (b : Bool). not (is_waiters event) && b) (never-named rest))
      | inr none ↦ rw (none, unnamed-never event none) (never-named rest)
    ]

pub never-same : (events names : List Event) → named events ≡ names → never_waits names ≡ true → never_waits events ≡ true
never-same events names is never = sym (never-named events) ∙ ap never_waits is ∙ never

-- what holds of both holds of a choice
either-never : (test : Bool) (one other : List Event) → never_waits one ≡ true → never_waits other ≡ true → never_waits (if test then one else other) ≡ true
either-never true one other o t = o
either-never false one other o t = t

decided-never : (needs : Needs) (request : ℕ) (joins : Bool) (seen : Word) → never_waits (decided_events needs request joins seen) ≡ true
decided-never needs request joins seen =
    either-never seen.is_poisoned (AskedPoisoned ∷ [])
    (if waits_behind needs seen request then (if joins then [] else Refused request ∷ []) else (if needs.takes request == 0 then Acquired request ∷ [] else [])) refl
    (either-never (waits_behind needs seen request) (if joins then [] else Refused request ∷ []) (if needs.takes request == 0 then Acquired request ∷ [] else [])
    (either-never joins [] (Refused request ∷ []) refl refl) (either-never (needs.takes request == 0) (Acquired request ∷ []) [] refl refl))

gave-never : (what : ReleaseAmount) → never_waits (gave what ∷ []) ≡ true
gave-never (Requested request) = refl
gave-never AllButAShare = refl

gave-not-never : (what : ReleaseAmount) → never_waits (gave_not what ∷ []) ≡ true
gave-not-never (Requested request) = refl
gave-not-never AllButAShare = refl

left-never : (what : ReleaseAmount) (left : Option ℕ) → never_waits (left_events what left) ≡ true
left-never what None = gave-not-never what
left-never what (Some left) = refl

given-never : (needs : Needs) (what : ReleaseAmount) (seen : Word) → never_waits (given_events needs what seen) ≡ true
given-never needs what seen = either-never (forgets needs seen.is_poisoned) _ _ (gave-not-never what) (left-never what _)

poisoning-never : (needs : Needs) (seen : Word) → never_waits (poisoning_events needs seen) ≡ true
poisoning-never needs seen = either-never (seen.is_poisoned || not (may_refuse needs seen.count)) (NotPoisoned ∷ []) [] refl refl

-- the events that answers name of a visitor's step are no waiter's
pub visitor-names : (needs : Needs) (stage : Stage) (found : ℕ) → IsVisiting stage → never_waits (named_at needs stage found) ≡ true
visitor-names needs (ReadLoad reading) found visits = refl
visitor-names needs (AcquireLoad ask) found visits = decided-never needs ask.request ask.joins (word_of count_bits found)
visitor-names needs (AcquireExchange ask seen) found visits =
    either-never (found == word_number count_bits seen) (Acquired ask.request ∷ []) (decided_events needs ask.request ask.joins (word_of count_bits found)) refl
    (decided-never needs ask.request ask.joins (word_of count_bits found))
visitor-names needs (Join request seen) found visits = let joins = visits.0 in absurd (cc)
visitor-names needs (ReleaseLoad what) found visits = given-never needs what (word_of count_bits found)
visitor-names needs (ReleaseExchange what seen) found visits =
    either-never (found == word_number count_bits seen) (gave what ∷ []) (given_events needs what (word_of count_bits found)) (gave-never what)
    (given-never needs what (word_of count_bits found))
visitor-names needs (Take taking) found visits = let uses = visits.1 in absurd (cc)
visitor-names needs (Unlink seen newer line older) found visits = let uses = visits.1 in absurd (cc)
visitor-names needs (DropTail seen older) found visits = let uses = visits.1 in absurd (cc)
visitor-names needs PoisonLoad found visits = poisoning-never needs (word_of count_bits found)
visitor-names needs (PoisonExchange seen) found visits =
    either-never (found == word_number count_bits seen) (Poisoned ∷ []) (poisoning_events needs (word_of count_bits found)) refl
    (poisoning-never needs (word_of count_bits found))
visitor-names needs Clear found visits = either-never (found == word_number count_bits poisoned_word) (Cleared ∷ []) (NotCleared ∷ []) refl refl
visitor-names needs stage found visits = refl

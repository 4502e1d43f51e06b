-- The barrier: what an arrival is answered, what its calls do, and what happens when a waiter leaves.
use Rattle.std.proofs.Common.{◌≡◌, ◌≢◌, ℕ, ◌+◌, ◌-◌, ◌==◌, Bool, true, false, List, length, min, nat_lt, Some, None, Ok, refl, sym, ap, ◌∙◌, cond, arith, inl, inr}
use Rattle.std.proofs.lemmas.Bool.{cases_Bool}
use Rattle.std.proofs.lemmas.Bool.Decides.{nat_tests}
use Rattle.saa_core_spec.specs.declared.request.Request.TheVariants.{Arrive}
use Rattle.saa_core_spec.specs.Held.{OfBarrier, max_rounds, max_tasks}
use Rattle.saa_core_spec.specs.Object.{Object}
use Rattle.saa_core_spec.specs.Asking.{registered, answer_at_once}
use Rattle.saa_core_spec.specs.Settling.{round_complete}
use Rattle.saa_core_spec.specs.Values.{leader_value, passed_value}
use Rattle.saa_core_spec.specs.declared.barrier.BarrierCall.TheVariants.{Count, Arrive as DoArrive, Join, Leave as LeaveOne, Round}
use Rattle.saa_core_spec.specs.declared.barrier.BarrierAnswer.TheVariants.{Count as SaysCount, Bool as SaysBool, Round as SaysRound}
use Rattle.saa_core_spec.specs.Barrier.{size_of, arrived_of, round_of, is_complete, resized, barrier_step}
use Rattle.saa_core_spec.proofs.Counts.{number_same, number_other}
use Rattle.saa_core.specs.Slots.{Slots, IsSound}
use Rattle.saa_core.specs.declared.ticket.Registration.{Registration}
use Rattle.saa_core.specs.declared.ticket.Registration.TheVariants.{Unregistered, AtOnce}
use Rattle.saa_core.specs.Tickets.{Core, StepsWithTicket, Calls, Belong, object_of, named}
use Rattle.saa_core.specs.BarrierParts.{core_complete, core_resized}
use Rattle.saa_core.proofs.TicketLemmas.Naming.{length-named}
use Rattle.saa_core.proofs.TicketLemmas.Polls.{after}
use Rattle.saa_core.proofs.GatheringLemmas.Gathering.{Gathers, register_answered}
use Rattle.saa_core.proofs.TicketLemmas.Answering.{all-object, all-belong}

-- a barrier's core
abbrev pub barrier_core : (size arrived round : ℕ) → Slots → Core
barrier_core size arrived round slots = record { held = OfBarrier size arrived round; slots = slots }

-- whether an arrival is the last of its round doesn't depend on names
last-named : (size arrived : ℕ) (slots : Slots) (ts : List Registration)
    → (arrived + length (named ts slots.line) + 1 == size) ≡ (arrived + length slots.line + 1 == size)
last-named size arrived slots ts = ap (λ n. arrived + n + 1 == size) (length-named ts slots.line)

-- the last arrival of a round lets all waiters pass, and is the leader
pub arrive_last : (size arrived round : ℕ) (slots : Slots) (m : Bool) → IsSound slots → arrived + length slots.line + 1 ≡ size
    → StepsWithTicket (barrier_core size arrived round slots) (core_complete slots size round)
    Unregistered (AtOnce leader_value Arrive m) (λ s name. registered s name Arrive m) (Ok true)
arrive_last size arrived round slots m sound last =
    let c : Core = barrier_core size arrived round slots in
    let new : Core = core_complete slots size round in
    register_answered c new leader_value Arrive m refl
    (λ ts b.
    let passes : (arrived + length (named ts slots.line) + 1 == size) ≡ true = last-named size arrived slots ts ∙ ap (λ n. n == size) last ∙ number_same size in
    ap (λ b. cond b (Some (after leader_value (round_complete passed_value (object_of c ts) size round))) None) passes
    ∙ ap (λ (s : Object). Some (after leader_value s)) (all-object (OfBarrier size 0 (min (round + 1) max_rounds)) passed_value slots ts sound b))
    (λ ts b. all-belong passed_value slots ts sound b)

-- every other arrival has no answer at once
pub arrive_waits : (size arrived round : ℕ) (slots : Slots) → arrived + length slots.line + 1 ≢ size
    → (ts : List Registration) → answer_at_once (object_of (barrier_core size arrived round slots) ts) Arrive ≡ None
arrive_waits size arrived round slots more ts =
    let c : Core = barrier_core size arrived round slots in
    let waits : (arrived + length (named ts slots.line) + 1 == size) ≡ false = last-named size arrived slots ts ∙ number_other (arrived + length slots.line + 1) size more in
    ap (λ b. cond b (Some (after leader_value (round_complete passed_value (object_of c ts) size round))) None) waits

-- nothing happens to the others when a waiter leaves
pub forgets : (size arrived round : ℕ) → Gathers (OfBarrier size arrived round) (λ s. s)
forgets size arrived round = record { undone = λ s r. refl; left = λ slots ts sound b. refl; belong = λ slots ts sound b. b }

-- the last arrival of a round completes it
pub complete-last : (size arrived waiting : ℕ) → arrived + waiting + 1 ≡ size → is_complete size (arrived + 1 + waiting) ≡ true
complete-last size arrived waiting last = grind (arith, nat_tests)

pub resized-last : (size arrived round : ℕ) (slots : Slots) → arrived + length slots.line + 1 ≡ size
    → core_resized slots size (arrived + 1) round ≡ core_complete slots size round
resized-last size arrived round slots last = rw (complete-last size arrived (length slots.line) last) refl

-- a barrier of another size, as the object
pub resized-object : (c : Core) (size arrived round : ℕ) (ts : List Registration) → IsSound c.slots → Belong c.slots ts
    → resized (object_of c ts) size arrived round ≡ object_of (core_resized c.slots size arrived round) ts
resized-object c size arrived round ts sound b =
    let same : is_complete size (arrived + length (named ts c.slots.line)) ≡ is_complete size (arrived + length c.slots.line) =
    ap (λ n. is_complete size (arrived + n)) (length-named ts c.slots.line) in
    elim (cases_Bool (is_complete size (arrived + length c.slots.line))) [
      | inl e ↦ rw (same, e) (all-object (OfBarrier size 0 (min (round + 1) max_rounds)) passed_value c.slots ts sound b)
      | inr e ↦ rw (same, e) refl
    ]

-- and the tickets belong to it still
pub resized-belong : (slots : Slots) (size arrived round : ℕ) (ts : List Registration) → IsSound slots → Belong slots ts
    → Belong (core_resized slots size arrived round).slots ts
resized-belong slots size arrived round ts sound b = elim (cases_Bool (is_complete size (arrived + length slots.line))) [
  | inl e ↦ rw e (all-belong passed_value slots ts sound b)
  | inr e ↦ rw e b
]

-- whether a round is complete doesn't depend on names
complete-named : (size arrived : ℕ) (slots : Slots) (ts : List Registration)
    → is_complete size (arrived + length (named ts slots.line)) ≡ is_complete size (arrived + length slots.line)
complete-named size arrived slots ts = ap (λ n. is_complete size (arrived + n)) (length-named ts slots.line)

-- an arrival that doesn't wait
pub arrive_calls : (size arrived round : ℕ) (slots : Slots) → IsSound slots → nat_lt 0 size ≡ true
    → Calls (barrier_core size arrived round slots) (core_resized slots size (arrived + 1) round) (barrier_step DoArrive)
    (SaysBool (is_complete size (arrived + 1 + length slots.line)))
arrive_calls size arrived round slots sound some = record {
  calls = λ ts b.
      let c : Core = barrier_core size arrived round slots in (
        rw (some, resized-object c size (arrived + 1) round ts sound b, complete-named size (arrived + 1) slots ts) refl,
        resized-belong slots size (arrived + 1) round ts sound b,
      );
}

-- one task more
pub join_calls : (size arrived round : ℕ) (slots : Slots) → IsSound slots → nat_lt size max_tasks ≡ true
    → Calls (barrier_core size arrived round slots) (core_resized slots (size + 1) arrived round) (barrier_step Join) (SaysBool true)
join_calls size arrived round slots sound some = record {
  calls = λ ts b.
      let c : Core = barrier_core size arrived round slots in (
        rw (some, resized-object c (size + 1) arrived round ts sound b) refl,
        resized-belong slots (size + 1) arrived round ts sound b,
      );
}

-- one task less
pub leave_calls : (size arrived round : ℕ) (slots : Slots) → IsSound slots → nat_lt 0 size ≡ true
    → Calls (barrier_core size arrived round slots) (core_resized slots (size - 1) arrived round) (barrier_step LeaveOne)
    (SaysBool (is_complete (size - 1) (arrived + length slots.line)))
leave_calls size arrived round slots sound some = record {
  calls = λ ts b.
      let c : Core = barrier_core size arrived round slots in (
        rw (some, resized-object c (size - 1) arrived round ts sound b, complete-named (size - 1) arrived slots ts) refl,
        resized-belong slots (size - 1) arrived round ts sound b,
      );
}

-- a call that changes nothing: an arrival or a leave at size 0, and a join at the greatest size
pub refused_arrive : (size arrived round : ℕ) (slots : Slots) → nat_lt 0 size ≡ false
    → Calls (barrier_core size arrived round slots) (barrier_core size arrived round slots) (barrier_step DoArrive) (SaysBool false)
refused_arrive size arrived round slots none = record { calls = λ ts b. (rw none refl, b) }

pub refused_join : (size arrived round : ℕ) (slots : Slots) → nat_lt size max_tasks ≡ false
    → Calls (barrier_core size arrived round slots) (barrier_core size arrived round slots) (barrier_step Join) (SaysBool false)
refused_join size arrived round slots none = record { calls = λ ts b. (rw none refl, b) }

pub refused_leave : (size arrived round : ℕ) (slots : Slots) → nat_lt 0 size ≡ false
    → Calls (barrier_core size arrived round slots) (barrier_core size arrived round slots) (barrier_step LeaveOne) (SaysBool false)
refused_leave size arrived round slots none = record { calls = λ ts b. (rw none refl, b) }

-- how many arrivals the round still waits for
pub count_calls : (c : Core) (n : ℕ) → n ≡ size_of c.held - (arrived_of c.held + length c.slots.line) → Calls c c (barrier_step Count) (SaysCount n)
count_calls c n is = record {
  calls = λ ts b. (
    ap (λ n. after (SaysCount n) (object_of c ts)) (ap (λ n. size_of c.held - (arrived_of c.held + n)) (length-named ts c.slots.line) ∙ sym is),
    b,
  );
}

-- how many rounds are complete
pub round_calls : (c : Core) (n : ℕ) → n ≡ round_of c.held → Calls c c (barrier_step Round) (SaysRound n)
round_calls c n is = record { calls = λ ts b. (ap (λ n. after (SaysRound n) (object_of c ts)) (sym is), b) }

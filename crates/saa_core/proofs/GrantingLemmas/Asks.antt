-- Asking, releasing and dropping of a core that grants what fits, case by case, seen as steps of the object.
use Rattle.std.proofs.Common.{◌≡◌, ℕ, ◌-◌, ◌<◌, Bool, true, false, ◌&&◌, cond, ◌==◌, List, [], ◌∷◌, take, drop, Option, Some, None, is_some, Ok, Err, slice_set, nat_lt, refl, sym, ap, subst, ◌∙◌, arith, inl, inr}
use Rattle.std.proofs.lemmas.Bool.Decides.{nat_tests}
use Rattle.saa_core_spec.specs.declared.request.Request.{Request}
use Rattle.saa_core.specs.declared.ticket.Registration.{Registration}
use Rattle.saa_core.specs.declared.ticket.Registration.TheVariants.{Unregistered, AtOnce, InSlot}
use Rattle.saa_core_spec.specs.Held.{Held, OfSemaphore, OfShutSemaphore, OfLock, OfGate, OfBarrier, LockState, Free, Exclusive, Shared, Poisoned, fits, plus, less, asks_too_much}
use Rattle.saa_core_spec.specs.Object.{Object, After, Idle, Waiting, Answered, Waiter, with_entry, used, is_nobody, times, one_if}
use Rattle.saa_core_spec.specs.Settling.{fitting_front, plus_all, answered_in, granted, settled}
use Rattle.saa_core_spec.specs.Asking.{registered, granted_at_once, answer_at_once, answer_in as answer_of_kind, is_granted_at_once}
use Rattle.saa_core_spec.specs.Lock.{is_locked, downgraded_of, poisoned_of}
use Rattle.saa_core_spec.specs.Values.{closed_value, poisoned_value}
use Rattle.saa_core_spec.specs.Semaphore.{shut_of}
use Rattle.saa_core.proofs.TicketLemmas.Answering.{all_calls}
use Rattle.saa_core_spec.specs.Polling.{given_back, given_back_of, is_for_nothing, left_of, undone_of}
use Rattle.saa_core.specs.Slots.{Slots, answer_in, held_slots, held_times, room_of, IsSound, all_slots_answered}
use Rattle.saa_core.specs.Tickets.{Core, StepsWithTicket, Calls, Belong, object_of, slot_entry, slotted_count, named, entries, dropping}
use Rattle.saa_core.specs.CoreParts.{core_granted, core_settled, core_given, core_given_of, core_undone, core_vacated, core_vacated_by, takes_now, IsGranting, answer_to_all}
use Rattle.saa_core.proofs.TicketLemmas.Naming.{entry-at}
use Rattle.saa_core.proofs.TicketLemmas.Steps.{own-object, own-belong, slots_joined, join-object, join-belong, slots_taken, take-object, take-belong, slots_left, leave-object, leave-belong, used-object, front-object, front-belong}
use Rattle.saa_core.proofs.TicketLemmas.Polls.{after, acts_unchanged}
use Rattle.saa_core_spec.proofs.Counts.{bool_cases, number_same}
use Rattle.saa_core.proofs.TicketLemmas.Registering.{registered-by, idle_asks, apart_number, dropped-by, cancel_foreign, taken-sound, left-sound}
use Rattle.saa_core.proofs.TicketLemmas.Naming.{named-take, plus_all-named, fitting_front-named}

-- Settling of a core

-- granting k of a core is granting k of the object
pub granted-object : (k : ℕ) (c : Core) (ts : List Registration) → IsSound c.slots → Belong c.slots ts → granted k (object_of c ts) ≡ object_of (core_granted k c) ts
granted-object k c ts sound b =
    let held : plus_all c.held (take k (named ts c.slots.line)) ≡ plus_all c.held (take k c.slots.line) = ap (plus_all c.held) (sym (named-take ts k c.slots.line)) ∙ plus_all-named ts c.held (take k c.slots.line) in
    ap (λ h. record { held = h; line = drop k (named ts c.slots.line); book = answered_in 0 (take k (named ts c.slots.line)) (entries c.slots.answers ts); outside = held_slots c.slots - slotted_count ts; room = room_of c.slots }) held
    ∙ sym (front-object (plus_all c.held (take k c.slots.line)) 0 k c.slots ts sound b)

-- settling a core is settling the object
pub settled-object : (c : Core) (ts : List Registration) → IsSound c.slots → Belong c.slots ts → settled (object_of c ts) ≡ object_of (core_settled c) ts
unfolding settled core_settled
settled-object c ts sound b =
    ap (λ k. granted k (object_of c ts)) (fitting_front-named ts c.held c.slots.line)
    ∙ granted-object (fitting_front c.held c.slots.line) c ts sound b

pub settled-belong : (c : Core) (ts : List Registration) → IsSound c.slots → Belong c.slots ts → Belong (core_settled c).slots ts
unfolding core_settled
settled-belong c ts sound b = front-belong 0 (fitting_front c.held c.slots.line) c.slots ts sound b

-- a core that is settled is an object that is
pub IsCoreSettled-object : (c : Core) (ts : List Registration) → fitting_front c.held c.slots.line ≡ 0 → fitting_front c.held (named ts c.slots.line) ≡ 0
IsCoreSettled-object c ts none = fitting_front-named ts c.held c.slots.line ∙ none

-- Asking

-- nobody waits in the object where nobody waits in the core
pub is_nobody-named : (ts : List Registration) (line : List Waiter) → is_nobody (named ts line) ≡ is_nobody line
is_nobody-named ts [] = refl
is_nobody-named ts (w ∷ line) = refl

-- what is granted at once by the core is by the object
pub granted_at_once-object : (c : Core) (ts : List Registration) (r : Request) → is_granted_at_once (object_of c ts) r ≡ takes_now c r
granted_at_once-object c ts r = ap (λ b. b && fits c.held r) (is_nobody-named ts c.slots.line)

-- what a registration is answered at once, where everybody is answered so, or else what fits is granted
abbrev pub answer_by : Object → Request → Option ℕ → Option (After ℕ)
answer_by s r (Some value) = Some (after value s)
answer_by s r None = granted_at_once s r

-- What is held grants what fits, gets back what was granted, and settles when a waiter leaves
pub record Grants (h : Held) : Type 0 where
  pub answers : (s : Object) (r : Request) → answer_of_kind s h r ≡ answer_by s r (answer_to_all h)
  pub left : (s : Object) → left_of s h ≡ settled s
  pub undone : (s : Object) (r : Request) → undone_of s h r ≡ (given_back s r).state

-- a lock answers so in each of its states
lock_answered : (lock : LockState) (s : Object) (r : Request) → answer_of_kind s (OfLock lock) r ≡ answer_by s r (answer_to_all (OfLock lock))
lock_answered Free s r = refl
lock_answered Exclusive s r = refl
lock_answered Poisoned s r = refl
lock_answered (Shared n) s r = refl

-- a semaphore and a lock do
pub grants : (h : Held) → IsGranting h → Grants h
grants (OfSemaphore bound out) is = record { answers = λ s r. refl; left = λ s. refl; undone = λ s r. refl }
grants (OfShutSemaphore bound out) is = record { answers = λ s r. refl; left = λ s. refl; undone = λ s r. refl }
grants (OfLock lock) is = record { answers = lock_answered lock; left = λ s. refl; undone = λ s r. refl }
grants (OfGate gate) is = absurd is
grants (OfBarrier size arrived round) is = absurd is

-- a registration that is answered as everybody is
pub register_answered : (h : Held) (slots : Slots) (v : ℕ) (r : Request) (m : Bool) → Grants h → asks_too_much h r ≡ false → answer_to_all h ≡ Some v
    → StepsWithTicket (record { held = h; slots = slots }) (record { held = h; slots = slots }) Unregistered (AtOnce v r m) (λ s name. registered s name r m) (Ok true)
register_answered h slots v r m grants fine all = record {
  acts = λ ts name here b.
      let c : Core = record { held = h; slots = slots } in
      let s : Object = object_of c ts in
      let answer : answer_at_once s r ≡ Some (after v s) = grants.answers s r ∙ ap (answer_by s r) all in (
        registered-by s name r m false _ _ (idle_asks c ts name r here fine) answer refl
            ∙ ap (after (Ok true)) (sym (own-object h slots ts name Unregistered (AtOnce v r m) here refl refl)),
        own-belong slots ts name Unregistered (AtOnce v r m) here refl refl b,
      );
}

-- a registration that is granted at once
pub register_granted : (h : Held) (slots : Slots) (r : Request) (m : Bool) → Grants h → asks_too_much h r ≡ false → answer_to_all h ≡ None → takes_now (record { held = h; slots = slots }) r ≡ true
    → StepsWithTicket (record { held = h; slots = slots }) (record { held = plus h r; slots = slots }) Unregistered (AtOnce 0 r m) (λ s name. registered s name r m) (Ok true)
register_granted h slots r m grants fine some takes = record {
  acts = λ ts name here b.
      let c : Core = record { held = h; slots = slots } in
      let s : Object = object_of c ts in
      let answer : answer_at_once s r ≡ Some (after 0 (object_of (record { held = plus h r; slots = slots }) ts)) =
      grants.answers s r ∙ ap (answer_by s r) some ∙ ap (λ b. cond b (Some (after 0 (object_of (record { held = plus h r; slots = slots }) ts))) None) (granted_at_once-object c ts r ∙ takes) in (
        registered-by s name r m false _ _ (idle_asks c ts name r here fine) answer refl
            ∙ ap (after (Ok true)) (sym (own-object (plus h r) slots ts name Unregistered (AtOnce 0 r m) here refl refl)),
        own-belong slots ts name Unregistered (AtOnce 0 r m) here refl refl b,
      );
}

-- one that isn't, has no answer at once
no_answer_at_once : (c : Core) (ts : List Registration) (r : Request) → Grants c.held → answer_to_all c.held ≡ None → takes_now c r ≡ false → answer_at_once (object_of c ts) r ≡ None
no_answer_at_once c ts r grants some waits =
    grants.answers (object_of c ts) r ∙ ap (answer_by (object_of c ts) r) some ∙ ap (λ b. cond b (Some (after 0 (record (object_of c ts) { held = plus c.held r }))) None) (granted_at_once-object c ts r ∙ waits)

-- a registration that must wait, and finds the room full
pub register_full : (c : Core) (r : Request) (m : Bool) → Grants c.held → asks_too_much c.held r ≡ false → answer_to_all c.held ≡ None → takes_now c r ≡ false → held_slots c.slots ≡ room_of c.slots
    → StepsWithTicket c c Unregistered Unregistered (λ s name. registered s name r m) (Err (record {}))
register_full c r m grants fine some waits full = acts_unchanged c Unregistered _ _ (λ ts name here b.
    registered-by (object_of c ts) name r m false None true (idle_asks c ts name r here fine) (no_answer_at_once c ts r grants some waits)
    (ap (λ n. n == room_of c.slots) (used-object c ts b ∙ full) ∙ number_same (room_of c.slots)))

-- a registration that waits
pub register_joined : (h : Held) (slots : Slots) (slot : ℕ) (r : Request) (m : Bool) → Grants h → asks_too_much h r ≡ false → answer_to_all h ≡ None → takes_now (record { held = h; slots = slots }) r ≡ false
    → (held_slots slots ≡ room_of slots → ⊥) → held_times slots slot ≡ 0
    → StepsWithTicket (record { held = h; slots = slots }) (record { held = h; slots = slots_joined slots slot r }) Unregistered (InSlot slot r m) (λ s name. registered s name r m) (Ok true)
register_joined h slots slot r m grants fine some waits room fresh = record {
  acts = λ ts name here b.
      let c : Core = record { held = h; slots = slots } in
      let s : Object = object_of c ts in
      let place : (used s == s.room) ≡ false = ap (λ n. n == room_of slots) (used-object c ts b) ∙ apart_number (held_slots slots) (room_of slots) room in (
        registered-by s name r m false None false (idle_asks c ts name r here fine) (no_answer_at_once c ts r grants some waits) place
            ∙ ap (after (Ok true)) (sym (join-object h slots ts name Unregistered slot r m here refl fresh b)),
        join-belong slots ts name Unregistered slot r m here refl b,
      );
}

-- Releasing

-- what is given back
pub given-object : (c : Core) (ts : List Registration) (r : Request) (b : Bool) (rest : Option Held) → IsSound c.slots → Belong c.slots ts
    → (given_back_of (object_of c ts) b rest).state ≡ object_of (core_given_of c b rest) ts
given-object c ts r true rest sound b = refl
given-object c ts r false None sound b = refl
given-object c ts r false (Some rest) sound b = settled-object (record c { held = rest }) ts sound b

pub given-belong : (c : Core) (ts : List Registration) (r : Request) (b : Bool) (rest : Option Held) → IsSound c.slots → Belong c.slots ts → Belong (core_given_of c b rest).slots ts
given-belong c ts r true rest sound b = b
given-belong c ts r false None sound b = b
given-belong c ts r false (Some rest) sound b = settled-belong (record c { held = rest }) ts sound b

-- the answer of a release, by what is asked and what is left
pub given_answer : Bool → Option Held → Bool
given_answer true rest = true
given_answer false (Some rest) = true
given_answer false None = false

given_reply : (s : Object) (b : Bool) (rest : Option Held) → (given_back_of s b rest).reply ≡ given_answer b rest
unfolding given_answer
given_reply s true rest = refl
given_reply s false (Some rest) = refl
given_reply s false None = refl

-- an outcome by its parts
same_after : (a : After Bool) (s : Object) (reply : Bool) → a.state ≡ s → a.reply ≡ reply → a ≡ after reply s
same_after a s reply e1 e2 = let same : after a.reply a.state ≡ after reply s = cc in same

-- what is left of a release that takes something
given_some : (rest : Held) → given_answer false (Some rest) ≡ true
unfolding given_answer
given_some rest = refl

-- a release
pub release_calls : (c : Core) (r : Request) (answer : Bool) → IsSound c.slots → given_answer (is_for_nothing r) (less c.held r) ≡ answer → Calls c (core_given c r) (λ s. given_back s r) answer
release_calls c r answer sound is = record {
  calls = λ ts b.
      let s : Object = object_of c ts in (
        same_after (given_back s r) (object_of (core_given c r) ts) answer
            (given-object c ts r (is_for_nothing r) (less c.held r) sound b)
            (given_reply s (is_for_nothing r) (less c.held r) ∙ is),
        given-belong c ts r (is_for_nothing r) (less c.held r) sound b,
      );
}

-- a release of what is held, as a step of the object
pub release_given : (h rest : Held) (slots : Slots) (r : Request) → IsSound slots → is_for_nothing r ≡ false → less h r ≡ Some rest
    → Calls (record { held = h; slots = slots }) (core_settled (record { held = rest; slots = slots })) (λ s. given_back s r) true
release_given h rest slots r sound some given =
    let c : Core = record { held = h; slots = slots } in
    let core : core_given c r ≡ core_settled (record { held = rest; slots = slots }) =
    ap (λ b. core_given_of c b (less h r)) some ∙ ap (core_given_of c false) given in
    let answer : given_answer (is_for_nothing r) (less h r) ≡ true =
    ap (λ b. given_answer b (less h r)) some ∙ ap (given_answer false) given ∙ given_some rest in
    subst (λ k. Calls c k (λ s. given_back s r) true) core (release_calls c r true sound answer)

-- Downgrading

-- the downgrade of a lock that one owner has
pub downgrade_calls : (h : Held) (slots : Slots) → IsSound slots → is_locked h ≡ true
    → Calls (record { held = h; slots = slots }) (core_settled (record { held = OfLock (Shared 1); slots = slots })) (λ s. downgraded_of s (is_locked s.held)) true
downgrade_calls h slots sound locked = record {
  calls = λ ts b.
      let c : Core = record { held = OfLock (Shared 1); slots = slots } in (
        ap (downgraded_of (object_of (record { held = h; slots = slots }) ts)) locked ∙ ap (after true) (settled-object c ts sound b),
        settled-belong c ts sound b,
      );
}

-- Poison

-- poison of a lock that one owner has
pub poison_calls : (h : Held) (slots : Slots) → IsSound slots → is_locked h ≡ true
    → Calls (record { held = h; slots = slots }) (record { held = OfLock Poisoned; slots = all_slots_answered poisoned_value slots }) (λ s. poisoned_of s (is_locked s.held)) true
poison_calls h slots sound locked = record {
  calls = λ ts b.
      let all = (all_calls h (OfLock Poisoned) poisoned_value slots (λ n. true) sound).calls ts b in
      (ap (poisoned_of (object_of (record { held = h; slots = slots }) ts)) locked ∙ all.0, all.1);
}

-- Shutting

-- a semaphore that is shut
pub shut_calls : (h : Held) (slots : Slots) (bound out : ℕ) → IsSound slots → h ≡ OfSemaphore bound out
    → Calls (record { held = h; slots = slots }) (record { held = OfShutSemaphore bound out; slots = all_slots_answered closed_value slots }) (λ s. shut_of s s.held) true
shut_calls h slots bound out sound is = record {
  calls = λ ts b.
      let all = (all_calls h (OfShutSemaphore bound out) closed_value slots (λ n. true) sound).calls ts b in
      (ap (shut_of (object_of (record { held = h; slots = slots }) ts)) is ∙ all.0, all.1);
}

-- Dropping

-- a choice of cores is a choice of objects
cond_object : (b : Bool) (x y : Core) (ts : List Registration) → cond b (object_of x ts) (object_of y ts) ≡ object_of (cond b x y) ts
cond_object true x y ts = refl
cond_object false x y ts = refl

-- an answer that is dropped, once its ticket is idle
undone-object : (h : Held) (slots : Slots) (ts : List Registration) (v : ℕ) (r : Request) (s : Object) → Grants h → IsSound slots → Belong slots ts → s ≡ object_of (record { held = h; slots = slots }) ts
    → (cond (v == 0) (undone_of s h r) s) ≡ object_of (core_undone (record { held = h; slots = slots }) v r) ts
undone-object h slots ts v r s grants sound b is =
    let c : Core = record { held = h; slots = slots } in
    ap (λ x. cond (v == 0) (undone_of x h r) x) is
    ∙ ap (λ x. cond (v == 0) x (object_of c ts)) (grants.undone (object_of c ts) r ∙ given-object c ts r (is_for_nothing r) (less h r) sound b)
    ∙ cond_object (v == 0) (core_given c r) c ts

undone-belong : (c : Core) (ts : List Registration) (v : ℕ) (r : Request) → IsSound c.slots → Belong c.slots ts → Belong (core_undone c v r).slots ts
undone-belong c ts v r sound b =
    elim (bool_cases (v == 0)) [
      | inl e ↦ rw e (given-belong c ts r (is_for_nothing r) (less c.held r) sound b)
      | inr e ↦ rw e b
    ]

-- a ticket that was answered at once
pub cancel_at_once : (h : Held) (slots : Slots) (v : ℕ) (r : Request) (m : Bool) → Grants h → IsSound slots
    → StepsWithTicket (record { held = h; slots = slots }) (core_undone (record { held = h; slots = slots }) v r) (AtOnce v r m) Unregistered dropping tt
cancel_at_once h slots v r m grants sound = record {
  acts = λ ts name here b.
      let c : Core = record { held = h; slots = slots } in
      let rest : Belong slots (slice_set ts name Unregistered) = own-belong slots ts name (AtOnce v r m) Unregistered here refl refl b in (
        ap (after tt) (dropped-by (object_of c ts) name (Answered v r m false) (entry-at slots.answers ts name (AtOnce v r m) here)
            ∙ undone-object h slots (slice_set ts name Unregistered) v r (with_entry (object_of c ts) name Idle) grants sound rest (sym (own-object h slots ts name (AtOnce v r m) Unregistered here refl refl))),
        undone-belong c (slice_set ts name Unregistered) v r sound rest,
      );
}

-- a ticket that was answered out of the line
pub cancel_answered : (h : Held) (slots : Slots) (slot v : ℕ) (r : Request) (m : Bool) → Grants h → IsSound slots → IsSound (slots_taken slots slot) → answer_in slots.answers slot ≡ Some v
    → StepsWithTicket (record { held = h; slots = slots }) (core_undone (record { held = h; slots = slots_taken slots slot }) v r) (InSlot slot r m) Unregistered dropping tt
cancel_answered h slots slot v r m grants sound after_sound there = record {
  acts = λ ts name here b.
      let c : Core = record { held = h; slots = slots } in
      let taken : Core = record { held = h; slots = slots_taken slots slot } in
      let rest : Belong (slots_taken slots slot) (slice_set ts name Unregistered) = take-belong slots ts name slot v r m here there b in (
        ap (after tt) (dropped-by (object_of c ts) name (Answered v r m true) (entry-at slots.answers ts name (InSlot slot r m) here ∙ ap (λ x. slot_entry x r m) there)
            ∙ undone-object h (slots_taken slots slot) (slice_set ts name Unregistered) v r (with_entry (object_of c ts) name Idle) grants after_sound rest (sym (take-object h slots ts name slot v r m here there sound b))),
        undone-belong taken (slice_set ts name Unregistered) v r after_sound rest,
      );
}

-- a ticket that waits
pub cancel_waiting : (h : Held) (slots : Slots) (slot : ℕ) (r : Request) (m : Bool) → Grants h → IsSound slots → IsSound (slots_left slots slot) → answer_in slots.answers slot ≡ None → 0 < times slot slots.line
    → StepsWithTicket (record { held = h; slots = slots }) (core_settled (record { held = h; slots = slots_left slots slot })) (InSlot slot r m) Unregistered dropping tt
cancel_waiting h slots slot r m grants sound after_sound none waits = record {
  acts = λ ts name here b.
      let c : Core = record { held = h; slots = slots } in
      let left : Core = record { held = h; slots = slots_left slots slot } in
      let rest : Belong (slots_left slots slot) (slice_set ts name Unregistered) = leave-belong slots ts name slot r m here waits sound b in (
        ap (after tt) (dropped-by (object_of c ts) name (Waiting r m) (entry-at slots.answers ts name (InSlot slot r m) here ∙ ap (λ x. slot_entry x r m) none)
            ∙ grants.left _
            ∙ ap settled (sym (leave-object h slots ts name slot r m here waits sound b))
            ∙ settled-object left (slice_set ts name Unregistered) after_sound rest),
        settled-belong left (slice_set ts name Unregistered) after_sound rest,
      );
}

-- a ticket with a slot, by what is known of it
cancel_in_slot_by : (h : Held) (slots : Slots) (slot : ℕ) (r : Request) (m : Bool) (a : Option ℕ) (waits : Bool) → Grants h → IsSound slots → answer_in slots.answers slot ≡ a → nat_lt 0 (times slot slots.line) ≡ waits
    → StepsWithTicket (record { held = h; slots = slots }) (core_vacated_by (record { held = h; slots = slots }) slot r a waits) (InSlot slot r m) Unregistered dropping tt
cancel_in_slot_by h slots slot r m (Some v) waits grants sound there line = cancel_answered h slots slot v r m grants sound (taken-sound slots slot v sound there) there
cancel_in_slot_by h slots slot r m None true grants sound there line =
    let some : 0 < times slot slots.line = grind (arith, nat_tests) in
    cancel_waiting h slots slot r m grants sound (left-sound slots slot sound some) there some
cancel_in_slot_by h slots slot r m None false grants sound there line =
    let none : times slot slots.line ≡ 0 = grind (arith, nat_tests) in
    let free : held_times slots slot ≡ 0 = omega (arith, none, ap (λ x. one_if (is_some x)) there) in
    cancel_foreign (record { held = h; slots = slots }) (record { held = h; slots = slots }) slot r m free

-- a ticket with a slot: by the answer of the slot, and whether it waits. The slots that remain are sound
pub cancel_in_slot : (h : Held) (slots : Slots) (slot : ℕ) (r : Request) (m : Bool) → Grants h → IsSound slots
    → StepsWithTicket (record { held = h; slots = slots }) (core_vacated (record { held = h; slots = slots }) slot r) (InSlot slot r m) Unregistered dropping tt
cancel_in_slot h slots slot r m grants sound = cancel_in_slot_by h slots slot r m (answer_in slots.answers slot) (nat_lt 0 (times slot slots.line)) grants sound refl refl

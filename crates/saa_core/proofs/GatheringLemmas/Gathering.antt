-- Registering and dropping of a core at which tasks gather, case by case, seen as steps of the
-- object. Neither a gate nor a barrier occurs here.
use Rattle.std.proofs.Common.{◌≡◌, ℕ, ◌<◌, ◌≤◌, Bool, true, false, ◌==◌, List, length, Option, Some, None, is_some, Ok, Err, slice_set, nat_lt, refl, sym, ap, ◌∙◌, arith, cond}
use Rattle.std.proofs.lemmas.Bool.Decides.{nat_tests}
use Rattle.saa_core_spec.specs.declared.request.Request.{Request}
use Rattle.saa_core_spec.specs.Held.{Held, asks_too_much}
use Rattle.saa_core_spec.specs.Object.{Object, Idle, Waiting, Answered, with_entry, used, times, without, one_if}
use Rattle.saa_core_spec.specs.Asking.{registered, answer_at_once}
use Rattle.saa_core_spec.specs.Polling.{left_of, undone_of}
use Rattle.std.specs.Bool.{OnTrue, OnFalse}
use Rattle.saa_core_spec.proofs.Counts.{length-without, number_same}
use Rattle.saa_core.specs.Slots.{Slots, answer_in, held_slots, held_times, room_of, IsSound}
use Rattle.saa_core.specs.declared.ticket.Registration.{Registration}
use Rattle.saa_core.specs.declared.ticket.Registration.TheVariants.{Unregistered, AtOnce, InSlot}
use Rattle.saa_core.specs.Tickets.{Core, StepsWithTicket, Belong, object_of, slot_entry, dropping}
use Rattle.saa_core.proofs.TicketLemmas.Naming.{entry-at}
use Rattle.saa_core.proofs.TicketLemmas.Steps.{own-object, own-belong, slots_joined, join-object, join-belong, slots_taken, take-object, take-belong, slots_left, leave-object, leave-belong, used-object}
use Rattle.saa_core.proofs.TicketLemmas.Polls.{after, acts_unchanged}
use Rattle.saa_core.proofs.TicketLemmas.Registering.{registered-by, idle_asks, apart_number, dropped-by, cancel_foreign, left-sound}
use Rattle.saa_core.specs.GatheringParts.{vacated, vacated_by}

-- Registering

-- a registration that is answered at once, and may answer others
pub register_answered : (c new : Core) (v : ℕ) (r : Request) (m : Bool) → asks_too_much c.held r ≡ false
    → ((ts : List Registration) → Belong c.slots ts → answer_at_once (object_of c ts) r ≡ Some (after v (object_of new ts)))
    → ((ts : List Registration) → Belong c.slots ts → Belong new.slots ts)
    → StepsWithTicket c new Unregistered (AtOnce v r m) (λ s name. registered s name r m) (Ok true)
register_answered c new v r m fine answers belongs = record {
  acts = λ ts name here b. (
    registered-by (object_of c ts) name r m false _ _ (idle_asks c ts name r here fine) (answers ts b) refl
        ∙ ap (after (Ok true)) (sym (own-object new.held new.slots ts name Unregistered (AtOnce v r m) here refl refl)),
    own-belong new.slots ts name Unregistered (AtOnce v r m) here refl refl (belongs ts b),
  );
}

-- a registration that must wait, and finds the room full
pub register_full : (c : Core) (r : Request) (m : Bool) → asks_too_much c.held r ≡ false
    → ((ts : List Registration) → answer_at_once (object_of c ts) r ≡ None) → held_slots c.slots ≡ room_of c.slots
    → StepsWithTicket c c Unregistered Unregistered (λ s name. registered s name r m) (Err (record {}))
register_full c r m fine waits full = acts_unchanged c Unregistered _ _ (λ ts name here b.
    registered-by (object_of c ts) name r m false None true (idle_asks c ts name r here fine) (waits ts)
    (ap (λ n. n == room_of c.slots) (used-object c ts b ∙ full) ∙ number_same (room_of c.slots)))

-- a registration that waits
pub register_joined : (h : Held) (slots : Slots) (slot : ℕ) (r : Request) (m : Bool) → asks_too_much h r ≡ false
    → ((ts : List Registration) → answer_at_once (object_of (record { held = h; slots = slots }) ts) r ≡ None)
    → (held_slots slots ≡ room_of slots → ⊥) → held_times slots slot ≡ 0
    → StepsWithTicket (record { held = h; slots = slots }) (record { held = h; slots = slots_joined slots slot r }) Unregistered (InSlot slot r m) (λ s name. registered s name r m) (Ok true)
register_joined h slots slot r m fine waits room fresh = record {
  acts = λ ts name here b.
      let c : Core = record { held = h; slots = slots } in
      let s : Object = object_of c ts in
      let place : (used s == s.room) ≡ false = ap (λ n. n == room_of slots) (used-object c ts b) ∙ apart_number (held_slots slots) (room_of slots) room in (
        registered-by s name r m false None false (idle_asks c ts name r here fine) (waits ts) place
            ∙ ap (after (Ok true)) (sym (join-object h slots ts name Unregistered slot r m here refl fresh b)),
        join-belong slots ts name Unregistered slot r m here refl b,
      );
}

-- Dropping

-- What is held where tasks gather: nothing is to be given back, and this happens to the waiters that stay when one leaves
pub record Gathers (h : Held) (close : Slots → Slots) : Type 0 where
  pub undone : (s : Object) (r : Request) → undone_of s h r ≡ s
  pub left : (slots : Slots) (ts : List Registration) → IsSound slots → Belong slots ts
      → left_of (object_of (record { held = h; slots = slots }) ts) h ≡ object_of (record { held = h; slots = close slots }) ts
  pub belong : (slots : Slots) (ts : List Registration) → IsSound slots → Belong slots ts → Belong (close slots) ts

-- two ways to the same
cond_same : (b : Bool) (x y : Object) → x ≡ y → cond b x y ≡ y
cond_same true x y e = e
cond_same false x y e = refl

-- a ticket that was answered at once
pub cancel_at_once : (h : Held) (close : Slots → Slots) (slots : Slots) (v : ℕ) (r : Request) (m : Bool) → Gathers h close
    → StepsWithTicket (record { held = h; slots = slots }) (record { held = h; slots = slots }) (AtOnce v r m) Unregistered dropping tt
cancel_at_once h close slots v r m gathers = record {
  acts = λ ts name here b.
      let c : Core = record { held = h; slots = slots } in (
        ap (after tt) (dropped-by (object_of c ts) name (Answered v r m false) (entry-at slots.answers ts name (AtOnce v r m) here)
            ∙ cond_same (v == 0) _ _ (gathers.undone (with_entry (object_of c ts) name Idle) r)
            ∙ sym (own-object h slots ts name (AtOnce v r m) Unregistered here refl refl)),
        own-belong slots ts name (AtOnce v r m) Unregistered here refl refl b,
      );
}

-- a ticket that was answered out of the line
pub cancel_answered : (h : Held) (close : Slots → Slots) (slots : Slots) (slot v : ℕ) (r : Request) (m : Bool) → Gathers h close → IsSound slots → answer_in slots.answers slot ≡ Some v
    → StepsWithTicket (record { held = h; slots = slots }) (record { held = h; slots = slots_taken slots slot }) (InSlot slot r m) Unregistered dropping tt
cancel_answered h close slots slot v r m gathers sound there = record {
  acts = λ ts name here b.
      let c : Core = record { held = h; slots = slots } in (
        ap (after tt) (dropped-by (object_of c ts) name (Answered v r m true) (entry-at slots.answers ts name (InSlot slot r m) here ∙ ap (λ x. slot_entry x r m) there)
            ∙ cond_same (v == 0) _ _ (gathers.undone (with_entry (object_of c ts) name Idle) r)
            ∙ sym (take-object h slots ts name slot v r m here there sound b)),
        take-belong slots ts name slot v r m here there b,
      );
}

-- a ticket that waits
cancel_waiting : (h : Held) (close : Slots → Slots) (slots : Slots) (slot : ℕ) (r : Request) (m : Bool) → Gathers h close → IsSound slots → answer_in slots.answers slot ≡ None → 0 < times slot slots.line
    → StepsWithTicket (record { held = h; slots = slots }) (record { held = h; slots = close (slots_left slots slot) }) (InSlot slot r m) Unregistered dropping tt
cancel_waiting h close slots slot r m gathers sound none waits = record {
  acts = λ ts name here b.
      let c : Core = record { held = h; slots = slots } in
      let rest : Belong (slots_left slots slot) (slice_set ts name Unregistered) = leave-belong slots ts name slot r m here waits sound b in
      let left : IsSound (slots_left slots slot) = left-sound slots slot sound waits in (
        ap (after tt) (dropped-by (object_of c ts) name (Waiting r m) (entry-at slots.answers ts name (InSlot slot r m) here ∙ ap (λ x. slot_entry x r m) none)
            ∙ ap (λ s. left_of s h) (sym (leave-object h slots ts name slot r m here waits sound b))
            ∙ gathers.left (slots_left slots slot) (slice_set ts name Unregistered) left rest),
        gathers.belong (slots_left slots slot) (slice_set ts name Unregistered) left rest,
      );
}

-- a ticket with a slot, by what is known of it
cancel_in_slot_by : (h : Held) (close : Slots → Slots) (slots : Slots) (slot : ℕ) (r : Request) (m : Bool) (a : Option ℕ) (waits : Bool) → Gathers h close → IsSound slots
    → answer_in slots.answers slot ≡ a → nat_lt 0 (times slot slots.line) ≡ waits
    → StepsWithTicket (record { held = h; slots = slots }) (record { held = h; slots = vacated_by close slots slot a waits }) (InSlot slot r m) Unregistered dropping tt
cancel_in_slot_by h close slots slot r m (Some v) waits gathers sound there line = cancel_answered h close slots slot v r m gathers sound there
cancel_in_slot_by h close slots slot r m None true gathers sound there line =
    let some : 0 < times slot slots.line = grind (arith, nat_tests) in
    cancel_waiting h close slots slot r m gathers sound there some
cancel_in_slot_by h close slots slot r m None false gathers sound there line =
    let none : times slot slots.line ≡ 0 = grind (arith, nat_tests) in
    let free : held_times slots slot ≡ 0 = omega (arith, none, ap (λ x. one_if (is_some x)) there) in
    cancel_foreign (record { held = h; slots = slots }) (record { held = h; slots = slots }) slot r m free

-- a ticket with a slot: by the answer of the slot, and whether it waits
pub cancel_in_slot : (h : Held) (close : Slots → Slots) (slots : Slots) (slot : ℕ) (r : Request) (m : Bool) → Gathers h close → IsSound slots
    → StepsWithTicket (record { held = h; slots = slots }) (record { held = h; slots = vacated close slots slot }) (InSlot slot r m) Unregistered dropping tt
cancel_in_slot h close slots slot r m gathers sound =
    cancel_in_slot_by h close slots slot r m (answer_in slots.answers slot) (nat_lt 0 (times slot slots.line)) gathers sound refl refl

-- no more wait once a slot left, if it waited
pub length-left : (waited : Bool) (old new : Slots) (slot : ℕ) → OnTrue waited (new ≡ record old { line = without slot old.line }) → OnFalse waited (new ≡ old)
    → length new.line ≤ length old.line
length-left true old new slot left same = omega (arith, ap (λ (s : Slots). length s.line) left, length-without slot old.line)
length-left false old new slot left same = omega (arith, ap (λ (s : Slots). length s.line) same)

-- and nobody is answered by that, nor owed a wake
pub left-unanswered : (waited : Bool) (old new : Slots) (slot : ℕ) → OnTrue waited (new ≡ record old { line = without slot old.line }) → OnFalse waited (new ≡ old)
    → (old.answers ≡ new.answers) × (old.pending_wakes ≡ new.pending_wakes)
left-unanswered true old new slot left same = (sym (ap (λ (s : Slots). s.answers) left), sym (ap (λ (s : Slots). s.pending_wakes) left))
left-unanswered false old new slot left same = (sym (ap (λ (s : Slots). s.answers) same), sym (ap (λ (s : Slots). s.pending_wakes) same))

-- Registering and dropping, as far as they are the same for every core: refusals, idle and foreign tickets, and making.
use Rattle.std.proofs.Common.{◌≡◌, ℕ, suc, zero, ◌<◌, Bool, true, false, not, ◌||◌, ◌==◌, List, ◌∷◌, length, Option, Some, None, Ok, slice_get, slice_set, nat_lt, replicate, refl, ap, ◌∙◌, arith}
use Rattle.std.proofs.lemmas.List.{length-replicate}
use Rattle.std.proofs.lemmas.Bool.Decides.{nat_tests}
use Rattle.saa_core_spec.specs.declared.request.Request.{Request}
use Rattle.saa_core.specs.declared.ticket.Registration.{Registration}
use Rattle.saa_core.specs.declared.ticket.Registration.TheVariants.{Unregistered, AtOnce, InSlot}
use Rattle.saa_core_spec.specs.Held.{Held, asks_too_much}
use Rattle.saa_core_spec.specs.Object.{Object, After, Entry, Idle, entry_at, used, times, newly_made, one_if}
use Rattle.saa_core_spec.specs.Asking.{registered, registered_of, answer_at_once, is_idle}
use Rattle.saa_core_spec.specs.Polling.{dropped, dropped_of}
use Rattle.saa_core.specs.Slots.{Slots, answer_in, answer_count, held_times, empty_slots, IsSound}
use Rattle.saa_core.specs.Tickets.{Core, StepsWithTicket, Belong, object_of, entry_of, slot_entry, owners, slotted_count, entries, is_busy, dropping}
use Rattle.saa_core.proofs.TicketLemmas.Naming.{entry-at, owner-here}
use Rattle.std.proofs.Math.ListN.{length-set}
use Rattle.saa_core.proofs.TicketLemmas.Counting.{held-once}
use Rattle.saa_core.proofs.TicketLemmas.Steps.{same_object, slots_taken, held-taken, slots_left, held-left}
use Rattle.saa_core.proofs.TicketLemmas.Polls.{after, acts_unchanged}
use Rattle.saa_core_spec.proofs.Counts.{number_same}

-- Registering

-- a registration by what decides it
pub registered-by : (s : Object) (name : ℕ) (r : Request) (m is_refused : Bool) (answer : Option (After ℕ)) (is_full : Bool)
    → (not (is_idle (entry_at s.book name)) || asks_too_much s.held r) ≡ is_refused → answer_at_once s r ≡ answer → (used s == s.room) ≡ is_full
    → registered s name r m ≡ registered_of s name r m is_refused answer is_full
registered-by s name r m is_refused answer is_full e1 e2 e3 = cc

-- an entry out of the line isn't idle
pub is_idle-slot : (a : Option ℕ) (r : Request) (m : Bool) → is_idle (slot_entry a r m) ≡ false
is_idle-slot None r m = refl
is_idle-slot (Some v) r m = refl

-- a ticket that isn't idle has an entry that isn't
pub is_idle-entry : (answers : List (Option ℕ)) (t : Registration) → is_idle (entry_of answers t) ≡ not (is_busy t)
is_idle-entry answers Unregistered = refl
is_idle-entry answers (AtOnce v r m) = refl
is_idle-entry answers (InSlot slot r m) = is_idle-slot (answer_in answers slot) r m

-- not twice is nothing
pub not_not : (b : Bool) → not (not b) ≡ b
not_not true = refl
not_not false = refl

-- a registration of a ticket that isn't idle, or for too much
pub register_refused : (c : Core) (t : Registration) (r : Request) (m : Bool) → (is_busy t || asks_too_much c.held r) ≡ true → StepsWithTicket c c t t (λ s name. registered s name r m) (Ok false)
register_refused c t r m refused = acts_unchanged c t _ _ (λ ts name here b.
    registered-by (object_of c ts) name r m true _ _
    (ap (λ e. not (is_idle e) || asks_too_much c.held r) (entry-at c.slots.answers ts name t here)
    ∙ ap (λ b. not b || asks_too_much c.held r) (is_idle-entry c.slots.answers t)
    ∙ ap (λ b. b || asks_too_much c.held r) (not_not (is_busy t)) ∙ refused)
    refl refl)

-- what an idle ticket that doesn't ask too much gives to decide by
pub idle_asks : (c : Core) (ts : List Registration) (name : ℕ) (r : Request) → slice_get ts name ≡ Some Unregistered → asks_too_much c.held r ≡ false → (not (is_idle (entry_at (object_of c ts).book name)) || asks_too_much c.held r) ≡ false
idle_asks c ts name r here fine = ap (λ e. not (is_idle e) || asks_too_much c.held r) (entry-at c.slots.answers ts name Unregistered here) ∙ fine

-- different numbers fail the test
pub apart_number : (m n : ℕ) → (m ≡ n → ⊥) → m == n ≡ false
apart_number m n h = grind (arith, nat_tests)

-- Dropping

-- a drop by the entry
pub dropped-by : (s : Object) (name : ℕ) (e : Entry) → entry_at s.book name ≡ e → dropped s name ≡ dropped_of s name e
dropped-by s name e is = ap (dropped_of s name) is

-- an idle ticket
pub cancel_idle : (c : Core) → StepsWithTicket c c Unregistered Unregistered dropping tt
cancel_idle c = acts_unchanged c Unregistered _ _ (λ ts name here b. ap (after tt) (dropped-by (object_of c ts) name Idle (entry-at c.slots.answers ts name Unregistered here)))

-- a ticket whose slot isn't held doesn't belong to the core
pub cancel_foreign : (c new : Core) (slot : ℕ) (r : Request) (m : Bool) → held_times c.slots slot ≡ 0 → StepsWithTicket c new (InSlot slot r m) Unregistered dropping tt
cancel_foreign c new slot r m free = record {
  acts = λ ts name here b.
      absurd (omega (arith, owner-here ts name (InSlot slot r m) slot here (number_same slot), b.owned slot));
}

-- what remains when an answer is taken is sound
pub taken-sound : (slots : Slots) (slot v : ℕ) → IsSound slots → answer_in slots.answers slot ≡ Some v → IsSound (slots_taken slots slot)
taken-sound slots slot v sound there =
    let room : length (slice_set slots.answers slot None) ≡ length slots.answers = length-set slots.answers slot None in
    record {
      each = λ other. omega (arith, held-taken slots slot v other there, sound.each other, ap (λ n. one_if (nat_lt other n)) room);
      pending_once = λ other. omega (arith, sound.pending_once other, ap (λ n. one_if (nat_lt other n)) room);
      small = omega (arith, sound.small);
    }

-- what remains when a waiter leaves is sound
pub left-sound : (slots : Slots) (slot : ℕ) → IsSound slots → 0 < times slot slots.line → IsSound (slots_left slots slot)
left-sound slots slot sound waits =
    record { each = λ other. omega (arith, held-left slots slot other (held-once slots sound slot) waits, sound.each other); pending_once = sound.pending_once; small = sound.small }

-- Small facts on tickets and tests

-- a ticket that isn't registered is idle
pub idle_ticket : (t : Registration) → is_busy t ≡ false → t ≡ Unregistered
idle_ticket Unregistered h = refl
idle_ticket (AtOnce v r m) h = cc
idle_ticket (InSlot slot r m) h = cc

-- one of two is enough
pub busy_or : (a b : Bool) → a ≡ true → (a || b) ≡ true
busy_or true b h = refl
busy_or false b h = cc

pub or_true : (a b : Bool) → b ≡ true → (a || b) ≡ true
or_true true b h = refl
or_true false b h = h

-- Making

-- idle tickets have no slots
pub owners-idle : (names slot : ℕ) → owners (replicate names Unregistered) slot ≡ 0
owners-idle zero slot = refl
owners-idle (suc names) slot = omega (arith, owners-idle names slot)

pub slotted_count-idle : (names : ℕ) → slotted_count (replicate names Unregistered) ≡ 0
slotted_count-idle zero = refl
slotted_count-idle (suc names) = omega (arith, slotted_count-idle names)

-- and belong to every core
pub idle-belong : (slots : Slots) (names : ℕ) → Belong slots (replicate names Unregistered)
idle-belong slots names = record { owned = λ slot. omega (arith, owners-idle names slot); few = omega (arith, slotted_count-idle names) }

-- the book of idle tickets
pub entries-idle : (answers : List (Option ℕ)) (names : ℕ) → entries answers (replicate names Unregistered) ≡ replicate names Idle
entries-idle answers zero = refl
entries-idle answers (suc names) = ap (λ es. Idle ∷ es) (entries-idle answers names)

-- a line without anybody has no answers
pub answer_count-empty : (room : ℕ) → answer_count (replicate room None) ≡ 0
answer_count-empty zero = refl
answer_count-empty (suc room) = omega (arith, answer_count-empty room)

-- a newly made core with idle tickets is the newly made object
pub made-object : (h : Held) (room names : ℕ) → object_of (record { held = h; slots = empty_slots room }) (replicate names Unregistered) ≡ newly_made h room names
made-object h room names = same_object _ _ refl refl
    (entries-idle (replicate room None) names)
    (omega (arith, answer_count-empty room))
    (length-replicate room None)

-- What happens to a core and its tickets, seen as the object. Each change of a line and a ticket that a core
-- makes is one step here, and none of them knows which primitive it is.
use Rattle.std.proofs.Common.{◌≡◌, ◌≢◌, ℕ, suc, zero, ◌+◌, ◌-◌, ◌<◌, ◌≤◌, Bool, true, false, ◌==◌, List, [], ◌∷◌, ◌++◌, length, take, drop, get_or, Option, Some, None, is_some, slice_get, slice_set, refl, sym, ap, ◌∙◌, arith, inl, inr, length-append}
use Rattle.std.proofs.lemmas.List.{get_or-set_same, get_or-set_other}
use Rattle.std.proofs.Math.ListN.{length-set}
use Rattle.saa_core_spec.specs.declared.request.Request.{Request}
use Rattle.saa_core_spec.specs.Held.{Held}
use Rattle.saa_core_spec.specs.Object.{Object, Entry, Idle, Waiter, with_entry, one_if, times, without, used, slots_in, holds_slot}
use Rattle.saa_core.specs.Slots.{Slots, answer_in, answer_count, answered_slots, slots_answered, held_slots, held_times, IsSound}
use Rattle.saa_core_spec.specs.Settling.{answered_in}
use Rattle.saa_core_spec.specs.Asking.{joined}
use Rattle.saa_core.specs.declared.ticket.Registration.{Registration}
use Rattle.saa_core.specs.declared.ticket.Registration.TheVariants.{Unregistered, AtOnce, InSlot}
use Rattle.saa_core.specs.Tickets.{has_slot, is_slotted, owners, slotted_count, name_of, named, entry_of, slot_entry, entries, Core, object_of, Belong}
use Rattle.saa_core.proofs.TicketLemmas.Naming.{entries-set, entries-other, entries-answer, named-take, named-drop, named-append, name_of-set, named-set, owners-set, slotted_count-set, name_of-own, name_of-found}
use Rattle.saa_core.proofs.TicketLemmas.Counting.{held-once, answer_count-none, answer-below, AreUnanswered, no_answer, unanswered-first, unanswered-rest, answer_count-answered, held-answered, length-answered_slots, unanswered-take}
use Rattle.saa_core_spec.proofs.Counts.{bool_cases, same_number, other_number, number_same, number_other, times-append, times-take_drop, length-without, times-without_same, times-without_other}

-- the object of five parts
object_from : Held → List Waiter → List Entry → ℕ → ℕ → Object
object_from h l b o r = record { held = h; line = l; book = b; outside = o; room = r }

-- objects whose five parts are equal are equal
pub same_object : (a b : Object) → a.held ≡ b.held → a.line ≡ b.line → a.book ≡ b.book → a.outside ≡ b.outside → a.room ≡ b.room → a ≡ b
unfolding object_from
same_object a b held line book outside room =
    let same : object_from a.held a.line a.book a.outside a.room ≡ object_from b.held b.line b.book b.outside b.room = cc in same

-- a ticket without a slot has none
pub unslotted-has : (t : Registration) (slot : ℕ) → is_slotted t ≡ false → has_slot t slot ≡ false
unslotted-has Unregistered slot h = refl
unslotted-has (AtOnce v r m) slot h = refl
unslotted-has (InSlot own r m) slot h = cc

-- what stands at a place after it was set
pub slice_get-set : (ts : List Registration) (name : ℕ) (old new : Registration) → slice_get ts name ≡ Some old → slice_get (slice_set ts name new) name ≡ Some new
slice_get-set [] name old new here = cc
slice_get-set (x ∷ ts) zero old new here = refl
slice_get-set (x ∷ ts) (suc name) old new here = slice_get-set ts name old new here

-- A ticket changes that has no slot before or after

pub own-object : (h : Held) (slots : Slots) (ts : List Registration) (name : ℕ) (old new : Registration) → slice_get ts name ≡ Some old → is_slotted old ≡ false → is_slotted new ≡ false
    → object_of (record { held = h; slots = slots }) (slice_set ts name new) ≡ with_entry (object_of (record { held = h; slots = slots }) ts) name (entry_of slots.answers new)
own-object h slots ts name old new here before after =
    same_object _ _ refl
    (named-set ts name old new slots.line here (λ slot _. unslotted-has old slot before ∙ sym (unslotted-has new slot after)))
    (entries-set slots.answers ts name new)
    (let count : slotted_count (slice_set ts name new) ≡ slotted_count ts = omega (arith, slotted_count-set ts name old new here, ap one_if before, ap one_if after) in ap (λ n. held_slots slots - n) count)
    refl

pub own-belong : (slots : Slots) (ts : List Registration) (name : ℕ) (old new : Registration) → slice_get ts name ≡ Some old → is_slotted old ≡ false → is_slotted new ≡ false → Belong slots ts → Belong slots (slice_set ts name new)
own-belong slots ts name old new here before after b = record {
  owned = λ slot. omega (arith, owners-set ts name old new slot here, ap one_if (unslotted-has old slot before), ap one_if (unslotted-has new slot after), b.owned slot);
  few = omega (arith, slotted_count-set ts name old new here, ap one_if before, ap one_if after, b.few);
}

-- A ticket without a slot joins the line with a slot that wasn't held

-- the line once it joined
abbrev pub slots_joined : Slots → ℕ → Request → Slots
slots_joined slots slot r = record { line = slots.line ++ (slot, r) ∷ []; answers = slots.answers; pending_wakes = slots.pending_wakes }

-- how often a slot is held once one joined
pub held-joined : (slots : Slots) (slot : ℕ) (r : Request) (other : ℕ) → held_times (slots_joined slots slot r) other ≡ held_times slots other + one_if (slot == other)
held-joined slots slot r other = omega (arith, times-append other slots.line ((slot, r) ∷ []))

pub join-object : (h : Held) (slots : Slots) (ts : List Registration) (name : ℕ) (old : Registration) (slot : ℕ) (r : Request) (m : Bool) → slice_get ts name ≡ Some old → is_slotted old ≡ false → held_times slots slot ≡ 0 → Belong slots ts
    → object_of (record { held = h; slots = slots_joined slots slot r }) (slice_set ts name (InSlot slot r m)) ≡ joined (object_of (record { held = h; slots = slots }) ts) name r m
join-object h slots ts name old slot r m here before fresh b =
    let new : Registration = InSlot slot r m in
    let same_slot : slot == slot ≡ true = number_same slot in
    let owners_new : owners (slice_set ts name new) slot ≤ 1 = omega (arith, owners-set ts name old new slot here, ap one_if (unslotted-has old slot before), ap one_if same_slot, b.owned slot) in
    let own_name : name_of (slice_set ts name new) slot ≡ name = name_of-own (slice_set ts name new) name new slot (slice_get-set ts name old new here) same_slot owners_new in
    let others : named (slice_set ts name new) slots.line ≡ named ts slots.line = named-set ts name old new slots.line here (λ other waits.
    let apart : slot ≢ other = λ same. (let t : times slot slots.line ≡ times other slots.line = ap (λ k. times k slots.line) same in absurd (omega arith)) in
    unslotted-has old other before ∙ sym (number_other slot other apart)) in
    let none : answer_in slots.answers slot ≡ None = no_answer (answer_in slots.answers slot) (omega arith) in
    same_object _ _ refl
    (named-append (slice_set ts name new) slots.line ((slot, r) ∷ []) ∙ ap (λ l. l ++ (name_of (slice_set ts name new) slot, r) ∷ []) others ∙ ap (λ n. named ts slots.line ++ (n, r) ∷ []) own_name)
    (entries-set slots.answers ts name new ∙ ap (λ a. slice_set (entries slots.answers ts) name (slot_entry a r m)) none)
    (let one : is_slotted new ≡ true = refl in omega (arith, slotted_count-set ts name old new here, ap one_if before, ap one_if one, length-append slots.line ((slot, r) ∷ []), b.few))
    refl

pub join-belong : (slots : Slots) (ts : List Registration) (name : ℕ) (old : Registration) (slot : ℕ) (r : Request) (m : Bool) → slice_get ts name ≡ Some old → is_slotted old ≡ false → Belong slots ts → Belong (slots_joined slots slot r) (slice_set ts name (InSlot slot r m))
join-belong slots ts name old slot r m here before b = record {
  owned = λ other. omega (arith, owners-set ts name old (InSlot slot r m) other here, ap one_if (unslotted-has old other before), held-joined slots slot r other, b.owned other);
  few = omega (arith, slotted_count-set ts name old (InSlot slot r m) here, ap one_if before, length-append slots.line ((slot, r) ∷ []), b.few);
}

-- The answer of a ticket's slot is taken, and the ticket is idle

-- the line once it is taken
abbrev pub slots_taken : Slots → ℕ → Slots
slots_taken slots slot = record { line = slots.line; answers = slice_set slots.answers slot None; pending_wakes = slots.pending_wakes }

-- how often a slot is held once the answer of one is taken
pub held-taken : (slots : Slots) (slot v : ℕ) (other : ℕ) → answer_in slots.answers slot ≡ Some v → held_times (slots_taken slots slot) other + one_if (slot == other) ≡ held_times slots other
held-taken slots slot v other there =
    elim (bool_cases (slot == other)) [
      | inl e ↦
          let same : slot ≡ other = same_number slot other e in
          let before : answer_in slots.answers other ≡ Some v = ap (λ k. get_or slots.answers k None) (sym same) ∙ there in
          let after : answer_in (slice_set slots.answers slot None) other ≡ None = ap (λ k. get_or (slice_set slots.answers slot None) k None) (sym same) ∙ get_or-set_same slots.answers slot None None (answer-below slots.answers slot v there) in
          omega (arith, ap (λ x. one_if (is_some x)) before, ap (λ x. one_if (is_some x)) after, ap one_if e)
      | inr e ↦
          let apart : other ≢ slot = λ same. other_number slot other e (sym same) in
          let after : answer_in (slice_set slots.answers slot None) other ≡ answer_in slots.answers other = get_or-set_other slots.answers slot other None None apart in
          omega (arith, ap (λ x. one_if (is_some x)) after, ap one_if e)
    ]

pub take-object : (h : Held) (slots : Slots) (ts : List Registration) (name slot v : ℕ) (r : Request) (m : Bool) → slice_get ts name ≡ Some (InSlot slot r m) → answer_in slots.answers slot ≡ Some v → IsSound slots → Belong slots ts
    → object_of (record { held = h; slots = slots_taken slots slot }) (slice_set ts name Unregistered) ≡ with_entry (object_of (record { held = h; slots = slots }) ts) name Idle
take-object h slots ts name slot v r m here there sound b =
    let old : Registration = InSlot slot r m in
    let same_slot : slot == slot ≡ true = number_same slot in
    let once : held_times slots slot ≤ 1 = held-once slots sound slot in
    let some : one_if (is_some (answer_in slots.answers slot)) ≡ 1 = ap (λ x. one_if (is_some x)) there in
    let unowned : owners (slice_set ts name Unregistered) slot ≡ 0 = omega (arith, owners-set ts name old Unregistered slot here, ap one_if same_slot, b.owned slot) in
    same_object _ _ refl
    (named-set ts name old Unregistered slots.line here (λ other waits.
    let apart : slot ≢ other = λ same. (let t : times slot slots.line ≡ times other slots.line = ap (λ k. times k slots.line) same in absurd (omega arith)) in
    number_other slot other apart))
    (entries-other slots.answers (slice_set ts name Unregistered) slot None unowned ∙ entries-set slots.answers ts name Unregistered)
    (let fewer : answer_count (slice_set slots.answers slot None) + 1 ≡ answer_count slots.answers = answer_count-none slots.answers slot v there in
    let count : slotted_count (slice_set ts name Unregistered) + 1 ≡ slotted_count ts + 0 = slotted_count-set ts name old Unregistered here in
    omega (arith, b.few))
    (length-set slots.answers slot None)

pub take-belong : (slots : Slots) (ts : List Registration) (name slot v : ℕ) (r : Request) (m : Bool) → slice_get ts name ≡ Some (InSlot slot r m) → answer_in slots.answers slot ≡ Some v → Belong slots ts → Belong (slots_taken slots slot) (slice_set ts name Unregistered)
take-belong slots ts name slot v r m here there b = record {
  owned = λ other. omega (arith, owners-set ts name (InSlot slot r m) Unregistered other here, held-taken slots slot v other there, b.owned other);
  few = omega (arith, slotted_count-set ts name (InSlot slot r m) Unregistered here, answer_count-none slots.answers slot v there, b.few);
}

-- A ticket's slot leaves the line, and the ticket is idle

-- the line once it left
abbrev pub slots_left : Slots → ℕ → Slots
slots_left slots slot = record { line = without slot slots.line; answers = slots.answers; pending_wakes = slots.pending_wakes }

-- the names of the line without a slot are the names without its name
pub named-without : (ts : List Registration) (name slot : ℕ) (r : Request) (m : Bool) (line : List Waiter) → slice_get ts name ≡ Some (InSlot slot r m) → owners ts slot ≤ 1 → named (slice_set ts name Unregistered) (without slot line) ≡ without name (named ts line)
named-without ts name slot r m [] here few = refl
named-without ts name slot r m (w ∷ line) here few =
    elim (bool_cases (w.0 == slot)) [
      | inl e ↦
          let own_name : name_of ts w.0 ≡ name = ap (name_of ts) (same_number w.0 slot e) ∙ name_of-own ts name (InSlot slot r m) slot here (number_same slot) few in
          let same : name_of ts w.0 == name ≡ true = ap (λ n. n == name) own_name ∙ number_same name in
          rw (e, same) (named-without ts name slot r m line here few)
      | inr e ↦
          let apart : slot ≢ w.0 = λ same. other_number w.0 slot e (sym same) in
          let differ : name_of ts w.0 ≢ name = λ same. (let has : slot == w.0 ≡ true = name_of-found ts name (InSlot slot r m) w.0 here same in apart (same_number slot w.0 has)) in
          let other : name_of ts w.0 == name ≡ false = number_other (name_of ts w.0) name differ in
          let head : name_of (slice_set ts name Unregistered) w.0 ≡ name_of ts w.0 = name_of-set ts name (InSlot slot r m) Unregistered w.0 here (number_other slot w.0 apart) in
          let rest : named (slice_set ts name Unregistered) (without slot line) ≡ without name (named ts line) = named-without ts name slot r m line here few in
          rw (e, other) cc
    ]

-- how often a slot is held once one left that waited
pub held-left : (slots : Slots) (slot other : ℕ) → held_times slots slot ≤ 1 → 0 < times slot slots.line → held_times (slots_left slots slot) other + one_if (slot == other) ≡ held_times slots other
held-left slots slot other once waits =
    elim (bool_cases (slot == other)) [
      | inl e ↦
          let same : slot ≡ other = same_number slot other e in
          let line : times slot (without slot slots.line) ≡ times other (without slot slots.line) = ap (λ k. times k (without slot slots.line)) same in
          let before : times slot slots.line ≡ times other slots.line = ap (λ k. times k slots.line) same in
          omega (arith, times-without_same slot slots.line, ap one_if e)
      | inr e ↦ omega (arith, times-without_other slot other slots.line (other_number slot other e), ap one_if e)
    ]

pub leave-object : (h : Held) (slots : Slots) (ts : List Registration) (name slot : ℕ) (r : Request) (m : Bool) → slice_get ts name ≡ Some (InSlot slot r m) → 0 < times slot slots.line → IsSound slots → Belong slots ts
    → object_of (record { held = h; slots = slots_left slots slot }) (slice_set ts name Unregistered) ≡ record (with_entry (object_of (record { held = h; slots = slots }) ts) name Idle) { line = without name (named ts slots.line) }
leave-object h slots ts name slot r m here waits sound b =
    let once : held_times slots slot ≤ 1 = held-once slots sound slot in
    same_object _ _ refl
    (named-without ts name slot r m slots.line here (omega (arith, b.owned slot)))
    (entries-set slots.answers ts name Unregistered)
    (let count : slotted_count (slice_set ts name Unregistered) + 1 ≡ slotted_count ts + 0 = slotted_count-set ts name (InSlot slot r m) Unregistered here in
    omega (arith, length-without slot slots.line, b.few))
    refl

pub leave-belong : (slots : Slots) (ts : List Registration) (name slot : ℕ) (r : Request) (m : Bool) → slice_get ts name ≡ Some (InSlot slot r m) → 0 < times slot slots.line → IsSound slots → Belong slots ts → Belong (slots_left slots slot) (slice_set ts name Unregistered)
leave-belong slots ts name slot r m here waits sound b =
    let once : held_times slots slot ≤ 1 = held-once slots sound slot in
    record {
      owned = λ other. omega (arith, owners-set ts name (InSlot slot r m) Unregistered other here, held-left slots slot other once waits, b.owned other);
      few = omega (arith, slotted_count-set ts name (InSlot slot r m) Unregistered here, length-without slot slots.line, b.few);
    }

-- A front of the line is answered

-- the book once these slots are answered
pub entries-answered : (v : ℕ) (ws : List Waiter) (answers : List (Option ℕ)) (ts : List Registration) → AreUnanswered ws answers → ((slot : ℕ) → owners ts slot ≤ 1) → entries (answered_slots v ws answers) ts ≡ answered_in v (named ts ws) (entries answers ts)
entries-answered v [] answers ts un few = refl
entries-answered v (w ∷ ws) answers ts un few =
    let first = unanswered-first w ws answers un in
    entries-answered v ws (slice_set answers w.0 (Some v)) ts (unanswered-rest v w ws answers un) few
    ∙ ap (answered_in v (named ts ws)) (entries-answer v answers ts w.0 (few w.0) first.0 first.1)

-- what is held is as much as before
pub held-front : (v k : ℕ) (slots : Slots) (slot : ℕ) → IsSound slots → held_times (slots_answered v k slots) slot ≡ held_times slots slot
held-front v k slots slot sound = omega (arith, held-answered v (take k slots.line) slots.answers slot (unanswered-take slots sound k), times-take_drop slot k slots.line)

-- the parts of a list have its length
pub length-take_drop : (k : ℕ) (line : List Waiter) → length (take k line) + length (drop k line) ≡ length line
length-take_drop zero line = omega arith
length-take_drop (suc k) [] = refl
length-take_drop (suc k) (w ∷ line) = omega (arith, length-take_drop k line)

pub front-slots : (v k : ℕ) (slots : Slots) → IsSound slots → held_slots (slots_answered v k slots) ≡ held_slots slots
front-slots v k slots sound = omega (arith, answer_count-answered v (take k slots.line) slots.answers (unanswered-take slots sound k), length-take_drop k slots.line)

pub front-belong : (v k : ℕ) (slots : Slots) (ts : List Registration) → IsSound slots → Belong slots ts → Belong (slots_answered v k slots) ts
front-belong v k slots ts sound b = record {
  owned = λ slot. omega (arith, held-front v k slots slot sound, b.owned slot);
  few = omega (arith, front-slots v k slots sound, b.few);
}

pub front-object : (h : Held) (v k : ℕ) (slots : Slots) (ts : List Registration) → IsSound slots → Belong slots ts
    → object_of (record { held = h; slots = slots_answered v k slots }) ts
    ≡ record (object_of (record { held = h; slots = slots }) ts) { line = drop k (named ts slots.line); book = answered_in v (take k (named ts slots.line)) (entries slots.answers ts) }
front-object h v k slots ts sound b =
    same_object _ _ refl
    (named-drop ts k slots.line)
    (entries-answered v (take k slots.line) slots.answers ts (unanswered-take slots sound k) (λ slot. omega (arith, b.owned slot, held-once slots sound slot)) ∙ ap (λ l. answered_in v l (entries slots.answers ts)) (named-take ts k slots.line))
    (ap (λ n. n - slotted_count ts) (front-slots v k slots sound))
    (length-answered_slots v (take k slots.line) slots.answers)

-- How many slots are held

-- an entry out of the line holds its slot, answered or not
pub holds_slot-answer : (a : Option ℕ) (r : Request) (m : Bool) → holds_slot (slot_entry a r m) ≡ true
holds_slot-answer None r m = refl
holds_slot-answer (Some v) r m = refl

-- the entry of a ticket that belongs to the core holds a slot where the ticket has one
pub holds_slot-entry : (answers : List (Option ℕ)) (t : Registration) → holds_slot (entry_of answers t) ≡ is_slotted t
holds_slot-entry answers Unregistered = refl
holds_slot-entry answers (AtOnce v r m) = refl
holds_slot-entry answers (InSlot slot r m) = holds_slot-answer (answer_in answers slot) r m

-- the slots of the book are the tickets' slots
pub slots_in-entries : (answers : List (Option ℕ)) (ts : List Registration) → slots_in (entries answers ts) ≡ slotted_count ts
slots_in-entries answers [] = refl
slots_in-entries answers (t ∷ ts) = omega (arith, slots_in-entries answers ts, ap one_if (holds_slot-entry answers t))

-- as many slots are used in the object as are held in the core
pub used-object : (c : Core) (ts : List Registration) → Belong c.slots ts → used (object_of c ts) ≡ held_slots c.slots
used-object c ts b = omega (arith, slots_in-entries c.slots.answers ts, b.few)

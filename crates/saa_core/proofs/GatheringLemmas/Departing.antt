-- Tickets that leave a gate quietly, case by case.
use Rattle.std.proofs.Common.{◌≡◌, ℕ, ◌<◌, Bool, true, false, List, Option, Some, None, is_some, nat_lt, refl, sym, ap, ◌∙◌, arith}
use Rattle.std.proofs.lemmas.Bool.Decides.{nat_tests}
use Rattle.std.specs.Bool.{OnTrue, OnFalse}
use Rattle.std.proofs.Common.{drop, ◌⊎◌, inl, inr, [], zero, suc, ◌∷◌}
use Rattle.saa_core_spec.specs.declared.gate.State.{State}
use Rattle.saa_core_spec.specs.declared.request.Request.{Request}
use Rattle.saa_core_spec.specs.Held.{Held, OfGate}
use Rattle.saa_core_spec.specs.Object.{Waiting, Waiter, one_if, times, without}
use Rattle.saa_core_spec.proofs.Counts.{number_same}
use Rattle.saa_core.specs.Slots.{Slots, answer_in, held_times, IsSound}
use Rattle.saa_core.specs.declared.ticket.Registration.TheVariants.{Unregistered, AtOnce, InSlot}
use Rattle.saa_core.specs.Tickets.{Core, StepsWithTicket, object_of, slot_entry, leaving}
use Rattle.saa_core.specs.GateInvariant.{IsGateOf}
use Rattle.saa_core.specs.GatheringParts.{vacated, vacated_by}
use Rattle.saa_core.proofs.TicketLemmas.Naming.{entry-at, owner-here}
use Rattle.saa_core.proofs.TicketLemmas.Steps.{slots_left, slots_taken, leave-object, leave-belong}
use Rattle.saa_core.proofs.TicketLemmas.Polls.{after}
use Rattle.saa_core.proofs.TicketLemmas.Leaving.{leaving-dropping, withdrawn-by, withdrawn-answered}
use Rattle.saa_core.proofs.GatheringLemmas.Gathering.{cancel_at_once, cancel_answered}
use Rattle.saa_core.proofs.GatheringLemmas.Entering.{gives_up}

-- a ticket that a gate answered at once
pub leave_at_once : (state : State) (slots : Slots) (v : ℕ) (r : Request) (m : Bool)
    → StepsWithTicket (record { held = OfGate state; slots = slots }) (record { held = OfGate state; slots = slots }) (AtOnce v r m) Unregistered leaving tt
leave_at_once state slots v r m =
    let c : Core = record { held = OfGate state; slots = slots } in
    leaving-dropping c c (AtOnce v r m) Unregistered
    (λ ts name here. withdrawn-answered (object_of c ts) name v r m false (entry-at slots.answers ts name (AtOnce v r m) here))
    (cancel_at_once (OfGate state) _ slots v r m (gives_up state))

-- a ticket that a gate answered out of the line
leave_answered : (state : State) (slots : Slots) (slot v : ℕ) (r : Request) (m : Bool) → IsSound slots → answer_in slots.answers slot ≡ Some v
    → StepsWithTicket (record { held = OfGate state; slots = slots }) (record { held = OfGate state; slots = slots_taken slots slot }) (InSlot slot r m) Unregistered leaving tt
leave_answered state slots slot v r m sound there =
    let c : Core = record { held = OfGate state; slots = slots } in
    leaving-dropping c (record { held = OfGate state; slots = slots_taken slots slot }) (InSlot slot r m) Unregistered
    (λ ts name here.
    withdrawn-answered (object_of c ts) name v r m true
    (entry-at slots.answers ts name (InSlot slot r m) here ∙ ap (λ x. slot_entry x r m) there))
    (cancel_answered (OfGate state) _ slots slot v r m (gives_up state) sound there)

-- a ticket that waits at a gate: all others stay as they are
leave_waiting : (state : State) (slots : Slots) (slot : ℕ) (r : Request) (m : Bool) → IsSound slots → answer_in slots.answers slot ≡ None → 0 < times slot slots.line
    → StepsWithTicket (record { held = OfGate state; slots = slots }) (record { held = OfGate state; slots = slots_left slots slot }) (InSlot slot r m) Unregistered leaving tt
leave_waiting state slots slot r m sound none waits = record {
  acts = λ ts name here b.
      let c : Core = record { held = OfGate state; slots = slots } in (
        ap (after tt) (withdrawn-by (object_of c ts) name (Waiting r m) (entry-at slots.answers ts name (InSlot slot r m) here ∙ ap (λ x. slot_entry x r m) none)
            ∙ sym (leave-object (OfGate state) slots ts name slot r m here waits sound b)),
        leave-belong slots ts name slot r m here waits sound b,
      );
}

-- a ticket whose slot isn't held doesn't belong to the core
leave_foreign : (c new : Core) (slot : ℕ) (r : Request) (m : Bool) → held_times c.slots slot ≡ 0 → StepsWithTicket c new (InSlot slot r m) Unregistered leaving tt
leave_foreign c new slot r m free = record {
  acts = λ ts name here b.
      absurd (omega (arith, owner-here ts name (InSlot slot r m) slot here (number_same slot), b.owned slot));
}

-- a ticket with a slot, by what is known of it
leave_in_slot_by : (state : State) (slots : Slots) (slot : ℕ) (r : Request) (m : Bool) (a : Option ℕ) (waits : Bool) → IsSound slots
    → answer_in slots.answers slot ≡ a → nat_lt 0 (times slot slots.line) ≡ waits
    → StepsWithTicket (record { held = OfGate state; slots = slots }) (record { held = OfGate state; slots = vacated_by (λ s. s) slots slot a waits }) (InSlot slot r m) Unregistered leaving tt
leave_in_slot_by state slots slot r m (Some v) waits sound there line = leave_answered state slots slot v r m sound there
leave_in_slot_by state slots slot r m None true sound there line =
    let some : 0 < times slot slots.line = grind (arith, nat_tests) in
    leave_waiting state slots slot r m sound there some
leave_in_slot_by state slots slot r m None false sound there line =
    let none : times slot slots.line ≡ 0 = grind (arith, nat_tests) in
    let free : held_times slots slot ≡ 0 = omega (arith, none, ap (λ x. one_if (is_some x)) there) in
    leave_foreign (record { held = OfGate state; slots = slots }) (record { held = OfGate state; slots = slots }) slot r m free

-- a ticket of a gate with a slot: by the answer of the slot, and whether it waits
pub leave_in_slot : (state : State) (slots : Slots) (slot : ℕ) (r : Request) (m : Bool) → IsSound slots
    → StepsWithTicket (record { held = OfGate state; slots = slots }) (record { held = OfGate state; slots = vacated (λ s. s) slots slot }) (InSlot slot r m) Unregistered leaving tt
leave_in_slot state slots slot r m sound =
    leave_in_slot_by state slots slot r m (answer_in slots.answers slot) (nat_lt 0 (times slot slots.line)) sound refl refl

-- nobody is left of nobody
dropped-nobody : (k : ℕ) (line : List Waiter) → line ≡ [] → drop k line ≡ []
dropped-nobody zero line none = none
dropped-nobody (suc k) [] none = refl
dropped-nobody (suc k) (waiter ∷ line) none = cc

-- where a gate isn't controlled nobody waits once the oldest have left
pub gate_of-front : (held : Held) (k : ℕ) (line : List Waiter) → IsGateOf held line → IsGateOf held (drop k line)
gate_of-front held k line is = elim is [
  | inl controlled ↦ inl controlled
  | inr none ↦ inr (dropped-nobody k line none)
]

-- nor once a slot has left, if it waited
pub gate_of-left : (held : Held) (waited : Bool) (old new : Slots) (slot : ℕ)
    → OnTrue waited (new ≡ record old { line = without slot old.line }) → OnFalse waited (new ≡ old)
    → IsGateOf held old.line → IsGateOf held new.line
gate_of-left held true old new slot left same is = elim is [
  | inl controlled ↦ inl controlled
  | inr none ↦ inr (ap (λ (s : Slots). s.line) left ∙ ap (without slot) none)
]
gate_of-left held false old new slot left same is = rw same is

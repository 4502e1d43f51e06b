-- Answering all waiters: of a core with its tickets it is answering all of the object, whatever is held then.
use Rattle.std.proofs.Common.{◌≡◌, ℕ, List, [], length, take, drop, sym, ap, subst, ◌∙◌}
use Rattle.std.proofs.Math.Seq.{take-length, drop-length}
use Rattle.saa_core_spec.specs.Held.{Held}
use Rattle.saa_core_spec.specs.Object.{Object, Waiter}
use Rattle.saa_core_spec.specs.Settling.{all_answered, answered_in}
use Rattle.saa_core.specs.Slots.{Slots, answered_slots, pending_after, slots_answered, all_slots_answered, IsSound}
use Rattle.saa_core.specs.declared.ticket.Registration.{Registration}
use Rattle.saa_core.specs.Tickets.{Calls, Belong, object_of, named}
use Rattle.saa_core.proofs.TicketLemmas.Naming.{length-named}
use Rattle.saa_core.proofs.TicketLemmas.Steps.{front-object, front-belong}
use Rattle.saa_core.proofs.TicketLemmas.Polls.{after}

-- to answer as many as wait is to answer all
pub all_answered-front : (v : ℕ) (slots : Slots) → slots_answered v (length slots.line) slots ≡ all_slots_answered v slots
all_answered-front v slots =
    ap (λ (l : List Waiter). record { line = drop (length slots.line) slots.line; answers = answered_slots v l slots.answers; pending_wakes = pending_after l slots.pending_wakes }) (take-length slots.line)
    ∙ ap (λ (l : List Waiter). record { line = l; answers = answered_slots v slots.line slots.answers; pending_wakes = pending_after slots.line slots.pending_wakes }) (drop-length slots.line)

-- answering all of a core is answering all of the object
pub all-object : (h : Held) (v : ℕ) (slots : Slots) (ts : List Registration) → IsSound slots → Belong slots ts
    → all_answered v (object_of (record { held = h; slots = slots }) ts) ≡ object_of (record { held = h; slots = all_slots_answered v slots }) ts
all-object h v slots ts sound b =
    let k : ℕ = length slots.line in
    let names : List Waiter = named ts slots.line in
    let s : Object = object_of (record { held = h; slots = slots }) ts in
    let none : drop k names ≡ [] = ap (λ n. drop n names) (sym (length-named ts slots.line)) ∙ drop-length names in
    let all : take k names ≡ names = ap (λ n. take n names) (sym (length-named ts slots.line)) ∙ take-length names in
    let parts : record s { line = drop k names; book = answered_in v (take k names) s.book } ≡ all_answered v s =
    ap (λ l. record s { line = l; book = answered_in v (take k names) s.book }) none
    ∙ ap (λ l. record s { line = []; book = answered_in v l s.book }) all in
    sym (front-object h v k slots ts sound b ∙ parts)
    ∙ ap (λ (t : Slots). object_of (record { held = h; slots = t }) ts) (all_answered-front v slots)

-- and the tickets belong to it still
pub all-belong : (v : ℕ) (slots : Slots) (ts : List Registration) → IsSound slots → Belong slots ts → Belong (all_slots_answered v slots) ts
all-belong v slots ts sound b = subst (λ (s : Slots). Belong s ts) (all_answered-front v slots) (front-belong v (length slots.line) slots ts sound b)

-- a call that answers all waiters, and says how many those were
pub all_calls : {A : Type 0} (h new : Held) (v : ℕ) (slots : Slots) (tell : ℕ → A) → IsSound slots
    → Calls (record { held = h; slots = slots }) (record { held = new; slots = all_slots_answered v slots })
    (λ s. record { state = all_answered v (record s { held = new }); reply = tell (length s.line) }) (tell (length slots.line))
all_calls h new v slots tell sound = record {
  calls = λ ts b. (
    ap (λ (s : Object). after (tell (length (named ts slots.line))) s) (all-object new v slots ts sound b)
        ∙ ap (λ n. after (tell n) (object_of (record { held = new; slots = all_slots_answered v slots }) ts)) (length-named ts slots.line),
    all-belong v slots ts sound b,
  );
}

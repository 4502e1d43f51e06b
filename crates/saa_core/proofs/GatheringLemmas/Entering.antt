-- The gate: what a call that enters is answered, what its calls do, and what happens when a waiter leaves.
use Rattle.std.proofs.Common.{◌≡◌, ℕ, ◌≤◌, Bool, true, List, length, min, Some, None, Ok, refl, sym, ap, ◌∙◌}
use Rattle.saa_core_spec.specs.declared.request.Request.TheVariants.{Enter}
use Rattle.saa_core_spec.specs.declared.gate.State.{State}
use Rattle.saa_core_spec.specs.declared.gate.State.TheVariants.{Controlled, Sealed, Open}
use Rattle.saa_core_spec.specs.declared.gate.GateAnswer.TheVariants.{Answered, Moved}
use Rattle.saa_core_spec.specs.Held.{OfGate}
use Rattle.saa_core_spec.specs.Object.{Object}
use Rattle.saa_core_spec.specs.Asking.{registered, answer_at_once, answer_in}
use Rattle.saa_core_spec.specs.Values.{spurious_value, sealed_value, opened_value, permitted_value}
use Rattle.saa_core_spec.specs.Gate.{gate_state, let_through, front_permitted, let_front_through, moved}
use Rattle.saa_core.specs.Slots.{Slots, slots_answered, all_slots_answered, IsSound}
use Rattle.saa_core.specs.declared.ticket.Registration.{Registration}
use Rattle.saa_core.specs.declared.ticket.Registration.TheVariants.{Unregistered, AtOnce}
use Rattle.saa_core.specs.Tickets.{Core, StepsWithTicket, Calls, object_of, named}
use Rattle.saa_core.proofs.TicketLemmas.Naming.{length-named}
use Rattle.saa_core.proofs.TicketLemmas.Steps.{front-object, front-belong}
use Rattle.saa_core.proofs.TicketLemmas.Polls.{after}
use Rattle.saa_core.specs.GateParts.{answer_by_state}
use Rattle.saa_core.proofs.GatheringLemmas.Gathering.{Gathers, register_answered}
use Rattle.saa_core.proofs.TicketLemmas.Answering.{all-object, all-belong, all_calls}

-- a call that enters a sealed or an open gate is answered so
enter_answer : (state : State) (v : ℕ) (s : Object) → s.held ≡ OfGate state → answer_by_state state ≡ Some v → answer_at_once s Enter ≡ Some (after v s)
enter_answer Controlled v s is answered = cc
enter_answer Sealed v s is answered = let same : sealed_value ≡ v = cc in ap (λ h. answer_in s h Enter) is ∙ ap (λ n. Some (after n s)) same
enter_answer Open v s is answered = let same : opened_value ≡ v = cc in ap (λ h. answer_in s h Enter) is ∙ ap (λ n. Some (after n s)) same

pub enter_answered : (state : State) (slots : Slots) (v : ℕ) (m : Bool) → answer_by_state state ≡ Some v
    → StepsWithTicket (record { held = OfGate state; slots = slots }) (record { held = OfGate state; slots = slots })
    Unregistered (AtOnce v Enter m) (λ s name. registered s name Enter m) (Ok true)
enter_answered state slots v m answered =
    let c : Core = record { held = OfGate state; slots = slots } in
    register_answered c c v Enter m refl (λ ts b. enter_answer state v (object_of c ts) refl answered) (λ ts b. b)

-- a call that enters another gate waits
pub enter_waits : (state : State) (slots : Slots) → answer_by_state state ≡ None
    → (ts : List Registration) → answer_at_once (object_of (record { held = OfGate state; slots = slots }) ts) Enter ≡ None
enter_waits Controlled slots none ts = refl
enter_waits Sealed slots none ts = cc
enter_waits Open slots none ts = cc

-- all others are answered that somebody gave up when a waiter leaves
pub gives_up : (state : State) → Gathers (OfGate state) (all_slots_answered spurious_value)
gives_up state = record {
  undone = λ s r. refl;
  left = λ slots ts sound b. all-object (OfGate state) spurious_value slots ts sound b;
  belong = λ slots ts sound b. all-belong spurious_value slots ts sound b;
}

-- a controlled gate answers all waiters
pub let_through_calls : (v : ℕ) (slots : Slots) → IsSound slots
    → Calls (record { held = OfGate Controlled; slots = slots }) (record { held = OfGate Controlled; slots = all_slots_answered v slots })
    (λ s. let_through s v (gate_state s.held)) (Answered (Ok (length slots.line)))
let_through_calls v slots sound = record {
  calls = λ ts b. (all_calls (OfGate Controlled) (OfGate Controlled) v slots (λ n. Answered (Ok n)) sound).calls ts b;
}

-- a controlled gate permits its oldest waiters, as many as are asked for
pub let_front_through_calls : (n : ℕ) (slots : Slots) → IsSound slots
    → Calls (record { held = OfGate Controlled; slots = slots }) (record { held = OfGate Controlled; slots = slots_answered permitted_value (min n (length slots.line)) slots })
    (λ s. let_front_through s n (gate_state s.held)) (Answered (Ok (min n (length slots.line))))
let_front_through_calls n slots sound = record {
  calls = λ ts b.
      let s : Object = object_of (record { held = OfGate Controlled; slots = slots }) ts in
      let k : ℕ = min n (length slots.line) in (
        ap (λ j. after (Answered (Ok (min n j))) (front_permitted (min n j) s)) (length-named ts slots.line)
            ∙ ap (λ (t : Object). after (Answered (Ok k)) t) (sym (front-object (OfGate Controlled) permitted_value k slots ts sound b)),
        front-belong permitted_value k slots ts sound b,
      );
}

-- a gate goes to another state, and answers all waiters
pub moved_calls : (from to : State) (v : ℕ) (slots : Slots) → IsSound slots
    → Calls (record { held = OfGate from; slots = slots }) (record { held = OfGate to; slots = all_slots_answered v slots })
    (λ s. moved s to v) (Moved from (length slots.line))
moved_calls from to v slots sound = record {
  calls = λ ts b. (all_calls (OfGate from) (OfGate to) v slots (λ n. Moved from n) sound).calls ts b;
}

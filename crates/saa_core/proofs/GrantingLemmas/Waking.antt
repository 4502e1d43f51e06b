-- The wakes that are owed after each step of a core that grants.
use Rattle.std.proofs.Common.{◌≡◌, ℕ, ◌<◌, Bool, true, false, ◌==◌, Option, Some, None, nat_lt, refl, arith, inl, inr}
use Rattle.std.proofs.lemmas.Bool.Decides.{nat_tests}
use Rattle.saa_core_spec.specs.declared.request.Request.{Request}
use Rattle.saa_core_spec.specs.Held.{Held, less}
use Rattle.saa_core_spec.specs.Object.{times, without}
use Rattle.saa_core_spec.specs.Settling.{fitting_front}
use Rattle.saa_core_spec.specs.Polling.{is_for_nothing}
use Rattle.saa_core_spec.specs.Values.{granted_value}
use Rattle.saa_core.specs.Slots.{answer_in, IsSound, WakesAnswered}
use Rattle.saa_core.specs.Tickets.{Core}
use Rattle.saa_core.proofs.TicketLemmas.Steps.{slots_taken}
use Rattle.saa_core.proofs.TicketLemmas.Waking.{wakes-same, wakes-front, wakes-taken, wakes-left_front, sound-taken}
use Rattle.saa_core.specs.CoreParts.{core_settled, core_given, core_given_of, core_undone, core_vacated, core_vacated_by}
use Rattle.saa_core_spec.proofs.Counts.{bool_cases}

-- settling owes a wake to each waiter that it grants
pub wakes-settled : (c : Core) → IsSound c.slots → WakesAnswered c.slots (core_settled c).slots
unfolding core_settled
wakes-settled c sound = wakes-front 0 (fitting_front c.held c.slots.line) c.slots sound

-- and so does settling behind a slot that left
pub wakes-settled_left : (c : Core) (slot : ℕ) → IsSound c.slots → 0 < times slot c.slots.line
    → WakesAnswered c.slots (core_settled (record c { slots = record c.slots { line = without slot c.slots.line } })).slots
unfolding core_settled
wakes-settled_left c slot sound waits = wakes-left_front 0 (fitting_front c.held (without slot c.slots.line)) c.slots slot sound waits

-- giving back owes a wake to each waiter that it grants
wakes-given_of : (c : Core) (nothing : Bool) (rest : Option Held) → IsSound c.slots → WakesAnswered c.slots (core_given_of c nothing rest).slots
wakes-given_of c true rest sound = wakes-same c.slots sound
wakes-given_of c false (Some rest) sound = wakes-settled (record c { held = rest }) sound
wakes-given_of c false None sound = wakes-same c.slots sound

pub wakes-given : (c : Core) (r : Request) → IsSound c.slots → WakesAnswered c.slots (core_given c r).slots
wakes-given c r sound = wakes-given_of c (is_for_nothing r) (less c.held r) sound

-- and so does undoing an answer
pub wakes-undone : (c : Core) (v : ℕ) (r : Request) → IsSound c.slots → WakesAnswered c.slots (core_undone c v r).slots
wakes-undone c v r sound =
    elim (bool_cases (v == granted_value)) [
      | inl e ↦ rw e (wakes-given c r sound)
      | inr e ↦ rw e (wakes-same c.slots sound)
    ]

-- a slot that is freed owes a wake to each waiter that this grants
wakes-vacated_by : (c : Core) (slot : ℕ) (r : Request) (answer : Option ℕ) (waits : Bool) → IsSound c.slots
    → answer_in c.slots.answers slot ≡ answer → nat_lt 0 (times slot c.slots.line) ≡ waits → WakesAnswered c.slots (core_vacated_by c slot r answer waits).slots
wakes-vacated_by c slot r (Some v) waits sound there is =
    wakes-taken c.slots _ slot (wakes-undone (record c { slots = slots_taken c.slots slot }) v r (sound-taken c.slots slot v sound there))
wakes-vacated_by c slot r None true sound there is = wakes-settled_left c slot sound (grind (arith, nat_tests))
wakes-vacated_by c slot r None false sound there is = wakes-same c.slots sound

pub wakes-vacated : (c : Core) (slot : ℕ) (r : Request) → IsSound c.slots → WakesAnswered c.slots (core_vacated c slot r).slots
wakes-vacated c slot r sound = wakes-vacated_by c slot r (answer_in c.slots.answers slot) (nat_lt 0 (times slot c.slots.line)) sound refl refl

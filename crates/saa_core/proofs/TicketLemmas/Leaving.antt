-- Tickets that leave quietly: as those that are dropped, but for who waits at a gate.
use Rattle.std.proofs.Common.{◌≡◌, ℕ, Bool, List, Some, slice_get, sym, ap, ◌∙◌}
use Rattle.saa_core_spec.specs.declared.gate.State.{State}
use Rattle.saa_core_spec.specs.declared.request.Request.{Request}
use Rattle.saa_core_spec.specs.Held.{OfGate}
use Rattle.saa_core_spec.specs.Object.{Object, Entry, Idle, Answered, entry_at}
use Rattle.saa_core_spec.specs.Polling.{dropped, dropped_of, withdrawn, withdrawn_of}
use Rattle.saa_core_spec.proofs.Leaving.{withdrawn-dropped}
use Rattle.saa_core.specs.declared.ticket.Registration.{Registration}
use Rattle.saa_core.specs.declared.ticket.Registration.TheVariants.{Unregistered}
use Rattle.saa_core.specs.Tickets.{Core, StepsWithTicket, object_of, dropping, leaving}
use Rattle.saa_core.proofs.TicketLemmas.Naming.{entry-at}
use Rattle.saa_core.proofs.TicketLemmas.Polls.{after}
use Rattle.saa_core.proofs.TicketLemmas.Registering.{cancel_idle}

-- a drop is a quiet leave where the object's drop is its withdrawal
pub leaving-dropping : (old new : Core) (t0 t1 : Registration)
    → ((ts : List Registration) (name : ℕ) → slice_get ts name ≡ Some t0 → withdrawn (object_of old ts) name ≡ dropped (object_of old ts) name)
    → StepsWithTicket old new t0 t1 dropping tt → StepsWithTicket old new t0 t1 leaving tt
leaving-dropping old new t0 t1 same steps = record {
  acts = λ ts name here b.
      let step = steps.acts ts name here b in
      (ap (after tt) (same ts name here) ∙ step.0, step.1);
}

-- so at every core that is no gate
pub leaving-elsewhere : (old new : Core) (t0 t1 : Registration) → ((gate : State) → old.held ≡ OfGate gate → ⊥)
    → StepsWithTicket old new t0 t1 dropping tt → StepsWithTicket old new t0 t1 leaving tt
leaving-elsewhere old new t0 t1 no_gate steps =
    leaving-dropping old new t0 t1
    (λ ts name here. withdrawn-dropped (object_of old ts) name (entry_at (object_of old ts).book name) no_gate) steps

-- a name whose entry is known
pub withdrawn-by : (s : Object) (name : ℕ) (e : Entry) → entry_at s.book name ≡ e → withdrawn s name ≡ withdrawn_of s name e
withdrawn-by s name e is = ap (withdrawn_of s name) is

-- one that has its answer is withdrawn as it is dropped
pub withdrawn-answered : (s : Object) (name v : ℕ) (r : Request) (m slotted : Bool) → entry_at s.book name ≡ Answered v r m slotted
    → withdrawn s name ≡ dropped s name
withdrawn-answered s name v r m slotted is = ap (withdrawn_of s name) is ∙ sym (ap (dropped_of s name) is)

-- an idle ticket
pub leave_idle : (c : Core) → StepsWithTicket c c Unregistered Unregistered leaving tt
leave_idle c = leaving-dropping c c Unregistered Unregistered
    (λ ts name here.
    let at : entry_at (object_of c ts).book name ≡ Idle = entry-at c.slots.answers ts name Unregistered here in
    ap (withdrawn_of (object_of c ts) name) at ∙ sym (ap (dropped_of (object_of c ts) name) at))
    (cancel_idle c)

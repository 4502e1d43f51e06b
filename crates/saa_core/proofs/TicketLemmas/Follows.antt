-- Two calls of a core with one ticket, one after the other, as one step of the object.
use Rattle.std.proofs.Common.{◌≡◌, ℕ, suc, zero, List, [], ◌∷◌, slice_set, refl, ap, subst, ◌∙◌}
use Rattle.saa_core.specs.declared.ticket.Registration.{Registration}
use Rattle.saa_core_spec.specs.Object.{Object, After}
use Rattle.saa_core.specs.Tickets.{Core, StepsWithTicket, Belong, object_of}
use Rattle.saa_core.proofs.TicketLemmas.Steps.{slice_get-set}
use Rattle.saa_core.proofs.TicketLemmas.Polls.{after}

-- of two writes to a place the last stands
pub slice_set-set : (ts : List Registration) (name : ℕ) (first second : Registration) → slice_set (slice_set ts name first) name second ≡ slice_set ts name second
slice_set-set [] name first second = refl
slice_set-set (x ∷ ts) zero first second = refl
slice_set-set (x ∷ ts) (suc name) first second = ap (λ us. x ∷ us) (slice_set-set ts name first second)

-- a call is also each step that leads where its own leads
pub then : {A B : Type 0} (old new : Core) (t0 t1 : Registration) (step : Object → ℕ → After A) (whole : Object → ℕ → After B) (a : A) (b : B)
    → ((s next : Object) (name : ℕ) → step s name ≡ after a next → whole s name ≡ after b next)
    → StepsWithTicket old new t0 t1 step a → StepsWithTicket old new t0 t1 whole b
then old new t0 t1 step whole a b leads call = record {
  acts = λ ts name here belong.
      let done = call.acts ts name here belong in
      (leads (object_of old ts) (object_of new (slice_set ts name t1)) name done.0, done.1);
}

-- two calls with one ticket are each step that goes on, where the first leads, as the second does
pub follow : {A B : Type 0} (old mid new : Core) (t0 t1 t2 : Registration) (first : Object → ℕ → After A) (second whole : Object → ℕ → After B) (a : A) (b : B)
    → ((s next : Object) (name : ℕ) → first s name ≡ after a next → whole s name ≡ second next name)
    → StepsWithTicket old mid t0 t1 first a → StepsWithTicket mid new t1 t2 second b → StepsWithTicket old new t0 t2 whole b
follow old mid new t0 t1 t2 first second whole a b leads call later = record {
  acts = λ ts name here belong.
      let one = call.acts ts name here belong in
      let two = later.acts (slice_set ts name t1) name (slice_get-set ts name t0 t1 here) one.1 in
      let last : slice_set (slice_set ts name t1) name t2 ≡ slice_set ts name t2 = slice_set-set ts name t1 t2 in (
        leads (object_of old ts) (object_of mid (slice_set ts name t1)) name one.0 ∙ two.0 ∙ ap (λ us. after b (object_of new us)) last,
        subst (λ us. Belong new.slots us) last two.1,
      );
}

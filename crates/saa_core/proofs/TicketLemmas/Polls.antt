-- The poll of a ticket, case by case, whatever is held.
use Rattle.std.proofs.Common.{◌≡◌, ℕ, suc, zero, Bool, true, false, List, [], ◌∷◌, Option, Some, None, Ok, Err, slice_get, slice_set, refl, sym, ap, subst, ◌∙◌, arith}
use Rattle.saa_core_spec.specs.declared.request.Request.{Request}
use Rattle.saa_core_spec.specs.declared.polling.How.{How}
use Rattle.saa_core_spec.specs.declared.polling.Error.TheVariants.{NotRegistered, WrongMode, NotReady}
use Rattle.saa_core.specs.declared.ticket.Registration.{Registration}
use Rattle.saa_core.specs.declared.ticket.Registration.TheVariants.{Unregistered, AtOnce, InSlot}
use Rattle.saa_core_spec.specs.Held.{Held}
use Rattle.saa_core_spec.specs.Object.{Object, After, Entry, Idle, Waiting, Answered, entry_at}
use Rattle.saa_core_spec.specs.Polling.{is_right_mode, polled, polled_of, polled_in}
use Rattle.saa_core.specs.Slots.{Slots, answer_in, held_times, IsSound}
use Rattle.saa_core.specs.Tickets.{Core, StepsWithTicket, Belong, object_of, slot_entry}
use Rattle.saa_core.proofs.TicketLemmas.Naming.{entry-at, owner-here}
use Rattle.saa_core.proofs.TicketLemmas.Steps.{own-object, own-belong, slots_taken, take-object, take-belong}
use Rattle.saa_core_spec.proofs.Counts.{number_same}

-- what is written where it stands changes nothing
pub set_back : (ts : List Registration) (name : ℕ) (t : Registration) → slice_get ts name ≡ Some t → slice_set ts name t ≡ ts
set_back [] name t here = refl
set_back (x ∷ ts) zero t here = let same : t ≡ x = cc in ap (λ y. y ∷ ts) same
set_back (x ∷ ts) (suc name) t here = ap (λ us. x ∷ us) (set_back ts name t here)

-- a core with tickets, after a step with a reply
abbrev pub after : {A : Type 0} → A → Object → After A
after reply s = record { state = s; reply = reply }

-- a step that leaves the object as it was acts so where core and ticket stay
pub acts_unchanged : {A : Type 0} (c : Core) (t : Registration) (step : Object → ℕ → After A) (reply : A) → ((ts : List Registration) (name : ℕ) → slice_get ts name ≡ Some t → Belong c.slots ts → step (object_of c ts) name ≡ after reply (object_of c ts)) → StepsWithTicket c c t t step reply
acts_unchanged c t step reply same = record {
  acts = λ ts name here b.
      let back : slice_set ts name t ≡ ts = set_back ts name t here in
      (same ts name here b ∙ ap (λ us. after reply (object_of c us)) (sym back), subst (λ us. Belong c.slots us) (sym back) b);
}

-- the poll of a name whose entry is known
poll-by : (s : Object) (name : ℕ) (how : How) (e : Entry) → entry_at s.book name ≡ e → polled s name how ≡ polled_of s name how e
poll-by s name how e is = ap (polled_of s name how) is

-- an idle ticket
pub poll_idle : (how : How) (c : Core) → StepsWithTicket c c Unregistered Unregistered (λ s name. polled s name how) (Err NotRegistered)
poll_idle how c = acts_unchanged c Unregistered _ _ (λ ts name here b. poll-by (object_of c ts) name how Idle (entry-at c.slots.answers ts name Unregistered here))

-- a ticket answered at once, polled in the wrong mode
pub poll_wrong_at_once : (how : How) (c : Core) (v : ℕ) (r : Request) (m : Bool) → is_right_mode how m ≡ false → StepsWithTicket c c (AtOnce v r m) (AtOnce v r m) (λ s name. polled s name how) (Err WrongMode)
poll_wrong_at_once how c v r m wrong = acts_unchanged c (AtOnce v r m) _ _ (λ ts name here b.
    poll-by (object_of c ts) name how (Answered v r m false) (entry-at c.slots.answers ts name (AtOnce v r m) here)
    ∙ ap (polled_in (object_of c ts) name (Answered v r m false)) wrong)

-- a ticket answered at once
pub poll_at_once : (how : How) (c : Core) (v : ℕ) (r : Request) (m : Bool) → is_right_mode how m ≡ true → StepsWithTicket c c (AtOnce v r m) Unregistered (λ s name. polled s name how) (Ok v)
poll_at_once how c v r m right = record {
  acts = λ ts name here b. (
    poll-by (object_of c ts) name how (Answered v r m false) (entry-at c.slots.answers ts name (AtOnce v r m) here)
        ∙ ap (polled_in (object_of c ts) name (Answered v r m false)) right
        ∙ ap (after (Ok v)) (sym (own-object c.held c.slots ts name (AtOnce v r m) Unregistered here refl refl)),
    own-belong c.slots ts name (AtOnce v r m) Unregistered here refl refl b,
  );
}

-- a ticket whose slot isn't held doesn't belong to the core
pub poll_foreign : {A : Type 0} (c : Core) (slot : ℕ) (r : Request) (m : Bool) (new : Core) (t : Registration) (step : Object → ℕ → After A) (reply : A) → held_times c.slots slot ≡ 0 → StepsWithTicket c new (InSlot slot r m) t step reply
poll_foreign c slot r m new t step reply free = record {
  acts = λ ts name here b.
      absurd (omega (arith, owner-here ts name (InSlot slot r m) slot here (number_same slot), b.owned slot));
}

-- the entry of a ticket whose slot has an answer, or none
entry-slot : (c : Core) (ts : List Registration) (name slot : ℕ) (r : Request) (m : Bool) (a : Option ℕ) → slice_get ts name ≡ Some (InSlot slot r m) → answer_in c.slots.answers slot ≡ a → entry_at (object_of c ts).book name ≡ slot_entry a r m
entry-slot c ts name slot r m a here is = entry-at c.slots.answers ts name (InSlot slot r m) here ∙ ap (λ x. slot_entry x r m) is

-- a ticket that waits, polled in the wrong mode
pub poll_wrong_waiting : (how : How) (c : Core) (slot : ℕ) (r : Request) (m : Bool) → answer_in c.slots.answers slot ≡ None → is_right_mode how m ≡ false → StepsWithTicket c c (InSlot slot r m) (InSlot slot r m) (λ s name. polled s name how) (Err WrongMode)
poll_wrong_waiting how c slot r m none wrong = acts_unchanged c (InSlot slot r m) _ _ (λ ts name here b.
    poll-by (object_of c ts) name how (Waiting r m) (entry-slot c ts name slot r m None here none)
    ∙ ap (polled_in (object_of c ts) name (Waiting r m)) wrong)

-- a ticket that waits
pub poll_waiting : (how : How) (c : Core) (slot : ℕ) (r : Request) (m : Bool) → answer_in c.slots.answers slot ≡ None → is_right_mode how m ≡ true → StepsWithTicket c c (InSlot slot r m) (InSlot slot r m) (λ s name. polled s name how) (Err NotReady)
poll_waiting how c slot r m none right = acts_unchanged c (InSlot slot r m) _ _ (λ ts name here b.
    poll-by (object_of c ts) name how (Waiting r m) (entry-slot c ts name slot r m None here none)
    ∙ ap (polled_in (object_of c ts) name (Waiting r m)) right)

-- a ticket that was answered out of the line, polled in the wrong mode
pub poll_wrong_answered : (how : How) (c : Core) (slot v : ℕ) (r : Request) (m : Bool) → answer_in c.slots.answers slot ≡ Some v → is_right_mode how m ≡ false → StepsWithTicket c c (InSlot slot r m) (InSlot slot r m) (λ s name. polled s name how) (Err WrongMode)
poll_wrong_answered how c slot v r m some wrong = acts_unchanged c (InSlot slot r m) _ _ (λ ts name here b.
    poll-by (object_of c ts) name how (Answered v r m true) (entry-slot c ts name slot r m (Some v) here some)
    ∙ ap (polled_in (object_of c ts) name (Answered v r m true)) wrong)

-- a ticket that was answered out of the line: its slot is free again
pub poll_answered : (how : How) (h : Held) (slots : Slots) (slot v : ℕ) (r : Request) (m : Bool) → IsSound slots → answer_in slots.answers slot ≡ Some v → is_right_mode how m ≡ true → StepsWithTicket (record { held = h; slots = slots }) (record { held = h; slots = slots_taken slots slot }) (InSlot slot r m) Unregistered (λ s name. polled s name how) (Ok v)
poll_answered how h slots slot v r m sound some right = record {
  acts = λ ts name here b.
      let c : Core = record { held = h; slots = slots } in (
        poll-by (object_of c ts) name how (Answered v r m true) (entry-slot c ts name slot r m (Some v) here some)
            ∙ ap (polled_in (object_of c ts) name (Answered v r m true)) right
            ∙ ap (after (Ok v)) (sym (take-object h slots ts name slot v r m here some sound b)),
        take-belong slots ts name slot v r m here some b,
      );
}

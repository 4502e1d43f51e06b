-- What a registration says of its ticket, read off what it does to the object of the core with that ticket alone.
use Rattle.std.proofs.Common.{◌≡◌, ℕ, ◌||◌, ◌==◌, not, List, [], ◌∷◌, Option, Some, None, Result, Ok, Err, IfOk, Bool, true, false, slice_set, refl, sym, ap, subst, ◌∙◌, arith}
use Rattle.saa_core_spec.specs.declared.request.Request.{Request}
use Rattle.saa_core_spec.specs.declared.request.Full.{Full}
use Rattle.saa_core.specs.declared.ticket.Registration.{Registration}
use Rattle.saa_core.specs.declared.ticket.Registration.TheVariants.{Unregistered, AtOnce, InSlot}
use Rattle.saa_core_spec.specs.Asking.{registered, registered_of, answer_at_once, is_idle}
use Rattle.saa_core_spec.specs.Held.{asks_too_much}
use Rattle.saa_core_spec.specs.Object.{Object, After, Entry, Idle, Waiting, Answered, entry_at, used}
use Rattle.saa_core.specs.Slots.{Slots, WakesAnswered, answer_in}
use Rattle.saa_core.specs.Tickets.{Core, StepsWithTicket, Belong, entry_of, slot_entry, is_yes, object_of}
use Rattle.saa_core.specs.Beginning.{BeginWakes, alone, mode_of}

-- an entry's mode; an idle one has none
abbrev pub entry_mode : Entry → Option Bool
entry_mode Idle = None
entry_mode (Waiting request is_sync) = Some is_sync
entry_mode (Answered value request is_sync slotted) = Some is_sync

slot-mode : (answer : Option ℕ) (request : Request) (is_sync : Bool) → entry_mode (slot_entry answer request is_sync) ≡ Some is_sync
slot-mode None request is_sync = refl
slot-mode (Some value) request is_sync = refl

-- a ticket's entry has the ticket's mode
entry-mode : (answers : List (Option ℕ)) (ticket : Registration) → entry_mode (entry_of answers ticket) ≡ mode_of ticket
entry-mode answers Unregistered = refl
entry-mode answers (AtOnce value request is_sync) = refl
entry-mode answers (InSlot slot request is_sync) = slot-mode (answer_in answers slot) request is_sync

-- what was written at the first place of a list of one
set-one : (book : List Entry) (written one : Entry) → slice_set book 0 written ≡ one ∷ [] → one ≡ written
set-one [] written one is = cc
set-one (x ∷ xs) written one is = cc

-- a true registration of the only name leaves an entry of its mode
registered-entry : (s : Object) (request : Request) (is_sync is_refused : Bool) (answer : Option (After ℕ)) (is_full : Bool) (next : Object) (one : Entry)
    → registered_of s 0 request is_sync is_refused answer is_full ≡ record { state = next; reply = Ok true } → next.book ≡ one ∷ [] → entry_mode one ≡ Some is_sync
registered-entry s request is_sync true answer is_full next one call book =
    let no : ◌≡◌ {A = Result Bool Full} (Ok false) (Ok true) = ap (λ a. a.reply) call in cc
registered-entry s request is_sync false (Some after) is_full next one call book =
    ap entry_mode (set-one after.state.book (Answered after.reply request is_sync false) one (ap (λ a. a.state.book) call ∙ book))
registered-entry s request is_sync false None true next one call book =
    let no : ◌≡◌ {A = Result Bool Full} (Err (record {})) (Ok true) = ap (λ a. a.reply) call in cc
registered-entry s request is_sync false None false next one call book =
    ap entry_mode (set-one s.book (Waiting request is_sync) one (ap (λ a. a.state.book) call ∙ book))

-- an idle ticket belongs to any core
idle-belongs : (slots : Slots) → Belong slots (Unregistered ∷ [])
idle-belongs slots = record {
  owned = λ slot. omega arith;
  few = omega arith;
}

-- a call with an idle ticket answers what its step of the core with that ticket alone does
pub reply-alone : {A : Type 0} (old new : Core) (ticket : Registration) (step : Object → ℕ → After A) (reply : A)
    → StepsWithTicket old new Unregistered ticket step reply → reply ≡ (step (alone old) 0).reply
reply-alone old new ticket step reply call =
    sym (ap (λ a. a.reply) (call.acts (Unregistered ∷ []) 0 refl (idle-belongs old.slots)).0)

-- a call that isn't refused is registered, or finds the room full
never-false : (s : Object) (request : Request) (is_sync : Bool) (answer : Option (After ℕ)) (is_full : Bool)
    → IfOk (registered_of s 0 request is_sync false answer is_full).reply (λ is_registered. is_registered ≡ true)
never-false s request is_sync (Some after) is_full = refl
never-false s request is_sync None true = tt
never-false s request is_sync None false = refl

-- an idle ticket that asks for no more than there ever is is registered, or finds the room full
pub registered-or-full : (old new : Core) (ticket : Registration) (request : Request) (is_sync : Bool) (reply : Result Bool Full) → asks_too_much old.held request ≡ false
    → StepsWithTicket old new Unregistered ticket (λ s name. registered s name request is_sync) reply → IfOk reply (λ is_registered. is_registered ≡ true)
registered-or-full old new ticket request is_sync reply small call =
    let same : reply ≡ (registered_of (alone old) 0 request is_sync false (answer_at_once (alone old) request) (used (alone old) == (alone old).room)).reply =
    reply-alone old new ticket (λ s name. registered s name request is_sync) reply call
    ∙ ap (λ b. (registered_of (alone old) 0 request is_sync b (answer_at_once (alone old) request) (used (alone old) == (alone old).room)).reply) small in
    subst (λ r. IfOk r (λ is_registered. is_registered ≡ true)) (sym same)
    (never-false (alone old) request is_sync (answer_at_once (alone old) request) (used (alone old) == (alone old).room))

yes-mode : (old new : Core) (ticket : Registration) (request : Request) (is_sync : Bool)
    → StepsWithTicket old new Unregistered ticket (λ s name. registered s name request is_sync) (Ok true) → mode_of ticket ≡ Some is_sync
yes-mode old new ticket request is_sync call =
    sym (entry-mode new.slots.answers ticket)
    ∙ registered-entry (alone old) request is_sync (not (is_idle (entry_at (alone old).book 0)) || asks_too_much old.held request) (answer_at_once (alone old) request) (used (alone old) == (alone old).room) (object_of new (ticket ∷ [])) (entry_of new.slots.answers ticket)
    (call.acts (Unregistered ∷ []) 0 refl (idle-belongs old.slots)).0 refl

-- an idle ticket that was registered has the mode that was asked for
pub registered-mode : (old new : Core) (ticket : Registration) (request : Request) (is_sync : Bool) (reply : Result Bool Full) → is_yes reply ≡ true
    → StepsWithTicket old new Unregistered ticket (λ s name. registered s name request is_sync) reply → mode_of ticket ≡ Some is_sync
registered-mode old new ticket request is_sync (Ok true) is call = yes-mode old new ticket request is_sync call
registered-mode old new ticket request is_sync (Ok false) is call = cc
registered-mode old new ticket request is_sync (Err full) is call = cc

-- what a registration owes that isn't polled
pub registers-owes : (old new : Core) (ticket ticket_new : Registration) (request : Request) (is_sync : Bool) (answer : Result Bool Full)
    → StepsWithTicket old new ticket ticket_new (λ s name. registered s name request is_sync) answer → WakesAnswered old.slots new.slots → BeginWakes old new ticket request is_sync answer
registers-owes old new ticket ticket_new request is_sync answer call owes = record {
  between = new;
  ticket_between = ticket_new;
  registration = call;
  wakes = owes;
  pending_wakes = refl;
}

-- what a registration that was answered true and then polled owes
pub begin-wakes : (old between new : Core) (ticket ticket_between : Registration) (request : Request) (is_sync answer : Bool) → answer ≡ true
    → StepsWithTicket old between ticket ticket_between (λ s name. registered s name request is_sync) (Ok answer) → WakesAnswered old.slots between.slots
    → new.slots.pending_wakes ≡ between.slots.pending_wakes → BeginWakes old new ticket request is_sync (Ok true)
begin-wakes old between new ticket ticket_between request is_sync answer is call owes same = record {
  between = between;
  ticket_between = ticket_between;
  registration = subst (λ (b : Bool). StepsWithTicket old between ticket ticket_between (λ s name. registered s name request is_sync) (Ok b)) is call;
  wakes = owes;
  pending_wakes = same;
}

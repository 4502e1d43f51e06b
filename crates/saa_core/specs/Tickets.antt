-- A core and the tickets that are registered in it, seen together as the object: the name of a ticket is its
-- place in a list of tickets. The contract of every core call is said over any such list.
use Rattle.std.specs.Prelude.{◌≡◌, ℕ, suc, ◌+◌, ◌-◌, ◌≤◌, Bool, true, false, not, ◌&&◌, if◌then◌else◌, ◌==◌, List, [], ◌∷◌, Option, Some, None, is_some, Result, Ok, Err, slice_get, slice_set}
use Rattle.saa_core_spec.specs.declared.request.Request.{Request}
use Rattle.saa_core.specs.declared.ticket.Registration.{Registration}
use Rattle.saa_core.specs.declared.ticket.Registration.TheVariants.{Unregistered, AtOnce, InSlot}
use Rattle.saa_core_spec.specs.declared.request.Full.{Full}
use Rattle.saa_core_spec.specs.declared.polling.Error.{Error}
use Rattle.saa_core_spec.specs.declared.polling.Error.TheVariants.{NotRegistered}
use Rattle.saa_core_spec.specs.declared.polling.How.{How}
use Rattle.saa_core_spec.specs.Errors.{why_none, is_not_ready, is_refusal, says_not_registered, says_wrong_mode}
use Rattle.saa_core_spec.specs.Held.{Held, asks_too_much}
use Rattle.saa_core_spec.specs.Object.{Object, After, Entry, Idle, Waiting, Answered, Waiter, one_if}
use Rattle.saa_core_spec.specs.Settling.{fitting_front}
use Rattle.saa_core_spec.specs.Polling.{dropped, withdrawn, is_right_mode}
use Rattle.saa_core.specs.Slots.{Slots, answer_in, held_slots, held_times, room_of}

-- what contracts see of a core: what it holds, and its line
pub record Core : Type 0 where
  pub held : Held
  pub slots : Slots

-- a core is settled if nobody in front fits
abbrev pub IsCoreSettled : Core → Type 0
IsCoreSettled core = fitting_front core.held core.slots.line ≡ 0

-- whether a ticket isn't idle
abbrev pub is_busy : Registration → Bool
is_busy Unregistered = false
is_busy (AtOnce value request is_sync) = true
is_busy (InSlot slot request is_sync) = true

-- the slot of a ticket, if it has one
abbrev pub slot_of : Registration → Option ℕ
slot_of Unregistered = None
slot_of (AtOnce value request is_sync) = None
slot_of (InSlot slot request is_sync) = Some slot

-- whether a ticket has this slot
abbrev pub has_slot : Registration → ℕ → Bool
has_slot Unregistered slot = false
has_slot (AtOnce value request is_sync) slot = false
has_slot (InSlot own request is_sync) slot = own == slot

-- whether a ticket has a slot
abbrev pub is_slotted : Registration → Bool
is_slotted Unregistered = false
is_slotted (AtOnce value request is_sync) = false
is_slotted (InSlot slot request is_sync) = true

-- how many of the tickets have this slot
abbrev pub owners : List Registration → ℕ → ℕ
owners [] slot = 0
owners (ticket ∷ tickets) slot = one_if (has_slot ticket slot) + owners tickets slot

-- how many of the tickets have a slot
abbrev pub slotted_count : List Registration → ℕ
slotted_count [] = 0
slotted_count (ticket ∷ tickets) = one_if (is_slotted ticket) + slotted_count tickets

-- the name of a slot: the place of the ticket that has it, and a name past all tickets where none has it
abbrev pub name_of : List Registration → ℕ → ℕ
name_of [] slot = slot
name_of (ticket ∷ tickets) slot = if has_slot ticket slot then 0 else suc (name_of tickets slot)

-- the line with names in the place of slots
abbrev pub named : List Registration → List Waiter → List Waiter
named tickets [] = []
named tickets (waiter ∷ waiters) = (name_of tickets waiter.0, waiter.1) ∷ named tickets waiters

-- a ticket's entry in the book, by the answer of its slot
abbrev pub slot_entry : Option ℕ → Request → Bool → Entry
slot_entry None request is_sync = Waiting request is_sync
slot_entry (Some value) request is_sync = Answered value request is_sync true

abbrev pub entry_of : List (Option ℕ) → Registration → Entry
entry_of answers Unregistered = Idle
entry_of answers (AtOnce value request is_sync) = Answered value request is_sync false
entry_of answers (InSlot slot request is_sync) = slot_entry (answer_in answers slot) request is_sync

-- the entry of each ticket
abbrev pub entries : List (Option ℕ) → List Registration → List Entry
entries answers [] = []
entries answers (ticket ∷ tickets) = entry_of answers ticket ∷ entries answers tickets

-- a core with a list of tickets, as the object. Slots that none of the tickets has are held outside
abbrev pub object_of : Core → List Registration → Object
object_of core tickets = record {
  held = core.held;
  line = named tickets core.slots.line;
  book = entries core.slots.answers tickets;
  outside = held_slots core.slots - slotted_count tickets;
  room = room_of core.slots;
}

-- Each of the tickets is used with the core that it was registered in: a slot that tickets have is held there,
-- no two of them have one slot, and so no more of them have slots than are held
pub record Belong (slots : Slots) (tickets : List Registration) : Type 0 where
  pub owned : (slot : ℕ) → owners tickets slot ≤ held_times slots slot
  pub few : slotted_count tickets ≤ held_slots slots

-- A call with a ticket is this step of the object, with any tickets that belong to the core, of which it is
-- one, under any name; and they still belong to it
pub record StepsWithTicket {A : Type 0} (old new : Core) (ticket_old ticket_new : Registration) (step : Object → ℕ → After A) (reply : A) : Type 0 where
  pub acts : (tickets : List Registration) (name : ℕ) → slice_get tickets name ≡ Some ticket_old → Belong old.slots tickets
      → (◌≡◌ {A = After A} (step (object_of old tickets) name) (record { state = object_of new (slice_set tickets name ticket_new); reply = reply }))
      × Belong new.slots (slice_set tickets name ticket_new)

-- a call without a ticket is this step of the object, with any tickets that belong to the core; and they still belong
pub record Calls {A : Type 0} (old new : Core) (step : Object → After A) (reply : A) : Type 0 where
  pub calls : (tickets : List Registration) → Belong old.slots tickets
      → (◌≡◌ {A = After A} (step (object_of old tickets)) (record { state = object_of new tickets; reply = reply }))
      × Belong new.slots tickets

-- the ticket's slot isn't held in the core: it was registered elsewhere, or is long gone
abbrev pub IsForeign : Slots → Registration → Type 0
IsForeign slots Unregistered = ⊥
IsForeign slots (AtOnce value request is_sync) = ⊥
IsForeign slots (InSlot slot request is_sync) = held_times slots slot ≡ 0

-- the error of a poll's answer, if it says that there is none
abbrev pub fault_of : {V : Type 0} → Result V Error → Option Error
fault_of (Ok value) = None
fault_of (Err error) = why_none error

-- a request that no object of which this holds refuses: it asks for no more than there ever is
abbrev pub IsNeverTooMuch : (Object → Type 0) → Request → Type 0
IsNeverTooMuch Holds request = (s : Object) → Holds s → asks_too_much s.held request ≡ false

-- whether a registration was answered true
abbrev pub is_yes : Result Bool Full → Bool
is_yes (Ok is_registered) = is_registered
is_yes (Err full) = false

-- whether a poll in this way is in the wrong mode: the ticket was registered in the other; an idle ticket has no mode
abbrev pub is_wrong_mode : How → Registration → Bool
is_wrong_mode how Unregistered = false
is_wrong_mode how (AtOnce value request is_sync) = not (is_right_mode how is_sync)
is_wrong_mode how (InSlot slot request is_sync) = not (is_right_mode how is_sync)

-- whether a ticket was answered as it was registered: it has its answer with it, and no slot
abbrev pub is_at_once : Registration → Bool
is_at_once Unregistered = false
is_at_once (AtOnce value request is_sync) = true
is_at_once (InSlot slot request is_sync) = false

-- A poll in this way that answered with this error, or with none, in the ticket's own terms. The ticket is registered
-- afterwards exactly where it was before and the poll had an error; then it is unchanged. An idle ticket isn't
-- registered. In the wrong mode there is no answer, and the error says so, or that the ticket isn't registered there;
-- in the right mode no error speaks of the mode. A ticket that was answered at once is registered wherever it is
-- polled, and has its answer: so its one error is that of the mode
pub record Polled (old new : Registration) (how : How) (fault : Option Error) : Type 0 where
  pub registered : is_busy new ≡ (is_busy old && is_some fault)
  pub idle : is_busy old ≡ false → fault ≡ Some NotRegistered
  pub same : is_some fault ≡ true → new ≡ old
  pub wrong : is_wrong_mode how old ≡ true → is_refusal fault ≡ true
  pub right : is_wrong_mode how old ≡ false → says_wrong_mode fault ≡ false
  pub known : is_at_once old ≡ true → says_not_registered fault ≡ false
  pub there : is_at_once old ≡ true → is_not_ready fault ≡ false

-- the answer of a poll is one that the ticket can have: an idle one has none, one that was answered at once has its answer
-- with it, and what the slot of another has is the core's to say
abbrev pub HasAnswer : Registration → Result ℕ Error → Type 0
HasAnswer ticket (Err error) = Unit {0}
HasAnswer Unregistered (Ok value) = ⊥
HasAnswer (AtOnce kept request is_sync) (Ok value) = value ≡ kept
HasAnswer (InSlot slot request is_sync) (Ok value) = Unit {0}

-- dropping a name as a step of the object
abbrev pub dropping : Object → ℕ → After (Unit {0})
dropping s name = record { state = dropped s name; reply = tt }

-- withdrawing a name as a step of the object
abbrev pub leaving : Object → ℕ → After (Unit {0})
leaving s name = record { state = withdrawn s name; reply = tt }

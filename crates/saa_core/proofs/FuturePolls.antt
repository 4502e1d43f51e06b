-- The polls of a future as one step of the object.
use Rattle.std.proofs.Common.{◌≡◌, ℕ, Result, Ok, Err, Option, Some, None, is_some, [], ◌∷◌, Bool, true, false, refl, ap, subst, arith}
use Rattle.saa_core_spec.specs.declared.request.Request.{Request}
use Rattle.saa_core_spec.specs.declared.request.Full.{Full}
use Rattle.saa_core_spec.specs.declared.polling.Error.{Error}
use Rattle.saa_core_spec.specs.declared.polling.How.TheVariants.{Async}
use Rattle.saa_core.specs.declared.ticket.Registration.{Registration}
use Rattle.saa_core.specs.declared.ticket.Registration.TheVariants.{Unregistered, AtOnce, InSlot}
use Rattle.saa_core_spec.specs.Asking.{registered}
use Rattle.saa_core_spec.specs.Polling.{polled, read_as}
use Rattle.saa_core.specs.Tickets.{Core, StepsWithTicket, Belong, is_busy, slot_of}
use Rattle.saa_core.specs.Beginning.{mode_of}
use Rattle.saa_core.proofs.TicketLemmas.Follows.{follow, then}
use Rattle.saa_core.specs.declared.future.Progress.{Progress}
use Rattle.saa_core.specs.declared.future.Progress.TheVariants.{Done, Joined, Refused}
use Rattle.saa_core.specs.Futures.{answer_or, asked, asked_from}

-- a poll of a ticket as async, read by its future
waited-polled : (old new : Core) (t0 t1 : Registration) (answer : Result ℕ Error) (otherwise : Progress (Option ℕ))
    → StepsWithTicket old new t0 t1 (λ s name. polled s name Async) answer
    → StepsWithTicket old new t0 t1 (λ s name. read_as (answer_or otherwise) (polled s name Async)) (answer_or otherwise answer)
waited-polled old new t0 t1 answer otherwise call =
    then old new t0 t1 (λ s name. polled s name Async) (λ s name. read_as (answer_or otherwise) (polled s name Async)) answer (answer_or otherwise answer)
    (λ s next name leads. ap (read_as (answer_or otherwise)) leads) call

-- a true registration as async and then a poll as async are a first poll
pub asked-polled : (old mid new : Core) (t0 t1 t2 : Registration) (request : Request) (is_registered : Bool) (answer : Result ℕ Error)
    → is_registered ≡ true
    → StepsWithTicket old mid t0 t1 (λ s name. registered s name request false) (Ok is_registered)
    → StepsWithTicket mid new t1 t2 (λ s name. polled s name Async) answer
    → StepsWithTicket old new t0 t2 (λ s name. asked s name request) (answer_or Joined answer)
asked-polled old mid new t0 t1 t2 request is_registered answer is_true call later =
    follow old mid new t0 t1 t2 (λ s name. registered s name request false) (λ s name. read_as (answer_or Joined) (polled s name Async)) (λ s name. asked s name request)
    (Ok true) (answer_or Joined answer)
    (λ s next name leads. ap (asked_from name) leads)
    (subst (λ b. StepsWithTicket old mid t0 t1 (λ s name. registered s name request false) (Ok b)) is_true call)
    (waited-polled mid new t1 t2 answer Joined later)

-- a registration that finds the room full is a first poll, and so is one that isn't true
pub asked-full : (old new : Core) (t0 t1 : Registration) (request : Request) (full : Full)
    → StepsWithTicket old new t0 t1 (λ s name. registered s name request false) (Err full) → StepsWithTicket old new t0 t1 (λ s name. asked s name request) (Refused full)
asked-full old new t0 t1 request full call =
    then old new t0 t1 (λ s name. registered s name request false) (λ s name. asked s name request) (Err full) (Refused full)
    (λ s next name leads. ap (asked_from name) leads) call

pub asked-false : (old new : Core) (t0 t1 : Registration) (request : Request) (is_registered : Bool) → is_registered ≡ false
    → StepsWithTicket old new t0 t1 (λ s name. registered s name request false) (Ok is_registered) → StepsWithTicket old new t0 t1 (λ s name. asked s name request) (Done None)
asked-false old new t0 t1 request is_registered is_false call =
    then old new t0 t1 (λ s name. registered s name request false) (λ s name. asked s name request) (Ok false) (Done None)
    (λ s next name leads. ap (asked_from name) leads)
    (subst (λ b. StepsWithTicket old new t0 t1 (λ s name. registered s name request false) (Ok b)) is_false call)

-- a ticket that isn't busy is idle
pub idle-is : (ticket : Registration) → is_busy ticket ≡ false → ticket ≡ Unregistered
idle-is Unregistered is = refl
idle-is (AtOnce value request is_sync) is = cc
idle-is (InSlot slot request is_sync) is = cc

-- an answer that came at once is there for a poll in the right mode, so a ticket without one has a slot
pub waits-slotted : (mid new : Core) (t1 t2 : Registration) (error : Error) → is_busy t1 ≡ true → mode_of t1 ≡ Some false
    → StepsWithTicket mid new t1 t2 (λ s name. polled s name Async) (Err error) → is_some (slot_of t1) ≡ true
waits-slotted mid new Unregistered t2 error busy mode call = cc
waits-slotted mid new (InSlot slot request is_sync) t2 error busy mode call = refl
waits-slotted mid new (AtOnce value request true) t2 error busy mode call = cc
waits-slotted mid new (AtOnce value request false) t2 error busy mode call =
    let belongs : Belong mid.slots (AtOnce value request false ∷ []) = record { owned = λ slot. omega arith; few = omega arith } in
    let no : ◌≡◌ {A = Result ℕ Error} (Ok value) (Err error) = ap (λ a. a.reply) (call.acts (AtOnce value request false ∷ []) 0 refl belongs).0 in
    cc

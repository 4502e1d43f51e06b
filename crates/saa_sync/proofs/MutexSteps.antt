-- How a call that may wait begins, as one step of the object, and what a registration at a core whose invariant holds answers.
use Rattle.std.proofs.Common.{◌≡◌, ℕ, Result, Ok, Err, IfOk, IsErr, List, [], ◌∷◌, Bool, true, false, refl, ap, subst, sym}
use Rattle.saa_core_spec.specs.declared.request.Request.{Request}
use Rattle.saa_core_spec.specs.declared.request.Full.{Full}
use Rattle.saa_core_spec.specs.declared.polling.Error.{Error}
use Rattle.saa_core_spec.specs.declared.polling.Error.TheVariants.{NotReady}
use Rattle.saa_core_spec.specs.declared.polling.How.TheVariants.{Sync}
use Rattle.saa_core.specs.declared.ticket.Registration.{Registration}
use Rattle.saa_core_spec.specs.Object.{Object, After}
use Rattle.saa_core_spec.specs.Asking.{registered}
use Rattle.saa_core_spec.specs.Polling.{polled, read_as}
use Rattle.saa_core.specs.declared.ticket.Registration.TheVariants.{Unregistered, AtOnce, InSlot}
use Rattle.saa_core.specs.Tickets.{Core, StepsWithTicket, IsNeverTooMuch, leaving, is_busy, object_of}
use Rattle.saa_core.proofs.TicketLemmas.Modes.{registered-or-full}
use Rattle.saa_core.proofs.TicketLemmas.Follows.{follow, then}
use Rattle.saa_core_waits.specs.declared.waitable.CallStart.{CallStart}
use Rattle.saa_core_waits.specs.declared.waitable.CallStart.TheVariants.{Refused}
use Rattle.saa_core_waits.specs.Waits.{HasStarted}
use Rattle.saa_sync.specs.UnderMutex.{IsPolled, IsRegistered, begun, begun_from, begun_poll, concluded, concluded_from, registration_of}

-- a true registration as sync and then a poll as sync are the beginning of a call that may wait
pub begun-polled : (old mid new : Core) (t0 t1 t2 : Registration) (request : Request) (is_registered : Bool) (answer : Result ℕ Error)
    → is_registered ≡ true
    → StepsWithTicket old mid t0 t1 (λ s name. registered s name request true) (Ok is_registered)
    → StepsWithTicket mid new t1 t2 (λ s name. polled s name Sync) answer
    → StepsWithTicket old new t0 t2 (λ s name. begun s name request) (begun_poll answer)
begun-polled old mid new t0 t1 t2 request is_registered answer is_true call later =
    follow old mid new t0 t1 t2 (λ s name. registered s name request true) (λ s name. read_as begun_poll (polled s name Sync)) (λ s name. begun s name request)
    (Ok true) (begun_poll answer)
    (λ s next name leads. ap (begun_from name) leads)
    (subst (λ b. StepsWithTicket old mid t0 t1 (λ s name. registered s name request true) (Ok b)) is_true call)
    (then mid new t1 t2 (λ s name. polled s name Sync) (λ s name. read_as begun_poll (polled s name Sync)) answer (begun_poll answer)
    (λ s next name leads. ap (read_as begun_poll) leads) later)

-- the leave behind a poll that found no answer
abbrev unanswered : {A : Type 0} → After A → After (Result ℕ Error)
unanswered after = record { state = after.state; reply = Err NotReady }

-- a poll as sync that finds no answer and then a quiet leave are the end of a wait whose time is up
pub polled-left : (old mid new : Core) (t0 t1 t2 : Registration) (answer : Result ℕ Error)
    → answer ≡ Err NotReady
    → StepsWithTicket old mid t0 t1 (λ s name. polled s name Sync) answer
    → StepsWithTicket mid new t1 t2 leaving tt
    → StepsWithTicket old new t0 t2 concluded answer
polled-left old mid new t0 t1 t2 answer is call later =
    subst (λ a. StepsWithTicket old new t0 t2 concluded a) (sym is)
    (follow old mid new t0 t1 t2 (λ s name. polled s name Sync) (λ s name. unanswered (leaving s name)) concluded (Err NotReady) (Err NotReady)
    (λ s next name leads. ap (concluded_from name) leads)
    (subst (λ a. StepsWithTicket old mid t0 t1 (λ s name. polled s name Sync) a) is call)
    (then mid new t1 t2 leaving (λ s name. unanswered (leaving s name)) tt (Err NotReady)
    (λ s next name leads. ap unanswered leads) later))

-- a refusal hands its one error on
pub full-stays : (begun : Result CallStart Full) (full : Full) → IsErr begun → registration_of begun ≡ Err full
full-stays (Ok begun) full is = cc
full-stays (Err other) full is = refl

-- an idle ticket that asks for no more than such a core ever has is registered there, or finds the room full
pub registered-where-it-holds : (invariant_of : Object → Type 0) (old new : Core) (ticket : Registration) (request : Request) (is_sync : Bool) (reply : Result Bool Full)
    → ((tickets : List Registration) → invariant_of (object_of old tickets)) → IsNeverTooMuch invariant_of request
    → StepsWithTicket old new Unregistered ticket (λ s name. registered s name request is_sync) reply → IfOk reply (λ is_registered. is_registered ≡ true)
registered-where-it-holds invariant_of old new ticket request is_sync reply stood never call =
    registered-or-full old new ticket request is_sync reply (never (object_of old (Unregistered ∷ [])) (stood (Unregistered ∷ []))) call

-- a ticket that is registered is refused, and nothing is done to it
pub busy-refused : (invariant_of : Object → Type 0) (request : Request) (is_sync : Bool) (ticket : Registration)
    → is_busy ticket ≡ true → HasStarted (IsRegistered invariant_of request is_sync) (IsPolled Sync) ticket ticket (Ok Refused)
busy-refused invariant_of request is_sync Unregistered busy = cc
busy-refused invariant_of request is_sync (AtOnce value asked was_sync) busy =
    record { between = AtOnce value asked was_sync; reply = Ok false; registered = record { busy = refl; mode = λ idle yes. cc; sure = λ idle never. cc }; started = (refl, refl) }
busy-refused invariant_of request is_sync (InSlot slot asked was_sync) busy =
    record { between = InSlot slot asked was_sync; reply = Ok false; registered = record { busy = refl; mode = λ idle yes. cc; sure = λ idle never. cc }; started = (refl, refl) }

-- Worked stories of the object: commands to a newly made primitive, each beside its reply.
-- Each theorem holds by computation alone, over the very definitions of a run.
-- Pagers go by their numbers. A registration is as sync where the comment doesn't say async.
use Rattle.std.specs.Prelude.{◌≡◌, ℕ, Bool, true, false, List, [], ◌∷◌, ◌++◌, replicate, Some, None, Result, Ok, Err, refl}
use Rattle.saa_core_spec.specs.declared.request.Request.TheVariants.{Permits}
use Rattle.saa_core_spec.specs.declared.polling.Error.{Error}
use Rattle.saa_core_spec.specs.declared.polling.Error.TheVariants.{NotReady, Closed}
use Rattle.saa_core_spec.specs.declared.run.CommandOf.{CommandOf}
use Rattle.saa_core_spec.specs.declared.run.CommandOf.TheVariants.{Call, Register, TryPoll, PollSync, PollAsync, Drop, Leave}
use Rattle.saa_core_spec.specs.declared.run.ReplyOf.{ReplyOf}
use Rattle.saa_core_spec.specs.declared.run.ReplyOf.TheVariants.{Answered, Registered, Polled, Dropped}
use Rattle.saa_core_spec.specs.declared.semaphore.SemaphoreCall.{SemaphoreCall}
use Rattle.saa_core_spec.specs.declared.semaphore.SemaphoreCall.TheVariants.{TryAcquireMany, ReleaseMany, AvailablePermits, IsOpen, IsClosed, Shut, IsShut}
use Rattle.saa_core_spec.specs.declared.semaphore.SemaphoreAnswer.{SemaphoreAnswer}
use Rattle.saa_core_spec.specs.declared.semaphore.SemaphoreAnswer.TheVariants.{Bool as SemaphoreBool, Number}
use Rattle.saa_core_spec.specs.declared.lock.Mode.{Mode}
use Rattle.saa_core_spec.specs.declared.lock.Mode.TheVariants.{Exclusive, Shared, WaitExclusive, WaitShared}
use Rattle.saa_core_spec.specs.declared.lock.TryLockError.TheVariants.{WouldBlock}
use Rattle.saa_core_spec.specs.declared.lock.LockCall.{LockCall}
use Rattle.saa_core_spec.specs.declared.lock.LockCall.TheVariants.{TryLock, TryShare, ReleaseLock, ReleaseShare, Downgrade, PoisonLock, ClearPoison, IsLocked, IsPoisoned}
use Rattle.saa_core_spec.specs.declared.lock.LockAnswer.{LockAnswer}
use Rattle.saa_core_spec.specs.declared.lock.LockAnswer.TheVariants.{Bool as LockBool, Tried}
use Rattle.saa_core_spec.specs.declared.gate.State.{State}
use Rattle.saa_core_spec.specs.declared.gate.State.TheVariants.{Controlled, Sealed, Open}
use Rattle.saa_core_spec.specs.declared.gate.Error.{Error as GateError}
use Rattle.saa_core_spec.specs.declared.gate.Error.TheVariants.{Sealed as SealedError, SpuriousFailure, NotRegistered as GateNotRegistered, WrongMode as GateWrongMode, NotReady as GateNotReady}
use Rattle.saa_core_spec.specs.declared.gate.GateCall.{GateCall}
use Rattle.saa_core_spec.specs.declared.gate.GateCall.TheVariants.{State as AskState, Reset, Permit, PermitMany, Open as DoOpen, Seal}
use Rattle.saa_core_spec.specs.declared.gate.GateAnswer.{GateAnswer}
use Rattle.saa_core_spec.specs.declared.gate.GateAnswer.TheVariants.{State as SaysState, Reset as SaysReset, Answered as SaysAnswered, Moved}
use Rattle.saa_core_spec.specs.declared.barrier.BarrierCall.{BarrierCall}
use Rattle.saa_core_spec.specs.declared.barrier.BarrierCall.TheVariants.{Count, Arrive as DoArrive, Join, Leave as LeaveOne, Round}
use Rattle.saa_core_spec.specs.declared.barrier.BarrierAnswer.{BarrierAnswer}
use Rattle.saa_core_spec.specs.declared.barrier.BarrierAnswer.TheVariants.{Count as SaysCount, Bool as BarrierBool, Round as SaysRound}
use Rattle.saa_core_spec.specs.Held.{max_permits}
use Rattle.saa_core_spec.specs.Settling.{settled}
use Rattle.saa_core_spec.specs.Values.{semaphore_value, lock_value, gate_value, barrier_value}
use Rattle.saa_core_spec.specs.Semaphore.{semaphore_step, new_semaphore}
use Rattle.saa_core_spec.specs.Lock.{mode_request, lock_step, new_lock}
use Rattle.saa_core_spec.specs.Gate.{enter_request, gate_step, new_gate}
use Rattle.saa_core_spec.specs.Barrier.{arrive_request, barrier_step, new_barrier}
use Rattle.saa_core_spec.specs.Run.{replies}

-- a command and the reply that it gets
abbrev pub LineOf : (C K A V : Type 0) → Type 0
LineOf C K A V = CommandOf C K × ReplyOf A V

-- the commands of a story
abbrev pub commands_of : {C K A V : Type 0} → List (LineOf C K A V) → List (CommandOf C K)
commands_of [] = []
commands_of (line ∷ story) = line.0 ∷ commands_of story

-- the replies that a story tells
abbrev pub replies_of : {C K A V : Type 0} → List (LineOf C K A V) → List (ReplyOf A V)
replies_of [] = []
replies_of (line ∷ story) = line.1 ∷ replies_of story

-- the number of names in each story; the stories use 1 to 4
abbrev pub names : ℕ
names = 5

-- the room of a primitive where nothing else is said
abbrev pub usual_room : ℕ
usual_room = 4

-- the story of a semaphore of at most so many permits, made with so many of them available and with this room, goes as it is told
abbrev pub BoundedTells : (bound permits room : ℕ) → List (LineOf SemaphoreCall ℕ SemaphoreAnswer (Result (Unit {0}) Error)) → Type 0
BoundedTells bound permits room story =
    replies Permits semaphore_step semaphore_value (commands_of story) (new_semaphore bound permits room names)
    ≡ replies_of story

-- the same of a semaphore of 63 permits
abbrev pub SemaphoreTells : (permits room : ℕ) → List (LineOf SemaphoreCall ℕ SemaphoreAnswer (Result (Unit {0}) Error)) → Type 0
SemaphoreTells = BoundedTells max_permits

-- the same of a lock
abbrev pub LockTells : (room : ℕ) → List (LineOf LockCall Mode LockAnswer (Result Bool Error)) → Type 0
LockTells room story =
    replies mode_request lock_step lock_value (commands_of story) (new_lock room names) ≡ replies_of story

-- the same of a gate
abbrev pub GateTells : (room : ℕ) → List (LineOf GateCall (Unit {0}) GateAnswer (Result State GateError)) → Type 0
GateTells room story =
    replies enter_request gate_step gate_value (commands_of story) (new_gate room names) ≡ replies_of story

-- the same of a barrier of a size
abbrev pub BarrierTells : (size room : ℕ) → List (LineOf BarrierCall (Unit {0}) BarrierAnswer (Result Bool Error)) → Type 0
BarrierTells size room story =
    replies arrive_request barrier_step barrier_value (commands_of story) (new_barrier size room names) ≡ replies_of story

-- a registration as sync
abbrev reg : {C K : Type 0} → ℕ → K → CommandOf C K
reg name ask = Register name ask true

-- a registration as async
abbrev reg_async : {C K : Type 0} → ℕ → K → CommandOf C K
reg_async name ask = Register name ask false

-- the registration stands: it was answered at once, or waits
abbrev stands : {A V : Type 0} → ReplyOf A V
stands = Registered (Ok true)

-- the registration was refused, and changed nothing
abbrev refused : {A V : Type 0} → ReplyOf A V
refused = Registered (Ok false)

-- the registration had to wait, and the room is full
abbrev full : {A V : Type 0} → ReplyOf A V
full = Registered (Err (record {}))

-- an answer by a semaphore's call
abbrev says : Bool → ReplyOf SemaphoreAnswer (Result (Unit {0}) Error)
says answer = Answered (SemaphoreBool answer)

-- the number of permits that are available
abbrev number : ℕ → ReplyOf SemaphoreAnswer (Result (Unit {0}) Error)
number permits = Answered (Number permits)

-- the registration was granted
abbrev granted : {A : Type 0} → ReplyOf A (Result (Unit {0}) Error)
granted = Polled (Ok tt)

-- the semaphore was shut
abbrev closed : {A : Type 0} → ReplyOf A (Result (Unit {0}) Error)
closed = Polled (Err Closed)

-- an answer by a lock's call that isn't a try
abbrev lock_says : Bool → ReplyOf LockAnswer (Result Bool Error)
lock_says answer = Answered (LockBool answer)

-- a try on a lock had what it asked
abbrev taken : ReplyOf LockAnswer (Result Bool Error)
taken = Answered (Tried (Ok tt))

-- a try on a lock was refused, since it would wait
abbrev would_block : ReplyOf LockAnswer (Result Bool Error)
would_block = Answered (Tried (Err WouldBlock))

-- the poll of a lock or a barrier had this answer
abbrev polled_as : {A : Type 0} → Bool → ReplyOf A (Result Bool Error)
polled_as answer = Polled (Ok answer)

-- no answer yet, as a semaphore, a lock and a barrier say it
abbrev not_ready : {A V : Type 0} → ReplyOf A (Result V Error)
not_ready = Polled (Err NotReady)

-- Semaphore

-- Five permits wait while there are fewer, and the small ask behind them waits too; a try passes nobody.
-- The release that makes five available grants them, and a later one the small ask.
pub the_line_of_a_semaphore_is_fair : SemaphoreTells 63 usual_room (
    (Call (TryAcquireMany 60), says true)
    ∷ (reg 1 5, stands)
    ∷ (reg 2 1, stands)
    ∷ (Call (TryAcquireMany 1), says false)
    ∷ (Call (ReleaseMany 1), says true)
    ∷ (Call AvailablePermits, number 4)
    ∷ (Call (ReleaseMany 1), says true)
    ∷ (Call AvailablePermits, number 0)
    ∷ (PollSync 1, granted)
    ∷ (PollSync 2, not_ready)
    ∷ (Call (ReleaseMany 5), says true)
    ∷ (PollSync 2, granted)
    ∷ (Call AvailablePermits, number 4)
    ∷ [])
unfolding settled
the_line_of_a_semaphore_is_fair = refl

-- Nine of the permits that are given back don't fit the waiter in front, which leaves; the one behind it has them then.
pub a_waiter_that_leaves_lets_the_next_one_fit : SemaphoreTells 63 usual_room (
    (Call (TryAcquireMany 63), says true)
    ∷ (reg 1 11, stands)
    ∷ (reg 2 9, stands)
    ∷ (Call (ReleaseMany 9), says true)
    ∷ (Call AvailablePermits, number 9)
    ∷ (Drop 1, Dropped)
    ∷ (PollSync 2, granted)
    ∷ (Call AvailablePermits, number 0)
    ∷ [])
unfolding settled
a_waiter_that_leaves_lets_the_next_one_fit = refl

-- Room for one: a slot is held from joining until the answer is consumed, not only while it waits.
pub an_answered_slot_is_still_held : SemaphoreTells 63 1 (
    (Call (TryAcquireMany 63), says true)
    ∷ (reg 1 1, stands)
    ∷ (reg 2 1, full)
    ∷ (Call (ReleaseMany 1), says true)
    ∷ (reg 2 1, full)
    ∷ (PollSync 1, granted)
    ∷ (reg 2 1, stands)
    ∷ [])
unfolding settled
an_answered_slot_is_still_held = refl

-- No room: what would wait is refused as full, and what is granted at once needs no slot. The task that would wait
-- registers here; that its callback isn't run is no matter of the object.
pub without_room_only_a_grant_at_once_stands : SemaphoreTells 63 0 (
    (Call (TryAcquireMany 63), says true)
    ∷ (reg 1 1, full)
    ∷ (reg 1 0, stands)
    ∷ (PollSync 1, granted)
    ∷ [])
unfolding settled
without_room_only_a_grant_at_once_stands = refl

-- An ask for no permits passes nobody either: it waits behind the others, and is granted with them.
-- Giving no permits back is true and grants nothing.
pub no_permits_wait_in_turn : SemaphoreTells 63 usual_room (
    (Call (TryAcquireMany 63), says true)
    ∷ (reg 1 1, stands)
    ∷ (Call (TryAcquireMany 0), says false)
    ∷ (reg 2 0, stands)
    ∷ (Call (ReleaseMany 0), says true)
    ∷ (PollSync 2, not_ready)
    ∷ (Call (ReleaseMany 1), says true)
    ∷ (PollSync 1, granted)
    ∷ (PollSync 2, granted)
    ∷ (Call AvailablePermits, number 0)
    ∷ [])
unfolding settled
no_permits_wait_in_turn = refl

-- Made with 100 permits a semaphore has 63. Asks and releases above 63 are false, also one of 256.
pub more_than_all_permits_is_never_granted : SemaphoreTells 100 usual_room (
    (Call AvailablePermits, number 63)
    ∷ (Call (TryAcquireMany 64), says false)
    ∷ (reg 1 64, refused)
    ∷ (Call (ReleaseMany 64), says false)
    ∷ (Call (ReleaseMany 256), says false)
    ∷ (Call AvailablePermits, number 63)
    ∷ [])
unfolding settled
more_than_all_permits_is_never_granted = refl

-- Permits that were withheld at the start may be released, and no more than 63 in all.
pub withheld_permits_may_be_released : SemaphoreTells 0 usual_room (
    (Call (ReleaseMany 1), says true)
    ∷ (Call AvailablePermits, number 1)
    ∷ (Call (TryAcquireMany 1), says true)
    ∷ (Call (ReleaseMany 63), says true)
    ∷ (Call (ReleaseMany 1), says false)
    ∷ [])
unfolding settled
withheld_permits_may_be_released = refl

-- The first use: 62 permits, which a task that may wait has at once, one more, and no other.
-- The wait is its registration and its poll.
pub taking_all_permits_and_giving_them_back : SemaphoreTells 63 usual_room (
    (reg 1 62, stands)
    ∷ (PollSync 1, granted)
    ∷ (Call (TryAcquireMany 1), says true)
    ∷ (Call (TryAcquireMany 1), says false)
    ∷ (Call (ReleaseMany 1), says true)
    ∷ (Call (ReleaseMany 63), says false)
    ∷ (Call (ReleaseMany 62), says true)
    ∷ (Call AvailablePermits, number 63)
    ∷ [])
unfolding settled
taking_all_permits_and_giving_them_back = refl

-- A grant made at once, and dropped before it is polled, goes back.
pub a_dropped_grant_goes_back : SemaphoreTells 63 usual_room (
    (Call (TryAcquireMany 60), says true)
    ∷ (reg 1 3, stands)
    ∷ (Call AvailablePermits, number 0)
    ∷ (Drop 1, Dropped)
    ∷ (Call AvailablePermits, number 3)
    ∷ [])
unfolding settled
a_dropped_grant_goes_back = refl

-- A bound of its own: 1,000 permits, of which one more than all is never granted and never given back.
pub a_thousand_permits : BoundedTells 1000 1000 4 (
    (Call (TryAcquireMany 1001), says false)
    ∷ (Call (TryAcquireMany 1000), says true)
    ∷ (reg 1 300, stands)
    ∷ (Call (ReleaseMany 299), says true)
    ∷ (Call AvailablePermits, number 299)
    ∷ (Call (ReleaseMany 1), says true)
    ∷ (Call AvailablePermits, number 0)
    ∷ (PollSync 1, granted)
    ∷ (Call (ReleaseMany 1001), says false)
    ∷ (Call (ReleaseMany 1000), says true)
    ∷ (Call AvailablePermits, number 1000)
    ∷ [])
unfolding settled
a_thousand_permits = refl

-- The greatest bound: more permits than that are cut to it.
pub as_many_permits_as_there_may_be : BoundedTells 65535 70000 usual_room (
    (Call AvailablePermits, number 65535)
    ∷ (Call (TryAcquireMany 65535), says true)
    ∷ (Call (ReleaseMany 65536), says false)
    ∷ (Call (ReleaseMany 65535), says true)
    ∷ [])
unfolding settled
as_many_permits_as_there_may_be = refl

-- The least bound: one permit, which goes from one task to the next.
pub one_permit_goes_in_turn : BoundedTells 1 1 2 (
    (Call (TryAcquireMany 1), says true)
    ∷ (reg 1 1, stands)
    ∷ (reg 2 1, stands)
    ∷ (Call (ReleaseMany 1), says true)
    ∷ (PollSync 1, granted)
    ∷ (PollSync 2, not_ready)
    ∷ (Call (ReleaseMany 1), says true)
    ∷ (PollSync 2, granted)
    ∷ [])
unfolding settled
one_permit_goes_in_turn = refl

-- One permit is available, and two wait: the semaphore is shut, and both are told so, each once. From then on a try is false, whatever is
-- available, and a registration is told at once. Shutting again is false, and so is an ask for more than there ever is.
pub a_shut_semaphore_tells_who_waits_and_who_comes : SemaphoreTells 63 usual_room (
    (Call (TryAcquireMany 62), says true)
    ∷ (reg 1 2, stands)
    ∷ (reg_async 2 1, stands)
    ∷ (Call IsShut, says false)
    ∷ (Call Shut, says true)
    ∷ (Call IsShut, says true)
    ∷ (PollSync 1, closed)
    ∷ (Call AvailablePermits, number 1)
    ∷ (Call (TryAcquireMany 1), says false)
    ∷ (Call (TryAcquireMany 0), says false)
    ∷ (reg 1 1, stands)
    ∷ (PollSync 1, closed)
    ∷ (PollAsync 2, closed)
    ∷ (Call Shut, says false)
    ∷ (reg 1 64, refused)
    ∷ [])
unfolding settled
a_shut_semaphore_tells_who_waits_and_who_comes = refl

-- What is out comes back to a shut semaphore as ever: whether any permits are available, or none, is told as before, and more than
-- is out can't be given back.
pub permits_come_back_to_a_shut_semaphore : BoundedTells 2 2 usual_room (
    (Call (TryAcquireMany 2), says true)
    ∷ (Call Shut, says true)
    ∷ (Call IsClosed, says true)
    ∷ (Call (ReleaseMany 1), says true)
    ∷ (Call IsOpen, says true)
    ∷ (Call (TryAcquireMany 1), says false)
    ∷ (Call (ReleaseMany 1), says true)
    ∷ (Call (ReleaseMany 1), says false)
    ∷ (Call AvailablePermits, number 2)
    ∷ [])
unfolding settled
permits_come_back_to_a_shut_semaphore = refl

-- A grant that isn't polled yet when the semaphore is shut is a grant, to be polled or dropped. An answer that it is shut gives
-- nothing back where it is dropped.
pub a_grant_before_the_shut_is_a_grant : SemaphoreTells 63 usual_room (
    (Call (TryAcquireMany 63), says true)
    ∷ (reg 1 1, stands)
    ∷ (reg 2 1, stands)
    ∷ (reg 3 1, stands)
    ∷ (Call (ReleaseMany 2), says true)
    ∷ (Call Shut, says true)
    ∷ (PollSync 1, granted)
    ∷ (Drop 2, Dropped)
    ∷ (Call AvailablePermits, number 1)
    ∷ (Drop 3, Dropped)
    ∷ (Call AvailablePermits, number 1)
    ∷ [])
unfolding settled
a_grant_before_the_shut_is_a_grant = refl

-- The answer of a shut semaphore needs no slot, but a waiter keeps its own until it is told.
pub a_shut_semaphore_is_never_full : SemaphoreTells 63 1 (
    (Call (TryAcquireMany 63), says true)
    ∷ (reg 1 1, stands)
    ∷ (reg 2 1, full)
    ∷ (Call Shut, says true)
    ∷ (reg 2 1, stands)
    ∷ (PollSync 2, closed)
    ∷ (PollSync 1, closed)
    ∷ [])
unfolding settled
a_shut_semaphore_is_never_full = refl

-- Lock

-- All registrations are async. The share is granted alone, since the next in line wants the lock free. Once it is
-- free, the task that only wants to hear of it is answered together with the owner behind it. Poison answers a wait
-- mode too.
pub shares_waits_and_owners_go_in_turn : LockTells usual_room (
    (Call TryLock, taken)
    ∷ (reg_async 1 Shared, stands)
    ∷ (reg_async 2 WaitExclusive, stands)
    ∷ (reg_async 3 Exclusive, stands)
    ∷ (Call ReleaseLock, lock_says true)
    ∷ (TryPoll 1, polled_as true)
    ∷ (TryPoll 2, not_ready)
    ∷ (TryPoll 3, not_ready)
    ∷ (Call ReleaseShare, lock_says true)
    ∷ (TryPoll 2, polled_as true)
    ∷ (TryPoll 3, polled_as true)
    ∷ (reg_async 2 WaitShared, stands)
    ∷ (TryPoll 2, not_ready)
    ∷ (Call PoisonLock, lock_says true)
    ∷ (TryPoll 2, polled_as false)
    ∷ [])
unfolding settled
shares_waits_and_owners_go_in_turn = refl

-- 62 owners share a lock, and no more. Who waits to hear of a share takes none, so another task has it.
pub at_most_62_owners_share : LockTells usual_room (
    replicate 62 (Call TryShare, taken)
    ++ (Call TryShare, would_block)
    ∷ (reg 1 WaitShared, stands)
    ∷ (Call ReleaseShare, lock_says true)
    ∷ (PollSync 1, polled_as true)
    ∷ (Call TryShare, taken)
    ∷ [])
unfolding settled
at_most_62_owners_share = refl

-- An owner becomes a sharer: the waiters for a share in front are granted beside it, and nobody gets in between. A
-- second downgrade finds no owner. The owner that waits goes first once both shares are back, and the share behind it last.
pub an_owner_becomes_a_sharer : LockTells usual_room (
    (Call TryLock, taken)
    ∷ (reg 1 Shared, stands)
    ∷ (reg 2 WaitShared, stands)
    ∷ (reg 3 Exclusive, stands)
    ∷ (reg 4 Shared, stands)
    ∷ (Call Downgrade, lock_says true)
    ∷ (Call Downgrade, lock_says false)
    ∷ (PollSync 1, polled_as true)
    ∷ (PollSync 2, polled_as true)
    ∷ (PollSync 3, not_ready)
    ∷ (PollSync 4, not_ready)
    ∷ (Call ReleaseShare, lock_says true)
    ∷ (PollSync 3, not_ready)
    ∷ (Call ReleaseShare, lock_says true)
    ∷ (PollSync 3, polled_as true)
    ∷ (PollSync 4, not_ready)
    ∷ (Call ReleaseLock, lock_says true)
    ∷ (PollSync 4, polled_as true)
    ∷ [])
unfolding settled
an_owner_becomes_a_sharer = refl

-- A waiter that poison answered gives nothing back when it is dropped: the later owner keeps the lock.
pub a_dropped_poisoned_answer_gives_nothing_back : LockTells usual_room (
    (Call TryLock, taken)
    ∷ (reg 1 Exclusive, stands)
    ∷ (Call PoisonLock, lock_says true)
    ∷ (Call ClearPoison, lock_says true)
    ∷ (Call TryLock, taken)
    ∷ (Drop 1, Dropped)
    ∷ (Call IsLocked, lock_says true)
    ∷ [])
unfolding settled
a_dropped_poisoned_answer_gives_nothing_back = refl

-- A waiter that leaves settles the line: the share behind it fits beside the share that is out.
pub a_waiting_owner_that_leaves_lets_shares_in : LockTells usual_room (
    (Call TryShare, taken)
    ∷ (reg 1 Exclusive, stands)
    ∷ (reg 2 Shared, stands)
    ∷ (Drop 1, Dropped)
    ∷ (TryPoll 2, polled_as true)
    ∷ (Call ReleaseShare, lock_says true)
    ∷ (Call ReleaseShare, lock_says true)
    ∷ (Call ReleaseShare, lock_says false)
    ∷ [])
unfolding settled
a_waiting_owner_that_leaves_lets_shares_in = refl

-- A grant that is dropped before it is polled goes to the next in line.
pub a_dropped_grant_goes_to_the_next : LockTells usual_room (
    (Call TryLock, taken)
    ∷ (reg 1 Exclusive, stands)
    ∷ (reg 2 Exclusive, stands)
    ∷ (Call ReleaseLock, lock_says true)
    ∷ (Drop 1, Dropped)
    ∷ (TryPoll 2, polled_as true)
    ∷ (Call IsLocked, lock_says true)
    ∷ [])
unfolding settled
a_dropped_grant_goes_to_the_next = refl

-- An owner by a grant that isn't polled yet: the lock is poisoned meanwhile, and dropping the grant leaves the poison.
pub a_grant_dropped_under_poison_leaves_the_poison : LockTells usual_room (
    (reg 1 Exclusive, stands)
    ∷ (Call PoisonLock, lock_says true)
    ∷ (Drop 1, Dropped)
    ∷ (Call IsPoisoned, lock_says true)
    ∷ [])
unfolding settled
a_grant_dropped_under_poison_leaves_the_poison = refl

-- The first use: an owner keeps all others out, and a share that nobody has isn't released. A wait is its
-- registration and its poll: the free lock is granted, the poisoned one answers that it is poisoned.
pub locking_poisoning_and_clearing : LockTells usual_room (
    (Call TryLock, taken)
    ∷ (Call TryLock, would_block)
    ∷ (Call TryShare, would_block)
    ∷ (Call ReleaseShare, lock_says false)
    ∷ (Call ReleaseLock, lock_says true)
    ∷ (reg 1 Exclusive, stands)
    ∷ (PollSync 1, polled_as true)
    ∷ (Call PoisonLock, lock_says true)
    ∷ (reg 1 Exclusive, stands)
    ∷ (PollSync 1, polled_as false)
    ∷ (Call ClearPoison, lock_says true)
    ∷ [])
unfolding settled
locking_poisoning_and_clearing = refl

-- Gate

-- Resetting a sealed gate makes it controlled, and tells what it was. A controlled gate has nothing to reset.
pub a_reset_gate_is_controlled : GateTells usual_room (
    (Call Seal, Answered (Moved Controlled 0))
    ∷ (Call Reset, Answered (SaysReset (Some Sealed)))
    ∷ (Call AskState, Answered (SaysState Controlled))
    ∷ (Call Reset, Answered (SaysReset None))
    ∷ [])
unfolding settled
a_reset_gate_is_controlled = refl

-- A waiter of a gate that gives up wakes the others, which have to ask again; then nobody waits who could be let
-- through, and an open gate can't permit.
pub giving_up_at_a_gate_wakes_the_others : GateTells usual_room (
    (reg 1 tt, stands)
    ∷ (reg 2 tt, stands)
    ∷ (Drop 1, Dropped)
    ∷ (TryPoll 2, Polled (Err SpuriousFailure))
    ∷ (Call Permit, Answered (SaysAnswered (Ok 0)))
    ∷ (Call DoOpen, Answered (Moved Controlled 0))
    ∷ (Call Permit, Answered (SaysAnswered (Err Open)))
    ∷ [])
unfolding settled
giving_up_at_a_gate_wakes_the_others = refl

-- A waiter that leaves quietly disturbs nobody: the other waits on, and is let in by the next permit.
pub leaving_a_gate_quietly_disturbs_nobody : GateTells usual_room (
    (reg 1 tt, stands)
    ∷ (reg 2 tt, stands)
    ∷ (Leave 1, Dropped)
    ∷ (TryPoll 1, Polled (Err GateNotRegistered))
    ∷ (TryPoll 2, Polled (Err GateNotReady))
    ∷ (Call Permit, Answered (SaysAnswered (Ok 1)))
    ∷ (TryPoll 2, Polled (Ok Controlled))
    ∷ [])
unfolding settled
leaving_a_gate_quietly_disturbs_nobody = refl

-- The oldest are let in, as many as are asked for; all where fewer wait. A gate that isn't controlled lets nobody in so.
pub a_gate_lets_its_oldest_in : GateTells usual_room (
    (reg 1 tt, stands)
    ∷ (reg 2 tt, stands)
    ∷ (reg 3 tt, stands)
    ∷ (Call (PermitMany 2), Answered (SaysAnswered (Ok 2)))
    ∷ (TryPoll 3, Polled (Err GateNotReady))
    ∷ (TryPoll 1, Polled (Ok Controlled))
    ∷ (TryPoll 2, Polled (Ok Controlled))
    ∷ (Call (PermitMany 0), Answered (SaysAnswered (Ok 0)))
    ∷ (Call (PermitMany 2), Answered (SaysAnswered (Ok 1)))
    ∷ (TryPoll 3, Polled (Ok Controlled))
    ∷ (Call Seal, Answered (Moved Controlled 0))
    ∷ (Call (PermitMany 1), Answered (SaysAnswered (Err Sealed)))
    ∷ [])
unfolding settled
a_gate_lets_its_oldest_in = refl

-- A poll in the wrong mode leaves an answer that is there: the pager stays registered, which its next poll shows by
-- having the answer. After that it is idle.
pub a_poll_in_the_wrong_mode_leaves_the_answer : GateTells usual_room (
    (TryPoll 1, Polled (Err GateNotRegistered))
    ∷ (reg 1 tt, stands)
    ∷ (Call DoOpen, Answered (Moved Controlled 1))
    ∷ (PollAsync 1, Polled (Err GateWrongMode))
    ∷ (PollSync 1, Polled (Ok Open))
    ∷ (PollSync 1, Polled (Err GateNotRegistered))
    ∷ [])
unfolding settled
a_poll_in_the_wrong_mode_leaves_the_answer = refl

-- No room: at a controlled gate nobody can wait, and an open gate answers at once and needs no slot.
pub a_gate_without_room_answers_once_it_is_open : GateTells 0 (
    (reg 1 tt, full)
    ∷ (Call DoOpen, Answered (Moved Controlled 0))
    ∷ (reg 1 tt, stands)
    ∷ (TryPoll 1, Polled (Ok Open))
    ∷ [])
unfolding settled
a_gate_without_room_answers_once_it_is_open = refl

-- A sealed gate refuses at once, an open one lets pass at once. Entering is its registration and its poll.
pub a_sealed_gate_refuses_and_an_open_one_lets_pass : GateTells usual_room (
    (Call Seal, Answered (Moved Controlled 0))
    ∷ (reg 1 tt, stands)
    ∷ (PollSync 1, Polled (Err SealedError))
    ∷ (Call DoOpen, Answered (Moved Sealed 0))
    ∷ (reg 1 tt, stands)
    ∷ (PollSync 1, Polled (Ok Open))
    ∷ [])
unfolding settled
a_sealed_gate_refuses_and_an_open_one_lets_pass = refl

-- Barrier

-- Three have to arrive. The arrival of a task that gives up is taken back, so the one after it waits, and the
-- next is the leader of the round.
pub an_arrival_that_is_taken_back_counts_no_more : BarrierTells 3 usual_room (
    (reg 1 tt, stands)
    ∷ (reg 2 tt, stands)
    ∷ (PollSync 1, not_ready)
    ∷ (PollSync 2, not_ready)
    ∷ (Call Count, Answered (SaysCount 1))
    ∷ (Drop 1, Dropped)
    ∷ (Call Count, Answered (SaysCount 2))
    ∷ (reg 3 tt, stands)
    ∷ (PollSync 3, not_ready)
    ∷ (reg 4 tt, stands)
    ∷ (PollSync 4, polled_as true)
    ∷ (PollSync 2, polled_as false)
    ∷ (PollSync 3, polled_as false)
    ∷ (Call Count, Answered (SaysCount 3))
    ∷ [])
unfolding settled
an_arrival_that_is_taken_back_counts_no_more = refl

-- A barrier of size 0 lets nobody pass: its first arrival waits. (That its callback runs is no matter of the object.)
pub at_a_barrier_of_size_0_all_wait : BarrierTells 0 usual_room (
    (reg 1 tt, stands)
    ∷ (PollSync 1, not_ready)
    ∷ (Call Count, Answered (SaysCount 0))
    ∷ [])
unfolding settled
at_a_barrier_of_size_0_all_wait = refl

-- At a barrier of size 1 each arrival is a leader at once, and so needs no room.
pub at_a_barrier_of_size_1_nobody_waits : BarrierTells 1 0 (
    (reg 1 tt, stands)
    ∷ (PollSync 1, polled_as true)
    ∷ (Call Count, Answered (SaysCount 1))
    ∷ [])
unfolding settled
at_a_barrier_of_size_1_nobody_waits = refl

-- The last arrival of a round needs no slot: room for one serves two. Until the one that waited has taken its answer,
-- its slot is held, and the next round can't begin.
pub the_last_arrival_needs_no_slot : BarrierTells 2 1 (
    (reg 1 tt, stands)
    ∷ (reg 2 tt, stands)
    ∷ (reg 3 tt, full)
    ∷ (PollSync 1, polled_as false)
    ∷ (PollSync 2, polled_as true)
    ∷ (reg 3 tt, stands)
    ∷ (Call Count, Answered (SaysCount 1))
    ∷ [])
unfolding settled
the_last_arrival_needs_no_slot = refl

-- A task that joins is waited for from then on, and the round waits for one less once it has left: its leaving completes the
-- round, which has no leader then.
pub a_barrier_changes_its_size : BarrierTells 2 usual_room (
    (Call Join, Answered (BarrierBool true))
    ∷ (reg 1 tt, stands)
    ∷ (reg 2 tt, stands)
    ∷ (Call Count, Answered (SaysCount 1))
    ∷ (Call LeaveOne, Answered (BarrierBool true))
    ∷ (Call Round, Answered (SaysRound 1))
    ∷ (PollSync 1, polled_as false)
    ∷ (PollSync 2, polled_as false)
    ∷ (Call Count, Answered (SaysCount 2))
    ∷ (Call LeaveOne, Answered (BarrierBool false))
    ∷ (reg 3 tt, stands)
    ∷ (PollSync 3, polled_as true)
    ∷ (Call Round, Answered (SaysRound 2))
    ∷ [])
unfolding settled
a_barrier_changes_its_size = refl

-- Arrivals for which nobody waits count as others do, and the last of a round says that it is complete.
pub arrivals_of_a_latch_are_counted : BarrierTells 3 usual_room (
    (reg 1 tt, stands)
    ∷ (Call DoArrive, Answered (BarrierBool false))
    ∷ (Call Count, Answered (SaysCount 1))
    ∷ (Call DoArrive, Answered (BarrierBool true))
    ∷ (PollSync 1, polled_as false)
    ∷ (Call Round, Answered (SaysRound 1))
    ∷ (Call DoArrive, Answered (BarrierBool false))
    ∷ (Call DoArrive, Answered (BarrierBool false))
    ∷ (reg 2 tt, stands)
    ∷ (PollSync 2, polled_as true)
    ∷ (Call Round, Answered (SaysRound 2))
    ∷ [])
unfolding settled
arrivals_of_a_latch_are_counted = refl

-- At size 0 nobody arrives or leaves; a waiter there passes once a task joins. No more than 63 join.
pub a_barrier_of_size_0_may_grow : BarrierTells 0 usual_room (
    (Call LeaveOne, Answered (BarrierBool false))
    ∷ (Call DoArrive, Answered (BarrierBool false))
    ∷ (reg 1 tt, stands)
    ∷ (Call Join, Answered (BarrierBool true))
    ∷ (PollSync 1, polled_as false)
    ∷ (Call Round, Answered (SaysRound 1))
    ∷ [])
unfolding settled
a_barrier_of_size_0_may_grow = refl

pub no_more_than_63_join : BarrierTells 63 usual_room (
    (Call Join, Answered (BarrierBool false))
    ∷ (Call Count, Answered (SaysCount 63))
    ∷ [])
unfolding settled
no_more_than_63_join = refl

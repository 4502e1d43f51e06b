-- Worked runs for the laws of `laws`: on each the premises of a law are met, and what it concludes says something.
-- All hold by computation, but for the use of a law on its run.
use Rattle.std.proofs.Common.{◌≡◌, ℕ, inl, true, false, List, [], ◌∷◌, ◌++◌, refl, arith}
use Rattle.std.specs.Prelude.{Ok, Some}
use Rattle.std.specs.List.{count_by, sum_by}
use Rattle.std.proofs.lemmas.List.Elements.{All-from_recursion}
use Rattle.saa_core_spec.specs.declared.request.Request.TheVariants.{Exclusive as AskExclusive, Shared as AskShared, Permits, Enter, Arrive}
use Rattle.saa_core_spec.specs.declared.gate.State.TheVariants.{Controlled, Open}
use Rattle.saa_core_spec.specs.declared.semaphore.SemaphoreCall.{SemaphoreCall}
use Rattle.saa_core_spec.specs.declared.semaphore.SemaphoreCall.TheVariants.{TryAcquireMany, ReleaseMany}
use Rattle.saa_core_spec.specs.declared.lock.Mode.{Mode}
use Rattle.saa_core_spec.specs.declared.lock.Mode.TheVariants.{Exclusive, Shared}
use Rattle.saa_core_spec.specs.declared.lock.LockCall.{LockCall}
use Rattle.saa_core_spec.specs.declared.lock.LockCall.TheVariants.{TryLock, ReleaseLock, PoisonLock, ClearPoison}
use Rattle.saa_core_spec.specs.declared.gate.GateCall.{GateCall}
use Rattle.saa_core_spec.specs.declared.gate.GateCall.TheVariants.{Open as DoOpen}
use Rattle.saa_core_spec.specs.declared.barrier.BarrierCall.{BarrierCall}
use Rattle.saa_core_spec.specs.declared.barrier.BarrierCall.TheVariants.{Arrive as DoArrive, Join, Leave as LeaveOne}
use Rattle.saa_core_spec.specs.declared.run.CommandOf.{CommandOf}
use Rattle.saa_core_spec.specs.declared.run.CommandOf.TheVariants.{Call, Register, TryPoll, PollAsync, Drop}
use Rattle.saa_core_spec.specs.declared.run.ReplyOf.TheVariants.{Polled}
use Rattle.saa_core_spec.specs.Held.{Held, OfSemaphore, OfLock, OfGate, OfBarrier, Free, Exclusive as Owned, Poisoned}
use Rattle.saa_core_spec.specs.Object.{Object, Idle, Waiting, Answered, entry_at, newly_made}
use Rattle.saa_core_spec.specs.Settling.{fitting_front, settled}
use Rattle.saa_core_spec.specs.Values.{semaphore_value, lock_value, gate_value, barrier_value}
use Rattle.saa_core_spec.specs.Semaphore.{semaphore_step, new_semaphore, out_of}
use Rattle.saa_core_spec.specs.Lock.{lock_step, mode_request, new_lock}
use Rattle.saa_core_spec.specs.Gate.{gate_step, enter_request, new_gate}
use Rattle.saa_core_spec.specs.Barrier.{round_of, barrier_step, arrive_request}
use Rattle.saa_core_spec.specs.Run.{IsWithin, done, state_after}
use Rattle.saa_core_laws.specs.RunLaws.{IsSettledSemaphore, IsSettledLock, NobodyWaits, AnswersInOrder}
use Rattle.saa_core_laws.specs.Registrations.{Story, IsStory, found, registered_in, next_of, registers, value_polled, as_kept}
use Rattle.saa_core_laws.specs.Leaders.{IsOfFixedSize, is_arrival, is_given_up, names_leader, completes_round, barrier_run, barrier_next, CompletesRound, poll_reply}
use Rattle.saa_core_laws.specs.Conservation.{semaphore_run, granted_by, given_back_by, released_by, taken_in_hand_by}
use Rattle.saa_core_laws.proofs.Fronts.{IsSettledAt-from_front}
use Rattle.saa_core_laws.proofs.SettledKinds.{semaphore-settled_run, lock-settled_run}
use Rattle.saa_core_laws.proofs.Waits.{semaphore-nobody_waits, free_lock-nobody_waits, poisoned_lock-nobody_waits, gate-nobody_waits}
use Rattle.saa_core_laws.proofs.TurnsKept.{semaphore-in_turn}
use Rattle.saa_core_laws.proofs.Rounds.{CompletesRound-next_fixed}
use Rattle.saa_core_laws.proofs.Stories.{AnswersOnce-lock}

-- A settled object stays settled

-- a semaphore in use: all its permits are out, three permits wait, and one behind them
abbrev used_semaphore : Object
used_semaphore = record {
  held = OfSemaphore 5 5;
  line = (1, Permits 3) ∷ (2, Permits 1) ∷ [];
  book = Idle ∷ Waiting (Permits 3) true ∷ Waiting (Permits 1) true ∷ [];
  outside = 0;
  room = 4;
}

-- it is settled
pub used_semaphore-settled : IsSettledSemaphore 5 used_semaphore
used_semaphore-settled = record { kind = (5, inl refl); oldest = IsSettledAt-from_front _ _ refl; shut = λ shut. cc }

-- two permits are given back, and then one
abbrev two_and_one_given_back : List (CommandOf SemaphoreCall ℕ)
two_and_one_given_back = Call (ReleaseMany 2) ∷ Call (ReleaseMany 1) ∷ []

-- two permits that are given back fit nobody in front, and three are granted: one is left in the line
pub a_used_semaphore_grants_what_fits :
    ((semaphore_step (ReleaseMany 2) used_semaphore).state.line ≡ (1, Permits 3) ∷ (2, Permits 1) ∷ [])
    × ((state_after Permits semaphore_step semaphore_value two_and_one_given_back used_semaphore).line ≡ (2, Permits 1) ∷ [])
unfolding settled
a_used_semaphore_grants_what_fits = (refl, refl)

-- and it is settled then
pub a_used_semaphore_stays_settled : IsSettledSemaphore 5 (state_after Permits semaphore_step semaphore_value two_and_one_given_back used_semaphore)
a_used_semaphore_stays_settled = semaphore-settled_run 5 used_semaphore two_and_one_given_back used_semaphore-settled

-- a line of which the book knows nothing: it is settled, and stays so
pub a_line_without_a_book_is_settled : IsSettledSemaphore 5 (record used_semaphore { book = [] })
a_line_without_a_book_is_settled = record { kind = (5, inl refl); oldest = IsSettledAt-from_front _ _ refl; shut = λ shut. cc }

-- a lock in use, at which two wait
abbrev used_lock : Object
used_lock = record {
  held = OfLock Owned;
  line = (1, AskExclusive) ∷ (2, AskExclusive) ∷ [];
  book = Idle ∷ Waiting AskExclusive true ∷ Waiting AskExclusive true ∷ [];
  outside = 0;
  room = 4;
}

-- it is settled
pub used_lock-settled : IsSettledLock used_lock
used_lock-settled = record { kind = (Owned, refl); oldest = IsSettledAt-from_front _ _ refl; poisoned = λ poison. cc }

-- it is released, and then poisoned and cleared
abbrev released_poisoned_cleared : List (CommandOf LockCall Mode)
released_poisoned_cleared = Call ReleaseLock ∷ Call PoisonLock ∷ Call ClearPoison ∷ []

-- the release grants it to the first, and poison answers the other
pub a_used_lock_goes_on :
    ((state_after mode_request lock_step lock_value (Call ReleaseLock ∷ []) used_lock).line ≡ (2, AskExclusive) ∷ [])
    × ((state_after mode_request lock_step lock_value released_poisoned_cleared used_lock).held ≡ OfLock Free)
    × ((state_after mode_request lock_step lock_value released_poisoned_cleared used_lock).line ≡ [])
unfolding settled
a_used_lock_goes_on = (refl, refl, refl)

-- and it is settled then
pub a_used_lock_stays_settled : IsSettledLock
    (state_after mode_request lock_step lock_value released_poisoned_cleared used_lock)
a_used_lock_stays_settled = lock-settled_run used_lock released_poisoned_cleared used_lock-settled

-- a lock that is poisoned while somebody waits, which no run makes: nobody in front fits, and once the poison is cleared
-- the first does. So the law speaks only of locks at which nobody waits while they are poisoned
pub a_cleared_lock_would_be_unsettled :
    (fitting_front (OfLock Poisoned) used_lock.line ≡ 0)
    × ((lock_step ClearPoison (record used_lock { held = OfLock Poisoned })).state.held ≡ OfLock Free)
    × (fitting_front (OfLock Free) used_lock.line ≡ 1)
a_cleared_lock_would_be_unsettled = (refl, refl, refl)

-- Nobody waits for nothing

-- five permits of a semaphore of five are taken; one waits, is granted, and is given back
abbrev a_wait_and_all_given_back : List (CommandOf SemaphoreCall ℕ)
a_wait_and_all_given_back = Call (TryAcquireMany 5) ∷ Register 1 1 true ∷ Call (ReleaseMany 5) ∷ Drop 1 ∷ []

-- before the release it waits, and in the end nothing is out
pub it_waits_while_all_are_out :
    ((state_after Permits semaphore_step semaphore_value (Call (TryAcquireMany 5) ∷ Register 1 1 true ∷ []) (new_semaphore 5 5 4 3)).line ≡ (1, Permits 1) ∷ [])
    × ((state_after Permits semaphore_step semaphore_value a_wait_and_all_given_back (new_semaphore 5 5 4 3)).held ≡ OfSemaphore 5 0)
unfolding settled
it_waits_while_all_are_out = (refl, refl)

pub nobody_waits_where_nothing_is_out : NobodyWaits (state_after Permits semaphore_step semaphore_value a_wait_and_all_given_back (new_semaphore 5 5 4 3))
nobody_waits_where_nothing_is_out =
    semaphore-nobody_waits 5 5 4 3 a_wait_and_all_given_back
    (All-from_recursion (IsWithin 3) a_wait_and_all_given_back (tt, (omega arith, (tt, (omega arith, tt)))))
    it_waits_while_all_are_out.1

-- one owns a lock and another waits; the lock is given to it, and back
abbrev a_lock_handed_on : List (CommandOf LockCall Mode)
a_lock_handed_on = Call TryLock ∷ Register 1 Exclusive true ∷ Call ReleaseLock ∷ TryPoll 1 ∷ Call ReleaseLock ∷ []

pub a_lock_handed_on-is_free :
    ((state_after mode_request lock_step lock_value (Call TryLock ∷ Register 1 Exclusive true ∷ []) (new_lock 4 3)).line ≡ (1, AskExclusive) ∷ [])
    × ((state_after mode_request lock_step lock_value a_lock_handed_on (new_lock 4 3)).held ≡ OfLock Free)
unfolding settled
a_lock_handed_on-is_free = (refl, refl)

pub nobody_waits_at_a_free_lock : NobodyWaits (state_after mode_request lock_step lock_value a_lock_handed_on (new_lock 4 3))
nobody_waits_at_a_free_lock =
    free_lock-nobody_waits 4 3 a_lock_handed_on
    (All-from_recursion (IsWithin 3) a_lock_handed_on (tt, (omega arith, (tt, (omega arith, (tt, tt))))))
    a_lock_handed_on-is_free.1

-- one owns a lock and another waits, and the lock is poisoned
abbrev a_lock_poisoned : List (CommandOf LockCall Mode)
a_lock_poisoned = Call TryLock ∷ Register 1 Exclusive true ∷ Call PoisonLock ∷ []

pub a_lock_poisoned-is : (state_after mode_request lock_step lock_value a_lock_poisoned (new_lock 4 3)).held ≡ OfLock Poisoned
unfolding settled
a_lock_poisoned-is = refl

pub nobody_waits_at_a_poisoned_lock : NobodyWaits (state_after mode_request lock_step lock_value a_lock_poisoned (new_lock 4 3))
nobody_waits_at_a_poisoned_lock =
    poisoned_lock-nobody_waits 4 3 a_lock_poisoned
    (All-from_recursion (IsWithin 3) a_lock_poisoned (tt, (omega arith, (tt, tt))))
    a_lock_poisoned-is

-- one waits at a gate, and it is opened
abbrev a_gate_opened : List (CommandOf GateCall (Unit {0}))
a_gate_opened = Register 1 tt true ∷ Call DoOpen ∷ []

pub it_waits_until_the_gate_opens :
    ((state_after enter_request gate_step gate_value (Register 1 tt true ∷ []) (new_gate 4 3)).line ≡ (1, Enter) ∷ [])
    × ((state_after enter_request gate_step gate_value a_gate_opened (new_gate 4 3)).held ≡ OfGate Open)
unfolding settled
it_waits_until_the_gate_opens = (refl, refl)

pub nobody_waits_at_an_open_gate : NobodyWaits (state_after enter_request gate_step gate_value a_gate_opened (new_gate 4 3))
nobody_waits_at_an_open_gate =
    gate-nobody_waits 4 3 a_gate_opened
    (All-from_recursion (IsWithin 3) a_gate_opened (omega arith, (tt, tt)))
    (λ controlled. let opened : ◌≡◌ {A = Held} (OfGate Open) (OfGate Controlled) = controlled in cc)

-- Answers come in the order of the line

-- three wait at a semaphore of five: 3, 1 and 5 permits
abbrev three_wait : List (CommandOf SemaphoreCall ℕ)
three_wait = Call (TryAcquireMany 5) ∷ Register 1 3 true ∷ Register 2 1 true ∷ Register 3 5 true ∷ []

-- four permits that are given back answer the first and the second, and the third still waits; fewer than three answer nobody,
-- though the second would fit
pub the_first_two_are_granted :
    ((state_after Permits semaphore_step semaphore_value three_wait (new_semaphore 5 5 4 4)).line ≡ (1, Permits 3) ∷ (2, Permits 1) ∷ (3, Permits 5) ∷ [])
    × ((state_after Permits semaphore_step semaphore_value (three_wait ++ Call (ReleaseMany 4) ∷ []) (new_semaphore 5 5 4 4)).book
    ≡ Idle ∷ Answered 0 (Permits 3) true true ∷ Answered 0 (Permits 1) true true ∷ Waiting (Permits 5) true ∷ [])
    × ((state_after Permits semaphore_step semaphore_value (three_wait ++ Call (ReleaseMany 2) ∷ []) (new_semaphore 5 5 4 4)).book
    ≡ Idle ∷ Waiting (Permits 3) true ∷ Waiting (Permits 1) true ∷ Waiting (Permits 5) true ∷ [])
unfolding settled
the_first_two_are_granted = (refl, refl, refl)

-- so where the second is answered the first doesn't wait
pub the_first_does_not_wait :
    AnswersInOrder (state_after Permits semaphore_step semaphore_value three_wait (new_semaphore 5 5 4 4))
    (done Permits semaphore_step semaphore_value (Call (ReleaseMany 4)) (state_after Permits semaphore_step semaphore_value three_wait (new_semaphore 5 5 4 4))).state
the_first_does_not_wait =
    semaphore-in_turn 5 5 4 4 three_wait (Call (ReleaseMany 4))
    (All-from_recursion (IsWithin 4) three_wait (tt, (omega arith, (omega arith, (omega arith, tt))))) tt

-- two shares wait behind one that asks to own the lock alone
abbrev two_shares_wait : List (CommandOf LockCall Mode)
two_shares_wait = Call TryLock ∷ Register 1 Exclusive true ∷ Register 2 Shared true ∷ Register 3 Shared true ∷ []

-- a release answers the first alone, and poison answers all
pub the_first_alone_or_all_are_answered :
    ((state_after mode_request lock_step lock_value (two_shares_wait ++ Call ReleaseLock ∷ []) (new_lock 4 4)).book
    ≡ Idle ∷ Answered 0 AskExclusive true true ∷ Waiting AskShared true ∷ Waiting AskShared true ∷ [])
    × ((state_after mode_request lock_step lock_value (two_shares_wait ++ Call PoisonLock ∷ []) (new_lock 4 4)).book
    ≡ Idle ∷ Answered 2 AskExclusive true true ∷ Answered 2 AskShared true true ∷ Answered 2 AskShared true true ∷ [])
unfolding settled
the_first_alone_or_all_are_answered = (refl, refl)

-- A registration is answered once, and its answer consumed once

-- a lock is poisoned while 1 waits, which is answered so; the poison is cleared, and 1, which registered as sync, is polled
-- as async, in vain. Then it is tried
abbrev a_poisoned_story : Story LockCall Mode
a_poisoned_story = record {
  held = OfLock Free;
  room = 4;
  names = 3;
  commands = Call TryLock ∷ Register 1 Exclusive true ∷ Call PoisonLock ∷ Call ClearPoison ∷ PollAsync 1 ∷ [];
  next = TryPoll 1;
}

-- it speaks of names that there are
pub a_poisoned_story-is : IsStory LockCall Mode a_poisoned_story
a_poisoned_story-is = record {
  commands = All-from_recursion (IsWithin 3) a_poisoned_story.commands (tt, (omega arith, (tt, (tt, (omega arith, tt)))));
  next = omega arith;
}

-- another registration of the same name
abbrev once_more : CommandOf LockCall Mode
once_more = Register 1 Shared false

-- its answer is there all the while, and is polled; then it is idle, and may register again
pub a_poisoned_story_goes :
    (registered_in mode_request lock_step a_poisoned_story 1 ≡ true)
    × (entry_at (found mode_request lock_step a_poisoned_story).book 1 ≡ Answered 2 AskExclusive true true)
    × (value_polled 1 a_poisoned_story.next (next_of mode_request lock_step a_poisoned_story).reply ≡ Some 2)
    × (entry_at (next_of mode_request lock_step a_poisoned_story).state.book 1 ≡ Idle)
    × (registers 1 once_more (done mode_request lock_step as_kept once_more (next_of mode_request lock_step a_poisoned_story).state).reply ≡ true)
    × (registers 1 once_more (done mode_request lock_step as_kept once_more (found mode_request lock_step a_poisoned_story)).reply ≡ false)
unfolding settled
a_poisoned_story_goes = (refl, refl, refl, refl, refl, refl)

-- a registration stands where a value is polled, as the law says it of this story
pub a_poisoned_story_stands : registered_in mode_request lock_step a_poisoned_story 1 ≡ true
a_poisoned_story_stands = AnswersOnce-lock.polled a_poisoned_story 1 2 a_poisoned_story-is a_poisoned_story_goes.2

-- Leaders

-- at a barrier of two, 1 and 2 pass together, 3 gives up, and 1 waits again
abbrev one_gives_up : List (CommandOf BarrierCall (Unit {0}))
one_gives_up = Register 1 tt true ∷ Register 2 tt true ∷ TryPoll 1 ∷ Register 3 tt true ∷ Drop 3 ∷ Register 1 tt true ∷ []

-- four arrived, one gave up, and one was a leader
pub one_gives_up-counts :
    (count_by is_arrival (barrier_run 2 4 4 one_gives_up) ≡ 4)
    × (count_by is_given_up (barrier_run 2 4 4 one_gives_up) ≡ 1)
    × (count_by names_leader (barrier_run 2 4 4 one_gives_up) ≡ 1)
unfolding settled
one_gives_up-counts = (refl, refl, refl)

-- the next arrival leads, and the waiter 1 is told that it doesn't
pub the_next_arrival_leads :
    (names_leader (barrier_next 2 4 4 one_gives_up (Register 3 tt false)) ≡ true)
    × (entry_at (barrier_next 2 4 4 one_gives_up (Register 3 tt false)).before.book 1 ≡ Waiting Arrive true)
    × (poll_reply (barrier_next 2 4 4 one_gives_up (Register 3 tt false)).after.state 1 ≡ Polled (Ok false))
    × (poll_reply (barrier_next 2 4 4 one_gives_up (Register 3 tt false)).after.state 3 ≡ Polled (Ok true))
unfolding settled
the_next_arrival_leads = (refl, refl, refl, refl)

-- as the law says it
pub the_next_arrival_completes_a_round : CompletesRound 2 (barrier_next 2 4 4 one_gives_up (Register 3 tt false))
the_next_arrival_completes_a_round =
    CompletesRound-next_fixed 2 4 4 one_gives_up (Register 3 tt false)
    (All-from_recursion (IsWithin 4) one_gives_up (omega arith, (omega arith, (omega arith, (omega arith, (omega arith, (omega arith, tt)))))))
    (omega arith) (All-from_recursion IsOfFixedSize one_gives_up (tt, (tt, (tt, (tt, (tt, (tt, tt))))))) tt the_next_arrival_leads.0

-- Rounds are counted, whoever completes them

-- at a barrier of two, 1 waits until one arrives that doesn't wait; once a task has joined, 2 and 3 wait until one has left; then 0 is
-- the second to arrive
abbrev three_rounds : List (CommandOf BarrierCall (Unit {0}))
three_rounds =
    Register 1 tt true ∷ Call DoArrive ∷ Call Join ∷ Register 2 tt true ∷ Register 3 tt true ∷ Call LeaveOne ∷ Call DoArrive
    ∷ Register 0 tt true ∷ []

-- three rounds are complete, of which one has a leader
pub three_rounds-counted :
    (count_by completes_round (barrier_run 2 4 4 three_rounds) ≡ 3)
    × (count_by names_leader (barrier_run 2 4 4 three_rounds) ≡ 1)
    × (round_of (state_after arrive_request barrier_step barrier_value three_rounds (newly_made (OfBarrier 2 0 0) 4 4)).held ≡ 3)
unfolding settled
three_rounds-counted = (refl, refl, refl)

-- Permits are conserved

-- a semaphore of five with one withheld: three are taken, 1 waits for two, two are released, and 1's grant is dropped;
-- 2 has three at once, and a try for one more is refused
abbrev permits_come_and_go : List (CommandOf SemaphoreCall ℕ)
permits_come_and_go =
    Call (TryAcquireMany 3) ∷ Register 1 2 true ∷ Call (ReleaseMany 2) ∷ Drop 1 ∷ Register 2 3 true ∷ Call (TryAcquireMany 1) ∷ []

-- eight were granted, four were given back, one was withheld, and five are out
pub permits_come_and_go-counts :
    (sum_by granted_by (semaphore_run 5 4 4 3 permits_come_and_go) ≡ 8)
    × (sum_by given_back_by (semaphore_run 5 4 4 3 permits_come_and_go) ≡ 4)
    × (out_of (state_after Permits semaphore_step semaphore_value permits_come_and_go (new_semaphore 5 4 4 3)).held ≡ 5)
unfolding settled
permits_come_and_go-counts = (refl, refl, refl)

-- three are granted to 1, and somebody who never had them releases all that is out; the grant that is dropped then finds
-- nothing to give back
abbrev a_grant_that_was_released : List (CommandOf SemaphoreCall ℕ)
a_grant_that_was_released = Register 1 3 true ∷ Call (ReleaseMany 3) ∷ Drop 1 ∷ []

-- so three were granted and three given back, not six
pub a_grant_that_was_released-counts :
    (sum_by granted_by (semaphore_run 5 5 4 3 a_grant_that_was_released) ≡ 3)
    × (sum_by given_back_by (semaphore_run 5 5 4 3 a_grant_that_was_released) ≡ 3)
    × (out_of (state_after Permits semaphore_step semaphore_value a_grant_that_was_released (new_semaphore 5 5 4 3)).held ≡ 0)
unfolding settled
a_grant_that_was_released-counts = (refl, refl, refl)

-- three are tried, two are granted to 1, and the three are released: no more than were in hand
abbrev a_grant_that_is_out : List (CommandOf SemaphoreCall ℕ)
a_grant_that_is_out = Call (TryAcquireMany 3) ∷ Register 1 2 true ∷ Call (ReleaseMany 3) ∷ []

-- so a drop gives back the two; that of the grant that was released gave back nothing, as three were released and none in hand
pub a_grant_that_is_out-counts :
    (sum_by released_by (semaphore_run 5 5 4 3 a_grant_that_is_out) ≡ 3)
    × (sum_by taken_in_hand_by (semaphore_run 5 5 4 3 a_grant_that_is_out) ≡ 3)
    × (entry_at (state_after Permits semaphore_step semaphore_value a_grant_that_is_out (new_semaphore 5 5 4 3)).book 1 ≡ Answered 0 (Permits 2) true false)
    × (sum_by given_back_by (semaphore_run 5 5 4 3 (a_grant_that_is_out ++ Drop 1 ∷ [])) ≡ 5)
    × (sum_by taken_in_hand_by (semaphore_run 5 5 4 3 a_grant_that_was_released) ≡ 0)
unfolding settled
a_grant_that_is_out-counts = (refl, refl, refl, refl, refl)

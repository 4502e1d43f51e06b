-- The permits of a semaphore: what a run grants and what it gives back, read off its commands, its replies, and the entries
-- before and after each command.
use Rattle.std.specs.Prelude.{ℕ, ◌+◌, Bool, true, false, ◌&&◌, ◌==◌, List, [], ◌∷◌, Result, Ok, Err, if◌then◌else◌}
use Rattle.saa_core_spec.specs.declared.request.Request.{Request}
use Rattle.saa_core_spec.specs.declared.request.Request.TheVariants.{Permits}
use Rattle.saa_core_spec.specs.declared.polling.Error.{Error}
use Rattle.saa_core_spec.specs.declared.semaphore.SemaphoreCall.{SemaphoreCall}
use Rattle.saa_core_spec.specs.declared.semaphore.SemaphoreCall.TheVariants.{TryAcquireMany, ReleaseMany}
use Rattle.saa_core_spec.specs.declared.semaphore.SemaphoreAnswer.{SemaphoreAnswer}
use Rattle.saa_core_spec.specs.declared.semaphore.SemaphoreAnswer.TheVariants.{Bool as SaysBool}
use Rattle.saa_core_spec.specs.declared.run.CommandOf.{CommandOf}
use Rattle.saa_core_spec.specs.declared.run.CommandOf.TheVariants.{Call, Register, TryPoll, PollSync, PollAsync, Drop, Leave}
use Rattle.saa_core_spec.specs.declared.run.ReplyOf.{ReplyOf}
use Rattle.saa_core_spec.specs.declared.run.ReplyOf.TheVariants.{Answered as Says, Registered, Polled}
use Rattle.saa_core_spec.specs.Object.{Object, Entry, Idle, Waiting, Answered, entry_at}
use Rattle.saa_core_spec.specs.Polling.{given_back}
use Rattle.saa_core_spec.specs.Values.{semaphore_value, granted_value}
use Rattle.saa_core_spec.specs.Semaphore.{semaphore_step, new_semaphore}
use Rattle.saa_core_laws.specs.Registrations.{is_registered}
use Rattle.saa_core_laws.specs.Steps.{Step, steps}

-- a step of a semaphore
abbrev pub SemaphoreStep : Type 0
SemaphoreStep = Step SemaphoreCall ℕ SemaphoreAnswer (Result (Unit {0}) Error)

-- the permits that a request asks
abbrev pub permits_of : Request → ℕ
permits_of (Permits n) = n
permits_of _ = 0

-- the permits that an entry has that is a grant and isn't consumed
abbrev pub grant_of : Entry → ℕ
grant_of Idle = 0
grant_of (Waiting request is_sync) = 0
grant_of (Answered value request is_sync slotted) = if value == granted_value then permits_of request else 0

-- what a command with this reply takes at once: the permits of a try that is answered true, and of a registration that is
-- answered `Ok(true)` and whose entry is a grant in the book that it leaves
abbrev pub taken_at_once : CommandOf SemaphoreCall ℕ → ReplyOf SemaphoreAnswer (Result (Unit {0}) Error) → List Entry → ℕ
taken_at_once (Call (TryAcquireMany n)) (Says (SaysBool is_so)) book = if is_so then n else 0
taken_at_once (Register name n is_sync) (Registered answer) book = if is_registered answer then grant_of (entry_at book name) else 0
taken_at_once _ _ book = 0

-- what a name is granted that waited before and is answered with a grant after
abbrev pub granted_between : (before after : Entry) → ℕ
granted_between (Waiting request is_sync) (Answered value asked was_sync slotted) = if value == granted_value then permits_of request else 0
granted_between _ _ = 0

-- what is granted to all waiters that are answered with a grant after
abbrev pub granted_in_books : (before after : List Entry) → ℕ
granted_in_books [] after = 0
granted_in_books (entry ∷ before) [] = 0
granted_in_books (entry ∷ before) (other ∷ after) = granted_between entry other + granted_in_books before after

-- what a step grants
abbrev pub granted_by : SemaphoreStep → ℕ
granted_by step =
    taken_at_once step.command step.after.reply step.after.state.book
    + granted_in_books step.before.book step.after.state.book

-- What a drop of a name with this entry gives back. A grant that isn't consumed is released: it gives back its permits
-- where a release of so many would be answered true, and else nothing, as that release
abbrev pub dropped_grant : Object → Entry → ℕ
dropped_grant s Idle = 0
dropped_grant s (Waiting request is_sync) = 0
dropped_grant s (Answered value request is_sync slotted) =
    if value == granted_value && (given_back s request).reply then permits_of request else 0

-- what a command with this reply gives back: the permits of a release that is answered true, and of a grant that is dropped
abbrev pub released : Object → CommandOf SemaphoreCall ℕ → ReplyOf SemaphoreAnswer (Result (Unit {0}) Error) → ℕ
released s (Call (ReleaseMany n)) (Says (SaysBool is_so)) = if is_so then n else 0
released s (Drop name) reply = dropped_grant s (entry_at s.book name)
released s (Leave name) reply = dropped_grant s (entry_at s.book name)
released s _ _ = 0

-- what a step gives back
abbrev pub given_back_by : SemaphoreStep → ℕ
given_back_by step = released step.before step.command step.after.reply

-- whether a poll has its value
abbrev pub has_value : Result (Unit {0}) Error → Bool
has_value (Ok value) = true
has_value (Err error) = false

-- what a command with this reply takes into somebody's hands: the permits of a try that is answered true, and of a grant
-- whose poll has its value
abbrev pub taken_in_hand : Object → CommandOf SemaphoreCall ℕ → ReplyOf SemaphoreAnswer (Result (Unit {0}) Error) → ℕ
taken_in_hand s (Call (TryAcquireMany n)) (Says (SaysBool is_so)) = if is_so then n else 0
taken_in_hand s (TryPoll name) (Polled answer) = if has_value answer then grant_of (entry_at s.book name) else 0
taken_in_hand s (PollSync name) (Polled answer) = if has_value answer then grant_of (entry_at s.book name) else 0
taken_in_hand s (PollAsync name) (Polled answer) = if has_value answer then grant_of (entry_at s.book name) else 0
taken_in_hand s _ _ = 0

-- what a step takes in hand
abbrev pub taken_in_hand_by : SemaphoreStep → ℕ
taken_in_hand_by step = taken_in_hand step.before step.command step.after.reply

-- what a call with this reply releases
abbrev pub released_by_call : CommandOf SemaphoreCall ℕ → ReplyOf SemaphoreAnswer (Result (Unit {0}) Error) → ℕ
released_by_call (Call (ReleaseMany n)) (Says (SaysBool is_so)) = if is_so then n else 0
released_by_call _ _ = 0

-- what a step releases by a call
abbrev pub released_by : SemaphoreStep → ℕ
released_by step = released_by_call step.command step.after.reply

-- the steps of a run of a newly made semaphore
abbrev pub semaphore_run : (bound permits room names : ℕ) → List (CommandOf SemaphoreCall ℕ) → List SemaphoreStep
semaphore_run bound permits room names commands =
    steps Permits semaphore_step semaphore_value commands (new_semaphore bound permits room names)

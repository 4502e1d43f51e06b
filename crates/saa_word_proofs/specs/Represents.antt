-- The sequential semaphore or lock that represents an abstract state with what each place is registered as, while no place is in a call;
-- and the command of it that a call is. A reader of the clauses on solo runs has to believe this.
use Rattle.std.specs.Prelude.{◌≡◌, ℕ, ◌<◌, Bool, false, true, if◌then◌else◌, List, [], ◌∷◌, length, Option, Some, None, Result, Ok, Err}
use Rattle.saa_core_spec.specs.declared.polling.Error.{Error}
use Rattle.saa_core_spec.specs.declared.request.Full.{Full}
use Rattle.saa_core_spec.specs.declared.run.CommandOf.{CommandOf}
use Rattle.saa_core_spec.specs.declared.run.CommandOf.TheVariants.{Call, Register as Registers, TryPoll as Polls, Drop}
use Rattle.saa_core_spec.specs.declared.run.ReplyOf.{ReplyOf}
use Rattle.saa_core_spec.specs.declared.run.ReplyOf.TheVariants.{Answered as Replied, Registered, Polled, Dropped}
use Rattle.saa_core_spec.specs.declared.semaphore.SemaphoreCall.{SemaphoreCall}
use Rattle.saa_core_spec.specs.declared.semaphore.SemaphoreCall.TheVariants.{TryAcquireMany, ReleaseMany, AvailablePermits, Shut as Shuts, IsShut as AsksShut}
use Rattle.saa_core_spec.specs.declared.semaphore.SemaphoreAnswer.{SemaphoreAnswer}
use Rattle.saa_core_spec.specs.declared.semaphore.SemaphoreAnswer.TheVariants.{Bool as SaysBool, Number as SaysNumber}
use Rattle.saa_core_spec.specs.declared.lock.Mode.{Mode}
use Rattle.saa_core_spec.specs.declared.lock.LockCall.{LockCall}
use Rattle.saa_core_spec.specs.declared.lock.LockCall.TheVariants.{TryLock as TriesLock, TryShare as TriesShare, ReleaseLock as ReleasesLock, ReleaseShare as ReleasesShare, Downgrade as Downgrades, PoisonLock as PoisonsLock, ClearPoison as ClearsPoison, IsFree as AsksFree, IsLocked as AsksLocked, IsShared as AsksShared, IsPoisoned as AsksPoisoned}
use Rattle.saa_core_spec.specs.declared.lock.LockAnswer.{LockAnswer}
use Rattle.saa_core_spec.specs.declared.lock.LockAnswer.TheVariants.{Bool as LockBool, Tried as LockTried}
use Rattle.saa_core_spec.specs.Held.{Held, OfLock, OfShutSemaphore, Poisoned}
use Rattle.saa_core_spec.specs.Lock.{lock_step, mode_request}
use Rattle.saa_core_spec.specs.Object.{Object, After, Entry, Idle, Waiting, Answered, Waiter, entry_at}
use Rattle.saa_core_spec.specs.Semaphore.{semaphore_step}
use Rattle.saa_core_spec.specs.Values.{lock_value}
use Rattle.saa_core_spec.specs.Run.{done}
use Rattle.saa_core_words.specs.Words.{permits_of}
use Rattle.saa_word_steps.specs.declared.place.Registration.{Registration}
use Rattle.saa_word_steps.specs.declared.place.Registration.TheVariants.{Idle as IsIdle, AnsweredAtOnce, Queued}
use Rattle.saa_word_steps.specs.declared.call.Answer.{Answer}
use Rattle.saa_word_steps.specs.declared.call.Answer.TheVariants.{Bool as Says, Number, Tried, Taken, Unit as SaysNothing}
use Rattle.saa_word_steps.specs.declared.call.WordCall.{WordCall}
use Rattle.saa_word_steps.specs.declared.call.WordCall.TheVariants.{Try, Register, Release, Available, Shut, IsShut, TryLock, TryShare, RegisterMode, ReleaseLock, ReleaseShare, Downgrade, PoisonLock, ClearPoison, IsFree, IsLocked, IsShared, IsPoisoned, Cancel}
use Rattle.saa_word_steps.specs.Needs.{Needs}
use Rattle.saa_word_steps.specs.AbstractState.{AbstractState}

-- a line with the requests themselves in place of their numbers
abbrev pub waiters : Needs → List (ℕ × ℕ) → List Waiter
waiters needs [] = []
waiters needs (asker ∷ rest) = (asker.0, needs.read asker.1) ∷ waiters needs rest

-- the entry of a place by what it is registered as and the answer that is shown to it: a place that joined the line waits until there is one
abbrev pub entry_of : Needs → Registration → Option ℕ → (is_sync : Bool) → Entry
entry_of needs IsIdle answered is_sync = Idle
entry_of needs (AnsweredAtOnce value request) answered is_sync = Answered value (needs.read request) is_sync false
entry_of needs (Queued request) None is_sync = Waiting (needs.read request) is_sync
entry_of needs (Queued request) (Some value) is_sync = Answered value (needs.read request) is_sync true

-- what is held at a count where every request is refused: a poisoned lock, or a shut semaphore
abbrev pub refusing : Needs → ℕ → Held
refusing needs count = if needs.is_lock then OfLock Poisoned else OfShutSemaphore needs.top count

-- what is held at a count, where every request is refused and where not
abbrev pub held_where : Needs → Bool → ℕ → Held
held_where needs poisoned count = if poisoned then refusing needs count else needs.held count

-- what the abstract state holds
abbrev pub held_at : Needs → AbstractState → Held
held_at needs state = held_where needs state.poisoned state.count

-- The sequential object holds what the abstract state does, has the same line, and an entry for each place by what that is registered as, sync
-- or async. It has room for all places
pub record Represents (needs : Needs) (places : ℕ) (registered : ℕ → Registration) (state : AbstractState) (s : Object) : Type 0 where
  pub held : s.held ≡ held_at needs state
  pub line : s.line ≡ waiters needs state.line
  pub names : length s.book ≡ places
  pub entries : (place : ℕ) → place < places
      → (is_sync : Bool) × (entry_at s.book place ≡ entry_of needs (registered place) (state.answered place) is_sync)
  pub room : s.room ≡ places
  pub alone : s.outside ≡ 0

-- the command of a semaphore that a call of a place is, registered as sync or async. A call of a lock is none, and is put as a poll
abbrev pub semaphore_command : ℕ → (is_sync : Bool) → WordCall → CommandOf SemaphoreCall ℕ
semaphore_command me is_sync (Try count) = Call (TryAcquireMany count)
semaphore_command me is_sync (Register count) = Registers me count is_sync
semaphore_command me is_sync (Release count) = Call (ReleaseMany count)
semaphore_command me is_sync Available = Call AvailablePermits
semaphore_command me is_sync Shut = Call Shuts
semaphore_command me is_sync IsShut = Call AsksShut
semaphore_command me is_sync Cancel = Drop me
semaphore_command me is_sync _ = Polls me

-- the same of a lock
abbrev pub lock_command : ℕ → (is_sync : Bool) → WordCall → CommandOf LockCall Mode
lock_command me is_sync TryLock = Call TriesLock
lock_command me is_sync TryShare = Call TriesShare
lock_command me is_sync (RegisterMode mode) = Registers me mode is_sync
lock_command me is_sync ReleaseLock = Call ReleasesLock
lock_command me is_sync ReleaseShare = Call ReleasesShare
lock_command me is_sync Downgrade = Call Downgrades
lock_command me is_sync PoisonLock = Call PoisonsLock
lock_command me is_sync ClearPoison = Call ClearsPoison
lock_command me is_sync IsFree = Call AsksFree
lock_command me is_sync IsLocked = Call AsksLocked
lock_command me is_sync IsShared = Call AsksShared
lock_command me is_sync IsPoisoned = Call AsksPoisoned
lock_command me is_sync Cancel = Drop me
lock_command me is_sync _ = Polls me

-- what a reply is as the answer of a call
abbrev pub semaphore_says : SemaphoreAnswer → Answer
semaphore_says (SaysBool said) = Says said
semaphore_says (SaysNumber count) = Number count

abbrev pub lock_says : LockAnswer → Answer
lock_says (LockBool said) = Says said
lock_says (LockTried said) = Tried said

abbrev pub registering_says : Result Bool Full → Answer
registering_says (Ok said) = Says said
registering_says (Err full) = SaysNothing

abbrev pub answer_in : {A : Type 0} → (A → Answer) → ReplyOf A (Result Bool Error) → Answer
answer_in says (Replied answer) = says answer
answer_in says (Registered said) = registering_says said
answer_in says (Polled value) = Taken value
answer_in says Dropped = SaysNothing

-- what the sequential semaphore, or the sequential lock, answers to a call of a place, and leaves
abbrev pub said_by : {A : Type 0} → (A → Answer) → After (ReplyOf A (Result Bool Error)) → After Answer
said_by says after = record { state = after.state; reply = answer_in says after.reply }

abbrev pub called : (is_lock : Bool) → ℕ → (is_sync : Bool) → WordCall → Object → After Answer
called false me is_sync call s = said_by semaphore_says (done permits_of semaphore_step lock_value (semaphore_command me is_sync call) s)
called true me is_sync call s = said_by lock_says (done mode_request lock_step lock_value (lock_command me is_sync call) s)

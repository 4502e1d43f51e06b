-- What calls that wait do to a registration, by what a form's own calls do to it.
use Rattle.std.specs.Prelude.{◌≡◌, ◌&&◌, ℕ, Bool, true, false, Option, None, Some, is_some, Result, Ok, Err, IfSome, IfOk}
use Rattle.saa_core_spec.specs.declared.polling.Error.{Error}
use Rattle.saa_core_spec.specs.declared.polling.Error.TheVariants.{NotRegistered}
use Rattle.saa_core_spec.specs.declared.polling.How.{How}
use Rattle.saa_core_spec.specs.declared.request.Full.{Full}
use Rattle.saa_core_spec.specs.Errors.{error_of, why_none, is_not_ready, is_refusal, says_not_registered, says_wrong_mode}
use Rattle.saa_core_waits.specs.declared.waitable.CallStart.{CallStart}
use Rattle.saa_core_waits.specs.declared.waitable.CallStart.TheVariants.{Refused, Answered, Joined}

-- the error that a reading is, by the error in place of its number, if there is one; that a semaphore was shut is no error of a poll
abbrev pub poll_fault : Option Error → Option Error
poll_fault None = None
poll_fault (Some error) = why_none error

-- how a call begins whose first poll says this
abbrev pub start_of : Result ℕ Error → CallStart
start_of (Ok value) = Answered value
start_of (Err error) = Joined

module _ {Registration : Type 0} where
  -- how a call begins, by what its registration says: only a true one is polled
  abbrev pub StartsAs : (Registration → Registration → Result ℕ Error → Type 0) → Result Bool Full → Registration → Registration → Result CallStart Full → Type 0
  StartsAs Polls (Err full) old new start = (start ≡ Err full) × (new ≡ old)
  StartsAs Polls (Ok false) old new start = (start ≡ Ok Refused) × (new ≡ old)
  StartsAs Polls (Ok true) old new start = (answer : Result ℕ Error) × Polls old new answer × (start ≡ Ok (start_of answer))

  -- A call begins with a registration, and a poll where that is true
  pub record HasStarted (Registers : Registration → Registration → Result Bool Full → Type 0) (Polls : Registration → Registration → Result ℕ Error → Type 0) (old new : Registration) (start : Result CallStart Full) : Type 0 where
    pub between : Registration
    pub reply : Result Bool Full
    pub registered : Registers old between reply
    pub started : StartsAs Polls reply between new start

  -- what is left to do where a last poll says this: where it has no answer, a cancel
  abbrev pub CancelsUnanswered : (Registration → Registration → Type 0) → Result ℕ Error → Registration → Registration → Type 0
  CancelsUnanswered Cancels (Ok value) old new = new ≡ old
  CancelsUnanswered Cancels (Err error) old new = Cancels old new

  -- A call ends with a poll, and a cancel where that has no answer
  pub record HasEnded (Polls : Registration → Registration → Result ℕ Error → Type 0) (Cancels : Registration → Registration → Type 0) (old new : Registration) (answer : Result ℕ Error) : Type 0 where
    pub between : Registration
    pub polled : Polls old between answer
    pub cancelled : CancelsUnanswered Cancels answer between new

  -- how a call goes on that began so: one that is refused has nothing registered, and one that has joined ends with a poll
  abbrev pub EndsAs : (Registration → Registration → Result ℕ Error → Type 0) → (Registration → Registration → Type 0) → Result CallStart Full → Registration → Registration → Result (Result ℕ Error) Full → Type 0
  EndsAs Polls Cancels (Err full) old new answer = (answer ≡ Err full) × (new ≡ old)
  EndsAs Polls Cancels (Ok Refused) old new answer = (answer ≡ Ok (Err NotRegistered)) × (new ≡ old)
  EndsAs Polls Cancels (Ok (Answered value)) old new answer = (answer ≡ Ok (Ok value)) × (new ≡ old)
  EndsAs Polls Cancels (Ok Joined) old new answer = (last : Result ℕ Error) × HasEnded Polls Cancels old new last × (answer ≡ Ok last)

  -- A call that blocks is a registration, polls, and a cancel where the last of these has no answer
  pub record IsAcquired (Registers : Registration → Registration → Result Bool Full → Type 0) (Polls : Registration → Registration → Result ℕ Error → Type 0) (Cancels : Registration → Registration → Type 0) (old new : Registration) (answer : Result (Result ℕ Error) Full) : Type 0 where
    pub between : Registration
    pub start : Result CallStart Full
    pub started : HasStarted Registers Polls old between start
    pub ended : EndsAs Polls Cancels start between new answer

  -- A poll in this way that answered with this error, or with none, in the registration's own terms: whether it is registered, whether
  -- the way is that of the other mode, and the number that it was answered at once, if it was. It is registered
  -- afterwards exactly where it was before and the poll had an error; then it is unchanged. An idle one isn't
  -- registered. In the wrong mode there is no answer, and the error says so, or that it isn't registered there;
  -- in the right mode no error speaks of the mode. One that was answered at once is registered wherever it is
  -- polled, and has its answer: so its one error is that of the mode
  pub record HasPolled (is_busy : Registration → Bool) (is_wrong_mode : How → Registration → Bool) (at_once : Registration → Option ℕ) (how : How) (old new : Registration) (fault : Option Error) : Type 0 where
    pub registered : is_busy new ≡ (is_busy old && is_some fault)
    pub idle : is_busy old ≡ false → fault ≡ Some NotRegistered
    pub same : is_some fault ≡ true → new ≡ old
    pub wrong : is_wrong_mode how old ≡ true → is_refusal fault ≡ true
    pub right : is_wrong_mode how old ≡ false → says_wrong_mode fault ≡ false
    pub known : is_some (at_once old) ≡ true → says_not_registered fault ≡ false
    pub there : is_some (at_once old) ≡ true → is_not_ready fault ≡ false

-- A poll is told what a number reads as, or why there is none; a number came as the primitive says. One that was answered at once is told its own number
pub record ReadsAs {A : Type 0} (at_once : Option ℕ) (answers : ℕ → Type 0) (reading : Result ℕ Error → A) (fault : A → Option Error) (answer : A) : Type 0 where
  pub number : Result ℕ Error
  pub own : IfSome at_once (λ kept. IfOk number (λ value. value ≡ kept))
  pub came : IfOk number answers
  pub reads : answer ≡ reading number
  pub error : fault answer ≡ error_of number

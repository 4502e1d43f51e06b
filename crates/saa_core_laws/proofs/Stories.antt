-- A registration is answered at most once and its answer consumed at most once, over every run of each primitive.
use Rattle.std.proofs.Common.{◌≡◌, ℕ, ◌≤◌, Bool, true, false, not, ◌||◌, inl, inr, List, [], ◌∷◌, length, set, Option, Some, None, refl, sym, ap, ◌∙◌, arith, All}
use Rattle.std.specs.Prelude.{Result, map}
use Rattle.std.specs.List.{AllByRecursion}
use Rattle.std.proofs.lemmas.Bool.{cases_lt}
use Rattle.std.proofs.lemmas.List.{length-replicate}
use Rattle.std.proofs.lemmas.List.Elements.{recursion_from_All}
use Rattle.saa_core_spec.specs.declared.request.Request.{Request}
use Rattle.saa_core_spec.specs.declared.request.Request.TheVariants.{Permits}
use Rattle.saa_core_spec.specs.declared.polling.How.TheVariants.{Try, Sync, Async}
use Rattle.saa_core_spec.specs.declared.polling.Error.{Error}
use Rattle.saa_core_spec.specs.declared.semaphore.SemaphoreCall.{SemaphoreCall}
use Rattle.saa_core_spec.specs.declared.semaphore.SemaphoreAnswer.{SemaphoreAnswer}
use Rattle.saa_core_spec.specs.declared.lock.Mode.{Mode}
use Rattle.saa_core_spec.specs.declared.lock.LockCall.{LockCall}
use Rattle.saa_core_spec.specs.declared.lock.LockAnswer.{LockAnswer}
use Rattle.saa_core_spec.specs.declared.gate.GateCall.{GateCall}
use Rattle.saa_core_spec.specs.declared.gate.GateAnswer.{GateAnswer}
use Rattle.saa_core_spec.specs.declared.barrier.BarrierCall.{BarrierCall}
use Rattle.saa_core_spec.specs.declared.barrier.BarrierAnswer.{BarrierAnswer}
use Rattle.saa_core_spec.specs.declared.run.CommandOf.{CommandOf}
use Rattle.saa_core_spec.specs.declared.run.CommandOf.TheVariants.{Call, Register, TryPoll, PollSync, PollAsync, Drop, Leave}
use Rattle.saa_core_spec.specs.Object.{Object, After, Entry, Idle, Waiting, Answered, entry_at, newly_made}
use Rattle.saa_core_spec.specs.Asking.{is_idle, answer_at_once, registered_of}
use Rattle.saa_core_spec.specs.declared.gate.State.{State}
use Rattle.saa_core_spec.specs.declared.gate.Error.{Error as GateError}
use Rattle.saa_core_spec.specs.Values.{semaphore_value, lock_value, gate_value, barrier_value}
use Rattle.saa_core_spec.specs.Semaphore.{semaphore_step}
use Rattle.saa_core_spec.specs.Lock.{lock_step, mode_request}
use Rattle.saa_core_spec.specs.Gate.{gate_step, enter_request}
use Rattle.saa_core_spec.specs.Barrier.{barrier_step, arrive_request}
use Rattle.saa_core_spec.specs.Run.{IsWithin, done, state_after, replies}
use Rattle.saa_core_laws.specs.Registrations.{as_kept, registers, value_polled, drops, is_value, registered_then, registered_after, is_answered, Story, IsStory, found, registered_in, next_of, read_reply, AnswersOnce}
use Rattle.saa_core_laws.proofs.Order.{set_past}
use Rattle.saa_core_laws.proofs.Kept.{entry_at-replicate}
use Rattle.saa_core_laws.proofs.Books.{KeepsBook, KeepsBook-same, KeepsBook-answered, KeepsBook-semaphore_step, KeepsBook-lock_step, KeepsBook-gate_step, KeepsBook-barrier_step}
use Rattle.saa_core_laws.proofs.Reading.{ReadsStep, ReadsStep-kept, ReadsStep-polled, ReadsStep-registered, ReadsStep-dropped, ReadsStep-withdrawn}

-- a registration of a name that isn't there, by its four cases, keeps the book
pub KeepsBook-registered_past : (s : Object) (other : ℕ) (request : Request) (is_sync is_refused : Bool) (answer : Option (After ℕ)) (is_full : Bool)
    → length s.book ≤ other → answer_at_once s request ≡ answer
    → KeepsBook s.book (registered_of s other request is_sync is_refused answer is_full).state.book
KeepsBook-registered_past s other request is_sync true answer is_full past e = KeepsBook-same s.book
KeepsBook-registered_past s other request is_sync false (Some answer) is_full past e =
    let keeps = KeepsBook-answered s s.held request answer e in
    let unwritten : set answer.state.book other (Answered answer.reply request is_sync false) ≡ answer.state.book =
    set_past answer.state.book other (Answered answer.reply request is_sync false) (omega (arith, keeps.size)) in
    rw unwritten keeps
KeepsBook-registered_past s other request is_sync false None true past e = KeepsBook-same s.book
KeepsBook-registered_past s other request is_sync false None false past e =
    rw (set_past s.book other (Waiting request is_sync) past) (KeepsBook-same s.book)

-- what stands once nothing was made and a value was taken stood before, where it is so that what is taken isn't idle
pub not_idle-answered : (entry : Entry) (value : ℕ) (request : Request) (is_sync slotted : Bool) → entry ≡ Answered value request is_sync slotted
    → not (is_idle entry) ≡ true
not_idle-answered entry value request is_sync slotted e = ap (λ (e : Entry). not (is_idle e)) e

module _ {C K A : Type 0} (request : K → Request) (step : C → Object → After A)
    (calls : (call : C) (s : Object) → KeepsBook s.book (step call s).state.book) where
  -- every command that speaks of names that there are
  pub ReadsStep-done : (name : ℕ) (command : CommandOf C K) (s : Object) → IsWithin (length s.book) command
      → ReadsStep name s (done request step as_kept command s).state
      (registers name command (done request step as_kept command s).reply)
      (value_polled name command (done request step as_kept command s).reply)
      (drops name command)
  ReadsStep-done name (Call call) s within = ReadsStep-kept name s (step call s).state (calls call s)
  ReadsStep-done name (Register other ask is_sync) s within = ReadsStep-registered name other s (request ask) is_sync within
  ReadsStep-done name (TryPoll other) s within = ReadsStep-polled name other s Try
  ReadsStep-done name (PollSync other) s within = ReadsStep-polled name other s Sync
  ReadsStep-done name (PollAsync other) s within = ReadsStep-polled name other s Async
  ReadsStep-done name (Drop other) s within = ReadsStep-dropped name other s
  ReadsStep-done name (Leave other) s within = ReadsStep-withdrawn name other s

  -- the value that is polled was there, of whatever names a command speaks
  pub answer-done : (s : Object) (command : CommandOf C K) (name value : ℕ)
      → value_polled name command (done request step as_kept command s).reply ≡ Some value
      → (asked : Request) × (is_sync : Bool) × (slotted : Bool) × (entry_at s.book name ≡ Answered value asked is_sync slotted)
  answer-done s (Call call) name value e = cc
  answer-done s (Register other ask is_sync) name value e = cc
  answer-done s (TryPoll other) name value e = (ReadsStep-polled name other s Try).answer value e
  answer-done s (PollSync other) name value e = (ReadsStep-polled name other s Sync).answer value e
  answer-done s (PollAsync other) name value e = (ReadsStep-polled name other s Async).answer value e
  answer-done s (Drop other) name value e = cc
  answer-done s (Leave other) name value e = cc

  -- an answer that is there stays, of whatever names a command speaks
  pub kept-done : (s : Object) (command : CommandOf C K) (name : ℕ) → is_answered (entry_at s.book name) ≡ true
      → value_polled name command (done request step as_kept command s).reply ≡ None → drops name command ≡ false
      → entry_at (done request step as_kept command s).state.book name ≡ entry_at s.book name
  kept-done s (Call call) name there none still = (calls call s).answer name there
  kept-done s (Register other ask is_sync) name there none still = elim (cases_lt other (length s.book)) [
    | inl within ↦ (ReadsStep-registered name other s (request ask) is_sync within).kept there refl refl
    | inr past ↦ (KeepsBook-registered_past s other (request ask) is_sync _ (answer_at_once s (request ask)) _ past refl).answer name there
  ]
  kept-done s (TryPoll other) name there none still = (ReadsStep-polled name other s Try).kept there none refl
  kept-done s (PollSync other) name there none still = (ReadsStep-polled name other s Sync).kept there none refl
  kept-done s (PollAsync other) name there none still = (ReadsStep-polled name other s Async).kept there none refl
  kept-done s (Drop other) name there none still = (ReadsStep-dropped name other s).kept there refl still
  kept-done s (Leave other) name there none still = (ReadsStep-withdrawn name other s).kept there refl still

  -- a run says which names stand, from what stood before it
  pub reads-run : (names name : ℕ) (commands : List (CommandOf C K)) (s : Object) (was_registered : Bool) → length s.book ≡ names
      → AllByRecursion (IsWithin names) commands → not (is_idle (entry_at s.book name)) ≡ was_registered
      → not (is_idle (entry_at (state_after request step as_kept commands s).book name)) ≡ registered_after name was_registered commands (replies request step as_kept commands s)
  reads-run names name [] s was_registered size within e = e
  reads-run names name (command ∷ commands) s was_registered size within e =
      let one = ReadsStep-done name command s (rw size within.0) in
      reads-run names name commands (done request step as_kept command s).state _ (one.size ∙ size) within.1
      (one.reads ∙ ap (registered_then (registers name command (done request step as_kept command s).reply)
      (is_value (value_polled name command (done request step as_kept command s).reply) || drops name command)) e)

  -- and keeps the size of the book
  pub size-run : (names : ℕ) (commands : List (CommandOf C K)) (s : Object) → length s.book ≡ names → AllByRecursion (IsWithin names) commands
      → length (state_after request step as_kept commands s).book ≡ names
  size-run names [] s size within = size
  size-run names (command ∷ commands) s size within =
      size-run names commands (done request step as_kept command s).state ((ReadsStep-done 0 command s (rw size within.0)).size ∙ size) within.1

  -- every name that isn't idle stands
  pub reads-story : (story : Story C K) (name : ℕ) → All (IsWithin story.names) story.commands
      → not (is_idle (entry_at (found request step story).book name)) ≡ registered_in request step story name
  reads-story story name within =
      reads-run story.names name story.commands (newly_made story.held story.room story.names) false (length-replicate story.names Idle)
      (recursion_from_All (IsWithin story.names) story.commands within)
      (ap (λ (e : Entry). not (is_idle e)) (entry_at-replicate story.names name))

  -- the next command of a story
  pub ReadsStep-next : (story : Story C K) (name : ℕ) → IsStory C K story
      → ReadsStep name (found request step story) (next_of request step story).state
      (registers name story.next (next_of request step story).reply)
      (value_polled name story.next (next_of request step story).reply)
      (drops name story.next)
  ReadsStep-next story name is =
      let size = size-run story.names story.commands (newly_made story.held story.room story.names) (length-replicate story.names Idle)
      (recursion_from_All (IsWithin story.names) story.commands is.commands) in
      ReadsStep-done name story.next (found request step story) (rw size is.next)

  -- the negation of a test
  pub stands_is_busy : (b was_registered : Bool) → not b ≡ was_registered → was_registered ≡ false → b ≡ true
  stands_is_busy true was_registered e f = refl
  stands_is_busy false was_registered e f = cc

  module _ {V : Type 0} (value : Result ℕ Error → V) where
    -- how a poll is read is no matter of what a command leaves
    pub same_state : (s : Object) (command : CommandOf C K) → (done request step value command s).state ≡ (done request step as_kept command s).state
    same_state s (Call call) = refl
    same_state s (Register name ask is_sync) = refl
    same_state s (TryPoll name) = refl
    same_state s (PollSync name) = refl
    same_state s (PollAsync name) = refl
    same_state s (Drop name) = refl
    same_state s (Leave name) = refl

    -- and its reply is the one that is read
    pub same_reply : (s : Object) (command : CommandOf C K)
        → (done request step value command s).reply ≡ read_reply value (done request step as_kept command s).reply
    same_reply s (Call call) = refl
    same_reply s (Register name ask is_sync) = refl
    same_reply s (TryPoll name) = refl
    same_reply s (PollSync name) = refl
    same_reply s (PollAsync name) = refl
    same_reply s (Drop name) = refl
    same_reply s (Leave name) = refl

    -- so all objects of a run are the same
    pub same_states-run : (s : Object) (commands : List (CommandOf C K)) → state_after request step value commands s ≡ state_after request step as_kept commands s
    same_states-run s [] = refl
    same_states-run s (command ∷ commands) =
        ap (state_after request step value commands) (same_state s command) ∙ same_states-run (done request step as_kept command s).state commands

    -- and all replies
    pub same_replies-run : (s : Object) (commands : List (CommandOf C K))
        → replies request step value commands s ≡ map (read_reply value) (replies request step as_kept commands s)
    same_replies-run s [] = refl
    same_replies-run s (command ∷ commands) =
        ap (λ reply. reply ∷ replies request step value commands (done request step value command s).state) (same_reply s command)
        ∙ ap (λ left. read_reply value (done request step as_kept command s).reply ∷ replies request step value commands left) (same_state s command)
        ∙ ap (λ others. read_reply value (done request step as_kept command s).reply ∷ others)
        (same_replies-run (done request step as_kept command s).state commands)

  -- all of it
  pub AnswersOnce-of : {V : Type 0} (value : Result ℕ Error → V) → AnswersOnce C K A V request step value
  AnswersOnce-of value = record {
    same_replies = same_replies-run value;
    same_states = same_states-run value;
    read = reads-story;
    registered = λ story name is e. sym (reads-story story name is.commands) ∙ ap not ((ReadsStep-next story name is).new e);
    polled = λ story name value is e.
        let was = (ReadsStep-next story name is).answer value e in
        sym (reads-story story name is.commands) ∙ not_idle-answered _ value was.0 was.1 was.2 was.3;
    dropped = λ story name is gone none.
        (ReadsStep-next story name is).unmoved gone (stands_is_busy _ _ (reads-story story name is.commands) none);
    answer = answer-done;
    kept = kept-done;
  }

-- the four primitives
pub AnswersOnce-semaphore : AnswersOnce SemaphoreCall ℕ SemaphoreAnswer (Result (Unit {0}) Error) Permits semaphore_step semaphore_value
AnswersOnce-semaphore = AnswersOnce-of Permits semaphore_step KeepsBook-semaphore_step semaphore_value

pub AnswersOnce-lock : AnswersOnce LockCall Mode LockAnswer (Result Bool Error) mode_request lock_step lock_value
AnswersOnce-lock = AnswersOnce-of mode_request lock_step KeepsBook-lock_step lock_value

pub AnswersOnce-gate : AnswersOnce GateCall (Unit {0}) GateAnswer (Result State GateError) enter_request gate_step gate_value
AnswersOnce-gate = AnswersOnce-of enter_request gate_step KeepsBook-gate_step gate_value

pub AnswersOnce-barrier : AnswersOnce BarrierCall (Unit {0}) BarrierAnswer (Result Bool Error) arrive_request barrier_step barrier_value
AnswersOnce-barrier = AnswersOnce-of arrive_request barrier_step KeepsBook-barrier_step barrier_value

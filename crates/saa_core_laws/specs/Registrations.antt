-- What the commands and the replies of a run say of the registrations of one name, and that this is so.
-- A poll is read as the number that it consumed, or why there is none, before a primitive says what the number means.
use Rattle.std.specs.Prelude.{◌≡◌, ℕ, Bool, true, false, not, ◌||◌, ◌==◌, List, [], ◌∷◌, Option, Some, None, Result, Ok, Err, All, map, if◌then◌else◌}
use Rattle.saa_core_spec.specs.declared.request.Request.{Request}
use Rattle.saa_core_spec.specs.declared.request.Full.{Full}
use Rattle.saa_core_spec.specs.declared.polling.Error.{Error}
use Rattle.saa_core_spec.specs.declared.run.CommandOf.{CommandOf}
use Rattle.saa_core_spec.specs.declared.run.CommandOf.TheVariants.{Register, TryPoll, PollSync, PollAsync, Drop, Leave}
use Rattle.saa_core_spec.specs.declared.run.ReplyOf.{ReplyOf}
use Rattle.saa_core_spec.specs.declared.run.ReplyOf.TheVariants.{Answered as Says, Registered, Polled, Dropped}
use Rattle.saa_core_spec.specs.Held.{Held}
use Rattle.saa_core_spec.specs.Object.{Object, After, Entry, Idle, Waiting, Answered, entry_at, newly_made}
use Rattle.saa_core_spec.specs.Asking.{is_idle}
use Rattle.saa_core_spec.specs.Run.{IsWithin, done, replies, state_after}

-- a poll's number, as it is kept
abbrev pub as_kept : Result ℕ Error → Result ℕ Error
as_kept answer = answer

-- whether a registration is answered that it was made: `Ok(true)`
abbrev pub is_registered : Result Bool Full → Bool
is_registered (Ok is_so) = is_so
is_registered (Err full) = false

-- whether a command with this reply registers a name
abbrev pub registers : {C K A : Type 0} → ℕ → CommandOf C K → ReplyOf A (Result ℕ Error) → Bool
registers name (Register other ask is_sync) (Registered answer) = if other == name then is_registered answer else false
registers name _ _ = false

-- the number that a poll has, if it has one
abbrev pub number_of : Result ℕ Error → Option ℕ
number_of (Ok value) = Some value
number_of (Err error) = None

-- the value that a command with this reply polls of a name, if it does
abbrev pub value_polled : {C K A : Type 0} → ℕ → CommandOf C K → ReplyOf A (Result ℕ Error) → Option ℕ
value_polled name (TryPoll other) (Polled answer) = if other == name then number_of answer else None
value_polled name (PollSync other) (Polled answer) = if other == name then number_of answer else None
value_polled name (PollAsync other) (Polled answer) = if other == name then number_of answer else None
value_polled name _ _ = None

-- whether a command drops a name
abbrev pub drops : {C K : Type 0} → ℕ → CommandOf C K → Bool
drops name (Drop other) = other == name
drops name (Leave other) = other == name
drops name _ = false

-- whether there is a value
abbrev pub is_value : Option ℕ → Bool
is_value (Some value) = true
is_value None = false

-- whether a name is registered once a registration was made, or taken away, or neither
abbrev pub registered_then : (is_made is_taken was_registered : Bool) → Bool
registered_then true is_taken was_registered = true
registered_then false true was_registered = false
registered_then false false was_registered = was_registered

-- Whether a name is registered after a run, read off its commands and replies alone: it is since a registration was
-- answered `Ok(true)`, until a poll has its value or it is dropped
abbrev pub registered_after : {C K A : Type 0} → ℕ → (was_registered : Bool) → List (CommandOf C K) → List (ReplyOf A (Result ℕ Error)) → Bool
registered_after name was_registered [] _ = was_registered
registered_after name was_registered (command ∷ commands) [] = was_registered
registered_after name was_registered (command ∷ commands) (reply ∷ others) =
    registered_after name (registered_then (registers name command reply) (is_value (value_polled name command reply) || drops name command) was_registered) commands others

-- whether an entry is an answer that is there
abbrev pub is_answered : Entry → Bool
is_answered Idle = false
is_answered (Waiting request is_sync) = false
is_answered (Answered value request is_sync slotted) = true

-- a run over newly made names, and the next command: every name is idle at first, whatever is held
pub record Story (C K : Type 0) : Type 0 where
  pub held : Held
  pub room : ℕ
  pub names : ℕ
  pub commands : List (CommandOf C K)
  pub next : CommandOf C K

-- every command of it speaks of a name that there is
pub record IsStory (C K : Type 0) (story : Story C K) : Type 0 where
  pub commands : All (IsWithin story.names) story.commands
  pub next : IsWithin story.names story.next

-- the object that the next command of a story finds
abbrev pub found : {C K A : Type 0} → (K → Request) → (C → Object → After A) → Story C K → Object
found request step story = state_after request step as_kept story.commands (newly_made story.held story.room story.names)

-- whether a name is registered there, by what was commanded and replied until then
abbrev pub registered_in : {C K A : Type 0} → (K → Request) → (C → Object → After A) → Story C K → ℕ → Bool
registered_in request step story name =
    registered_after name false story.commands (replies request step as_kept story.commands (newly_made story.held story.room story.names))

-- what the next command of a story leaves and replies
abbrev pub next_of : {C K A : Type 0} → (K → Request) → (C → Object → After A) → Story C K → After (ReplyOf A (Result ℕ Error))
next_of request step story = done request step as_kept story.next (found request step story)

-- a reply with its poll read as a primitive reads it
abbrev pub read_reply : {A V : Type 0} → (Result ℕ Error → V) → ReplyOf A (Result ℕ Error) → ReplyOf A V
read_reply value (Says answer) = Says answer
read_reply value (Registered answer) = Registered answer
read_reply value (Polled answer) = Polled (value answer)
read_reply value Dropped = Dropped

-- A registration is answered at most once, and its answer is consumed at most once
pub record AnswersOnce (C K A V : Type 0) (request : K → Request) (step : C → Object → After A) (value : Result ℕ Error → V) : Type 0 where
  -- the replies of a primitive are those that are read here, each poll as the primitive reads it, and its objects are these
  pub same_replies : (s : Object) (commands : List (CommandOf C K))
      → replies request step value commands s ≡ map (read_reply value) (replies request step as_kept commands s)
  pub same_states : (s : Object) (commands : List (CommandOf C K))
      → state_after request step value commands s ≡ state_after request step as_kept commands s
  -- a name isn't idle exactly where its commands and replies say that it is registered
  pub read : (story : Story C K) (name : ℕ) → All (IsWithin story.names) story.commands
      → not (is_idle (entry_at (found request step story).book name)) ≡ registered_in request step story name
  -- a registration is answered `Ok(true)` only where there is none
  pub registered : (story : Story C K) (name : ℕ) → IsStory C K story
      → registers name story.next (next_of request step story).reply ≡ true → registered_in request step story name ≡ false
  -- a value is polled only where a name is registered
  pub polled : (story : Story C K) (name value : ℕ) → IsStory C K story
      → value_polled name story.next (next_of request step story).reply ≡ Some value → registered_in request step story name ≡ true
  -- a drop of a name that isn't registered does nothing
  pub dropped : (story : Story C K) (name : ℕ) → IsStory C K story
      → drops name story.next ≡ true → registered_in request step story name ≡ false
      → (next_of request step story).state ≡ found request step story
  -- The value that is polled is the answer that was there. This and the next are so of every object, reached or not
  pub answer : (s : Object) (command : CommandOf C K) (name value : ℕ)
      → value_polled name command (done request step as_kept command s).reply ≡ Some value
      → (asked : Request) × (is_sync : Bool) × (slotted : Bool) × (entry_at s.book name ≡ Answered value asked is_sync slotted)
  -- an answer that is there stays as it is under every command but a poll that has it and a drop
  pub kept : (s : Object) (command : CommandOf C K) (name : ℕ) → is_answered (entry_at s.book name) ≡ true
      → value_polled name command (done request step as_kept command s).reply ≡ None → drops name command ≡ false
      → entry_at (done request step as_kept command s).state.book name ≡ entry_at s.book name

-- A run: commands over numbered names, one after another, with their replies.
-- It takes what makes a primitive: the request of an ask, what its calls do, and what a poll's value means.
use Rattle.std.specs.Prelude.{ℕ, ◌<◌, Bool, List, [], ◌∷◌, Result}
use Rattle.saa_core_spec.specs.declared.request.Request.{Request}
use Rattle.saa_core_spec.specs.declared.polling.How.TheVariants.{Try, Sync, Async}
use Rattle.saa_core_spec.specs.declared.polling.Error.{Error}
use Rattle.saa_core_spec.specs.declared.request.Full.{Full}
use Rattle.saa_core_spec.specs.declared.run.CommandOf.{CommandOf}
use Rattle.saa_core_spec.specs.declared.run.CommandOf.TheVariants.{Call, Register, TryPoll, PollSync, PollAsync, Drop, Leave}
use Rattle.saa_core_spec.specs.declared.run.ReplyOf.{ReplyOf}
use Rattle.saa_core_spec.specs.declared.run.ReplyOf.TheVariants.{Answered, Registered, Polled, Dropped}
use Rattle.saa_core_spec.specs.Object.{Object, After}
use Rattle.saa_core_spec.specs.Asking.{registered}
use Rattle.saa_core_spec.specs.Polling.{polled, dropped, withdrawn}

-- whether a command speaks of no name but the first so many
abbrev pub IsWithin : {C K : Type 0} → ℕ → CommandOf C K → Type 0
IsWithin names (Call call) = Unit {0}
IsWithin names (Register name ask is_sync) = name < names
IsWithin names (TryPoll name) = name < names
IsWithin names (PollSync name) = name < names
IsWithin names (PollAsync name) = name < names
IsWithin names (Drop name) = name < names
IsWithin names (Leave name) = name < names

-- a call, a registration, a poll and a drop as commands
abbrev pub after_call : {A V : Type 0} → After A → After (ReplyOf A V)
after_call after = record { state = after.state; reply = Answered after.reply }

abbrev pub after_register : {A V : Type 0} → After (Result Bool Full) → After (ReplyOf A V)
after_register after = record { state = after.state; reply = Registered after.reply }

abbrev pub after_poll : {A V : Type 0} → (Result ℕ Error → V) → After (Result ℕ Error) → After (ReplyOf A V)
after_poll value after = record { state = after.state; reply = Polled (value after.reply) }

-- what one command answers, and leaves
abbrev pub done : {C K A V : Type 0} → (K → Request) → (C → Object → After A) → (Result ℕ Error → V) → CommandOf C K → Object → After (ReplyOf A V)
done request step value (Call call) s = after_call (step call s)
done request step value (Register name ask is_sync) s = after_register (registered s name (request ask) is_sync)
done request step value (TryPoll name) s = after_poll value (polled s name Try)
done request step value (PollSync name) s = after_poll value (polled s name Sync)
done request step value (PollAsync name) s = after_poll value (polled s name Async)
done request step value (Drop name) s = record { state = dropped s name; reply = Dropped }
done request step value (Leave name) s = record { state = withdrawn s name; reply = Dropped }

-- the replies to a list of commands, in order
abbrev pub replies : {C K A V : Type 0} → (K → Request) → (C → Object → After A) → (Result ℕ Error → V) → List (CommandOf C K) → Object → List (ReplyOf A V)
replies request step value [] s = []
replies request step value (command ∷ commands) s =
    (done request step value command s).reply ∷ replies request step value commands (done request step value command s).state

-- the state that a list of commands leaves
abbrev pub state_after : {C K A V : Type 0} → (K → Request) → (C → Object → After A) → (Result ℕ Error → V) → List (CommandOf C K) → Object → Object
state_after request step value [] s = s
state_after request step value (command ∷ commands) s =
    state_after request step value commands (done request step value command s).state

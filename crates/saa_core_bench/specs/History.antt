-- A history: commands, each with its reply, in the order in which they were done.
use Rattle.std.specs.Prelude.{◌≡◌, ℕ, List, map, Result}
use Rattle.saa_core_spec.specs.declared.request.Request.{Request}
use Rattle.saa_core_spec.specs.declared.polling.Error.{Error}
use Rattle.saa_core_spec.specs.declared.run.CommandOf.{CommandOf}
use Rattle.saa_core_spec.specs.declared.run.ReplyOf.{ReplyOf}
use Rattle.saa_core_spec.specs.Held.{OfBarrier}
use Rattle.saa_core_spec.specs.Object.{Object, After, newly_made}
use Rattle.saa_core_spec.specs.Run.{replies, state_after}

-- the commands of a history, and their replies
abbrev pub commands_of : {C K A V : Type 0} → List (CommandOf C K × ReplyOf A V) → List (CommandOf C K)
commands_of history = map (λ entry. entry.0) history

abbrev pub replies_of : {C K A V : Type 0} → List (CommandOf C K × ReplyOf A V) → List (ReplyOf A V)
replies_of history = map (λ entry. entry.1) history

-- A history replays from one state to another: the run of its commands from the first gives its replies, and leaves the
-- second
pub record Replays {C K A V : Type 0} (request : K → Request) (step : C → Object → After A) (value : Result ℕ Error → V) (opening : Object) (history : List (CommandOf C K × ReplyOf A V)) (now : Object) : Type 0 where
  pub replied : replies request step value (commands_of history) opening ≡ replies_of history
  pub left : state_after request step value (commands_of history) opening ≡ now

-- an object that is nothing in particular
pub nothing : Object
nothing = newly_made (OfBarrier 0 0 0) 0 0

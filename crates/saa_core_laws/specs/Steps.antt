-- The steps of a run, one by one: what laws that count over a run count.
use Rattle.std.specs.Prelude.{ℕ, List, [], ◌∷◌, Result}
use Rattle.saa_core_spec.specs.declared.request.Request.{Request}
use Rattle.saa_core_spec.specs.declared.polling.Error.{Error}
use Rattle.saa_core_spec.specs.declared.run.CommandOf.{CommandOf}
use Rattle.saa_core_spec.specs.declared.run.ReplyOf.{ReplyOf}
use Rattle.saa_core_spec.specs.Object.{Object, After}
use Rattle.saa_core_spec.specs.Run.{done}

-- one step of a run: the object that a command found, the command, and what it left and replied
pub record Step (C K A V : Type 0) : Type 0 where
  pub before : Object
  pub command : CommandOf C K
  pub after : After (ReplyOf A V)

-- the step of one command
abbrev pub step_of : {C K A V : Type 0} → (K → Request) → (C → Object → After A) → (Result ℕ Error → V) → CommandOf C K → Object → Step C K A V
step_of request step value command s = record { before = s; command = command; after = done request step value command s }

-- the steps of a list of commands
abbrev pub steps : {C K A V : Type 0} → (K → Request) → (C → Object → After A) → (Result ℕ Error → V) → List (CommandOf C K) → Object → List (Step C K A V)
steps request step value [] s = []
steps request step value (command ∷ commands) s =
    step_of request step value command s ∷ steps request step value commands (done request step value command s).state

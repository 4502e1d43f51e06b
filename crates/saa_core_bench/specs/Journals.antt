-- What contracts see of a journal, and of a share of one.
use Rattle.std.specs.Prelude.{◌≡◌, ℕ, ◌<◌, List, length, Result}
use Rattle.saa_core_spec.specs.declared.run.CommandOf.{CommandOf}
use Rattle.saa_core_spec.specs.declared.run.ReplyOf.{ReplyOf}
use Rattle.saa_core_spec.specs.declared.request.Request.{Request}
use Rattle.saa_core_spec.specs.declared.polling.Error.{Error}
use Rattle.saa_core_spec.specs.Object.{Object, After}
use Rattle.saa_core_bench.specs.History.{Replays}

-- how many calls were made by a share
pub record ShareState : Type 0 where
  pub calls : ℕ

-- the bench as it stands, every command that was done with its reply, in order, and for how many there is memory
pub record JournalState (C K A V : Type 0) : Type 0 where
  pub bench : Object
  pub history : List (CommandOf C K × ReplyOf A V)
  pub reserved : ℕ

-- what always holds of a journal: its history replays from the bench as it was made to the bench as it stands, the book of the
-- shares counts it, and as many shares were dealt as there are, at least one
pub record IsJournal {C K A V : Type 0} (request : K → Request) (step : C → Object → After A) (value : Result ℕ Error → V) (opening : Object) (shares : ℕ) (bench : Object) (history : List (CommandOf C K × ReplyOf A V)) (total dealt : ℕ) : Type 0 where
  pub replays : Replays request step value opening history bench
  pub written : total ≡ length history
  pub all : dealt ≡ shares
  pub some : 0 < dealt

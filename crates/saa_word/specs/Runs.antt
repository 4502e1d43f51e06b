-- A list of moves of a machine, one after another. A reader of the clauses `steps` and `machine` of `run` has to believe this: they say that `run` does
-- what `go` does with each move in turn. What a single move does is a function of `specs/Moves.antt`, and nobody has to believe that.
use Rattle.std.specs.Prelude.{List, [], ◌∷◌}
use Rattle.saa_word.specs.declared.moves.Move.{Move}
use Rattle.saa_word.specs.declared.moves.Step.{Step}
use Rattle.saa_word.specs.Machine.{State}
use Rattle.saa_word.specs.Moves.{gone}

-- what each of a list of moves did, and the machine after them
pub record Run : Type 0 where
  pub steps : List Step
  pub machine : State

-- Each move is made on the machine that those before it left,
-- and its answer comes before those of the moves after it.
-- (An edit that turns an answer says so in the place of these lines.)
abbrev pub ran : State → List Move → Run
ran state [] = record { steps = []; machine = state }
ran state (move ∷ moves) =
    let behind : Run = ran (gone state move).machine moves in
    record { steps = (gone state move).step ∷ behind.steps; machine = behind.machine }

use Rattle.std.proofs.Common.{◌≡◌, ◌++◌, length, take, drop}
use Rattle.saa_word.specs.Runs.{ran}
use Rattle.saa_word.proofs.machine.Machine.run.Given as goal

-- what was done so far and what the moves that are left do is what all of them do
abbrev pub invariant-loop-i : goal.invariant-loop-i
invariant-loop-i l = record {
  steps : take l.i l.steps ++ (ran l.self (drop l.i l.moves)).steps ≡ (ran l.fn.self l.moves).steps;
  machine : (ran l.self (drop l.i l.moves)).machine ≡ (ran l.fn.self l.moves).machine;
  rules : l.self.rules ≡ l.fn.self.rules;
  places : length l.self.places ≡ length l.fn.self.places;
}

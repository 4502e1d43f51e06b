use Rattle.std.proofs.Common.{◌≡◌, ap, arith}
use Rattle.saa_word.specs.Machine.{State}
use Rattle.saa_word.specs.Runs.{ran}
use Rattle.saa_word.proofs.Histories.{ran-ended, ran-made, simulates-as}
use Rattle.saa_word.proofs.SoloRuns.{poll-waits-as, solo-as}
use Rattle.saa_word.proofs.machine.Machine.run.Goals as goal

-- the steps are those of all moves, and so is the machine
all : (c : goal.After-loop-i) → (c.loop-i.steps ≡ (ran c.args.self.now c.args.moves.now).steps) × (c.loop-i.self ≡ (ran c.args.self.now c.args.moves.now).machine)
all c =
    ran-ended c.args.self.now c.loop-i.self c.args.moves.now c.loop-i.steps c.loop-i.i c.loop-i-test.false
    (omega (arith, c.loop-i-test.false, c.loop-i.auto.steps, c.requires.same_length)) c.loop-i.invariant.steps c.loop-i.invariant.machine

pub returns-clause-operations : goal.returns-clause-operations
returns-clause-operations c =
    let made = ran-made c.args.self.now c.args.moves.now in
    let after : c.loop-i.self.operations ≡ (ran c.args.self.now c.args.moves.now).machine.operations = ap (λ (s : State). s.operations) (all c).1 in
    (omega (arith, made.0, after), omega (arith, made.1, after))

pub returns-clause-simulates : goal.returns-clause-simulates
returns-clause-simulates c = λ trace tracks.
    simulates-as c.args.self.now c.args.moves.now c.loop-i.steps c.loop-i.self trace (all c).0 (all c).1 c.requires.moves tracks

pub returns-clause-solo : goal.returns-clause-solo
returns-clause-solo c = λ trace tracks quiescent me goes call same absent.
    solo-as c.args.self.now c.loop-i.self c.args.moves.now c.loop-i.steps trace me goes call (all c).0 (all c).1 c.requires.moves tracks quiescent same absent

pub returns-clause-waits : goal.returns-clause-waits
returns-clause-waits c = λ trace tracks quiescent me goes same there.
    poll-waits-as c.args.self.now c.args.moves.now c.loop-i.steps trace me goes (all c).0 c.requires.moves tracks quiescent same there

use Rattle.std.proofs.Common.{◌+◌, ◌-◌, arith}
use Rattle.saa_run_text.specs.Text.{on_bytes}
use Rattle.saa_run_text.proofs.BehindLemmas.{goes-start, goes-twice, runs-behind, gives-up}
use Rattle.saa_run_text.proofs.steps.run_lines.Goals as goal

pub loop-number-init : goal.loop-number-init
loop-number-init g c = goes-start (on_bytes (g.S.Session.answer_to c.args.session.now 2)) _ _

pub returns-in-Some : goal.returns-in-Some
returns-in-Some g c =
    runs-behind (c.loop-number.number - 2) c.in-Some.ended (on_bytes (g.S.Session.answer_to c.args.session.now 2)) (on_bytes (g.S.Session.answer_to c.loop-number.session c.loop-number.number))
    _ _ _ _ _ _ (g.met.S.Session.at_end c.loop-number.session c.loop-number.number) c.loop-number.invariant c.in-Some.ensures

pub loop-number-preserved : goal.loop-number-preserved
loop-number-preserved g c =
    goes-twice (c.loop-number.number - 2) 1 (c.loop-number.number + 1 - 2)
    (on_bytes (g.S.Session.answer_to c.args.session.now 2)) (on_bytes (g.S.Session.answer_to c.loop-number.session c.loop-number.number))
    (on_bytes (g.S.Session.answer_to c.step.new.session (c.loop-number.number + 1)))
    _ _ _ _ _ _ (omega arith) c.loop-number.invariant c.in_default.ensures

pub returns : goal.returns
returns g c =
    gives-up (c.loop-number.number - 2) (on_bytes (g.S.Session.answer_to c.args.session.now 2)) (on_bytes (g.S.Session.answer_to c.loop-number.session c.loop-number.number)) _ _ _ _
    (omega arith) (g.met.S.Session.at_end c.loop-number.session c.loop-number.number) c.loop-number.invariant

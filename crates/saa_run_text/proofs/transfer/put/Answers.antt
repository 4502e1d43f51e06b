use Rattle.std.proofs.Common.{◌+◌, take, arith, length-drop}
use Rattle.std.proofs.KnownBytes.{Appends-kept}
use Rattle.saa_run_text.proofs.TransferLemmas.{IsProperBeginning-take, Appends-front, take-drop-rest}
use Rattle.saa_run_text.proofs.transfer.put.Goals as goal

pub returns-in-Err : goal.returns-in-Err
returns-in-Err g c =
    let text = c.args.text.now in
    (take c.loop-at.at text, IsProperBeginning-take text c.loop-at.at (omega arith), Appends-kept _ _ _ _ c.loop-at.invariant.written c.in-Err.ensures.bytes)

pub returns-in-Ok-eq0 : goal.returns-in-Ok-eq0
returns-in-Ok-eq0 g c =
    let text = c.args.text.now in
    let at = c.loop-at.at + c.in-Ok-eq0.field-0 in
    (take at text, IsProperBeginning-take text at (omega arith), Appends-front _ _ _ text c.loop-at.at c.in-Ok-eq0.field-0 c.loop-at.invariant.written c.in-Ok-eq0.ensures.bytes)

pub loop-at-preserved : goal.loop-at-preserved
loop-at-preserved g c =
    let text = c.args.text.now in
    let bound = simp (take-drop-rest text c.loop-at.at) at c.in-Ok.ensures.bound in
    record {
      within = omega (arith, bound, length-drop c.loop-at.at text);
      written = Appends-front _ _ _ text c.loop-at.at c.in-Ok.n c.loop-at.invariant.written c.in-Ok.ensures.bytes;
    }

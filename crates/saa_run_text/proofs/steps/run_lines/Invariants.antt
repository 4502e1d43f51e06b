use Rattle.std.proofs.Common.{◌-◌}
use Rattle.saa_run_text.specs.Text.{on_bytes}
use Rattle.saa_run_text.specs.Steps.{GoesOn}
use Rattle.saa_run_text.proofs.steps.run_lines.Given as goal

-- the answer to all is what was sent and the answer to what is left
abbrev pub invariant-loop-number : goal.invariant-loop-number
invariant-loop-number g l =
    GoesOn (l.number - 2) (on_bytes (g.S.Session.answer_to l.fn.session 2)) (on_bytes (g.S.Session.answer_to l.session l.number))
    (g.R.Read.remaining l.fn.reader) (g.R.Read.remaining l.reader) (g.W.Write.contents l.fn.writer) (g.W.Write.contents l.writer)

-- No poll so far had an answer, so the ticket is as it was handed in.
use Rattle.std.proofs.Common.{◌≡◌}
use Rattle.saa_sync.proofs.form.Form.wait.Given as goal

abbrev pub invariant-loop : goal.invariant-loop
invariant-loop g l =
    (goal.iterator-loop g).can_next l.iterator' × (goal.iterator-loop g).is_finite l.iterator' × (l.ticket ≡ l.fn.ticket)

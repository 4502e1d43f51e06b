use Rattle.saa_core.proofs.TicketLemmas.Registering.{idle-belong, made-object}
use Rattle.saa_core.proofs.lock.LockCore.new.Goals as goal

pub returns-clause-idle_tickets : goal.returns-clause-idle_tickets
returns-clause-idle_tickets c = λ names. idle-belong c.from_parts.result.slots names

pub returns-clause-object : goal.returns-clause-object
returns-clause-object c = λ names.
    rw (c.from_parts.ensures, c.new-needs.ensures, c.in_ok-line.ensures.made) (made-object _ c.args.room names)

use Rattle.saa_core.proofs.TicketLemmas.Registering.{idle-belong, made-object}
use Rattle.saa_core.proofs.semaphore.SemaphoreCoreOf+MAX.with_permits.Goals as goal

pub returns-clause-idle_tickets : goal.returns-clause-idle_tickets
returns-clause-idle_tickets g c = λ names. idle-belong c.from_parts.result.slots names

pub returns-clause-object : goal.returns-clause-object
returns-clause-object g c = λ names.
    rw (c.from_parts.ensures, c.in_ok-line.ensures.made, c.min.ensures) (made-object _ c.args.room names)

-- When a registration is false.
use Rattle.saa_core_laws.proofs.Refusals.{false-exactly, one_permit-never, lock-never, gate-never, barrier-never}
use Rattle.saa_core_laws.proofs.laws.false_registrations.Goals as goal

pub returns-clause-exactly : goal.returns-clause-exactly
returns-clause-exactly c = false-exactly

pub returns-clause-one_permit : goal.returns-clause-one_permit
returns-clause-one_permit c = one_permit-never

pub returns-clause-lock : goal.returns-clause-lock
returns-clause-lock c = lock-never

pub returns-clause-gate : goal.returns-clause-gate
returns-clause-gate c = gate-never

pub returns-clause-barrier : goal.returns-clause-barrier
returns-clause-barrier c = barrier-never

use Rattle.saa_core_bench.proofs.journal.Journalled.gather.Goals as goal

pub returns-clause-number : goal.returns-clause-number
returns-clause-number g c = rw (← c.self.view_is) (rw (← c.self.invariant.written) c.merge.ensures.number)

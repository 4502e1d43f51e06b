use Rattle.saa_core.proofs.TicketLemmas.Registering.{idle-belong}
use Rattle.saa_core_bench.proofs.bench.Bench.new.Goals as goal

pub invariant_of-result : goal.invariant_of-result
invariant_of-result g c = rw c.loop-pager.invariant.made (idle-belong _ _)

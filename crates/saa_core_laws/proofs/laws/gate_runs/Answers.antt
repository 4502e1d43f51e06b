-- Every run of a newly made gate leaves it in order.
use Rattle.saa_core_laws.proofs.GateLaws.{gate-in_order}
use Rattle.saa_core_laws.proofs.laws.gate_runs.Goals as goal

pub returns : goal.returns
returns c = gate-in_order

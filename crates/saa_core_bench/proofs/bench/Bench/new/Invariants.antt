use Rattle.std.proofs.Common.{◌≡◌, ◌≤◌, vec_capacity, replicate}
use Rattle.saa_core.specs.declared.ticket.Registration.TheVariants.{Unregistered}
use Rattle.saa_core_bench.proofs.bench.Bench.new.Given as goal

abbrev pub invariant-loop-pager : goal.invariant-loop-pager
invariant-loop-pager g l = record {
  made : l.tickets.items ≡ replicate l._pager Unregistered;
  room : l.pagers ≤ vec_capacity l.tickets;
}

-- Every law of whole runs.
use Rattle.saa_core_laws.proofs.laws.all.Goals as goal

pub returns : goal.returns
returns c = record {
  whole_runs = record {
    order = c.laws.ensures.order;
    nothing = c.laws.ensures.nothing;
    conserved = c.laws.ensures.conserved;
    once = c.laws.ensures.once;
    leaders = c.laws.ensures.leaders;
  };
}

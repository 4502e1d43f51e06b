use Rattle.std.proofs.Common.{length, sym, ap, ◌∙◌}
use Rattle.saa_core_bench.proofs.BenchLemmas.{length-entries}
use Rattle.saa_core_bench.proofs.bench.Bench.call.Goals as goal

pub returns-clause-pagers : goal.returns-clause-pagers
returns-clause-pagers g c = length-entries _ _ ∙ sym (length-entries _ _) ∙ ap (λ s. length s.book) c.self.view_is

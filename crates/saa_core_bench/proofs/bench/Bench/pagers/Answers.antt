use Rattle.std.proofs.Common.{◌≡◌, length, sym, ap, ◌∙◌, arith}
use Rattle.saa_core_bench.proofs.BenchLemmas.{length-entries}
use Rattle.saa_core_bench.proofs.bench.Bench.pagers.Goals as goal

pub returns : goal.returns
returns g c =
    let book : length c.args.self.now.book ≡ length c.self.inside.tickets.items = sym (ap (λ s. length s.book) c.self.view_is) ∙ length-entries _ _ in
    omega (arith, c.self.inside.tickets.ok.0, c.len.ensures)

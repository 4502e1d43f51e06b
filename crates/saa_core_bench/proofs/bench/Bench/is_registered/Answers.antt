use Rattle.std.proofs.Common.{◌≡◌, length, refl, sym, ap, ◌∙◌, arith}
use Rattle.std.proofs.lemmas.Option.{slice_get_read}
use Rattle.saa_core_bench.proofs.BenchLemmas.{length-entries, busy-entry}
use Rattle.saa_core_bench.proofs.bench.Bench.is_registered.Goals as goal

pub index-requires : goal.index-requires
index-requires g c =
    let book : length c.args.self.now.book ≡ length c.self.inside.tickets.items = sym (ap (λ s. length s.book) c.self.view_is) ∙ length-entries _ _ in
    omega (arith, c.self.inside.tickets.ok.0, c.requires, c.from.ensures)

pub returns : goal.returns
returns g c =
    let book : length c.args.self.now.book ≡ length c.self.inside.tickets.items = sym (ap (λ s. length s.book) c.self.view_is) ∙ length-entries _ _ in
    let here = slice_get_read c.self.inside.tickets.items (length c.self.inside.tickets.items) c.from.result c.index.result.now refl (omega (arith, c.requires, c.from.ensures)) c.index.ensures in
    rw (← c.self.view_is, ← c.from.ensures) (c.is_registered.ensures ∙ busy-entry _ c.self.inside.tickets.items c.from.result _ here)

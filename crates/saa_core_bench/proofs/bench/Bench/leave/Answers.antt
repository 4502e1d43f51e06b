use Rattle.std.proofs.Common.{◌≡◌, length, refl, sym, ap, ◌∙◌, arith}
use Rattle.std.proofs.lemmas.Option.{slice_get_read}
use Rattle.saa_core_bench.proofs.BenchLemmas.{length-entries, length-entries_set}
use Rattle.saa_core_bench.proofs.bench.Bench.leave.Goals as goal

pub index_mut-requires : goal.index_mut-requires
index_mut-requires g c =
    let book : length c.args.self.now.book ≡ length c.self.inside.tickets.items = sym (ap (λ s. length s.book) c.self.view_is) ∙ length-entries _ _ in
    omega (arith, c.self.inside.tickets.ok.0, c.requires, c.from.ensures)

pub invariant_of-self : goal.invariant_of-self
invariant_of-self g c =
    let book : length c.args.self.now.book ≡ length c.self.inside.tickets.items = sym (ap (λ s. length s.book) c.self.view_is) ∙ length-entries _ _ in
    let here = slice_get_read c.self.inside.tickets.items (length c.self.inside.tickets.items) c.from.result c.index_mut.result.now refl (omega (arith, c.requires, c.from.ensures)) c.index_mut.ensures.value in
    (c.leave.ensures.acts.acts c.self.inside.tickets.items c.from.result here c.self.invariant).1

pub returns-clause-acts : goal.returns-clause-acts
returns-clause-acts g c =
    let book : length c.args.self.now.book ≡ length c.self.inside.tickets.items = sym (ap (λ s. length s.book) c.self.view_is) ∙ length-entries _ _ in
    let here = slice_get_read c.self.inside.tickets.items (length c.self.inside.tickets.items) c.from.result c.index_mut.result.now refl (omega (arith, c.requires, c.from.ensures)) c.index_mut.ensures.value in
    let done = (c.leave.ensures.acts.acts c.self.inside.tickets.items c.from.result here c.self.invariant).0 in
    rw (← c.self.view_is, ← c.from.ensures) (sym (ap (λ a. a.state) done))

pub returns-clause-pagers : goal.returns-clause-pagers
returns-clause-pagers g c = length-entries_set _ _ _ _ _ ∙ ap (λ s. length s.book) c.self.view_is

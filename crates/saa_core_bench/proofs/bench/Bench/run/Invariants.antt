use Rattle.std.proofs.Common.{◌≡◌, ◌++◌, length, take, drop}
use Rattle.saa_core_spec.specs.Run.{replies, state_after}
use Rattle.saa_core_bench.proofs.bench.Bench.run.Given as goal

-- the replies so far and those to what is left are those to all
abbrev pub invariant-loop-i : goal.invariant-loop-i
invariant-loop-i g l =
    let request = g.P.Primitive.request in
    let step = g.P.Primitive.step in
    let value = g.P.Primitive.value in
    record {
      replied : take l.i l.out ++ replies request step value (drop l.i l.commands) l.self ≡ replies request step value l.commands l.fn.self;
      left : state_after request step value (drop l.i l.commands) l.self ≡ state_after request step value l.commands l.fn.self;
      pagers : length l.self.book ≡ length l.fn.self.book;
    }

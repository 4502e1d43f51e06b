use Rattle.std.proofs.Common.{refl, length-append, rules}
use Rattle.saa_core_bench.proofs.Histories.{replays-written}
use Rattle.saa_core_bench.proofs.journal.Journalled.call.Goals as goal

pub returns-then-is_err-clause-no_room : goal.returns-then-is_err-clause-no_room
returns-then-is_err-clause-no_room g c = rw (← c.self.view_is) (search rules)

pub invariant_of-self-2 : goal.invariant_of-self-2
invariant_of-self-2 g c =
    record {
      replays = rw c.push_reserved.ensures.items
          (rw c.reserve.ensures.items
          (replays-written g.P.Primitive.request g.P.Primitive.step g.P.Primitive.value c.args.command.now c.do_one-reply.result g.J.Journal.opening c.self.inside.bench c.do_one-reply.new.self c.self.inside.history.items c.self.invariant.replays c.do_one-reply.ensures.acts));
      written = rw (c.count.ensures.total, c.push_reserved.ensures.items, c.reserve.ensures.items, c.self.invariant.written, length-append _ _) refl;
      all = c.self.invariant.all;
      some = c.self.invariant.some;
    }

pub returns-clause-written : goal.returns-clause-written
returns-clause-written g c = rw (c.push_reserved.ensures.items, c.reserve.ensures.items, ← c.self.view_is) refl

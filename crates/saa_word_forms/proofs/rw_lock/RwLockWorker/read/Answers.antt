use Rattle.std.proofs.Common.{subst, sym}
use Rattle.saa_core_spec.specs.declared.lock.Mode.TheVariants.{Shared}
use Rattle.saa_word_forms.specs.Turns.{IsWaitedFor}
use Rattle.saa_word_forms.specs.Workers.{WorkerState}
use Rattle.saa_word_forms.proofs.rw_lock.RwLockWorker.read.Goals as goal

pub returns-clause-taken : goal.returns-clause-taken
returns-clause-taken g c =
    subst (λ turn. IsWaitedFor Shared c.args.self.now.place turn.at.now.place) (sym c.new.ensures.turn)
    (subst (λ (worker : WorkerState). IsWaitedFor Shared worker.place c.read-turn.result.0.at.now.place) c.self.view_is c.read-turn.ensures.taken)

use Rattle.std.proofs.Common.{subst, sym}
use Rattle.saa_core_spec.specs.declared.lock.Mode.TheVariants.{Exclusive}
use Rattle.saa_word_forms.specs.Turns.{IsWaitedFor}
use Rattle.saa_word_forms.specs.Workers.{WorkerState}
use Rattle.saa_word_forms.proofs.mutex.MutexWorker.lock.Goals as goal

pub returns-clause-taken : goal.returns-clause-taken
returns-clause-taken g c =
    subst (λ turn. IsWaitedFor Exclusive c.args.self.now.place turn.at.now.place) (sym c.new.ensures.turn)
    (subst (λ (worker : WorkerState). IsWaitedFor Exclusive worker.place c.write-turn.result.0.at.now.place) c.self.view_is c.write-turn.ensures.taken)

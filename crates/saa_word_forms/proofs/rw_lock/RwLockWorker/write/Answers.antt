use Rattle.std.proofs.Common.{subst, sym}
use Rattle.saa_core_spec.specs.declared.lock.Mode.TheVariants.{Exclusive}
use Rattle.saa_word_forms.specs.Turns.{HasLock, IsWaitedFor}
use Rattle.saa_word_forms.specs.Workers.{WorkerState}
use Rattle.saa_word_forms.proofs.rw_lock.RwLockWorker.write.Goals as goal

pub new-requires-2 : goal.new-requires-2
new-requires-2 g c = subst (λ turn. HasLock turn.at.now.place) (sym c.new.ensures) c.write-turn.ensures.granted

pub returns-clause-taken : goal.returns-clause-taken
returns-clause-taken g c =
    subst (λ writing. IsWaitedFor Exclusive c.args.self.now.place writing.turn.at.now.place) (sym c.new-2.ensures.turn)
    (subst (λ turn. IsWaitedFor Exclusive c.args.self.now.place turn.at.now.place) (sym c.new.ensures)
    (subst (λ (worker : WorkerState). IsWaitedFor Exclusive worker.place c.write-turn.result.0.at.now.place) c.self.view_is c.write-turn.ensures.taken))

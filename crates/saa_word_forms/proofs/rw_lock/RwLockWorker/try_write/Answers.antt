use Rattle.std.proofs.Common.{subst, sym}
use Rattle.saa_word_forms.specs.Turns.{HasLock}
use Rattle.saa_word_forms.proofs.rw_lock.RwLockWorker.try_write.Goals as goal

pub new-requires-2 : goal.new-requires-2
new-requires-2 g c = subst (λ turn. HasLock turn.at.now.place) (sym c.new.ensures) c.in_ok-turn.ensures.granted

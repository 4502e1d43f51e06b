use Rattle.std.proofs.Common.{ap, ◌∙◌}
use Rattle.std.specs.Borrow.{Bor}
use Rattle.saa_core_spec.specs.declared.lock.Mode.TheVariants.{Shared}
use Rattle.saa_word_threads.specs.declared.lock.Lock.{Lock}
use Rattle.saa_word_threads.specs.declared.receipt.Receipt.{Receipt}
use Rattle.saa_word_threads.specs.Locks.{table_of}
use Rattle.saa_word_lock_free.specs.Forms.{FormState}
use Rattle.test_lock_free.proofs.closes.lower.Goals as goal

pub returns : goal.returns
returns g c =
    let turn = c.downgrade-guard.result.turn in
    ap (λ (receipt : Receipt). receipt.seat.table_id) c.unlock_witnessed.ensures.witness
    ∙ c.turns.ensures turn.lock.now.word Shared turn.witness c.unlock_witnessed.ensures.granted
    ∙ ap (λ (lock : Bor (FormState Lock)). table_of lock.now.word) c.downgrade-guard.ensures
    ∙ ap (λ (form : FormState Lock). table_of form.word) c.in_ok-try_write.ensures

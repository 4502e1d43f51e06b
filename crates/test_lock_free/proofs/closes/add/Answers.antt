use Rattle.std.proofs.Common.{ap, ◌∙◌}
use Rattle.saa_core_spec.specs.declared.lock.Mode.TheVariants.{Exclusive}
use Rattle.saa_word_threads.specs.declared.lock.Lock.{Lock}
use Rattle.saa_word_threads.specs.declared.receipt.Receipt.{Receipt}
use Rattle.saa_word_threads.specs.Locks.{table_of}
use Rattle.saa_word_lock_free.specs.Forms.{FormState}
use Rattle.test_lock_free.proofs.closes.add.Goals as goal

pub returns : goal.returns
returns g c =
    let turn = c.in_ok-guard.guard.turn in
    ap (λ (receipt : Receipt). receipt.seat.table_id) c.unlock_witnessed.ensures.witness
    ∙ c.turns.ensures turn.lock.now.word Exclusive turn.witness c.unlock_witnessed.ensures.granted
    ∙ ap (λ (form : FormState Lock). table_of form.word) c.in_ok-guard.ensures

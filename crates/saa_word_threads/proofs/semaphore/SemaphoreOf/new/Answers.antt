use Rattle.saa_word_threads.proofs.Opening.{new-of}
use Rattle.saa_word_threads.proofs.semaphore.SemaphoreOf.new.Goals as goal

pub returns-clause-ours : goal.returns-clause-ours
returns-clause-ours g c = new-of c.in_ok-form.form.table.shared.table_id 0 c.in_ok-form.dealt.items c.in_ok-form.ensures.dealt.1

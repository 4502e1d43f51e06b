use Rattle.std.proofs.Common.{sym, ◌∙◌}
use Rattle.saa_word_lock_free.proofs.Refusals.{answered-late}
use Rattle.saa_word_lock_free.proofs.timed.Form+R+SemaphoreWord+MAX.one_by.Goals as goal

pub returns-then-is_closed-clause-refused : goal.returns-then-is_closed-clause-refused
returns-then-is_closed-clause-refused g c =
    answered-late c.args.self.now.word 1 c.in-Ok.answer (sym c.is_closed.ensures ∙ c.if-is_closed.true) c.in-Ok.ensures.answered

pub returns-in-Err-clause-refused : goal.returns-in-Err-clause-refused
returns-in-Err-clause-refused g c = c.why_full.ensures 1

use Rattle.saa_word_proofs.proofs.OrderLemmas.{in-order, no-barging, not-barged, not-overtaken, taken-in-order}
use Rattle.saa_word_proofs.proofs.order.fifo.Goals as goal

pub returns-clause-no_barging : goal.returns-clause-no_barging
returns-clause-no_barging c = no-barging

pub returns-clause-in_order : goal.returns-clause-in_order
returns-clause-in_order c = in-order

pub returns-clause-taken_in_order : goal.returns-clause-taken_in_order
returns-clause-taken_in_order c = taken-in-order

pub returns-clause-not_barged : goal.returns-clause-not_barged
returns-clause-not_barged c = not-barged

pub returns-clause-not_overtaken : goal.returns-clause-not_overtaken
returns-clause-not_overtaken c = not-overtaken

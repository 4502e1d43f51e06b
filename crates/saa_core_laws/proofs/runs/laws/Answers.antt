-- The laws of whole runs.
use Rattle.saa_core_laws.proofs.TurnsKept.{semaphore-in_turn, lock-in_turn}
use Rattle.saa_core_laws.proofs.Waits.{semaphore-nobody_waits, shut_semaphore-nobody_waits, free_lock-nobody_waits, poisoned_lock-nobody_waits, gate-nobody_waits}
use Rattle.saa_core_laws.proofs.Conserved.{permits-conserved}
use Rattle.saa_core_laws.proofs.InHand.{dropped-whole}
use Rattle.saa_core_laws.proofs.Stories.{AnswersOnce-semaphore, AnswersOnce-lock, AnswersOnce-gate, AnswersOnce-barrier}
use Rattle.saa_core_laws.proofs.Rounds.{leaders-counted_fixed, CompletesRound-next_fixed, leads-next_fixed}
use Rattle.saa_core_laws.proofs.runs.laws.Goals as goal

pub returns-clause-order : goal.returns-clause-order
returns-clause-order c = record { semaphore = semaphore-in_turn; lock = lock-in_turn }

pub returns-clause-nothing : goal.returns-clause-nothing
returns-clause-nothing c = record {
  semaphore = semaphore-nobody_waits;
  shut_semaphore = shut_semaphore-nobody_waits;
  free_lock = free_lock-nobody_waits;
  poisoned_lock = poisoned_lock-nobody_waits;
  gate = gate-nobody_waits;
}

pub returns-clause-conserved : goal.returns-clause-conserved
returns-clause-conserved c = record { conserved = permits-conserved; whole = dropped-whole }

pub returns-clause-once : goal.returns-clause-once
returns-clause-once c = record {
  semaphore = AnswersOnce-semaphore;
  lock = AnswersOnce-lock;
  gate = AnswersOnce-gate;
  barrier = AnswersOnce-barrier;
}

pub returns-clause-leaders : goal.returns-clause-leaders
returns-clause-leaders c = record { counted = leaders-counted_fixed; round = CompletesRound-next_fixed; nothing_else = leads-next_fixed }

-- What the calls of a word do, in the terms of its own history.
use Rattle.std.specs.Prelude.{ℕ, Bool, Result}
use Rattle.saa_core_spec.specs.declared.lock.TryLockError.{TryLockError}
use Rattle.saa_core_spec.specs.declared.polling.Error.{Error}
use Rattle.saa_word_threads.specs.declared.receipt.Receipt.{Receipt}
use Rattle.saa_word_threads.specs.declared.visitor.Visitor.{Visitor}

-- A try, and a release of what an ask took, by a visitor that came for it; which places rest in the pool; a registration, a poll and a cancel at a place; and
-- what a receipt of a place says, and one of a visitor
pub record WordCalls (Ask Place : Type 0) : Type 1 where
  pub tries : Ask → Result (Unit {0}) TryLockError → Visitor → Type 0
  pub gives_back : Ask → Visitor → Type 0
  pub rests : Place → Type 0
  pub registers : Ask → Place → Bool → Place → Type 0
  pub polls : Place → Result ℕ Error → Place → Type 0
  pub cancels : Place → Place → Type 0
  pub receives : Place → Receipt → Type 0
  pub receives_by : Visitor → Receipt → Type 0

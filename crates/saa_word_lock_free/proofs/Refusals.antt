-- Why a call for permits has none.
use Rattle.std.proofs.Common.{◌≡◌, ℕ, true, Result, Ok, Err, subst, inl}
use Rattle.saa_core_spec.specs.declared.polling.Error.{Error}
use Rattle.saa_core_spec.specs.Values.{closed_value}
use Rattle.saa_core_spec.proofs.Counts.{same_number}
use Rattle.saa_word_threads.specs.declared.semaphore.SemaphoreOf.{SemaphoreOf}
use Rattle.saa_word_lock_free.specs.SemaphoreCalls.{IsAnswered, AnswersClosed, is_closed_answer}

-- an answer of 2 says that the semaphore was shut
pub answered-shut : {max : ℕ} (semaphore : SemaphoreOf max) (count value : ℕ) → value ≡ closed_value → IsAnswered semaphore count (Ok value)
    → AnswersClosed semaphore count
answered-shut semaphore count value is answered = inl (subst (λ (n : ℕ). IsAnswered semaphore count (Ok n)) is answered)

-- so it is of a timed call
pub answered-late : {max : ℕ} (semaphore : SemaphoreOf max) (count : ℕ) (answer : Result ℕ Error) → is_closed_answer answer ≡ true
    → IsAnswered semaphore count answer → AnswersClosed semaphore count
answered-late semaphore count (Ok value) is answered = answered-shut semaphore count value (same_number value closed_value is) answered
answered-late semaphore count (Err error) is answered = absurd (cc)

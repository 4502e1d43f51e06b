-- What the calls of a semaphore are.
use Rattle.std.specs.Prelude.{◌≡◌, ℕ, ◌-◌, ◌≤◌, ◌==◌, ◌⊎◌, min, Bool, true, false, Option, Some, None, Result, Ok, Err}
use Rattle.saa_core_spec.specs.declared.polling.Error.{Error}
use Rattle.saa_word_steps.specs.declared.call.Answer.{Answer}
use Rattle.saa_word_steps.specs.declared.call.WordCall.{WordCall}
use Rattle.saa_word_steps.specs.declared.call.WordCall.TheVariants.{IsShut, Release, Try}
use Rattle.saa_word_steps.specs.declared.rules.Rules.TheVariants.{Permits}
use Rattle.saa_word_threads.specs.declared.receipt.Receipt.{Receipt}
use Rattle.saa_word_threads.specs.declared.semaphore.SemaphoreOf.{SemaphoreOf}
use Rattle.saa_word_threads.specs.declared.table.About.{About}
use Rattle.saa_word_threads.specs.declared.visitor.Visitor.{Visitor}
use Rattle.saa_word_threads.specs.Public.{is_yes}
use Rattle.saa_word_threads.specs.Semaphores.{IsVisitedOnce, table_of}
use Rattle.saa_word_lock_free.specs.Calls.{IsAcquired as IsAcquiredBy, IsAnswered as IsAnsweredBy, IsReceivedBy}
use Rattle.saa_word_lock_free.specs.OfSemaphore.{calls_of}
use Rattle.saa_word_lock_free.specs.Pendings.{FutureAnswers}
use Rattle.saa_word_lock_free.specs.Forms.{FormState, WasFull}
use Rattle.saa_core_spec.specs.Values.{closed_value}
use Rattle.saa_core_waits.specs.declared.acquire_error.AcquireError.{AcquireError}
use Rattle.saa_core_waits.specs.declared.acquire_error.AcquireError.TheVariants.{Closed, Full}
use Rattle.saa_word_threads.specs.declared.place.Place.{Place}

module _ {max : ℕ} where
  -- a visitor that came for it made a call, which is done or not; and this is what it has seen
  abbrev pub IsDone : SemaphoreOf max → WordCall → Bool → Type 0
  IsDone semaphore call is_done = (visitor : Visitor) × (answer : Answer) × (is_done ≡ is_yes answer) × IsVisitedOnce semaphore call answer visitor

  abbrev pub IsDoneWith : SemaphoreOf max → WordCall → Bool → Receipt → Type 0
  IsDoneWith semaphore call is_done receipt =
      (visitor : Visitor) × (answer : Answer) × (is_done ≡ is_yes answer) × IsVisitedOnce semaphore call answer visitor × IsReceivedBy (table_of semaphore) visitor receipt

  -- the same of a call that reads a number
  abbrev pub IsRead : SemaphoreOf max → WordCall → Answer → Type 0
  IsRead semaphore call answer = (visitor : Visitor) × IsVisitedOnce semaphore call answer visitor

  abbrev pub IsReadWith : SemaphoreOf max → WordCall → Answer → Receipt → Type 0
  IsReadWith semaphore call answer receipt = (visitor : Visitor) × IsVisitedOnce semaphore call answer visitor × IsReceivedBy (table_of semaphore) visitor receipt

  -- a call for so many permits was answered so: its visitor at once, or a place that waited; and this is what the one or the other has seen
  abbrev pub IsAnswered : SemaphoreOf max → ℕ → Result ℕ Error → Type 0
  IsAnswered semaphore count answer = IsAnsweredBy (calls_of semaphore) count answer

  abbrev pub IsAcquired : SemaphoreOf max → ℕ → Result ℕ Error → Receipt → Type 0
  IsAcquired semaphore count answer receipt = IsAcquiredBy (calls_of semaphore) count answer receipt

  -- it was granted
  abbrev pub IsGranted : SemaphoreOf max → ℕ → Type 0
  IsGranted semaphore count = (value : ℕ) × (value == closed_value ≡ false) × IsAnswered semaphore count (Ok value)

  -- it was told that the semaphore was shut: by its answer, or by a look where it got no place
  abbrev pub AnswersClosed : SemaphoreOf max → ℕ → Type 0
  AnswersClosed semaphore count = IsAnswered semaphore count (Ok closed_value) ⊎ IsDone semaphore IsShut true

  -- why a call for so many permits has none: all places were out of the pool, or the semaphore was shut
  abbrev pub WasRefused : FormState (SemaphoreOf max) → ℕ → AcquireError → Type 0
  WasRefused form count Full = WasFull Place form
  WasRefused form count Closed = AnswersClosed form.word count

  -- so many permits were granted: to a try, to a call that waited for them, timed or not, or to a future
  abbrev pub WasGranted : SemaphoreOf max → ℕ → Type 0
  WasGranted semaphore count =
      IsDone semaphore (Try count) true ⊎ (IsGranted semaphore count ⊎ ((value : ℕ) × (value == closed_value ≡ false)
      × FutureAnswers (λ asked. asked ≤ max) (calls_of semaphore) count (Some value)))

  -- so many permits were given back: a release was made, which was done, or found fewer out
  abbrev pub TookBack : SemaphoreOf max → ℕ → Type 0
  TookBack semaphore count = (is_done : Bool) × IsDone semaphore (Release count) is_done

-- a semaphore of so many permits at most, of which so many are available, with so many places
abbrev pub opened : ℕ → ℕ → ℕ → About
opened max permits places = record { rules = Permits max; withheld = min (max - permits) max; places = places }

-- whether a timed call was answered that the semaphore was shut
abbrev pub is_closed_answer : Result ℕ Error → Bool
is_closed_answer (Ok value) = value == closed_value
is_closed_answer (Err error) = false

-- what a timed call tells that wasn't: a grant, or that its time is up
abbrev pub one_in_time : Result ℕ Error → Option (Unit {0})
one_in_time (Ok value) = Some tt
one_in_time (Err error) = None

abbrev pub many_in_time : Result ℕ Error → Option Bool
many_in_time (Ok value) = Some true
many_in_time (Err error) = None

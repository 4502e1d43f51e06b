-- What contracts see of a semaphore, and what its calls do.
use Rattle.std.specs.Prelude.{◌≡◌, ℕ, Bool}
use Rattle.atomic_table.specs.Seated.{TableId}
use Rattle.saa_word_steps.specs.declared.call.Answer.{Answer}
use Rattle.saa_word_steps.specs.declared.call.WordCall.{WordCall}
use Rattle.saa_word_steps.specs.declared.call.WordCall.TheVariants.{Register}
use Rattle.saa_word_steps.specs.Needs.{permit_needs}
use Rattle.saa_word_threads.specs.declared.place.Place.{Place}
use Rattle.saa_word_threads.specs.declared.place.Left.{Left}
use Rattle.saa_word_threads.specs.declared.semaphore.SemaphoreOf.{SemaphoreOf}
use Rattle.saa_word_threads.specs.declared.table.About.{About}
use Rattle.saa_word_threads.specs.declared.visitor.Visitor.{Visitor}
use Rattle.saa_word_threads.specs.Public.{HasLeft as FormHasLeft, IsMade as FormIsMade, AcquiresAndPolls as FormIsWaited}
use Rattle.saa_word_threads.specs.Visits.{IsVisited as FormIsVisited, IsVisitedOnce as FormIsVisitedOnce}

-- its rules, how much was withheld, and how many places it has
abbrev pub about_of : {max : ℕ} → SemaphoreOf max → About
about_of semaphore = semaphore.form.table.shared.key

-- which of all tables its words are
abbrev pub table_of : {max : ℕ} → SemaphoreOf max → TableId
table_of semaphore = semaphore.form.table.shared.table_id

-- what a task that polls at it waits for
abbrev pub source_of : {max : ℕ} → SemaphoreOf max → ℕ
source_of semaphore = semaphore.form.wakers.source.id

-- a place was dealt by a semaphore, and so was a place that has left
abbrev pub IsDealtBy : {max : ℕ} → SemaphoreOf max → Place → Type 0
IsDealtBy semaphore place = place.seat.table_id ≡ table_of semaphore

abbrev pub IsLeftOf : {max : ℕ} → SemaphoreOf max → Left → Type 0
IsLeftOf semaphore left = left.seat.table_id ≡ table_of semaphore

-- a visitor entered a semaphore
abbrev pub IsVisitorOf : {max : ℕ} → SemaphoreOf max → Visitor → Type 0
IsVisitorOf semaphore visitor = visitor.seat.table_id ≡ table_of semaphore

-- A call was made at a place of a semaphore, and answered so
abbrev pub IsMade : {max : ℕ} → SemaphoreOf max → WordCall → Place → Answer → Place → Type 0
IsMade {max} semaphore call old answer new = FormIsMade (permit_needs max) (about_of semaphore).withheld call old answer new

-- A wait is a registration for so many permits, and then a poll where the registration was made
abbrev pub AcquiresAndPolls : {max : ℕ} → SemaphoreOf max → ℕ → Place → Bool → Place → Type 0
AcquiresAndPolls {max} semaphore count old result new = FormIsWaited (permit_needs max) (about_of semaphore).withheld (Register count) old result new

-- A place has left: it has cancelled first
abbrev pub HasLeft : {max : ℕ} → SemaphoreOf max → Place → Left → Type 0
HasLeft {max} semaphore place left = FormHasLeft (permit_needs max) (about_of semaphore).withheld place left

-- A call was made by a visitor of a semaphore, and answered so; and one by a visitor that came for it alone
abbrev pub IsVisited : {max : ℕ} → SemaphoreOf max → WordCall → Visitor → Answer → Visitor → Type 0
IsVisited {max} semaphore call old answer new = FormIsVisited (permit_needs max) (about_of semaphore).withheld call old answer new

abbrev pub IsVisitedOnce : {max : ℕ} → SemaphoreOf max → WordCall → Answer → Visitor → Type 0
IsVisitedOnce {max} semaphore call answer new =
    FormIsVisitedOnce (table_of semaphore) (about_of semaphore).places (permit_needs max) (about_of semaphore).withheld call answer new

-- What contracts see of a lock, and what its calls do.
use Rattle.std.specs.Prelude.{◌≡◌, ℕ, Bool, List, [], ◌∷◌}
use Rattle.atomic_table.specs.Seated.{TableId}
use Rattle.saa_core_spec.specs.declared.lock.Mode.{Mode}
use Rattle.saa_word_steps.specs.declared.call.Answer.{Answer}
use Rattle.saa_word_steps.specs.declared.call.WordCall.{WordCall}
use Rattle.saa_word_steps.specs.declared.call.WordCall.TheVariants.{RegisterMode}
use Rattle.saa_word_steps.specs.Needs.{lock_needs}
use Rattle.saa_word_threads.specs.declared.lock.Lock.{Lock}
use Rattle.saa_word_threads.specs.declared.lock.Place.{Place}
use Rattle.saa_word_threads.specs.declared.lock.Left.{Left}
use Rattle.saa_core_waits.specs.declared.spin_policy.SpinPolicy.{SpinPolicy}
use Rattle.saa_word_threads.specs.declared.place.Place.{Place as FormPlace}
use Rattle.saa_word_threads.specs.declared.table.About.{About}
use Rattle.saa_word_threads.specs.declared.table.View.{View}
use Rattle.saa_word_threads.specs.declared.visitor.Visitor.{Visitor}
use Rattle.saa_word_threads.specs.Dealt.{AreNew as FormAreNew}
use Rattle.saa_word_threads.specs.Public.{HasLeft as FormHasLeft, IsMade as FormIsMade, AcquiresAndPolls as FormIsWaited, spin_policy_of as form_spin_policy_of, view_left as form_view_left}
use Rattle.saa_word_threads.specs.Visits.{IsVisited as FormIsVisited, IsVisitedOnce as FormIsVisitedOnce}

-- its rules, that nothing is held as it is made, and how many places it has
abbrev pub about_of : Lock → About
about_of lock = lock.form.table.shared.key

-- which of all tables its words are
abbrev pub table_of : Lock → TableId
table_of lock = lock.form.table.shared.table_id

-- what a task that polls at it waits for
abbrev pub source_of : Lock → ℕ
source_of lock = lock.form.wakers.source.id

-- a place was dealt by a lock, and so was a place that has left
abbrev pub IsDealtBy : Lock → Place → Type 0
IsDealtBy lock place = place.inner.seat.table_id ≡ table_of lock

abbrev pub IsLeftOf : Lock → Left → Type 0
IsLeftOf lock left = left.inner.seat.table_id ≡ table_of lock

-- a visitor entered a lock
abbrev pub IsVisitorOf : Lock → Visitor → Type 0
IsVisitorOf lock visitor = visitor.seat.table_id ≡ table_of lock

-- the form's places of some places of a lock
abbrev pub inners : List Place → List FormPlace
inners [] = []
inners (place ∷ rest) = place.inner ∷ inners rest

-- new places of a table, numbered in order from a number on
abbrev pub AreNew : TableId → ℕ → List Place → Type 0
AreNew table number places = FormAreNew table number (inners places)

-- A call was made at a place of a lock, of which nothing is held as it is made, and answered so
abbrev pub IsMade : WordCall → Place → Answer → Place → Type 0
IsMade call old answer new = FormIsMade lock_needs 0 call old.inner answer new.inner

-- A wait is a registration in a mode, and then a poll where the registration was made
abbrev pub AcquiresAndPolls : Mode → Place → Bool → Place → Type 0
AcquiresAndPolls mode old result new = FormIsWaited lock_needs 0 (RegisterMode mode) old.inner result new.inner

-- A place has left: it has cancelled first
abbrev pub HasLeft : Place → Left → Type 0
HasLeft place left = FormHasLeft lock_needs 0 place.inner left.inner

-- A call was made by a visitor of a lock, and answered so; and one by a visitor that came for it alone
abbrev pub IsVisited : WordCall → Visitor → Answer → Visitor → Type 0
IsVisited call old answer new = FormIsVisited lock_needs 0 call old answer new

abbrev pub IsVisitedOnce : Lock → WordCall → Answer → Visitor → Type 0
IsVisitedOnce lock call answer new = FormIsVisitedOnce (table_of lock) (about_of lock).places lock_needs 0 call answer new

-- what a place that has left has seen, and knows as its part
abbrev pub view_left : Left → View
view_left left = form_view_left left.inner

-- the spin policy of the last call that asked at a place, or tried
abbrev pub spin_policy_of : Place → SpinPolicy
spin_policy_of place = form_spin_policy_of place.inner

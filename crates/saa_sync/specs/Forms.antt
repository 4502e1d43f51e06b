-- What contracts see of the forms that threads share, and of their futures.
use Rattle.std.specs.Prelude.{ℕ, Option, Some, None, Result, Ok, Err, vec_len}
use Rattle.saa_core_spec.specs.declared.polling.Error.{Error}
use Rattle.saa_core_waits.specs.declared.spin_policy.SpinPolicy.{SpinPolicy}
use Rattle.saa_sync.specs.declared.form.Form.{Form}
use Rattle.saa_core.specs.Futures.{PendingState}
use Rattle.saa_core_waits.specs.FutureStates.{FutureWithState, with_pending}

-- what a value means; or an error in its place, as polls read it
abbrev pub answer_of : {V : Type 0} → (Result ℕ Error → V) → (Result ℕ Error → V) → ℕ → Option Error → V
answer_of meaning reading value None = meaning (Ok value)
answer_of meaning reading value (Some error) = reading (Err error)

-- what tasks that poll at a form wait for
abbrev pub source_of : {R P Call Ask Answer Value : Type 0} → Form R P Call Ask Answer Value → ℕ
source_of form = form.source.id

-- how often a call at a form looks and yields before it registers
abbrev pub spin_policy_of : {R P Call Ask Answer Value : Type 0} → Form R P Call Ask Answer Value → SpinPolicy
spin_policy_of form = form.unregistered

-- how often a waiter at a form spins and yields before it parks
abbrev pub waiter_policy_of : {R P Call Ask Answer Value : Type 0} → Form R P Call Ask Answer Value → SpinPolicy
waiter_policy_of form = form.waiting

-- how many waiters a form has slots for
abbrev pub room_of : {R P Call Ask Answer Value : Type 0} → Form R P Call Ask Answer Value → ℕ
room_of form = vec_len form.parkers

-- the same future, with this pending; its callback stays
abbrev pub with_pending_before : {S F : Type 0} → FutureWithState S PendingState F → PendingState → FutureWithState S PendingState F
with_pending_before future pending = record { acquiring = with_pending future.acquiring pending; begin_wait = future.begin_wait }

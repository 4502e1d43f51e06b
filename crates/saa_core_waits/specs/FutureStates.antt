-- What contracts see of a future.
use Rattle.std.specs.Prelude.{◌≡◌, ◌⊎◌, ℕ, Option, Result, Err}

-- the form at which it waits, what is pending there, and the source that its task waits for, which is that of its form
pub record FutureState (Form Pending : Type 0) : Type 0 where
  pub form : Form
  pub asking : Pending
  pub source : ℕ

-- the same, with the callback that is called where it joins the queue, until it was called
pub record FutureWithState (Form Pending F : Type 0) : Type 0 where
  pub acquiring : FutureState Form Pending
  pub begin_wait : Option F

-- the same future, with this pending
abbrev pub with_pending : {Form Pending : Type 0} → FutureState Form Pending → Pending → FutureState Form Pending
with_pending future pending = record { form = future.form; asking = pending; source = future.source }

-- an output is what an answer reads as that came so; none came where the registration was false
abbrev pub IsReadOf : {Output : Type 0} → (Option ℕ → Output) → (Option ℕ → Type 0) → Output → Type 0
IsReadOf read answers output = (answer : Option ℕ) × (output ≡ read answer) × answers answer

-- the output of a future is what such an answer reads as, or `Full`, where the form refuses a wait
abbrev pub IsOutput : {Output Error : Type 0} → (Option ℕ → Result Output Error) → Error → (Option ℕ → Type 0) → Type 0 → Result Output Error → Type 0
IsOutput read full answers refuses output = IsReadOf read answers output ⊎ ((output ≡ Err full) × refuses)

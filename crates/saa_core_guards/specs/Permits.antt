-- What contracts see of permits that are values, and of the answers of calls for them.
use Rattle.std.specs.Prelude.{ℕ}
use Rattle.saa_core_guards.specs.declared.permit.InTime.{InTime}
use Rattle.saa_core_guards.specs.declared.permit.InTime.TheVariants.{Granted, TooMany, Late}

-- permits are what they have their semaphore by, and how many they are
pub record PermitState (H : Type 0) : Type 0 where
  pub holder : H
  pub count : ℕ

-- of what was granted this holds, if anything was
abbrev pub IfGranted : {P : Type 0} → (P → Type 0) → InTime P → Type 0
IfGranted fact (Granted permits) = fact permits
IfGranted fact TooMany = Unit {0}
IfGranted fact Late = Unit {0}

-- a future of permits is their semaphore, what is pending there, and how many it asks for
pub record PermitsFutureState (S Pending : Type 0) : Type 0 where
  pub semaphore : S
  pub pending : Pending
  pub count : ℕ

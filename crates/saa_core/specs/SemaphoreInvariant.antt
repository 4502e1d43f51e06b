-- What always holds of a semaphore.
use Rattle.std.specs.Prelude.{◌≡◌, ℕ, ◌-◌, ◌≤◌, Bool, true, false, nat_le, Option, Some, None, if◌then◌else◌}
use Rattle.saa_core_spec.specs.Held.{Held, OfSemaphore, OfShutSemaphore}
use Rattle.saa_core_spec.specs.declared.request.Request.{Request}
use Rattle.saa_core_spec.specs.declared.request.Request.TheVariants.{Permits}
use Rattle.saa_core_spec.specs.Object.{Object}
use Rattle.saa_core_spec.specs.Semaphore.{out_of, is_shut}
use Rattle.saa_core_spec.specs.Settling.{IsSettled}
use Rattle.saa_core.specs.CoreParts.{IsGranting}

-- a semaphore that is shut or not, with this bound and so many permits out
abbrev pub semaphore_held : (is_shut : Bool) → (bound out : ℕ) → Held
semaphore_held false bound out = OfSemaphore bound out
semaphore_held true bound out = OfShutSemaphore bound out

-- so many permits less what a request took, where they are out
abbrev pub permits_left : ℕ → Request → Option ℕ
permits_left out (Permits n) = if nat_le n out then Some (out - n) else None
permits_left out _ = None

-- it grants what fits, as long as anything does
abbrev pub is_granting_semaphore : (is_shut : Bool) (bound out : ℕ) → IsGranting (semaphore_held is_shut bound out)
is_granting_semaphore false bound out = tt
is_granting_semaphore true bound out = tt

-- it is settled, there are as many permits as its type says, and no more are out
pub record SemaphoreInvariant (most : ℕ) (s : Object) : Type 0 where
  pub settled : IsSettled s
  pub permits : s.held ≡ semaphore_held (is_shut s.held) most (out_of s.held)
  pub bounded : out_of s.held ≤ most

-- What a pager asks of its form, at tickets.
use Rattle.std.specs.Prelude.{ℕ, Option, Some, None}
use Rattle.std.proofs.Common.{◌≡◌, true≢false, false, refl}
use Rattle.saa_core.specs.declared.ticket.Registration.{Registration}
use Rattle.saa_core.specs.declared.ticket.Registration.TheVariants.{Unregistered, AtOnce, InSlot}
use Rattle.saa_core.specs.Tickets.{is_busy}

-- the number that a ticket was answered as it was registered, if it was
abbrev pub at_once : Registration → Option ℕ
at_once Unregistered = None
at_once (AtOnce value request is_sync) = Some value
at_once (InSlot slot request is_sync) = None

-- a ticket that isn't busy is unregistered
pub free_is_idle : (ticket : Registration) → is_busy ticket ≡ false → ticket ≡ Unregistered
free_is_idle Unregistered free = refl
free_is_idle (AtOnce value request is_sync) free = absurd (true≢false free)
free_is_idle (InSlot slot request is_sync) free = absurd (true≢false free)

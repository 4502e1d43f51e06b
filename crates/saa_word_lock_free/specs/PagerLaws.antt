-- What a pager asks of its form, at registrations.
use Rattle.std.proofs.Common.{◌≡◌, true≢false, false, refl}
use Rattle.saa_word_lock_free.specs.Registered.{Registered, at_once, at_place, is_busy, unregistered}

-- what isn't busy is unregistered
pub free_is_idle : {Ask Word : Type 0} → (registered : Registered Ask Word) → is_busy registered ≡ false → registered ≡ unregistered
free_is_idle unregistered free = refl
free_is_idle (at_once value ask visitor is_sync) free = absurd (true≢false free)
free_is_idle (at_place word pool ask is_sync) free = absurd (true≢false free)

-- Why nothing was checked out, by why no permit was.
use Rattle.saa_core_waits.specs.declared.acquire_error.AcquireError.{AcquireError}
use Rattle.saa_core_waits.specs.declared.acquire_error.AcquireError.TheVariants.{Full, Closed}
use Rattle.saa_sync_pool.specs.declared.refused.Refused.{Refused}
use Rattle.saa_sync_pool.specs.declared.refused.Refused.TheVariants as Refusal

-- a full queue, and a pool that is closed
abbrev pub refusal : AcquireError → Refused
refusal Full = Refusal.Full
refusal Closed = Refusal.Closed

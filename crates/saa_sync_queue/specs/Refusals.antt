-- Why no item was taken or put, by why no permit was granted.
use Rattle.saa_core_waits.specs.declared.acquire_error.AcquireError.{AcquireError}
use Rattle.saa_core_waits.specs.declared.acquire_error.AcquireError.TheVariants.{Full, Closed}
use Rattle.saa_sync_queue.specs.declared.pop_error.PopError.{PopError}
use Rattle.saa_sync_queue.specs.declared.pop_error.PopError.TheVariants as Pop
use Rattle.saa_sync_queue.specs.declared.push_error.PushError.{PushError}
use Rattle.saa_sync_queue.specs.declared.push_error.PushError.TheVariants as Push

-- a full queue of consumers, and a queue that is closed and empty
abbrev pub pop_refusal : AcquireError → PopError
pop_refusal Full = Pop.Full
pop_refusal Closed = Pop.Closed

-- a full queue of producers, and a queue that is closed
abbrev pub push_refusal : {T : Type 0} → AcquireError → T → PushError T
push_refusal Full item = Push.Full item
push_refusal Closed item = Push.Closed item

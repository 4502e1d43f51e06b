-- The item that was not taken.
use Rattle.saa_sync_queue.specs.declared.push_error.PushError.{PushError}
use Rattle.saa_sync_queue.specs.declared.push_error.PushError.TheVariants.{Closed, WouldWait, TooLate, Full}

-- the item that a refusal hands back
abbrev pub item_of : {T : Type 0} → PushError T → T
item_of (Closed item) = item
item_of (WouldWait item) = item
item_of (TooLate item) = item
item_of (Full item) = item

-- What holds of a barrier at every moment.
use Rattle.std.specs.Prelude.{◌+◌, ◌<◌, List, length}
use Rattle.saa_core_spec.specs.Held.{Held}
use Rattle.saa_core_spec.specs.Object.{Object, Waiter}
use Rattle.saa_core_spec.specs.Barrier.{size_of, arrived_of}
use Rattle.saa_core.specs.Tickets.{Core}

-- where the size is at least 1, fewer have arrived than that: the round isn't complete
abbrev pub IsBarrierOf : Held → List Waiter → Type 0
IsBarrierOf held line = 0 < size_of held → arrived_of held + length line < size_of held

-- the same of the object
abbrev pub BarrierInvariant : Object → Type 0
BarrierInvariant s = IsBarrierOf s.held s.line

-- and of a core
abbrev pub IsBarrierInvariant : Core → Type 0
IsBarrierInvariant core = IsBarrierOf core.held core.slots.line

-- What holds of a gate at every moment.
use Rattle.std.specs.Prelude.{◌≡◌, ◌⊎◌, List, []}
use Rattle.saa_core_spec.specs.declared.gate.State.TheVariants.{Controlled}
use Rattle.saa_core_spec.specs.Held.{Held, OfGate}
use Rattle.saa_core_spec.specs.Object.{Object, Waiter}
use Rattle.saa_core.specs.Tickets.{Core}

-- the gate is controlled, or nobody waits
abbrev pub IsGateOf : Held → List Waiter → Type 0
IsGateOf held line = (held ≡ OfGate Controlled) ⊎ (line ≡ [])

-- the same of the object
abbrev pub GateInvariant : Object → Type 0
GateInvariant s = IsGateOf s.held s.line

-- and of a core
abbrev pub IsGateInvariant : Core → Type 0
IsGateInvariant core = IsGateOf core.held core.slots.line

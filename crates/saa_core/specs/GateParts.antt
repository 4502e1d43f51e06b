-- What the private steps of a gate's core answer. No user must believe this: the public contracts speak of the object,
-- and the proofs show that these are its steps.
use Rattle.std.specs.Prelude.{ℕ, Option, Some, None}
use Rattle.saa_core_spec.specs.declared.gate.State.{State}
use Rattle.saa_core_spec.specs.declared.gate.State.TheVariants.{Controlled, Sealed, Open}
use Rattle.saa_core_spec.specs.Values.{opened_value, sealed_value}

-- the answer that everybody gets at once who enters a gate in this state
abbrev pub answer_by_state : State → Option ℕ
answer_by_state Controlled = None
answer_by_state Sealed = Some sealed_value
answer_by_state Open = Some opened_value

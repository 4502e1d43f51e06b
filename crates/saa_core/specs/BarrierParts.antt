-- What a complete round, and a change of its size, leave of a barrier's core, slot by slot. Of public clauses `last` of
-- `arrive` alone names one of these.
use Rattle.std.specs.Prelude.{ℕ, ◌+◌, length, min, if◌then◌else◌}
use Rattle.saa_core_spec.specs.Held.{OfBarrier, max_rounds}
use Rattle.saa_core_spec.specs.Values.{passed_value}
use Rattle.saa_core_spec.specs.Barrier.{is_complete}
use Rattle.saa_core.specs.Slots.{Slots, all_slots_answered}
use Rattle.saa_core.specs.Tickets.{Core}

-- the round of a barrier of this size is complete: all waiters pass, and the next begins
abbrev pub core_complete : Slots → (size round : ℕ) → Core
core_complete slots size round = record {
  held = OfBarrier size 0 (min (round + 1) max_rounds);
  slots = all_slots_answered passed_value slots;
}

-- a barrier of this size from now on, in whose round so many arrived that don't wait
abbrev pub core_resized : Slots → (size arrived round : ℕ) → Core
core_resized slots size arrived round =
    if is_complete size (arrived + length slots.line)
    then core_complete slots size round
    else record { held = OfBarrier size arrived round; slots = slots }

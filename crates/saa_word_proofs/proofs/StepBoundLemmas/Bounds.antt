-- What holds of every step bound, whatever stands in the words.
use Rattle.std.proofs.Common.{ℕ, suc, zero, ◌+◌, ◌*◌, ◌≤◌, arith}
use Rattle.saa_core_words.specs.Words.{line_word_of}
use Rattle.saa_word_steps.specs.declared.place.AfterWalk.{AfterWalk}
use Rattle.saa_word_steps.specs.declared.place.Stage.{Stage}
use Rattle.saa_word_proofs.specs.StepBound.{met, way, steps_left, step_bound}

-- no more places are met than there is fuel
met-bounded : (places : ℕ) (row : ℕ → ℕ) (fuel link : ℕ) → met places row fuel link ≤ fuel
met-bounded places row zero link = omega arith
met-bounded places row (suc more) link = grind (arith, met-bounded places row more (line_word_of (row link)).older)

-- where no way is longer than there are places, no step bound is more than this
left-bounded : (ways : ℕ → ℕ) (places number : ℕ) (back : AfterWalk) (stage : Stage) → ((link : ℕ) → ways link ≤ places)
    → steps_left ways number back stage ≤ 16 * places + 13
left-bounded ways places number back stage most = grind arith

pub step_bound-bounded : (places : ℕ) (row : ℕ → ℕ) (back : AfterWalk) (stage : Stage) → step_bound places row back stage ≤ 16 * places + 13
step_bound-bounded places row back stage = left-bounded (way places row) places (row 0) back stage (λ link. met-bounded places row places link)

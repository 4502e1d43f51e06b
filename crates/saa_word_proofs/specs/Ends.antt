-- That a call is done which moves alone. Internal: nobody has to believe this.
use Rattle.std.specs.Prelude.{ℕ, ◌≤◌}
use Rattle.saa_word_steps.specs.declared.call.Answer.{Answer}
use Rattle.saa_word_steps.specs.declared.call.WordCall.{WordCall}
use Rattle.saa_word_steps.specs.Needs.{Needs}
use Rattle.saa_word_proofs.specs.Alone.{Configuration, IsCalledAlone}

-- a call that starts at a moment, and moves alone, is done within so many steps
pub record Ends (needs : Needs) (places me : ℕ) (call : WordCall) (now : Configuration) (most : ℕ) : Type 0 where
  pub steps : ℕ
  pub answer : Answer
  pub last : Configuration
  pub called : IsCalledAlone needs places me call steps now answer last
  pub bounded : steps ≤ most

-- Runs from a state that is another's equal.
use Rattle.std.proofs.Common.{◌≡◌, ℕ, List, Option, Result, subst}
use Rattle.std.specs.declared.alloc.AllocError.{AllocError}
use Rattle.saa_core_spec.specs.Object.{Object, After}
use Rattle.saa_run_text.specs.declared.ended.Ended.{Ended}
use Rattle.saa_run_text.specs.Text.{on_bytes}
use Rattle.saa_run_text.specs.Outcome.{OpensWith, Runs}
use Rattle.saa_run.specs.ScriptText.{answer_from}

module _ {L : Type 0} (meaning : List ℕ → Option L) (does : L → Object → After (List ℕ)) where
  -- a run from a state that is another's equal
  pub runs-from : (ended : Ended) (s t : Object) (old new held holds : Option (List ℕ)) → s ≡ t → Runs ended (on_bytes (answer_from meaning does 2 s)) old new held holds → Runs ended (on_bytes (answer_from meaning does 2 t)) old new held holds
  runs-from ended s t old new held holds same runs = subst (λ u. Runs ended (on_bytes (answer_from meaning does 2 u)) old new held holds) same runs

  -- the same of what the lines behind the first do
  pub opens-from : (opened : Result Ended AllocError) (s t : Object) (old new held holds : Option (List ℕ)) → s ≡ t → OpensWith opened (answer_from meaning does 2 s) old new held holds → OpensWith opened (answer_from meaning does 2 t) old new held holds
  opens-from opened s t old new held holds same opens = subst (λ u. OpensWith opened (answer_from meaning does 2 u) old new held holds) same opens

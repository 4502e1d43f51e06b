-- A place that is done with the line: it is in no call, or takes its own answer.
use Rattle.std.proofs.Common.{◌≡◌, ℕ, false, List, [], arith}
use Rattle.saa_core_words.specs.declared.line_word.LineWord.{LineWord}
use Rattle.saa_word_steps.specs.declared.place.Place.{Place}
use Rattle.saa_word_steps.specs.declared.place.Registration.{Registration}
use Rattle.saa_word_steps.specs.declared.place.AfterWalk.{AfterWalk}
use Rattle.saa_word_steps.specs.declared.place.AfterWalk.TheVariants.{Takes}
use Rattle.saa_word_steps.specs.declared.place.PollMode.TheVariants.{Gives}
use Rattle.saa_word_steps.specs.declared.place.Stage.{Stage}
use Rattle.saa_word_steps.specs.declared.place.Stage.TheVariants.{Quiet, Take}
use Rattle.saa_word_steps.specs.Needs.{Needs}
use Rattle.saa_word_steps.specs.Steps.{IsRanged, finished}
use Rattle.saa_word_proofs.specs.Refinement.{joins_line, is_holder, takes_back, gives_up, IsReturning, IsLocallyTrue, IsOwn, IsShowing}
use Rattle.saa_word_proofs.specs.StepRefinement.{place_after}

-- where a place stands that is done with the line
abbrev pub end_stage : AfterWalk → Stage
end_stage (Takes request) = Take (Gives request)
end_stage _ = Quiet

pub ended : (place : Place) (back : AfterWalk) → place_after place (finished place back) ≡ record place { stage = end_stage back }
ended place back = grind arith

pub ended-ranged : (needs : Needs) (back : AfterWalk) → IsRanged needs (end_stage back)
ended-ranged needs back = grind arith

pub ended-alone : (needs : Needs) (registration : Registration) (back : AfterWalk) → IsReturning registration back → IsLocallyTrue needs registration back (end_stage back)
ended-alone needs registration back returning = grind (arith, returning)

-- it takes its own answer where it was to take that
pub ended-apart : (back : AfterWalk) → gives_up back (end_stage back) ≡ takes_back back
ended-apart back = grind arith

-- and doesn't join the line
pub ended-joins : (back : AfterWalk) → joins_line (end_stage back) ≡ false
ended-joins back = grind arith

pub ended-own : (word : LineWord) (back : AfterWalk) → IsOwn word (end_stage back)
ended-own word back = grind arith

pub ended-showing : (unshown : List (ℕ × ℕ)) (answer_value : ℕ) (back : AfterWalk) → unshown ≡ [] → IsShowing unshown answer_value (end_stage back)
ended-showing unshown answer_value back none = grind (arith, none)

pub ended-holder : (back : AfterWalk) → is_holder (end_stage back) ≡ false
ended-holder back = grind arith

-- who doesn't take its own answer once it is done is returning, whatever it is registered as
pub returning-any : (registration : Registration) (back : AfterWalk) → takes_back back ≡ false → IsReturning registration back
returning-any registration back none = grind (arith, none)

-- Every step of every place keeps that words and places refine the abstract state.
use Rattle.std.proofs.Common.{◌^◌, ◌≡◌, ℕ, ◌<◌, ◌≤◌, true, false, refl, sym, ap, ◌∙◌, arith}
use Rattle.std.proofs.lemmas.Bool.{cases_lt}
use Rattle.saa_core_words.specs.Words.{count_bits}
use Rattle.saa_word_steps.specs.declared.place.Place.{Place}
use Rattle.saa_word_steps.specs.declared.place.Registration.{Registration}
use Rattle.saa_word_steps.specs.declared.place.AfterWalk.{AfterWalk}
use Rattle.saa_word_steps.specs.declared.place.Stage.{Stage}
use Rattle.saa_word_steps.specs.declared.place.Stage.TheVariants.{Quiet, ReadLoad, AcquireLoad, AcquireExchange, Prepare, Join, ReleaseLoad, ReleaseExchange, BackLoad, BackStore, Forward, CutToClose, CutForRetry, Close, Empty, Retry, ShowLoad, ShowStore, Take, FlagLoad, FlagExchange, LookLoad, LookStore, Unlink, DropTail, PoisonLoad, PoisonExchange, Clear}
use Rattle.saa_word_steps.specs.Needs.{Needs, AreNeeds}
use Rattle.saa_word_steps.specs.AbstractState.{AbstractState}
use Rattle.saa_word_proofs.specs.Refinement.{uses_own, joins_line, IsVisiting, IsLocallyTrue, Invariant}
use Rattle.saa_word_proofs.specs.Registering.{is_slot}
use Rattle.saa_word_proofs.specs.StepRefinement.{StepRefines}
use Rattle.saa_word_proofs.proofs.RefinementLemmas.Lists.{updated-same}
use Rattle.saa_word_proofs.proofs.RefinementLemmas.Rows.{IsStep, IsOwnStep, at-stage, loaded}
use Rattle.saa_word_proofs.proofs.RefinementLemmas.Joining.{step-ReadLoad, step-AcquireLoad, step-AcquireExchange, step-Prepare, step-Join}
use Rattle.saa_word_proofs.proofs.RefinementLemmas.Walking.{step-BackLoad, step-BackStore, step-Forward, step-CutToClose, step-CutForRetry}
use Rattle.saa_word_proofs.proofs.RefinementLemmas.Closing.{step-Close, step-Empty, step-Retry}
use Rattle.saa_word_proofs.proofs.RefinementLemmas.Showing.{step-ShowLoad, take-slot, step-ShowStore, step-Take}
use Rattle.saa_word_proofs.proofs.RefinementLemmas.Flagging.{step-FlagLoad, step-FlagExchange, step-LookLoad, step-LookStore, step-ReleaseLoad, step-ReleaseExchange}
use Rattle.saa_word_proofs.proofs.RefinementLemmas.Leaving.{step-Unlink, step-DropTail}
use Rattle.saa_word_proofs.proofs.RefinementLemmas.Poisoning.{step-PoisonLoad, step-PoisonExchange, step-Clear}
use Rattle.saa_word_proofs.proofs.RefinementLemmas.Outcomes.{silent}

-- a place that is in no call stays as it is
step-Quiet : IsStep Quiet
step-Quiet needs lawful wide places row standing state me room s at =
    silent refl (omega arith) (rw (updated-same standing me (standing me) refl) (loaded needs places row standing state 0 s))

-- what a place that uses a word of its own remembers says that it is registered in the line
own-slot : (needs : Needs) (registration : Registration) (back : AfterWalk) (stage : Stage) → uses_own stage ≡ true → joins_line stage ≡ false
    → IsLocallyTrue needs registration back stage → is_slot registration ≡ true
own-slot needs registration back (Take taking) uses never alone = take-slot needs registration back taking alone
own-slot needs registration back stage uses never alone = grind (arith, uses, never, alone)

-- a place that uses a word of its own is no visitor
own-here : (needs : Needs) (places : ℕ) (row : ℕ → ℕ) (standing : ℕ → Place) (state : AbstractState) (me : ℕ) (s : Invariant needs places row standing state)
    (stage : Stage) → (standing me).stage ≡ stage → uses_own stage ≡ true → me < places
own-here needs places row standing state me s stage at uses =
    let known = at-stage needs places row standing state me s stage at in
    let slot = own-slot needs (standing me).registration (standing me).back stage uses in
    let within : places ≤ me → me < places = λ beyond. s.seats.within me (slot (ap joins_line (sym at) ∙ s.seats.beyond me beyond) known.alone) in
    grind (arith, cases_lt me places, within)

-- a number beyond the places is a visitor's
pub visiting : (needs : Needs) (places : ℕ) (row : ℕ → ℕ) (standing : ℕ → Place) (state : AbstractState) (me : ℕ) (s : Invariant needs places row standing state)
    → places ≤ me → IsVisiting (standing me).stage
visiting needs places row standing state me s beyond =
    let here : uses_own (standing me).stage ≡ true → me < places = own-here needs places row standing state me s (standing me).stage refl in
    (s.seats.beyond me beyond, grind (arith, beyond, here))

-- the step of a place that uses a word of its own
by-place : (stage : Stage) → uses_own stage ≡ true → IsOwnStep stage → IsStep stage
by-place stage uses step needs lawful wide places row standing state me room s at =
    step needs lawful wide places row standing state me room (own-here needs places row standing state me s stage at uses) s at

-- its step at each stage
step-at : (stage : Stage) → IsStep stage
step-at Quiet = step-Quiet
step-at (ReadLoad reading) = step-ReadLoad reading
step-at (AcquireLoad ask) = step-AcquireLoad ask
step-at (AcquireExchange ask seen) = step-AcquireExchange ask seen
step-at (Prepare request seen) = by-place _ refl (step-Prepare request seen)
step-at (Join request seen) = by-place _ refl (step-Join request seen)
step-at (ReleaseLoad given) = step-ReleaseLoad given
step-at (ReleaseExchange given seen) = step-ReleaseExchange given seen
step-at (BackLoad seen current newer) = step-BackLoad seen current newer
step-at (BackStore seen current newer line) = step-BackStore seen current newer line
step-at (Forward seen current count) = step-Forward seen current count
step-at (CutToClose seen current count line) = step-CutToClose seen current count line
step-at (CutForRetry seen current count line) = step-CutForRetry seen current count line
step-at (Close seen count top) = step-Close seen count top
step-at (Empty seen current count line) = step-Empty seen current count line
step-at (Retry seen count top) = step-Retry seen count top
step-at (ShowLoad current value afterwards) = step-ShowLoad current value afterwards
step-at (ShowStore current next value afterwards) = step-ShowStore current next value afterwards
step-at (Take taking) = by-place _ refl (step-Take taking)
step-at FlagLoad = by-place _ refl step-FlagLoad
step-at (FlagExchange seen) = by-place _ refl (step-FlagExchange seen)
step-at (LookLoad seen current newer previous) = by-place _ refl (step-LookLoad seen current newer previous)
step-at (LookStore seen current newer line) = by-place _ refl (step-LookStore seen current newer line)
step-at (Unlink seen newer line older) = by-place _ refl (step-Unlink seen newer line older)
step-at (DropTail seen older) = by-place _ refl (step-DropTail seen older)
step-at PoisonLoad = step-PoisonLoad
step-at (PoisonExchange seen) = step-PoisonExchange seen
step-at Clear = step-Clear

-- The step of a place or of a visitor, whatever its stage
pub step-anyone : (needs : Needs) → AreNeeds needs → needs.top < 2 ^ count_bits → (places : ℕ) (row : ℕ → ℕ) (standing : ℕ → Place) (state : AbstractState) (me : ℕ)
    → places < 65536 → Invariant needs places row standing state
    → (stage : Stage) → (standing me).stage ≡ stage → StepRefines needs places row standing state me stage
step-anyone needs lawful wide places row standing state me room s stage at = step-at stage needs lawful wide places row standing state me room s at

-- The same at a place
pub step : (needs : Needs) → AreNeeds needs → needs.top < 2 ^ count_bits → (places : ℕ) (row : ℕ → ℕ) (standing : ℕ → Place) (state : AbstractState) (me : ℕ)
    → places < 65536 → me < places → Invariant needs places row standing state
    → (stage : Stage) → (standing me).stage ≡ stage → StepRefines needs places row standing state me stage
step needs lawful wide places row standing state me room here s stage at = step-at stage needs lawful wide places row standing state me room s at
